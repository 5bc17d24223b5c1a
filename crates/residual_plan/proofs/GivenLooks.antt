-- The rows of looks of the scenario that forces a prefix.
use Rattle.std.proofs.Common.{ℕ, ◌-◌, ◌<◌, ◌≤◌, ◌≡◌, List, [], length, get_or, sym, ap, ◌∙◌, subst, arith, All}
use Rattle.std.specs.List.{range_with_len}
use Rattle.std.proofs.lemmas.List.Elements.{All-map}
use Rattle.std.proofs.lemmas.List.FromFn.{length-map-range_with_len, get_or-map-range_with_len}
use Rattle.list_laws.proofs.Ranges.{All-range}
use Rattle.period_rows.specs.declared.part.CellPart.{CellPart}
use Rattle.sweep_table.specs.LookParts.{IsLookRow}
use Rattle.search_model.specs.Problem.{Problem, IsProblem}
use Rattle.searcher_maps.specs.Periods.{positions_given, row_given, AreLookRows}
use Rattle.residual_plan.specs.Forced.{source_of, forced_count}
use Rattle.residual_plan.specs.Rows.{forced_look, forced_looks_in, forced_looks}

module _ (p : Problem) (flown : List ℕ) where
  pub count_periods : length (forced_looks p flown) ≡ p.horizon
  unfolding forced_looks
  count_periods = length-map-range_with_len (forced_looks_in p flown) 1 p.horizon

  period_at : (t : ℕ) → 1 ≤ t → t ≤ p.horizon → get_or (forced_looks p flown) (t - 1) [] ≡ forced_looks_in p flown t
  unfolding forced_looks
  period_at t from to = get_or-map-range_with_len (forced_looks_in p flown) 1 p.horizon (t - 1) t [] (omega (arith, from, to)) (omega (arith, from))

  count_rows : (t : ℕ) → length (forced_looks_in p flown t) ≡ forced_count p flown
  unfolding forced_looks_in
  count_rows t = length-map-range_with_len (forced_look p flown t) 0 (forced_count p flown)

  pub count_given : 1 ≤ p.horizon → positions_given (forced_looks p flown) ≡ forced_count p flown
  count_given some = ap length (period_at 1 (omega arith) some) ∙ count_rows 1

  pub row_is_given : (t a : ℕ) → 1 ≤ t → t ≤ p.horizon → a < forced_count p flown → row_given (forced_looks p flown) t a ≡ forced_look p flown t a
  unfolding forced_looks_in
  row_is_given t a from to within =
      ap (λ (rows : List (List CellPart)). get_or rows a []) (period_at t from to) ∙ get_or-map-range_with_len (forced_look p flown t) 0 (forced_count p flown) a a [] within (omega arith)

  rows_right : IsProblem p → (t : ℕ) → All (IsLookRow p.sweep.denominator p.cells) (forced_looks_in p flown t)
  unfolding forced_looks_in forced_look
  rows_right sound t = All-map (IsLookRow p.sweep.denominator p.cells) (forced_look p flown t) (range_with_len 0 (forced_count p flown)) (All-range _ 0 (forced_count p flown) (λ a from to.
      subst (λ n. IsLookRow p.sweep.denominator n (forced_look p flown t a)) sound.sweep_cells (sound.sweep.each t (source_of p flown a))))

  pub are_look_rows : IsProblem p → forced_count p flown ≤ 200 → AreLookRows p.sweep.denominator p.cells (forced_looks p flown)
  unfolding forced_looks
  are_look_rows sound room =
      let some = sound.horizon.0 in
      let given = count_given some in
      record {
        periods = (omega (arith, count_periods, some), omega (arith, count_periods, sound.horizon.1));
        positions = (omega (arith, given), omega (arith, given, room));
        same = All-map (λ rows. length rows ≡ positions_given (forced_looks p flown)) (forced_looks_in p flown) (range_with_len 1 p.horizon) (All-range _ 1 p.horizon (λ t from to. count_rows t ∙ sym given));
        right = All-map (All (IsLookRow p.sweep.denominator p.cells)) (forced_looks_in p flown) (range_with_len 1 p.horizon) (All-range _ 1 p.horizon (λ t from to. rows_right sound t));
      }
