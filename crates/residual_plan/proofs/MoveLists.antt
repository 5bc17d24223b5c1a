-- The moves of the scenario that forces a prefix, as one list.
use Rattle.std.proofs.Common.{ℕ, ◌+◌, ◌-◌, ◌<◌, ◌≤◌, ◌≡◌, List, [], ◌∷◌, ◌++◌, length, map, get_or, inl, inr, sym, ap, ◌∙◌, arith, length-append}
use Rattle.std.specs.List.{range_with_len}
use Rattle.std.proofs.lemmas.Bool.{cases_lt}
use Rattle.std.proofs.lemmas.List.{ext_get_or, get_or_append_left, get_or-append_right}
use Rattle.std.proofs.lemmas.List.FromFn.{length-map-range_with_len, get_or-map-range_with_len}
use Rattle.search_grid.specs.Moves.{moves_from}
use Rattle.search_model.specs.Problem.{Problem, IsProblem}
use Rattle.search_model.specs.Legal.{moves_after}
use Rattle.residual_plan.specs.Forced.{forced_count, forced_moves}
use Rattle.residual_plan.specs.Laws.{ForcedMovesAre}
use Rattle.residual_plan.proofs.MoveCases.{count_moves, rows_own, rows_flown, rows_end}

module _ (p : Problem) (flown : List ℕ) (sound : IsProblem p) where
  abbrev midst : List (List ℕ)
  midst = map (λ b. b ∷ []) (range_with_len (p.positions + 1) (length flown))

  count_midst : length midst ≡ length flown
  count_midst = length-map-range_with_len (λ (b : ℕ). b ∷ []) (p.positions + 1) (length flown)

  abbrev behind : List (List ℕ)
  behind = midst ++ moves_after p flown ∷ []

  past : (i : ℕ) → p.positions ≤ i → get_or (p.moves ++ behind) i [] ≡ get_or behind (i - p.positions) []
  past i le = get_or-append_right p.moves behind p.positions i [] sound.grid_positions le

  at_place : (i : ℕ) → i < length (forced_moves p flown) → get_or (forced_moves p flown) i [] ≡ get_or (p.moves ++ behind) i []
  unfolding moves_from
  at_place i inside =
      let k : ℕ = length flown in
      let within : i < forced_count p flown = omega (arith, inside, count_moves p flown) in
      elim (cases_lt i p.positions) [
        | inl own ↦ rows_own p flown i own ∙ sym (get_or_append_left p.moves behind [] i (omega (arith, own, sound.grid_positions)))
        | inr le ↦ elim (cases_lt i (p.positions + k)) [
          | inl before ↦
              let here : get_or midst (i - p.positions) [] ≡ (i + 1) ∷ [] =
              get_or-map-range_with_len (λ (b : ℕ). b ∷ []) (p.positions + 1) k (i - p.positions) (i + 1) [] (omega (arith, le, before)) (omega (arith, le)) in
              rows_flown p flown i le before ∙ sym (past i le ∙ get_or_append_left midst (moves_after p flown ∷ []) [] (i - p.positions) (omega (arith, le, before, count_midst)) ∙ here)
          | inr end ↦
              let last : i ≡ p.positions + k = omega (arith, end, within) in
              let none : i - p.positions - k ≡ 0 = omega (arith, last) in
              ap (λ n. get_or (forced_moves p flown) n []) last ∙ rows_end p flown
              ∙ sym (past i le ∙ get_or-append_right midst (moves_after p flown ∷ []) k (i - p.positions) [] count_midst (omega (arith, le, end)) ∙ ap (λ n. get_or (moves_after p flown ∷ []) n []) none)
        ]
      ]

  are : forced_moves p flown ≡ p.moves ++ behind
  are =
      let front = length-append p.moves behind in
      let back = length-append midst (moves_after p flown ∷ []) in
      ext_get_or [] (forced_moves p flown) (p.moves ++ behind) (omega (arith, count_moves p flown, front, back, count_midst, sound.grid_positions)) at_place

pub moves_are : ForcedMovesAre
moves_are p flown sound = are p flown sound
