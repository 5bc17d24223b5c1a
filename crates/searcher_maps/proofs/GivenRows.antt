-- Rows of looks as they are given, and as the code has them.
use Rattle.std.proofs.Common.{◌≡◌, ℕ, ◌<◌, List, [], length, get_or, map, sym, ap, ◌∙◌, arith, All, Vec, Global}
use Rattle.std.specs.Prelude.{slice_index_or}
use Rattle.std.proofs.lemmas.List.{length-map, get_or-map}
use Rattle.period_rows.specs.declared.part.CellPart.{CellPart}
use Rattle.searcher_maps.specs.Periods.{rows_by_period, positions_given}

-- the rows of one period
abbrev pub rows_in : Vec (Vec CellPart Global) Global → List (List CellPart)
rows_in period = map (λ row. row.items) period.items

module _ (periods : List (Vec (Vec CellPart Global) Global)) (k : ℕ) (period : Vec (Vec CellPart Global) Global) (inside : k < length periods) (is : period ≡ get_or periods k period) where
  pub period_at : slice_index_or (rows_by_period periods) k [] ≡ rows_in period
  period_at = get_or-map rows_in periods k period [] inside ∙ ap rows_in (sym is)

  -- has a row from each position
  pub all_positions : All (λ rows. length rows ≡ positions_given (rows_by_period periods)) (rows_by_period periods) → length period.items ≡ positions_given (rows_by_period periods)
  all_positions same =
      let long : length (slice_index_or (rows_by_period periods) k []) ≡ positions_given (rows_by_period periods) = same k [] (omega (arith, inside, length-map periods rows_in)) in
      omega (arith, long, ap length period_at, length-map period.items (λ (row : Vec CellPart Global). row.items))
