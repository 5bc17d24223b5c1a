-- The map of a prefix that was flown: where the target may be in each of its periods.
use Rattle.std.specs.Prelude.{ℕ, ◌-◌, List, [], ◌∷◌, ◌++◌, length, slice_index, codes}
use Rattle.std.specs.List.{flat_map, range_with_len}
use Rattle.std.specs.Fmt.{decimal}
use Rattle.text_rows.specs.Rows.{text_of}
use Rattle.search_model.specs.Problem.{Problem, position_name}
use Rattle.mission_report.specs.Report.{mass_rows}

-- `period t NAME`: the searcher looks from a position in period t
abbrev pub looked_row : Problem → ℕ → ℕ → List (List ℕ)
looked_row p t a = codes "period" ∷ decimal t ∷ position_name p a ∷ []

-- of a period of a prefix: the position looked from, and for each cell the mass that the looks up to then leave
abbrev pub period_block : Problem → List ℕ → ℕ → List (List (List ℕ))
period_block p q t = looked_row p t (slice_index q (t - 1)) ∷ mass_rows p q t

-- the same for each period of the prefix
abbrev pub period_blocks : Problem → List ℕ → List (List (List ℕ))
period_blocks p q = flat_map (period_block p q) (range_with_len 1 (length q))

-- the version, the periods, and `end`
abbrev pub map_rows : Problem → List ℕ → List (List (List ℕ))
map_rows p q = (codes "map" ∷ codes "1" ∷ []) ∷ (period_blocks p q ++ (codes "end" ∷ []) ∷ [])

-- each line its fields with one blank between, and a line feed
unfoldable pub map_text : Problem → List ℕ → List ℕ
map_text p q = text_of (map_rows p q)
