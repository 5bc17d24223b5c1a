-- The report of a path: its lines, each as its fields.
use Rattle.std.specs.Prelude.{ℕ, ◌-◌, List, [], ◌∷◌, ◌++◌, map, slice_index, codes}
use Rattle.std.specs.Fmt.{decimal}
use Rattle.exact_parts.specs.Percent.{percent_text}
use Rattle.text_rows.specs.Rows.{text_of}
use Rattle.search_model.specs.Problem.{Problem, cell_name, position_name}
use Rattle.search_model.specs.Tracks.{whole_weight, value_of}
use Rattle.mission_report.specs.Account.{all_periods, all_cells, value_up_to, mass_in}

-- the share of the whole weight that a weight is: in percent, cut off after three digits
abbrev pub share_of : Problem → ℕ → List ℕ
share_of p n = percent_text n (whole_weight p)

-- `chance V W P(V)`
abbrev pub chance_row : Problem → ℕ → List (List ℕ)
chance_row p value = codes "chance" ∷ decimal value ∷ decimal (whole_weight p) ∷ share_of p value ∷ []

-- `period t NAME V P(V)`: the searcher looks from a position in period t, and so much is found up to then
abbrev pub period_row : Problem → ℕ → ℕ → ℕ → List (List ℕ)
period_row p t a value = codes "period" ∷ decimal t ∷ position_name p a ∷ decimal value ∷ share_of p value ∷ []

-- `left NAME MASS P(MASS)`
abbrev pub left_row : Problem → ℕ → ℕ → List (List ℕ)
left_row p c mass = codes "left" ∷ cell_name p c ∷ decimal mass ∷ share_of p mass ∷ []

-- of a path: its position in period t, and its value up to then
abbrev pub period_of : Problem → List ℕ → ℕ → List (List ℕ)
period_of p q t = period_row p t (slice_index q (t - 1)) (value_up_to p q t)

-- a line for each period of a path
abbrev pub period_rows : Problem → List ℕ → List (List (List ℕ))
period_rows p q = map (period_of p q) (all_periods p)

-- a line for each cell: its mass in period t
abbrev pub mass_rows : Problem → List ℕ → ℕ → List (List (List ℕ))
mass_rows p q t = map (λ c. left_row p c (mass_in p q t c)) (all_cells p)

-- a line for each cell: the mass that the path leaves there
abbrev pub left_rows : Problem → List ℕ → List (List (List ℕ))
left_rows p q = mass_rows p q p.horizon

-- the version, the chance, the periods, the cells, and `end`
abbrev pub report_rows : Problem → List ℕ → List (List (List ℕ))
report_rows p q =
    (codes "report" ∷ codes "1" ∷ [])
    ∷ chance_row p (value_of p q)
    ∷ (period_rows p q ++ (left_rows p q ++ (codes "end" ∷ []) ∷ []))

-- each line its fields with one blank between, and a line feed
unfoldable pub report_text : Problem → List ℕ → List ℕ
report_text p q = text_of (report_rows p q)
