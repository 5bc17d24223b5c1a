-- The summary of a drill.
use Rattle.std.specs.Prelude.{ℕ, List, [], ◌∷◌, map, codes}
use Rattle.std.specs.Fmt.{decimal}
use Rattle.text_rows.specs.Rows.{text_of}
use Rattle.search_model.specs.Problem.{Problem, position_name}
use Rattle.search_model.specs.Tracks.{value_of}
use Rattle.mission_report.specs.Report.{chance_row}

-- `drill 1`, `number N`, `path NAME ..`, `chance V W P(V)`, `accepted`: the number, and the path of its scenario
abbrev pub drill_rows : ℕ → Problem → List ℕ → List (List (List ℕ))
drill_rows number p path =
    (codes "drill" ∷ codes "1" ∷ [])
    ∷ (codes "number" ∷ decimal number ∷ [])
    ∷ (codes "path" ∷ map (position_name p) path)
    ∷ chance_row p (value_of p path)
    ∷ (codes "accepted" ∷ [])
    ∷ []

unfoldable pub drill_text : ℕ → Problem → List ℕ → List ℕ
drill_text number p path = text_of (drill_rows number p path)
