-- The reports of small problems.
use Rattle.std.specs.Prelude.{◌≡◌, [], ◌∷◌, ◌++◌, codes}
use Rattle.search_model.specs.Worked.{two_cells, waiting_longer}
use Rattle.mission_report.specs.Account.{values_along, masses_left}
use Rattle.mission_report.specs.Report.{report_text}
use Rattle.mission_report.specs.Json.{report_json}
use Rattle.mission_report.specs.Map.{map_text}

-- two looks at the first of two cells find 12 of 16, and what is left stands in the other one
pub record WorkedReport : Type 0 where
  pub values : values_along two_cells (0 ∷ 0 ∷ []) ≡ 8 ∷ 12 ∷ []
  pub left : masses_left two_cells (0 ∷ 0 ∷ []) ≡ 0 ∷ 4 ∷ []
  pub text : report_text two_cells (0 ∷ 0 ∷ [])
      ≡ codes "report 1\n"
      ++ (codes "chance 12 16 75.000\n"
      ++ (codes "period 1 a 8 50.000\n"
      ++ (codes "period 2 a 12 75.000\n"
      ++ (codes "left a 0 0.000\n"
      ++ (codes "left b 4 25.000\n"
      ++ codes "end\n")))))
  pub json : report_json two_cells (0 ∷ 0 ∷ [])
      ≡ codes "{\"chance\":\"12\",\"left\":[{\"cell\":\"a\",\"mass\":\"0\"},{\"cell\":\"b\",\"mass\":\"4\"}],\"path\":[\"a\",\"a\"],\"periods\":[\"8\",\"12\"],\"weight\":\"16\"}\n"

-- three looks at the last cell, where the target waits, each find half of what is left
pub record WorkedWaiting : Type 0 where
  pub values : values_along waiting_longer (2 ∷ 2 ∷ 2 ∷ []) ≡ 4 ∷ 6 ∷ 7 ∷ []
  pub left : masses_left waiting_longer (2 ∷ 2 ∷ 2 ∷ []) ≡ 0 ∷ 0 ∷ 1 ∷ []

-- a look at the first of two cells leaves the target in the other one; half of it drifts back, and a look at the other one
-- leaves that half
pub record WorkedMap : Type 0 where
  pub one : map_text two_cells (0 ∷ [])
      ≡ codes "map 1\n"
      ++ (codes "period 1 a\n"
      ++ (codes "left a 0 0.000\n"
      ++ (codes "left b 8 50.000\n"
      ++ codes "end\n")))
  pub two : map_text two_cells (0 ∷ 1 ∷ [])
      ≡ codes "map 1\n"
      ++ (codes "period 1 a\n"
      ++ (codes "left a 0 0.000\n"
      ++ (codes "left b 8 50.000\n"
      ++ (codes "period 2 b\n"
      ++ (codes "left a 4 25.000\n"
      ++ (codes "left b 0 0.000\n"
      ++ codes "end\n"))))))
