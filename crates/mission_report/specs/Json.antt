-- The report of a path as JSON. Each number is the text of its decimal, since it may be wider than a reader's numbers are.
use Rattle.std.specs.Prelude.{ℕ, List, [], ◌∷◌, ◌++◌, map, codes}
use Rattle.std.specs.Fmt.{decimal}
use Rattle.serde_json.specs.Data.{Data, string, array, object, member, no_members}
use Rattle.serde_json.specs.View.{items_of}
use Rattle.serde_json.specs.Written.{compact_text}
use Rattle.search_model.specs.Problem.{Problem, cell_name, position_name}
use Rattle.search_model.specs.Tracks.{whole_weight, value_of}
use Rattle.mission_report.specs.Account.{all_cells, mass_left, values_along}

-- a number, as the text of its decimal
abbrev pub decimal_value : ℕ → Data
decimal_value n = string (decimal n)

-- the name of a position
abbrev pub place_value : Problem → ℕ → Data
place_value p a = string (position_name p a)

-- a cell and the mass that is left there
abbrev pub left_entry : Problem → ℕ → ℕ → Data
left_entry p c mass = object (member (codes "cell") (string (cell_name p c)) (member (codes "mass") (decimal_value mass) no_members))

-- an array of some values
abbrev pub array_of : List Data → Data
array_of values = array (items_of values)

-- the object of a report, with its keys in the order of their bytes
abbrev pub object_of : Data → List Data → List Data → List Data → Data → Data
object_of chance left path periods weight =
    object (member (codes "chance") chance
    (member (codes "left") (array_of left)
    (member (codes "path") (array_of path)
    (member (codes "periods") (array_of periods)
    (member (codes "weight") weight no_members)))))

-- a path's value, what it leaves in each cell, its positions, its value up to each period, and the whole weight
abbrev pub report_value : Problem → List ℕ → Data
report_value p q =
    object_of (decimal_value (value_of p q))
    (map (λ c. left_entry p c (mass_left p q c)) (all_cells p))
    (map (place_value p) q)
    (map decimal_value (values_along p q))
    (decimal_value (whole_weight p))

-- its compact text, and a line feed
unfoldable pub report_json : Problem → List ℕ → List ℕ
report_json p q = compact_text (report_value p q) ++ 10 ∷ []
