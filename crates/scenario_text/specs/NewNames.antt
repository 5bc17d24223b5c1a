-- What is wrong with a name that a line adds, as the tables of `cell` and `position` have it.
use Rattle.std.specs.Prelude.{ℕ, ◌||◌, nat_lt, nat_le, if◌then◌else◌, List, length, Option, Some, None, is_some}
use Rattle.std.specs.List.{list_all}
use Rattle.search_model.specs.Names.{is_name_byte}
use Rattle.scenario_text.specs.declared.kind.TextKind.{TextKind}
use Rattle.scenario_text.specs.declared.kind.TextKind.TheVariants.{BadLine, OverLimit, DoubleName}
use Rattle.scenario_text.specs.Fields.{cell_named}

-- the fault of a name that is to be added to others
unfoldable pub name_fault : List (List ℕ) → List ℕ → Option TextKind
name_fault names name =
    if list_all is_name_byte name
    then (if nat_lt 24 (length name) || nat_le 200 (length names) then Some OverLimit
    else (if is_some (cell_named names name) then Some DoubleName else None))
    else Some BadLine
