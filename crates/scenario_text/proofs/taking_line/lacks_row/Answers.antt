use Rattle.std.proofs.Common.{List, rules, Vec, Global}
use Rattle.list_laws.proofs.Mapped.{list_any-map}
use Rattle.period_rows.specs.declared.part.CellPart.{CellPart}
use Rattle.scenario_text.proofs.Columns.{none_kept}
use Rattle.scenario_text.proofs.taking_line.lacks_row.Goals as goal

pub returns-then-any_none : goal.returns-then-any_none
returns-then-any_none c = simp list_any-map (search rules)

pub returns-else-any_none : goal.returns-else-any_none
returns-else-any_none c =
    let rows : Vec CellPart Global → List CellPart = λ row. row.items in
    let looks = none_kept rows c.args.draft.now.looks.items in
    rw looks (simp list_any-map (search rules))
