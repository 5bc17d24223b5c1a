use Rattle.std.proofs.Common.{◌≡◌, ◌<◌, sym, subst, All, rules}
use Rattle.sweep_table.specs.LookParts.{look_row}
use Rattle.scenario_text.proofs.Printed.{covered_cells, covered_fields}
use Rattle.scenario_text.proofs.line_rows.push_look.Goals as goal

pub push_covered-requires : goal.push_covered-requires
push_covered-requires c =
    let p = c.args.sc.now in
    let row : c.parts.result.now ≡ look_row p.sweep c.args.t c.args.q = search rules in
    subst (All (λ entry. entry.cell < p.cells)) (sym row) (covered_cells p c.requires.problem c.args.t c.args.q)

pub returns-clause-ok : goal.returns-clause-ok
returns-clause-ok c =
    let p = c.args.sc.now in
    let row : c.parts.result.now ≡ look_row p.sweep c.args.t c.args.q = search rules in
    rw (← covered_fields p c.args.t c.args.q, ← row) c.push_covered.ensures.ok
