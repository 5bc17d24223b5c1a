use Rattle.std.proofs.Common.{◌≤◌, ◌∙◌, sym, ap, arith}
use Rattle.sweep_table.specs.LookParts.{LookParts, cells_of}
use Rattle.scenario_text.proofs.Printed.{factor_of-beyond}
use Rattle.scenario_text.proofs.line_rows.own_part.Goals as goal

pub returns-else-q-cells : goal.returns-else-q-cells
returns-else-q-cells c =
    let sound = c.cells.ensures.sound in
    let past : cells_of c.args.sc.now.sweep ≤ c.args.q = omega (arith, c.if-q-cells.false, c.cells.ensures.value, sound.sweep_cells) in
    c.denominator.ensures.value ∙ ap (λ (s : LookParts). s.denominator) c.sweep-else-q-cells.ensures.value ∙ sym (factor_of-beyond c.args.sc.now.sweep sound.sweep 1 c.args.q c.args.q past)
