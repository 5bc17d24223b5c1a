use Rattle.std.proofs.Common.{◌++◌, List, ap, ◌∙◌, arith}
use Rattle.period_rows.specs.declared.part.CellPart.{CellPart}
use Rattle.sweep_table.specs.LookParts.{positions_of, look_row}
use Rattle.residual_plan.specs.Rows.{forced_look}
use Rattle.residual_plan.proofs.Places.{source_within}
use Rattle.residual_plan.proofs.forcing.look.Goals as goal

pub look-requires-clause-position : goal.look-requires-clause-position
look-requires-clause-position c =
    let sound = c.sweep.ensures.sound in
    omega (arith, source_within c.args.sc.now c.args.flown.now sound c.requires.legal c.args.a, c.source.ensures, ap positions_of c.sweep.ensures.value, sound.sweep_positions)

pub returns : goal.returns
unfolding forced_look
returns c =
    let p = c.args.sc.now in
    let row = c.parts.ensures ∙ c.look.ensures.value ∙ ap (λ s. look_row s c.args.t c.source.result) c.sweep.ensures.value ∙ ap (look_row p.sweep c.args.t) c.source.ensures in
    c.in_ok-extend_from_slice.ensures.items ∙ ap (λ (xs : List CellPart). xs ++ c.parts.result.now) c.new-row.ensures.items ∙ row
