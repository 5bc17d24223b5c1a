use Rattle.std.proofs.Common.{◌∙◌, [], ap, unwrap_or}
use Rattle.sweep_table.proofs.Views.{prints-row}
use Rattle.sweep_table.proofs.footprints.row_in_force.Goals as goal

pub returns-in-Some : goal.returns-in-Some
returns-in-Some c = λ g.
    c.row_or.ensures
    ∙ prints-row g c.args.prints.now c.args.t c.args.p c.index.result.now c.requires c.index.ensures c.deref-base.result.now c.deref-base.ensures.value c.in-Some.changes (ap (λ o. unwrap_or o []) c.in-Some.is)

pub returns-in-None : goal.returns-in-None
returns-in-None c = λ g.
    prints-row g c.args.prints.now c.args.t c.args.p c.index.result.now c.requires c.index.ensures c.deref-base.result.now c.deref-base.ensures.value [] (ap (λ o. unwrap_or o []) c.in-None.is)
