use Rattle.std.proofs.Common.{sym, ap, ◌∙◌}
use Rattle.drift_chain.specs.DriftRows.{DriftRows, row_of}
use Rattle.period_rows.proofs.SameRows.{same_entries}
use Rattle.belief_update.proofs.flows.is_same_step.Goals as goal

pub returns : goal.returns
returns c told =
    let here = c.row.ensures.value ∙ ap (λ (d : DriftRows). row_of d c.args.t c.args.c) c.drift.ensures.value in
    let first = c.row-2.ensures.value ∙ ap (λ (d : DriftRows). row_of d 1 c.args.c) c.drift-2.ensures.value in
    sym here ∙ same_entries c.row.result.now c.row-2.result.now (sym c.eq.ensures ∙ told) ∙ first
