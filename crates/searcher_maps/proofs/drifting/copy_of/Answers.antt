use Rattle.std.proofs.Common.{◌∙◌, sym, ap, subst}
use Rattle.drift_chain.specs.DriftRows.{DriftRows, drift_cells, row_of, IsDrift}
use Rattle.searcher_maps.proofs.DriftCopies.{as_many, IsDrift-first, IsDrift-copied, no_fault, assembled, same_rows}
use Rattle.searcher_maps.proofs.drifting.copy_of.Goals as goal

pub of_right-base-requires : goal.of_right-base-requires
of_right-base-requires c =
    let drift = c.args.drift.now in
    rw (c.denominator.ensures.value, c.in_ok-first_rows.ensures) (IsDrift-first drift c.denominator.ensures.sound)

pub with_right_rows-requires-clause-faultless : goal.with_right_rows-requires-clause-faultless
with_right_rows-requires-clause-faultless c =
    let drift = c.args.drift.now in
    let h = c.denominator.ensures.sound in
    let made = assembled drift h c.args.end c.requires _ _ _ _ c.of_right-base.ensures c.denominator.ensures.value c.in_ok-first_rows.ensures c.in_ok-changes.ensures in
    no_fault c.of_right-base.result _ (subst IsDrift (sym made) (IsDrift-copied drift h c.args.end c.requires))

pub returns-clause-cells : goal.returns-clause-cells
returns-clause-cells c =
    let drift = c.args.drift.now in
    let h = c.denominator.ensures.sound in
    let made = assembled drift h c.args.end c.requires _ _ _ _ c.of_right-base.ensures c.denominator.ensures.value c.in_ok-first_rows.ensures c.in_ok-changes.ensures in
    let is = c.in_ok-with_right_rows.ensures.kept (subst IsDrift (sym made) (IsDrift-copied drift h c.args.end c.requires)) in
    ap drift_cells (is ∙ made) ∙ as_many drift h

pub returns-clause-rows : goal.returns-clause-rows
returns-clause-rows c =
    let drift = c.args.drift.now in
    let h = c.denominator.ensures.sound in
    let made = assembled drift h c.args.end c.requires _ _ _ _ c.of_right-base.ensures c.denominator.ensures.value c.in_ok-first_rows.ensures c.in_ok-changes.ensures in
    let is = c.in_ok-with_right_rows.ensures.kept (subst IsDrift (sym made) (IsDrift-copied drift h c.args.end c.requires)) in
    λ t d some before inside. ap (λ (m : DriftRows). row_of m t d) (is ∙ made) ∙ same_rows drift h c.args.end c.requires t d some before inside
