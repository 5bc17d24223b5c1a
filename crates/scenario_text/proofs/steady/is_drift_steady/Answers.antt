use Rattle.std.proofs.Common.{◌≡◌, ◌-◌, false, sym, arith, rules}
use Rattle.drift_chain.specs.DriftRows.{row_of}
use Rattle.scenario_text.specs.Canonical.{is_as_first}
use Rattle.scenario_text.proofs.SameRows.{all_from, all_but_one}
use Rattle.scenario_text.proofs.steady.is_drift_steady.Goals as goal

pub returns-then-not-drifts_as_first : goal.returns-then-not-drifts_as_first
returns-then-not-drifts_as_first c =
    let p = c.args.sc.now in
    let other : is_as_first (row_of p.drift) p.cells c.loop-t.t ≡ false = search rules in
    sym (all_but_one (is_as_first (row_of p.drift) p.cells) (p.horizon - 1 - 1) 2 c.loop-t.t (omega arith) (omega (arith, c.horizon-t-end.ensures.value)) other)

pub returns : goal.returns
returns c =
    let p = c.args.sc.now in
    sym (all_from (is_as_first (row_of p.drift) p.cells) (p.horizon - 1 - 1) 2 (λ u low high. c.loop-t.invariant u low (omega (arith, low, high, c.horizon-t-end.ensures.value))))
