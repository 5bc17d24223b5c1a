use Rattle.std.proofs.Common.{◌≡◌, false, sym, arith, rules}
use Rattle.period_rows.specs.Rows.{is_same_row}
use Rattle.drift_chain.specs.DriftRows.{row_of}
use Rattle.scenario_text.proofs.SameRows.{all_from, all_but_one}
use Rattle.scenario_text.proofs.steady.drifts_as_first.Goals as goal

pub returns-then-not-is_same_drift : goal.returns-then-not-is_same_drift
returns-then-not-is_same_drift c =
    let drift = c.args.sc.now.drift in
    let other : is_same_row (row_of drift c.args.t c.loop-c.c) (row_of drift 1 c.loop-c.c) ≡ false = search rules in
    sym (all_but_one (λ d. is_same_row (row_of drift c.args.t d) (row_of drift 1 d)) c.args.sc.now.cells 0 c.loop-c.c (omega arith) (omega (arith, c.cells-c-end.ensures.value)) other)

pub returns : goal.returns
returns c =
    let drift = c.args.sc.now.drift in
    sym (all_from (λ d. is_same_row (row_of drift c.args.t d) (row_of drift 1 d)) c.args.sc.now.cells 0 (λ d low high. c.loop-c.invariant d (omega (arith, high, c.cells-c-end.ensures.value))))
