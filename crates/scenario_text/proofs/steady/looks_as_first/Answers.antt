use Rattle.std.proofs.Common.{◌≡◌, false, sym, arith, rules}
use Rattle.period_rows.specs.Rows.{is_same_row}
use Rattle.scenario_text.specs.Canonical.{covered}
use Rattle.scenario_text.proofs.SameRows.{all_from, all_but_one}
use Rattle.scenario_text.proofs.steady.looks_as_first.Goals as goal

pub returns-then-not-is_same_look : goal.returns-then-not-is_same_look
returns-then-not-is_same_look c =
    let p = c.args.sc.now in
    let other : is_same_row (covered p c.args.t c.loop-q.q) (covered p 1 c.loop-q.q) ≡ false = search rules in
    sym (all_but_one (λ d. is_same_row (covered p c.args.t d) (covered p 1 d)) p.positions 0 c.loop-q.q (omega arith) (omega (arith, c.positions-q-end.ensures.value)) other)

pub returns : goal.returns
returns c =
    let p = c.args.sc.now in
    sym (all_from (λ d. is_same_row (covered p c.args.t d) (covered p 1 d)) p.positions 0 (λ d low high. c.loop-q.invariant d (omega (arith, high, c.positions-q-end.ensures.value))))
