use Rattle.std.proofs.Common.{◌≡◌, false, sym, arith, rules}
use Rattle.scenario_text.specs.Canonical.{covers_itself}
use Rattle.scenario_text.proofs.SameRows.{all_from, all_but_one}
use Rattle.scenario_text.proofs.steady.cover_themselves.Goals as goal

pub returns-then-not-covers_itself : goal.returns-then-not-covers_itself
returns-then-not-covers_itself c =
    let p = c.args.sc.now in
    let other : covers_itself p c.loop-q.q ≡ false = search rules in
    sym (all_but_one (covers_itself p) p.positions 0 c.loop-q.q (omega arith) (omega (arith, c.positions-q-end.ensures.value)) other)

pub returns : goal.returns
returns c = sym (all_from (covers_itself c.args.sc.now) c.args.sc.now.positions 0 (λ d low high. c.loop-q.invariant d (omega (arith, high, c.positions-q-end.ensures.value))))
