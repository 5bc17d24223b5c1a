use Rattle.std.proofs.Common.{◌≡◌, ◌+◌, length, sym, arith}
use Rattle.two_look_bound.proofs.Walking.{seconds_none}
use Rattle.two_look_bound.proofs.rows.best_second.Goals as goal

pub returns-then-first-horizon : goal.returns-then-first-horizon
returns-then-first-horizon c =
    let last : length c.args.given.now.prefix.now + 1 ≡ c.args.given.now.sc.now.horizon = omega (arith, c.if-first-horizon.true, c.len.ensures.value, c.horizon.ensures.value) in
    sym (seconds_none c.args.given.now.sc.now c.args.given.now.prefix.now c.args.a last)

pub best_pair-requires-clause-short : goal.best_pair-requires-clause-short
best_pair-requires-clause-short c = omega (arith, c.requires.short, c.if-first-horizon.false, c.len.ensures.value, c.horizon.ensures.value)

pub best_pair-requires-clause-pairs : goal.best_pair-requires-clause-pairs
best_pair-requires-clause-pairs c = c.requires.pairs (omega (arith, c.requires.short, c.if-first-horizon.false, c.len.ensures.value, c.horizon.ensures.value))
