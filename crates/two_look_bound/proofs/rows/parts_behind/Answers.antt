use Rattle.std.proofs.Common.{refl, arith}
use Rattle.two_look_bound.proofs.rows.parts_behind.Goals as goal

pub returns-then-s-horizon : goal.returns-then-s-horizon
returns-then-s-horizon c more = absurd (omega (arith, more, c.if-s-horizon.true, c.horizon.ensures.value))

pub later_parts-requires-clause-last : goal.later_parts-requires-clause-last
later_parts-requires-clause-last c = omega (arith, c.if-s-horizon.false, c.horizon.ensures.value, c.requires.last)

pub later_parts-requires-clause-looks : goal.later_parts-requires-clause-looks
later_parts-requires-clause-looks c = rw c.len.ensures.value (omega (arith, c.if-s-horizon.false, c.horizon.ensures.value, c.requires.later, c.requires.last))

pub returns : goal.returns
returns c more = rw (c.later_parts.ensures, c.len.ensures.value) refl
