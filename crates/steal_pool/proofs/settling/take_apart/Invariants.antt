use Rattle.std.proofs.Common.{◌≡◌, ◌++◌}
use Rattle.steal_pool.proofs.Settled.{Apart}
use Rattle.steal_pool.proofs.settling.take_apart.Given as goal

-- the kits so far are apart
abbrev pub invariant-loop-kit : goal.invariant-loop-kit
invariant-loop-kit g l = record {
  split : l.fn.kits.items ≡ l.yielded ++ l.kit-iterator.rest.items;
  apart : Apart l.fn.kits.items l.yielded l.owns.items l.rests.items;
}
