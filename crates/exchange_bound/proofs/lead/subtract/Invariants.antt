use Rattle.std.proofs.Common.{◌≡◌, ◌<◌, ◌-◌, ℕ, slice_index}
use Rattle.exchange_bound.proofs.lead.subtract.Given as goal

abbrev pub invariant-loop-c : goal.invariant-loop-c
invariant-loop-c l = (k : ℕ) → k < l.c → slice_index l.lead k ≡ slice_index l.masses k - slice_index l.others k
