use Rattle.std.proofs.Common.{ℕ, ◌≡◌, List, sum_by, take}
use Rattle.tangent_bound.specs.Gains.{IsMet, missed_at}
use Rattle.tangent_bound.proofs.gains.covered_by_row.Given as goal

-- what is missed in the cells so far
abbrev pub invariant-loop-entry : goal.invariant-loop-entry
invariant-loop-entry l = (path : List ℕ) → IsMet l.sc path l.t l.without l.taken l.backward → l.sum ≡ sum_by (missed_at l.sc path l.t) (take l.entry-index l.entry-items)
