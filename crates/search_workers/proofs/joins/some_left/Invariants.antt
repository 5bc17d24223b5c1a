use Rattle.std.proofs.Common.{◌≡◌, ℕ, ◌<◌, get_or}
use Rattle.search_workers.specs.declared.crew.Member.{Member}
use Rattle.search_workers.proofs.joins.some_left.Given as goal

abbrev pub invariant-loop-member : goal.invariant-loop-member
invariant-loop-member l = (k : ℕ) (d : Member) → k < l.member-index → (get_or l.crew k d).left ≡ l.left → ⊥
