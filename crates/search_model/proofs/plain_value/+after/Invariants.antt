use Rattle.std.proofs.Common.{◌≡◌, ◌+◌, ◌*◌, ◌-◌, drop, take, sum_by}
use Rattle.search_model.specs.Following.{look_factor, after_of}
use Rattle.search_model.proofs.plain_value.+after.Given as goal

abbrev pub decreases-after : goal.decreases-after
decreases-after l = l.sc.now.horizon - l.t

abbrev pub invariant-loop-entry : goal.invariant-loop-entry
invariant-loop-entry l =
    l.sum ≡ sum_by (λ entry. entry.part * (look_factor l.sc (l.t + 1) l.looks entry.cell * after_of l.sc (l.t + 1) entry.cell (drop 1 l.looks) (l.sc.horizon - (l.t + 1)))) (take l.entry-index l.entry-items)
