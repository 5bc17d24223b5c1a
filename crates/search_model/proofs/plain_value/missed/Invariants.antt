use Rattle.std.proofs.Common.{◌≡◌, ◌*◌, ◌-◌, drop, sum_by}
use Rattle.std.specs.List.{range_with_len}
use Rattle.search_model.specs.Problem.{first_of}
use Rattle.search_model.specs.Following.{look_factor, after_of}
use Rattle.search_model.proofs.plain_value.missed.Given as goal

abbrev pub invariant-loop-c : goal.invariant-loop-c
invariant-loop-c l =
    l.sum ≡ sum_by (λ c. first_of l.sc c * look_factor l.sc 1 l.looks c * after_of l.sc 1 c (drop 1 l.looks) (l.sc.horizon - 1)) (range_with_len 0 l.c)
