use Rattle.std.proofs.Common.{ℕ, ◌≤◌, ◌-◌, ◌+◌, ◌*◌, List, length, slice_index, inl, inr, refl, arith, All}
use Rattle.std.proofs.lemmas.Bool.{cases_lt}
use Rattle.std.proofs.lemmas.List.{get_or_past}
use Rattle.std.proofs.lemmas.List.Elements.{All-get_or}
use Rattle.longest_walk.specs.Sums.{entry_at}
use Rattle.longest_walk.proofs.Highest.{highest_below}
use Rattle.bound_tests.proofs.walks.answer_to.Goals as goal

small_at : (xs : List ℕ) (i : ℕ) → All (λ x. x ≤ 1000) xs → slice_index xs i ≤ 1000
small_at xs i small = elim (cases_lt i (length xs)) [
  | inl here ↦ All-get_or (λ x. x ≤ 1000) xs i 0 here small
  | inr past ↦ omega (arith, get_or_past xs i 0 past)
]

pub fill-requires-clause-fits : goal.fill-requires-clause-fits
fill-requires-clause-fits c =
    let w = c.in_ok-walk.walk in
    let small : All (λ x. x ≤ 1000) c.args.asked.now.rewards.now = c.if-not-is_within.ensures.small refl in
    let most = highest_below w.positions 1000 (entry_at w.positions c.args.asked.now.rewards.now) (w.horizon - c.len.result) (c.len.result + 1)
    (λ t q from to within. small_at c.args.asked.now.rewards.now ((t - 1) * w.positions + q) small) in
    let few : w.horizon ≤ 32 = omega (arith, c.if-not-is_within.ensures.horizon refl, c.in_ok-walk.ensures) in
    omega (arith, most, few)
