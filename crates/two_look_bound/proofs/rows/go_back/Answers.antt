use Rattle.std.proofs.Common.{◌≡◌, ◌+◌, ◌-◌, ◌*◌, ◌/◌, ◌≤◌, ℕ, length, subst, arith}
use Rattle.std.proofs.Math.Nat.{div-add-mod, mod-lt}
use Rattle.two_look_bound.specs.Pairs.{HasPairs}
use Rattle.two_look_bound.proofs.rows.go_back.Goals as goal

-- half of a number, twice, is that number or one less
halves : (n : ℕ) → (2 * (n / 2) ≤ n) × (n ≤ 2 * (n / 2) + 1)
halves n =
    let split = div-add-mod n 2 in
    let some : 1 ≤ 2 = omega arith in
    let rest = mod-lt n some in
    (omega (arith, split), omega (arith, split, rest))

pub start_back-requires-clause-first : goal.start_back-requires-clause-first
start_back-requires-clause-first c = omega (arith, c.len.ensures.value)

pub start_back-requires-clause-last : goal.start_back-requires-clause-last
start_back-requires-clause-last c =
    let half = (halves (c.horizon.result - (c.len.result + 1))).0 in
    omega (arith, half, c.len.ensures.value, c.horizon.ensures.value, c.requires.short)

pub start_back-requires-clause-end : goal.start_back-requires-clause-end
start_back-requires-clause-end c =
    let half = (halves (c.horizon.result - (c.len.result + 1))).1 in
    omega (arith, half, c.len.ensures.value, c.horizon.ensures.value, c.requires.short)

pub loop-m-init : goal.loop-m-init
loop-m-init c =
    let half = (halves (c.horizon.result - (c.len.result + 1))).0 in
    let first : c.len.result + 1 + 2 * ((c.horizon.result - (c.len.result + 1)) / 2) ≡ length c.args.given.now.prefix.now + 1 + 2 * ((c.horizon.result - (c.len.result + 1)) / 2) = omega (arith, c.len.ensures.value) in
    record {
      top = omega (arith, half, c.len.ensures.value, c.horizon.ensures.value, c.requires.short);
      pairs = λ more. subst (λ (s : ℕ). HasPairs c.args.given.now.sc.now c.args.given.now.prefix.now s c.start_back.new.pairs) first (c.start_back.ensures.pairs (omega (arith, more, first)));
    }

pub two_back-requires-clause-first : goal.two_back-requires-clause-first
two_back-requires-clause-first c = omega (arith, c.len.ensures.value)

pub two_back-requires-clause-last : goal.two_back-requires-clause-last
two_back-requires-clause-last c = omega (arith, c.len.ensures.value, c.loop-m.invariant.top, c.loop-m-test.true)

pub two_back-requires-clause-pairs : goal.two_back-requires-clause-pairs
two_back-requires-clause-pairs c more =
    let p = c.args.given.now.sc.now in
    let q = c.args.given.now.prefix.now in
    let back : length q + 1 + 2 * c.loop-m.m ≡ c.len.result + 1 + 2 * (c.loop-m.m - 1) + 2 = omega (arith, c.len.ensures.value, c.loop-m-test.true) in
    subst (λ (s : ℕ). HasPairs p q s c.loop-m.pairs) back (c.loop-m.invariant.pairs (omega (arith, more, back)))

pub loop-m-preserved : goal.loop-m-preserved
loop-m-preserved c =
    let p = c.args.given.now.sc.now in
    let q = c.args.given.now.prefix.now in
    let here : c.len.result + 1 + 2 * (c.loop-m.m - 1) ≡ length q + 1 + 2 * (c.loop-m.m - 1) = omega (arith, c.len.ensures.value) in
    record {
      top = omega (arith, c.loop-m.invariant.top);
      pairs = λ _. subst (λ (s : ℕ). HasPairs p q s c.two_back.new.pairs) here c.two_back.ensures.pairs;
    }

pub returns-clause-pairs : goal.returns-clause-pairs
returns-clause-pairs c more =
    let p = c.args.given.now.sc.now in
    let q = c.args.given.now.prefix.now in
    let first : length q + 1 + 2 * c.loop-m.m ≡ length q + 1 = omega (arith, c.loop-m-test.false) in
    subst (λ (s : ℕ). HasPairs p q s c.loop-m.pairs) first (c.loop-m.invariant.pairs (omega (arith, more, first)))
