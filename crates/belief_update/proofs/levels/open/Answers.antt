use Rattle.std.proofs.Common.{ℕ, ◌+◌, ◌<◌, ◌≡◌, List, [], ◌∷◌, ◌++◌, length, take, set, slice_index, slice_index_or, refl, ap, subst, arith, length-append}
use Rattle.std.proofs.lemmas.List.{length-take-le}
use Rattle.search_model.specs.Problem.{Problem}
use Rattle.belief_update.specs.Onward.{OnwardState, IsMadeBehind, IsOnward, IsOnwardBehind}
use Rattle.belief_update.specs.Levels.{AreLevels}
use Rattle.belief_update.proofs.FlowSteps.{flows_set}
use Rattle.belief_update.proofs.LevelSteps.{level_more, level_in_front, level_behind}
use Rattle.belief_update.proofs.levels.open.Goals as goal

-- a level that is made of the one before it, behind those that there are
more : (p : Problem) (looks : List ℕ) (i : ℕ) (levels front back : List OnwardState) (d new : OnwardState) → levels ≡ front ++ back → length front ≡ i + 1 → i < length looks → length looks < p.horizon →
    AreLevels p looks i levels → IsMadeBehind p (i + 1) new → ((q : List ℕ) → length q ≡ i → IsOnward p q (slice_index_or front i d) → IsOnward p (q ++ slice_index looks i ∷ []) new) →
    AreLevels p looks (i + 1) (front ++ set back 0 new)
more p looks i levels front back d new parts long inside short are made onward =
    let there : i < length front = omega (arith, long) in
    let before = are.after i (omega arith) (omega (arith, inside, short)) in
    let here = level_in_front p (take i looks) i levels front back d parts there before in
    level_more p looks i levels front back new parts long inside short are made (onward (take i looks) (length-take-le i looks (omega (arith, inside))) here)

-- the level before a look, in front of the cut, is that after so many looks
before : (p : Problem) (looks : List ℕ) (i : ℕ) (levels front back : List OnwardState) (d : OnwardState) → levels ≡ front ++ back → length front ≡ i + 1 → i < length looks → length looks < p.horizon →
    AreLevels p looks i levels → IsOnwardBehind p i (slice_index_or front i d)
before p looks i levels front back d parts long inside short are =
    let on = are.after i (omega arith) (omega (arith, inside, short)) in
    (take i looks, length-take-le i looks (omega (arith, inside)), level_in_front p (take i looks) i levels front back d parts (omega (arith, long)) on)

-- the level after the look, behind the cut, has room
after : (p : Problem) (looks : List ℕ) (i : ℕ) (levels front back : List OnwardState) (d : OnwardState) → levels ≡ front ++ back → length front ≡ i + 1 → i < length looks → length looks < p.horizon →
    AreLevels p looks i levels → IsMadeBehind p (i + 1) (slice_index_or back 0 d)
after p looks i levels front back d parts long inside short are =
    subst (λ (k : ℕ). IsMadeBehind p k (slice_index_or back 0 d)) long
    (level_behind p levels front back d parts (omega (arith, ap length parts, length-append front back, long, inside, short, are.size)) are.made)

pub has_own_flow-requires-clause-position : goal.has_own_flow-requires-clause-position
has_own_flow-requires-clause-position c = c.requires.positions c.args.i 0 c.requires.inside

pub look_from_own-requires-clause-made : goal.look_from_own-requires-clause-made
look_from_own-requires-clause-made c =
    after c.args.sc.now c.args.looks.now c.args.i c.args.levels.now c.split_at_mut-before.result.0.now c.split_at_mut-before.result.1.now _
    c.split_at_mut-before.ensures.value c.split_at_mut-before.ensures.front_len c.requires.inside c.requires.short c.requires.levels

pub look_from_own-requires-clause-own : goal.look_from_own-requires-clause-own
look_from_own-requires-clause-own c = (c.if-has_own_flow.ensures refl).own

pub look_from_own-requires-clause-alike : goal.look_from_own-requires-clause-alike
look_from_own-requires-clause-alike c = (c.if-has_own_flow.ensures refl).alike

pub look_from_own-requires-clause-flow : goal.look_from_own-requires-clause-flow
look_from_own-requires-clause-flow c = rw c.from.ensures (c.requires.flows.each _ _ (c.if-has_own_flow.ensures refl).inside)

pub look_from_own-requires-clause-before : goal.look_from_own-requires-clause-before
look_from_own-requires-clause-before c =
    before c.args.sc.now c.args.looks.now c.args.i c.args.levels.now c.split_at_mut-before.result.0.now c.split_at_mut-before.result.1.now _
    c.split_at_mut-before.ensures.value c.split_at_mut-before.ensures.front_len c.requires.inside c.requires.short c.requires.levels

pub look_from-requires-clause-made : goal.look_from-requires-clause-made
look_from-requires-clause-made c =
    after c.args.sc.now c.args.looks.now c.args.i c.args.levels.now c.split_at_mut-before.result.0.now c.split_at_mut-before.result.1.now _
    c.split_at_mut-before.ensures.value c.split_at_mut-before.ensures.front_len c.requires.inside c.requires.short c.requires.levels

pub look_from-requires-clause-before : goal.look_from-requires-clause-before
look_from-requires-clause-before c =
    before c.args.sc.now c.args.looks.now c.args.i c.args.levels.now c.split_at_mut-before.result.0.now c.split_at_mut-before.result.1.now _
    c.split_at_mut-before.ensures.value c.split_at_mut-before.ensures.front_len c.requires.inside c.requires.short c.requires.levels

pub returns-then-has_own_flow-clause-levels : goal.returns-then-has_own_flow-clause-levels
returns-then-has_own_flow-clause-levels c =
    more c.args.sc.now c.args.looks.now c.args.i c.args.levels.now c.split_at_mut-before.result.0.now c.split_at_mut-before.result.1.now _ c.look_from_own.new.self
    c.split_at_mut-before.ensures.value c.split_at_mut-before.ensures.front_len c.requires.inside c.requires.short c.requires.levels c.look_from_own.ensures.made c.look_from_own.ensures.onward

pub returns-else-has_own_flow-clause-levels : goal.returns-else-has_own_flow-clause-levels
returns-else-has_own_flow-clause-levels c =
    more c.args.sc.now c.args.looks.now c.args.i c.args.levels.now c.split_at_mut-before.result.0.now c.split_at_mut-before.result.1.now _ c.look_from.new.self
    c.split_at_mut-before.ensures.value c.split_at_mut-before.ensures.front_len c.requires.inside c.requires.short c.requires.levels c.look_from.ensures.made c.look_from.ensures.onward

pub returns-then-has_own_flow-clause-flows : goal.returns-then-has_own_flow-clause-flows
returns-then-has_own_flow-clause-flows c =
    rw c.from.ensures (flows_set c.args.sc.now c.args.flows.now _ c.look_from_own.new.flow c.index-flows-from.result c.requires.flows (λ flow. c.look_from_own.ensures.flow))
