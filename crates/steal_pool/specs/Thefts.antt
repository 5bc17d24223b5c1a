-- What a steal tells.
use Rattle.std.specs.Prelude.{◌≡◌, ℕ, ◌+◌, ◌-◌, ◌^◌, min, List, [], ◌∷◌, slice_index_or, slice_set}
use Rattle.steal_pool.specs.declared.hand.Hand.{Hand}
use Rattle.steal_pool.specs.Rule.{hand, with_task, FirstAtOneMoment, EmptyAtOneMoment}
use Rattle.steal_pool.specs.Kits.{KitView, hand_at, TookOne}
use Rattle.steal_pool.specs.declared.theft.Theft.{Theft}
use Rattle.steal_pool.specs.declared.theft.Theft.TheVariants.{Got, Empty, Beaten}

-- a fact for each answer
abbrev pub MatchTheft : {T : Type 0} → Theft T → (T → Type 0) → Type 0 → Type 0 → Type 0
MatchTheft (Got x) got empty beaten = got x
MatchTheft Empty got empty beaten = empty
MatchTheft Beaten got empty beaten = beaten

-- a fact of the task, where there is one
abbrev pub IfGot : {T : Type 0} → Theft T → (T → Type 0) → Type 0
IfGot theft got = MatchTheft theft got (Unit {0}) (Unit {0})

-- a fact where the deque was empty
abbrev pub OnEmpty : {T : Type 0} → Theft T → Type 0 → Type 0
OnEmpty theft fact = MatchTheft theft (λ x. Unit {0}) fact (Unit {0})

-- a fact where there is no task
abbrev pub OnNoTask : {T : Type 0} → Theft T → Type 0 → Type 0
OnNoTask theft fact = MatchTheft theft (λ x. Unit {0}) fact fact

-- how many steals in a row got no task, after a further one
abbrev pub misses_after : {T : Type 0} → ℕ → Theft T → ℕ
misses_after n (Got x) = 0
misses_after n Empty = min (n + 1) (2 ^ 64 - 1)
misses_after n Beaten = min (n + 1) (2 ^ 64 - 1)

-- what a try at one deque makes of what is known of several
abbrev pub RobsAt : {T : Type 0} → List (Hand T) → ℕ → Theft T → List (Hand T) → Type 0
RobsAt old at theft new =
    let v = slice_index_or old at (hand 0 [] []) in
    MatchTheft theft
    (λ x. (new ≡ slice_set old at (with_task v x)) × FirstAtOneMoment v (x ∷ []))
    ((new ≡ old) × EmptyAtOneMoment v)
    (new ≡ old)

-- what a steal tells of a kit
pub record Steals {T : Type 0} (old : KitView T) (victim : ℕ) (theft : Theft T) (new : KitView T) : Type 0 where
  pub same : (new.pool ≡ old.pool) × (new.place ≡ old.place)
  pub took : IfGot theft (λ x. TookOne old x new)
  pub first : IfGot theft (λ x. FirstAtOneMoment (hand_at old victim) (x ∷ []))
  pub misses : new.misses ≡ misses_after old.misses theft
  pub none : OnNoTask theft (new ≡ record old { misses = new.misses })
  pub empty : OnEmpty theft (EmptyAtOneMoment (hand_at old victim))
