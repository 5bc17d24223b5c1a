-- What contracts see of a kit.
use Rattle.std.specs.Prelude.{◌≡◌, ℕ, List, [], ◌∷◌, ◌++◌, slice_index_or, IsPermutation}
use Rattle.std.specs.List.{flat_map}
use Rattle.std.specs.declared.alloc.Global.{Global}
use Rattle.steal_pool.specs.declared.hand.Hand.{Hand}
use Rattle.steal_pool.specs.Rule.{hand}

-- which deque it is
abbrev pub DequeId : Type 0
DequeId = (ℕ × ℕ) × Global

-- the deques of the pool, the kit's place among them, what it put and took at each, and how many steals in a row got no task
pub record KitView (T : Type 0) : Type 0 where
  pub pool : List DequeId
  pub place : ℕ
  pub hands : List (Hand T)
  pub misses : ℕ

-- what it put and took at the deque of a place
abbrev pub hand_at : {T : Type 0} → KitView T → ℕ → Hand T
hand_at k place = slice_index_or k.hands place (hand 0 [] [])

-- the tasks that it put, in order
abbrev pub put_of : {T : Type 0} → KitView T → List T
put_of k = (hand_at k k.place).put

-- the tasks that it took, deque by deque
abbrev pub taken_of : {T : Type 0} → KitView T → List T
taken_of k = flat_map (λ v. v.taken) k.hands

-- it took a task more, and changed in nothing else but the misses
pub record TookOne {T : Type 0} (old : KitView T) (task : T) (new : KitView T) : Type 0 where
  pub pool : new.pool ≡ old.pool
  pub place : new.place ≡ old.place
  pub put : put_of new ≡ put_of old
  pub taken : IsPermutation (taken_of new) (taken_of old ++ task ∷ [])
