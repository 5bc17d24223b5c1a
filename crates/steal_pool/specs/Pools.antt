-- The kits of one pool, and its deques.
use Rattle.std.specs.Prelude.{◌≡◌, ℕ, ◌+◌, List, [], ◌∷◌, ◌++◌, length, map, take, drop, Some, slice_get, slice_index_or, slice_set}
use Rattle.std.specs.declared.alloc.Global.{Global}
use Rattle.crossbeam_deque.specs.declared.handles.Worker.{Worker}
use Rattle.crossbeam_deque.specs.Handles.{view, stealer_deque, worker_view, worker_deque, worker_flavor, worker_port}
use Rattle.steal_pool.specs.declared.hand.Hand.{Hand}
use Rattle.steal_pool.specs.declared.deque.NoneLost.{NoneLost}
use Rattle.steal_pool.specs.declared.victim.Victim.{Victim}
use Rattle.steal_pool.specs.declared.victim.Rest.{Rest}
use Rattle.steal_pool.specs.Kits.{DequeId, KitView}
use Rattle.steal_pool.specs.Rule.{hand, takes_of}

-- the deques whose owners' ends these are, and what the owners know
abbrev pub deques_of : {T : Type 0} → List (Worker T Global (Hand T) NoneLost) → List DequeId
deques_of owns = map (λ w. worker_deque w) owns

abbrev pub hands_of : {T : Type 0} → List (Worker T Global (Hand T) NoneLost) → List (Hand T)
hands_of owns = map (λ w. worker_view w) owns

-- the deques of some victims, and what the thief's passes know
abbrev pub robbed_deques : {T : Type 0} → List (Victim T) → List DequeId
robbed_deques victims = map (λ v. stealer_deque v.thief) victims

abbrev pub robbed_hands : {T : Type 0} → List (Victim T) → List (Hand T)
robbed_hands victims = map (λ v. view v.pass) victims

-- what holds of each element of a list and its place
abbrev pub EachAt : {A : Type 0} → List A → (ℕ → A → Type 0) → Type 0
EachAt {A} xs P = (i : ℕ) (a : A) → slice_get xs i ≡ Some a → P i a

-- the deques of the pool that these kits are of
abbrev pub pool_of : {T : Type 0} → List (KitView T) → List DequeId
pool_of [] = []
pool_of (k ∷ ks) = k.pool

-- these are all kits of one pool, in the order of their places
pub record IsWhole {T : Type 0} (kits : List (KitView T)) : Type 0 where
  pub all : length kits ≡ length (pool_of kits)
  pub each : EachAt kits (λ i k. (k.pool ≡ pool_of kits) × (k.place ≡ i))

-- the owner's end of a deque: first in, first out
pub record IsOwner {T : Type 0} (own : Worker T Global (Hand T) NoneLost) : Type 0 where
  pub fifo : worker_flavor own ≡ 0
  pub port : worker_port own ≡ 0

-- for how many passes the hand at a place stands
abbrev pub passes_at : {T : Type 0} → List (Hand T) → ℕ → ℕ
passes_at hs i = (slice_index_or hs i (hand 0 [] [])).passes

-- the hand at a place takes a pass back that has taken some tasks
abbrev pub with_pass : {T : Type 0} → List (Hand T) → ℕ → List T → List (Hand T)
with_pass hs at taken = let h = slice_index_or hs at (hand 0 [] []) in slice_set hs at (hand (h.passes + 1) h.put (h.taken ++ taken))

-- what a kit took at the deques of the others
abbrev pub rest_taken : {T : Type 0} → Rest T → List T
rest_taken r = takes_of (robbed_hands r.before.items) ++ takes_of (robbed_hands r.after.items)

-- the victims of the kit at a place: all deques before it, and all after it
pub record IsRest {T : Type 0} (ids : List DequeId) (place : ℕ) (r : Rest T) : Type 0 where
  pub before : robbed_deques r.before.items ≡ take place ids
  pub after : robbed_deques r.after.items ≡ drop (place + 1) ids
