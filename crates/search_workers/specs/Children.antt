-- What a worker does with the children of a prefix that branches.
use Rattle.std.specs.Prelude.{◌≡◌, ℕ, ◌<◌, ◌≤◌, Bool, true, false, List, [], ◌∷◌, ◌++◌, length, reverse, All, Contains}
use Rattle.steal_pool.specs.Kits.{KitView, put_of, taken_of}
use Rattle.search_core.specs.Counts.{SameItems}

-- these tasks were put into the own deque in their order, but for those that it handed back because it had taken 4,096
-- tasks, which wait now
pub record Puts (tasks put waiting put' waiting' : List (List ℕ)) : Type 0 where
  pub given : List (List ℕ)
  pub back : List (List ℕ)
  pub all : tasks ≡ given ++ back
  pub added : put' ≡ put ++ given
  pub kept : waiting' ≡ waiting ++ back
  pub full : 0 < length back → length put' ≡ 4096

-- the least child waits last on the private stack, and the others are put into the own deque
pub record Shares (children put waiting put' waiting' : List (List ℕ)) : Type 0 where
  pub least : List ℕ
  pub others : List (List ℕ)
  pub below : List (List ℕ)
  pub all : children ≡ least ∷ others
  pub puts : Puts others put waiting put' below
  pub last : waiting' ≡ below ++ least ∷ []

-- a kit that put tasks at most
pub record OnlyPut {T : Type 0} (old new : KitView T) : Type 0 where
  pub pool : new.pool ≡ old.pool
  pub place : new.place ≡ old.place
  pub taken : taken_of new ≡ taken_of old
  pub misses : new.misses ≡ old.misses

-- the children are shared, or else all of them wait on the private stack, so that the least is taken first
abbrev pub Disposes : List (List ℕ) → Bool → KitView (List ℕ) → List (List ℕ) → KitView (List ℕ) → List (List ℕ) → Type 0
Disposes children true kit waiting kit' waiting' = Shares children (put_of kit) waiting (put_of kit') waiting' × OnlyPut kit kit'
Disposes children false kit waiting kit' waiting' = (kit' ≡ kit) × (waiting' ≡ waiting ++ reverse children)

-- some of the children wait now, above what waited before
pub record Wait (children waiting waiting' : List (List ℕ)) : Type 0 where
  pub some : List (List ℕ)
  pub last : waiting' ≡ waiting ++ some
  pub few : length some ≤ length children
  pub among : All (Contains children) some

-- the children were put into the own deque or on the agenda, or wait on the private stack, and none is lost
pub record HandsOn (children : List (List ℕ)) (kit : KitView (List ℕ)) (agenda waiting : List (List ℕ)) (kit' : KitView (List ℕ)) (agenda' waiting' : List (List ℕ)) : Type 0 where
  pub only : OnlyPut kit kit'
  pub same : SameItems ((put_of kit' ++ agenda') ++ waiting') ((put_of kit ++ agenda) ++ (waiting ++ children))
  pub wait : Wait children waiting waiting'
