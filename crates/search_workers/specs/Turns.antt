-- What a turn of a worker does.
use Rattle.std.specs.Prelude.{◌≡◌, ℕ, ◌+◌, ◌*◌, ◌<◌, ◌≤◌, ◌⊎◌, Bool, true, false, List, [], ◌++◌, length, Option, Some, None, All}
use Rattle.search_model.specs.declared.standing.Standing.{Standing}
use Rattle.search_model.specs.Problem.{Problem}
use Rattle.search_model.specs.Legal.{IsLegal}
use Rattle.steal_pool.specs.Kits.{KitView, put_of, taken_of}
use Rattle.node_tickets.specs.Seats.{MayDraw}
use Rattle.search_core.specs.Counts.{SameItems}
use Rattle.search_workers.specs.declared.left.Left.{Left}
use Rattle.search_workers.specs.Rounds.{others}
use Rattle.search_workers.specs.Workers.{WorkerView, IsReady, IsSameWorker, Went}

-- prefixes went from the deques to a worker, or between its own deque, its agenda and its hands, which have these now
pub record Shifts (old : KitView (List ℕ)) (agenda : List (List ℕ)) (new : KitView (List ℕ)) (agenda' out : List (List ℕ)) : Type 0 where
  pub pool : new.pool ≡ old.pool
  pub place : new.place ≡ old.place
  pub same : SameItems (taken_of new ++ (put_of old ++ agenda)) (taken_of old ++ ((put_of new ++ agenda') ++ out))

-- a worker that took or shared prefixes at most; those that it took wait now
pub record OnlyTook (old : KitView (List ℕ)) (agenda waiting : List (List ℕ)) (new : KitView (List ℕ)) (agenda' waiting' : List (List ℕ)) : Type 0 where
  pub pool : new.pool ≡ old.pool
  pub place : new.place ≡ old.place
  pub same : SameItems (taken_of new ++ ((put_of old ++ agenda) ++ waiting)) (taken_of old ++ ((put_of new ++ agenda') ++ waiting'))

-- whether something legal waits now; if not, what waits isn't legal, or nothing is on the agenda and 1,024 steals in a row at
-- each other worker got no task
abbrev pub HasWork : Problem → KitView (List ℕ) → List (List ℕ) → List (List ℕ) → Bool → Type 0
HasWork p kit agenda waiting true = (0 < length waiting) × All (IsLegal p) waiting
HasWork p kit agenda waiting false = All (λ q. ¬ IsLegal p q) waiting × ((0 < length waiting) ⊎ ((agenda ≡ []) × (1024 * others kit ≤ kit.misses)))

-- a turn closes a prefix and disposes of its children, or it is the last
abbrev pub Turns : Problem → Standing → WorkerView → Option Left → WorkerView → Type 0
Turns p first old None new = IsReady p first new × IsSameWorker old new × MayDraw new.desk.ticket × (length new.desk.records ≡ length old.desk.records + 1)
Turns p first old (Some left) new = Went p first old left new
