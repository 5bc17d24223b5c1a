-- The events of a search: when each may come, what it changes, and its faults.
use Rattle.std.specs.Prelude.{ℕ, ◌<◌, ◌≤◌, ◌≡◌, List, [], ◌∷◌, ◌++◌, length, Contains, Some, Result, Ok, Err, slice_get}
use Rattle.search_model.specs.declared.standing.Standing.{Standing}
use Rattle.search_model.specs.Problem.{Problem}
use Rattle.bound_tree.specs.declared.node.TreeNode.{TreeNode}
use Rattle.bound_tree.specs.Accepts.{expected_by}
use Rattle.bound_tree.specs.Close.{IsClosed, IsExact}
use Rattle.search_core.specs.declared.event.CoreEvent.{CoreEvent}
use Rattle.search_core.specs.declared.event.CoreEvent.TheVariants.{Put, Take, Close, Learn}
use Rattle.search_core.specs.declared.event.CoreFault.{CoreFault}
use Rattle.search_core.specs.declared.event.CoreFault.TheVariants.{NotPooled, NotHeld, NoStanding, NoMemory}
use Rattle.search_core.specs.Counts.{SameItems}
use Rattle.search_core.specs.Balance.{Core}

-- before the first event: the empty prefix is held, and one standing is known
abbrev pub started : Standing → Core
started s = record { pool = []; hands = [] ∷ []; records = []; standings = s ∷ [] }

-- a closed prefix that is held is closed as the standing at its place has it; a standing that is learnt is a path with its exact value
abbrev pub IsAllowed : Problem → Core → CoreEvent → Type 0
IsAllowed p c (Put q) = Unit {0}
IsAllowed p c (Take q) = Unit {0}
IsAllowed p c (Close node j) = Contains c.hands node.prefix → (s : Standing) → slice_get c.standings j ≡ Some s → IsClosed p s node.prefix node.kind
IsAllowed p c (Learn s) = IsExact p s

-- a prefix goes from one list to another; what is left of the first, and what becomes of the second, is free in its order
pub record Goes (q : List ℕ) (source left goal made : List (List ℕ)) : Type 0 where
  pub gone : SameItems source (q ∷ left)
  pub come : SameItems made (q ∷ goal)

-- what an event changes: a Put takes its prefix from the hands to the pool, a Take back; a Close takes its prefix from the
-- hands, puts the children of a Branch there and appends the record; a Learn appends the standing
abbrev pub Steps : Problem → Core → CoreEvent → Core → Type 0
Steps p c (Put q) d = Goes q c.hands d.hands c.pool d.pool × (d.records ≡ c.records) × (d.standings ≡ c.standings)
Steps p c (Take q) d = Goes q c.pool d.pool c.hands d.hands × (d.records ≡ c.records) × (d.standings ≡ c.standings)
Steps p c (Close node j) d =
    Contains c.hands node.prefix × (j < length c.standings) × SameItems (c.hands ++ expected_by p node.prefix node.kind) (node.prefix ∷ d.hands)
    × (d.pool ≡ c.pool) × (d.records ≡ c.records ++ node ∷ []) × (d.standings ≡ c.standings)
Steps p c (Learn s) d = (d.pool ≡ c.pool) × (d.hands ≡ c.hands) × (d.records ≡ c.records) × (d.standings ≡ c.standings ++ s ∷ [])

-- a list of events, each allowed where it comes
abbrev pub Runs : Problem → Core → List CoreEvent → Core → Type 0
Runs p c [] d = c ≡ d
Runs p c (e ∷ es) d = (mid : Core) × IsAllowed p c e × Steps p c e mid × Runs p mid es d

-- a Take's prefix isn't pooled
abbrev pub MissesPool : Core → CoreEvent → List ℕ → Type 0
MissesPool c e q = (e ≡ Take q) × ¬ Contains c.pool q

-- an event takes this prefix from the hands
abbrev pub NeedsHeld : CoreEvent → List ℕ → Type 0
NeedsHeld (Put p) q = p ≡ q
NeedsHeld (Take p) q = ⊥
NeedsHeld (Close node j) q = node.prefix ≡ q
NeedsHeld (Learn s) q = ⊥

-- the prefix of a Put or a Close isn't held
abbrev pub MissesHands : Core → CoreEvent → List ℕ → Type 0
MissesHands c e q = NeedsHeld e q × ¬ Contains c.hands q

-- the place of a Close isn't among the standings, and its prefix is held
abbrev pub MissesStanding : Core → CoreEvent → ℕ → Type 0
MissesStanding c e j = (node : TreeNode) × (e ≡ Close node j) × Contains c.hands node.prefix × (length c.standings ≤ j)

-- the event has none of these faults
pub record HasNoFault (c : Core) (e : CoreEvent) : Type 0 where
  pub pool : (q : List ℕ) → ¬ MissesPool c e q
  pub hands : (q : List ℕ) → ¬ MissesHands c e q
  pub standing : (j : ℕ) → ¬ MissesStanding c e j

-- why an event is refused: a fault of its own, or with none of them, that memory ran out
abbrev pub IsCause : Core → CoreEvent → CoreFault → Type 0
IsCause c e (NotPooled q) = MissesPool c e q
IsCause c e (NotHeld q) = MissesHands c e q
IsCause c e (NoStanding j) = MissesStanding c e j
IsCause c e NoMemory = HasNoFault c e

-- an event is taken, or it is refused and nothing changes
abbrev pub Answers : Problem → Core → CoreEvent → Result (Unit {0}) CoreFault → Core → Type 0
Answers p c e (Ok done) d = Steps p c e d
Answers p c e (Err fault) d = (d ≡ c) × IsCause c e fault
