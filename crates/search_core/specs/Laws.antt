-- Laws of the machine: the balance over any list of events, and what balanced records show.
use Rattle.std.specs.Prelude.{ℕ, ◌≡◌, ◌<◌, List, [], ◌∷◌, length, All, AllPairs, IsTrue}
use Rattle.search_model.specs.declared.standing.Standing.{Standing}
use Rattle.search_model.specs.Problem.{Problem, IsProblem}
use Rattle.search_model.specs.Tracks.{whole_weight}
use Rattle.search_model.specs.Order.{smaller}
use Rattle.bound_tree.specs.declared.node.Kind.TheVariants.{Branch}
use Rattle.bound_tree.specs.declared.node.TreeNode.{TreeNode}
use Rattle.bound_tree.specs.Accepts.{prefixes_of}
use Rattle.bound_tree.specs.Accepts.{IsGood, Accepts}
use Rattle.bound_tree.specs.Close.{IsLive, IsExact, IsAtLeast, LetsBranch, HasMoreLive}
use Rattle.bound_tree.specs.Places.{AreInPlace}
use Rattle.search_core.specs.declared.event.CoreEvent.{CoreEvent}
use Rattle.search_core.specs.Balance.{Core, standing_in, MeetsEquation, AreDistinct, IsBalanced}
use Rattle.search_core.specs.Steps.{started, IsAllowed, Steps, Runs}
use Rattle.search_core.specs.Champion.{IsChampion}

-- the start with an exact standing is balanced
abbrev pub StartIsBalanced : Type 0
StartIsBalanced = (p : Problem) (s : Standing) → IsProblem p → IsExact p s → IsBalanced p (started s)

-- each event that is allowed keeps the balance
abbrev pub EventsKeepBalance : Type 0
EventsKeepBalance = (p : Problem) (c d : Core) (e : CoreEvent) → IsProblem p → IsBalanced p c → IsAllowed p c e → Steps p c e d → IsBalanced p d

-- after any list of events the balance holds
abbrev pub RunsAreBalanced : Type 0
RunsAreBalanced = (p : Problem) (s : Standing) (events : List CoreEvent) (c : Core) →
    IsProblem p → IsExact p s → Runs p (started s) events c → IsBalanced p c

-- after any list of events there is a champion; it is exact, and each record is good in itself under it
abbrev pub RunsAreGood : Type 0
RunsAreGood = (p : Problem) (s : Standing) (events : List CoreEvent) (c : Core) →
    IsProblem p → IsExact p s → Runs p (started s) events c →
    ((t : Standing) × IsChampion c t) × ((t : Standing) → IsChampion c t → IsExact p t × All (IsGood p t) c.records)

-- records in ascending order of their prefixes
abbrev pub IsPreorder : List TreeNode → Type 0
IsPreorder records = AllPairs (λ q r. IsTrue (smaller q r)) (prefixes_of records)

-- each Branch record is shorter than the horizon
abbrev pub BranchesAreShort : Problem → List TreeNode → Type 0
BranchesAreShort p records = All (λ r. r.kind ≡ Branch → length r.prefix < p.horizon) records

-- records that meet the balance equation with nothing pooled and nothing held, and branch only below the horizon, stand in
-- preorder where those of the empty prefix's tree do
abbrev pub BalancedIsPlaced : Type 0
BalancedIsPlaced = (p : Problem) (records : List TreeNode) →
    IsProblem p → MeetsEquation p [] [] records → BranchesAreShort p records → IsPreorder records → AreInPlace p ([] ∷ []) records

-- records that meet the balance equation with nothing pooled and nothing held, and are each good in themselves under an
-- exact standing, are in preorder the tree of an accepted plan of that standing
abbrev pub BalancedIsAccepted : Type 0
BalancedIsAccepted = (p : Problem) (s : Standing) (records : List TreeNode) →
    IsProblem p → IsExact p s → MeetsEquation p [] [] records → All (IsGood p s) records → IsPreorder records →
    Accepts p (record { standing = s; weight = whole_weight p; tree = records })

-- where a standing lets the Branch records branch, the balance equation makes all that stands somewhere distinct and live
abbrev pub BalancedIsLive : Type 0
BalancedIsLive = (p : Problem) (s : Standing) (pool hands : List (List ℕ)) (records : List TreeNode) →
    IsProblem p → MeetsEquation p pool hands records → LetsBranch p s records →
    AreDistinct (standing_in pool hands records) × All (IsLive p s) (standing_in pool hands records)

-- a search that started with a standing and learnt none that is worse branched only where that standing does
abbrev pub RunsAreLive : Type 0
RunsAreLive = (p : Problem) (s : Standing) (events : List CoreEvent) (c : Core) →
    IsProblem p → IsExact p s → Runs p (started s) events c → All (λ t. IsAtLeast t s) c.standings →
    LetsBranch p s c.records × All (IsLive p s) (standing_in c.pool c.hands c.records)

-- distinct live prefixes, in whatever order, show that there are more live prefixes than any number below theirs
abbrev pub DistinctLiveAreMany : Type 0
DistinctLiveAreMany = (p : Problem) (s : Standing) (limit : ℕ) (qs : List (List ℕ)) →
    AreDistinct qs → All (IsLive p s) qs → limit < length qs → HasMoreLive p s limit
