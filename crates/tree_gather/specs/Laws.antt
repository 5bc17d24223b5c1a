-- Laws of hauls: what those of a whole search come to, and what a whole tree shows.
use Rattle.std.specs.Prelude.{ℕ, ◌<◌, List, [], ◌++◌, length, All}
use Rattle.search_model.specs.declared.standing.Standing.{Standing}
use Rattle.search_model.specs.Problem.{Problem, IsProblem}
use Rattle.search_model.specs.Tracks.{whole_weight}
use Rattle.search_model.specs.Order.{IsBest}
use Rattle.bound_tree.specs.declared.node.TreeNode.{TreeNode}
use Rattle.bound_tree.specs.Accepts.{prefixes_of, Accepts}
use Rattle.bound_tree.specs.Close.{IsLive, LetsBranch, HasMoreLive}
use Rattle.search_core.specs.Balance.{AreDistinct}
use Rattle.tree_gather.specs.Gathered.{IsGathered}
use Rattle.tree_gather.specs.Hauls.{Haul, IsHaulSound, records_of, waiting_of, lasts_of, AreAllHauls, AreEven, IsBestOf, AreJoined}

-- all hauls of a search meet the balance equation together
abbrev pub AllHaulsAreEven : Type 0
AllHaulsAreEven = (p : Problem) (left : List (List ℕ)) (hauls : List Haul) → AreAllHauls p left hauls → AreEven p hauls

-- hauls that do so and are sound are joined, under the best of the standings that they used last
abbrev pub EvenHaulsAreJoined : Type 0
EvenHaulsAreJoined = (p : Problem) (first best : Standing) (hauls : List Haul) →
    IsProblem p → AreEven p hauls → All (IsHaulSound p first) hauls → IsBestOf (lasts_of hauls) best →
    AreJoined p first best (waiting_of hauls) (records_of hauls)

-- all that was closed or waits is distinct, and live under the first standing
abbrev pub JoinedAreLive : Type 0
JoinedAreLive = (p : Problem) (first best : Standing) (waiting : List (List ℕ)) (closed : List TreeNode) →
    IsProblem p → AreJoined p first best waiting closed →
    AreDistinct (waiting ++ prefixes_of closed) × All (IsLive p first) (waiting ++ prefixes_of closed)

-- where something waits, there are more live prefixes than records
abbrev pub WaitingHaveMore : Type 0
WaitingHaveMore = (p : Problem) (first best : Standing) (waiting : List (List ℕ)) (closed : List TreeNode) →
    IsProblem p → AreJoined p first best waiting closed → 0 < length waiting → HasMoreLive p first (length closed)

-- where nothing waits, the records in preorder are the tree of an accepted plan of the best standing, which is the best
-- path, and none branches where the first standing closes its prefix by a bound
abbrev pub DoneAreAccepted : Type 0
DoneAreAccepted = (p : Problem) (first best : Standing) (closed tree : List TreeNode) →
    IsProblem p → AreJoined p first best [] closed → IsGathered closed tree →
    Accepts p (record { standing = best; weight = whole_weight p; tree = tree }) × IsBest p best.path × LetsBranch p first tree
