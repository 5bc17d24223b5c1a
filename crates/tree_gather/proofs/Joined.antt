-- What all hauls of a search show together.
use Rattle.std.proofs.Common.{◌≡◌, ℕ, List, [], ◌∷◌, ◌++◌, length, subst, arith, All, length-append}
use Rattle.std.proofs.lemmas.List.{length-map}
use Rattle.std.proofs.lemmas.List.Elements.{All-nil, All-cons, All-head, All-tail, All-weaker, All-contains}
use Rattle.std.proofs.lemmas.List.Sorted.{All-permutation}
use Rattle.search_model.specs.declared.standing.Standing.{Standing}
use Rattle.search_model.specs.Problem.{Problem, IsProblem}
use Rattle.search_model.specs.Tracks.{whole_weight}
use Rattle.list_laws.proofs.Members.{Contains-map_cases}
use Rattle.list_laws.proofs.Wholes.{All-joined}
use Rattle.bound_tree.specs.declared.node.Kind.TheVariants.{Branch}
use Rattle.bound_tree.specs.declared.node.TreeNode.{TreeNode}
use Rattle.bound_tree.specs.declared.plan.Plan.{Plan}
use Rattle.bound_tree.specs.Accepts.{prefixes_of, IsGood, Accepts}
use Rattle.bound_tree.specs.Close.{IsClosed, IsExact, IsAtLeast, LetsBranch}
use Rattle.bound_tree.proofs.Accepted.{accepted_plan_is_best}
use Rattle.search_core.proofs.FromBounds.{good_at_least}
use Rattle.search_core.proofs.Live.{balanced_is_live}
use Rattle.search_core.proofs.Many.{distinct_live_are_many}
use Rattle.tree_gather.specs.Hauls.{Haul, IsHaulSound, records_of, lasts_of, IsBestOf}
use Rattle.tree_gather.specs.Laws.{EvenHaulsAreJoined, JoinedAreLive, WaitingHaveMore, DoneAreAccepted}
use Rattle.tree_gather.proofs.Sorted.{gathered_is_accepted}

-- hauls branch only where the first standing does
lets_branch : (p : Problem) (first : Standing) (hauls : List Haul) → All (IsHaulSound p first) hauls → LetsBranch p first (records_of hauls)
lets_branch p first hauls sound =
    let P : TreeNode → Type 0 = λ r. r.kind ≡ Branch → IsClosed p first r.prefix Branch in
    let Q : Haul → Type 0 = λ h. All P h.records in
    All-joined P (λ h. h.records) hauls (All-weaker (IsHaulSound p first) Q (λ h s. s.branches) hauls sound)

-- the best of the last standings is exact, and no worse than the first one
pub best_is_sound : (p : Problem) (first best : Standing) (hauls : List Haul) → All (IsHaulSound p first) hauls → IsBestOf (lasts_of hauls) best → IsExact p best × IsAtLeast best first
best_is_sound p first best hauls sound b =
    let found = Contains-map_cases (λ (h : Haul). h.last) hauls best b.known in
    let last = All-contains (IsHaulSound p first) hauls found.0 sound found.1 in
    (subst (IsExact p) found.2 last.exact, subst (λ s. IsAtLeast s first) found.2 last.up)

-- each record is good in itself under it
good_under_best : (p : Problem) (first best : Standing) (hauls : List Haul) → IsProblem p → All (IsHaulSound p first) hauls → All (IsAtLeast best) (lasts_of hauls) →
    All (λ h. All (IsGood p best) h.records) hauls
good_under_best p first best [] sound each least = All-nil (λ h. All (IsGood p best) h.records)
good_under_best p first best (h ∷ hs) sound each least =
    let P : Haul → Type 0 = λ h. All (IsGood p best) h.records in
    let up : IsAtLeast best h.last = All-head (IsAtLeast best) h.last (lasts_of hs) least in
    All-cons P h hs
    (All-weaker (IsGood p h.last) (IsGood p best) (λ r good. good_at_least p h.last best r.prefix r.kind sound up good) h.records (All-head (IsHaulSound p first) h hs each).good)
    (good_under_best p first best hs sound (All-tail (IsHaulSound p first) h hs each) (All-tail (IsAtLeast best) h.last (lasts_of hs) least))

pub even_hauls_are_joined : EvenHaulsAreJoined
even_hauls_are_joined p first best hauls sound even each b =
    let last = best_is_sound p first best hauls each b in
    record {
      even = even;
      exact = last.0;
      up = last.1;
      good = All-joined (IsGood p best) (λ h. h.records) hauls (good_under_best p first best hauls sound each b.best);
      branches = lets_branch p first hauls each;
    }

pub joined_are_live : JoinedAreLive
joined_are_live p first best waiting closed sound joined = balanced_is_live p first [] waiting closed sound joined.even joined.branches

pub waiting_have_more : WaitingHaveMore
waiting_have_more p first best waiting closed sound joined some =
    let live = joined_are_live p first best waiting closed sound joined in
    let prefix : TreeNode → List ℕ = λ r. r.prefix in
    distinct_live_are_many p first (length closed) (waiting ++ prefixes_of closed) live.0 live.1
    (omega (arith, some, length-append waiting (prefixes_of closed), length-map closed prefix))

pub done_are_accepted : DoneAreAccepted
done_are_accepted p first best closed tree sound joined gathered =
    let plan : Plan = record { standing = best; weight = whole_weight p; tree = tree } in
    let accepted : Accepts p plan = gathered_is_accepted p closed tree sound joined.even gathered best joined.exact joined.good in
    let P : TreeNode → Type 0 = λ r. r.kind ≡ Branch → IsClosed p first r.prefix Branch in
    (accepted, accepted_plan_is_best p plan sound accepted, All-permutation P closed tree gathered.same joined.branches)
