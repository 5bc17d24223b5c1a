-- What the machine needs of bounds. Nothing else in this crate looks at how a prefix is closed.
use Rattle.std.proofs.Common.{◌≡◌, false, ℕ, ◌*◌, ◌<◌, ◌≤◌, List, [], length, refl, arith, le-ltb}
use Rattle.std.proofs.lemmas.Bool.{or_from, and_right}
use Rattle.search_model.specs.declared.standing.Standing.{Standing}
use Rattle.search_model.specs.Problem.{Problem, IsProblem}
use Rattle.search_model.specs.Legal.{IsLegal, IsPath}
use Rattle.search_model.specs.Tracks.{value_of}
use Rattle.search_model.specs.Bounds.{mean_of}
use Rattle.search_model.specs.Edge.{edge_of}
use Rattle.search_model.specs.Memory.{remembering_of}
use Rattle.bound_tree.specs.declared.node.Kind.{Kind}
use Rattle.bound_tree.specs.declared.node.Kind.TheVariants.{Branch, Whole, Mean, Tangent, Edge, Exchange, TwoLooks}
use Rattle.bound_tree.specs.Accepts.{IsGoodKind, Extends}
use Rattle.bound_tree.specs.Close.{IsTangent, IsLeftOpen, IsClosed, IsExact, IsAtLeast}
use Rattle.bound_tree.specs.Cut.{is_cut, times}
use Rattle.bound_tree.proofs.MeanBound.{mean_is_above}
use Rattle.bound_tree.proofs.TangentBound.{tangent_is_above}
use Rattle.bound_tree.proofs.Remembered.{remembering_is_above, edge_is_above}
use Rattle.bound_tree.proofs.Tangents.{reference_extends}
use Rattle.bound_tree.proofs.Closing.{not_worse, at_least_itself, at_least_from, at_least_trans, cut_at_least, finer_cut_stays, branch_at_least, closed_is_good}

-- what is closed under a standing is good under each that is at least it, and at least the path itself where it is whole
pub good_from_closed : (p : Problem) (s t : Standing) (q : List ℕ) (kind : Kind) → IsProblem p → IsLegal p q → IsAtLeast t s →
    ((n : ℕ) → kind ≡ Whole n → IsAtLeast t (record { path = q; value = n })) → IsClosed p s q kind → IsGoodKind p t q kind
good_from_closed p s t q kind sound legal least whole closed =
    closed_is_good p s t q kind sound legal least (λ n e. not_worse t (record { path = q; value = n }) (whole n e)) closed

-- what is good in itself under a standing is good under each that is at least it
pub good_at_least : (p : Problem) (s t : Standing) (q : List ℕ) (kind : Kind) → IsProblem p → IsAtLeast t s → IsGoodKind p s q kind → IsGoodKind p t q kind
good_at_least p s t q Branch sound least good = good
good_at_least p s t q (Whole n) sound least good =
    let whole : Standing = record { path = q; value = n } in
    (good.0, good.1, not_worse t whole (at_least_trans t s whole least (at_least_from s whole good.2)))
good_at_least p s t q (Mean b) sound least good = (good.0, good.1, cut_at_least b q s t least good.2)
good_at_least p s t q (Tangent b whole) sound least good =
    (good.0, good.1, finer_cut_stays p.sweep.denominator b q s t sound.sweep.denominator.0 least good.2)
good_at_least p s t q (Edge b) sound least good = (good.0, good.1, cut_at_least b q s t least good.2)
good_at_least p s t q (Exchange b u) sound least good = good
good_at_least p s t q (TwoLooks b) sound least good = (good.0, good.1, cut_at_least b q s t least good.2)

-- what branches is shorter than the horizon
pub short_from_branch : (p : Problem) (s : Standing) (q : List ℕ) → IsProblem p → IsLegal p q → IsClosed p s q Branch → length q < p.horizon
short_from_branch p s q sound legal closed = good_from_closed p s s q Branch sound legal (at_least_itself s) (λ n e. absurd (let bad : ⊥ = cc in bad)) closed

-- what branches under a standing branches under each that it is at least
pub branch_from_better : (p : Problem) (s t : Standing) (q : List ℕ) → IsProblem p → IsLegal p q → IsAtLeast t s → IsClosed p t q Branch → IsClosed p s q Branch
branch_from_better p s t q sound legal least closed = branch_at_least p s t q sound least closed

-- no standing cuts a bound of the empty prefix that is no less than its value
enough_is_open : (b : ℕ) (s : Standing) → s.value ≤ b → is_cut b [] s ≡ false
enough_is_open b s least = or_from _ _ (le-ltb b s.value least) (and_right _ _ refl)

-- the empty prefix branches under every exact standing: no path is better than its bounds
pub empty_branches : (p : Problem) (s : Standing) → IsProblem p → IsExact p s → IsClosed p s [] Branch
empty_branches p s sound exact =
    let some : 0 < p.horizon = omega (arith, sound.horizon.0) in
    let path : Extends p [] s.path = record { path = exact.path; front = refl } in
    let empty : IsLegal p [] = record { follows = tt; short = omega arith } in
    let mean : s.value ≤ mean_of p [] = rw exact.value (mean_is_above p [] s.path sound empty some path) in
    let edge : s.value ≤ edge_of p [] = rw exact.value (edge_is_above p [] s.path sound empty some path) in
    let finer : (b : ℕ) (whole : List ℕ) → IsTangent p [] b whole → p.sweep.denominator * s.value ≤ b =
    λ b whole tangent. rw (exact.value, tangent.bound) (tangent_is_above p tangent.rate [] whole s.path sound tangent.is_rate (reference_extends p [] sound empty whole tangent.reference) path) in
    let left : IsLeftOpen p s [] = record {
      mean = enough_is_open (mean_of p []) s mean;
      tangent = λ b whole tangent. enough_is_open b (times p.sweep.denominator s) (finer b whole tangent);
    } in
    let two : s.value ≤ remembering_of p 2 [] = rw exact.value (remembering_is_above p 2 [] s.path sound path) in (
      some,
      record { left = left; edge = enough_is_open (edge_of p []) s edge; alone = λ has. absurd (omega (arith, has.long)) },
      λ asked. enough_is_open (remembering_of p 2 []) s two,
    )

-- a path is closed by its value under every standing
pub path_is_whole : (p : Problem) (s : Standing) (q : List ℕ) (n : ℕ) → IsPath p q → n ≡ value_of p q → IsClosed p s q (Whole n)
path_is_whole p s q n path value = (path.whole, value)
