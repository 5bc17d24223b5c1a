-- What a standing cuts or closes, each better standing does too; and how a prefix is closed.
use Rattle.std.proofs.Common.{◌≡◌, ◌⊎◌, ℕ, zero, suc, ◌*◌, ◌<◌, ◌≤◌, true, false, List, [], ◌∷◌, length, take, inl, inr, sym, refl, ap, subst, ◌∙◌, arith, Ordering, Less, Equal, Greater, nat_cmp, is_lt, ltb-true, lt-ltb, eqb-true, eq-eqb}
use Rattle.std.specs.Ordering.{ordering_then}
use Rattle.std.proofs.Math.Nat.{mul-le-mul_left, le_of_mul-le-mul_left}
use Rattle.std.proofs.lemmas.Bool.{or_cases, or_left, or_right, and_from, true≢false, false_from_ne_true, cases_order, cases_lt, cases_eq, cases_Bool, true_from_ne_false, and_parts}
use Rattle.search_model.specs.declared.standing.Standing.{Standing}
use Rattle.search_model.specs.Problem.{Problem, IsProblem}
use Rattle.search_model.specs.Legal.{IsLegal}
use Rattle.search_model.specs.Tracks.{value_of}
use Rattle.search_model.specs.Bounds.{mean_of}
use Rattle.search_model.specs.Edge.{edge_of}
use Rattle.search_model.specs.Exchange.{exchange_of}
use Rattle.search_model.specs.Memory.{remembering_of}
use Rattle.search_model.specs.Order.{smaller, better, standing_of}
use Rattle.search_model.proofs.Orders.{smaller_order, not_better_parts, not_better_from, same_from_neither, better_order, better_irreflexive, better_one_way}
use Rattle.bound_tree.specs.declared.node.Kind.{Kind}
use Rattle.bound_tree.specs.declared.node.Kind.TheVariants.{Branch, Whole, Mean, Tangent, Edge, Exchange, TwoLooks}
use Rattle.bound_tree.specs.Cut.{is_cut, times}
use Rattle.bound_tree.specs.Exchanges.{HasExchanges, IsBestStandIn, HasNoStandIn, exchanged}
use Rattle.bound_tree.specs.Close.{IsTangent, IsLeftOpen, IsLeftOver, IsPastTwoLooks, IsClosed, IsAtLeast}
use Rattle.bound_tree.specs.Accepts.{IsGoodKind}
use Rattle.bound_tree.specs.CutLaws.{CutStays, FinerCutStays, IsBoundKind, ClosedStays, MeanStays, BranchedBefore, ClosesOnce}
use Rattle.bound_tree.proofs.Tangents.{reference_extends, one_tangent, tangent_or_none}
use Rattle.bound_tree.proofs.StandIns.{stands-elsewhere, best_or_none}

-- a standing is at least another exactly where the other isn't better
pub not_worse : (t s : Standing) → IsAtLeast t s → better s t ≡ false
not_worse t s (inl same) = ap (better s) same ∙ better_irreflexive s
not_worse t s (inr more) = better_one_way t s more

pub at_least_from : (t s : Standing) → better s t ≡ false → IsAtLeast t s
at_least_from t s h = elim (cases_Bool (better t s)) [
  | inl more ↦ inr more
  | inr none ↦
      let up = not_better_parts s t h in
      let down = not_better_parts t s none in
      let value : t.value ≡ s.value = omega (arith, up.0, down.0) in
      let path : t.path ≡ s.path = same_from_neither t.path s.path (down.1 value) (up.1 (sym value)) in
      let of : List ℕ → ℕ → Standing = λ q v. record { path = q; value = v } in
      inl (ap (λ (q : List ℕ). of q t.value) path ∙ ap (of s.path) value)
]

-- a standing is at least itself
pub at_least_itself : (s : Standing) → IsAtLeast s s
at_least_itself s = inl refl

-- being at least another leads on
pub at_least_trans : (s t u : Standing) → IsAtLeast s t → IsAtLeast t u → IsAtLeast s u
at_least_trans s t u h g = at_least_from s u (better_order.chain u t s (not_worse t u g) (not_worse s t h))

front_step : (o a b : Ordering) → (is_lt a ≡ true → is_lt b ≡ true) → is_lt (ordering_then o a) ≡ true → is_lt (ordering_then o b) ≡ true
front_step Less a b f h = refl
front_step Equal a b f h = f h
front_step Greater a b f h = h

-- a list with a smaller front is smaller
pub smaller_by_fronts : (k : ℕ) (q r : List ℕ) → smaller (take k q) (take k r) ≡ true → smaller q r ≡ true
smaller_by_fronts zero q r h = cc
smaller_by_fronts (suc k) [] [] h = h
smaller_by_fronts (suc k) [] (y ∷ r) h = refl
smaller_by_fronts (suc k) (x ∷ q) [] h = h
smaller_by_fronts (suc k) (x ∷ q) (y ∷ r) h = front_step (nat_cmp x y) _ _ (smaller_by_fronts k q r) h

-- a list that isn't greater than one smaller than r is smaller than r
smaller_after : (p q r : List ℕ) → smaller q p ≡ false → smaller q r ≡ true → smaller p r ≡ true
smaller_after p q r h g = true_from_ne_false (smaller p r) (λ e. true≢false (sym g ∙ smaller_order.chain q p r h e))

-- what a standing cuts, each standing cuts that is the same or better
pub cut_at_least : (b : ℕ) (q : List ℕ) (s t : Standing) → IsAtLeast t s → is_cut b q s ≡ true → is_cut b q t ≡ true
cut_at_least b q s t h cut =
    let facts = not_better_parts s t (not_worse t s h) in
    elim (or_cases _ _ cut) [
      | inl less ↦ or_left _ _ (lt-ltb b t.value (let low = ltb-true b s.value less in omega (arith, low, facts.0)))
      | inr level ↦
          let parts = and_parts _ _ level in
          let same = eqb-true b s.value parts.0 in
          elim (cases_order s.value t.value) [
            | inl e ↦
                let fronts : smaller (take (length q) s.path) (take (length q) t.path) ≡ false =
                false_from_ne_true _ (λ less. true≢false (sym (smaller_by_fronts (length q) s.path t.path less) ∙ facts.1 e)) in
                or_right _ _ (and_from _ _ (eq-eqb b t.value (same ∙ e)) (smaller_after (take (length q) t.path) (take (length q) s.path) q fronts parts.1))
            | inr apart ↦ or_left _ _ (lt-ltb b t.value (omega (arith, same, apart, facts.0)))
          ]
    ]

pub cut_stays : CutStays
cut_stays b q s t h cut = cut_at_least b q s t (inr h) cut

-- a standing that is at least another is so in finer parts, too
pub times_at_least : (g : ℕ) (s t : Standing) → 1 ≤ g → IsAtLeast t s → IsAtLeast (times g t) (times g s)
times_at_least g s t some h =
    let parts = not_better_parts s t (not_worse t s h) in
    let same : g * s.value ≡ g * t.value → s.value ≡ t.value = λ e. (
    let down : g * t.value ≤ g * s.value = omega (arith, e) in
    omega (arith, parts.0, le_of_mul-le-mul_left down some)
    ) in
    at_least_from (times g t) (times g s) (not_better_from (times g s) (times g t) (mul-le-mul_left g parts.0) (λ e. parts.1 (same e)))

-- what a standing in finer parts cuts, each standing cuts that is the same or better
pub finer_cut_stays : FinerCutStays
finer_cut_stays g b q s t some h cut = cut_at_least b q (times g s) (times g t) (times_at_least g s t some h) cut

-- what a standing doesn't cut, each standing doesn't cut that is the same or worse
free_at_least : (b : ℕ) (q : List ℕ) (s t : Standing) → IsAtLeast t s → is_cut b q t ≡ false → is_cut b q s ≡ false
free_at_least b q s t h free = false_from_ne_true _ (λ cut. true≢false (sym (cut_at_least b q s t h cut) ∙ free))

-- what a standing leaves open, each leaves open that is the same or worse
open_at_least : (p : Problem) (s t : Standing) (q : List ℕ) → IsProblem p → IsAtLeast t s → IsLeftOpen p t q → IsLeftOpen p s q
open_at_least p s t q sound h left = record {
  mean = free_at_least (mean_of p q) q s t h left.mean;
  tangent = λ b whole tangent.
      free_at_least b q (times p.sweep.denominator s) (times p.sweep.denominator t)
      (times_at_least p.sweep.denominator s t sound.sweep.denominator.0 h) (left.tangent b whole tangent);
}

-- and so with its edge bound and those that stand in, which no standing asks
over_at_least : (p : Problem) (s t : Standing) (q : List ℕ) → IsProblem p → IsAtLeast t s → IsLeftOver p t q → IsLeftOver p s q
over_at_least p s t q sound h left = record { left = open_at_least p s t q sound h left.left; edge = free_at_least (edge_of p q) q s t h left.edge; alone = left.alone }

-- what branches under a standing branches under each that is the same or worse
pub branch_at_least : (p : Problem) (s t : Standing) (q : List ℕ) → IsProblem p → IsAtLeast t s → IsClosed p t q Branch → IsClosed p s q Branch
branch_at_least p s t q sound h closed = (
  closed.0,
  over_at_least p s t q sound h closed.1,
  λ asked. free_at_least (remembering_of p 2 q) q s t h (closed.2 asked),
)

pub branched_before : BranchedBefore
branched_before p s t q sound h closed = branch_at_least p s t q sound (inr h) closed

-- a prefix that is closed by its mean stays closed by it
pub mean_at_least : (p : Problem) (s t : Standing) (q : List ℕ) (b : ℕ) → IsAtLeast t s → IsClosed p s q (Mean b) → IsClosed p t q (Mean b)
mean_at_least p s t q b h closed = (closed.0, closed.1, cut_at_least b q s t h closed.2)

pub mean_stays : MeanStays
mean_stays p s t q b h closed = mean_at_least p s t q b (inr h) closed

pub closed_is_good : (p : Problem) (s t : Standing) (q : List ℕ) (kind : Kind) → IsProblem p → IsLegal p q → IsAtLeast t s →
    ((n : ℕ) → kind ≡ Whole n → better (record { path = q; value = n }) t ≡ false) → IsClosed p s q kind → IsGoodKind p t q kind
closed_is_good p s t q Branch sound legal h whole closed = closed.0
closed_is_good p s t q (Whole n) sound legal h whole closed = (closed.0, closed.1, whole n refl)
closed_is_good p s t q (Mean b) sound legal h whole closed = mean_at_least p s t q b h closed
closed_is_good p s t q (Tangent b path) sound legal h whole closed =
    let tangent = closed.2 in (
      closed.0,
      (tangent.rate, tangent.is_rate, reference_extends p q sound legal path tangent.reference, tangent.bound),
      finer_cut_stays p.sweep.denominator b q s t sound.sweep.denominator.0 h closed.3,
    )
closed_is_good p s t q (Edge b) sound legal h whole closed = (closed.0, closed.2, cut_at_least b q s t h closed.3)
closed_is_good p s t q (Exchange b u) sound legal h whole closed =
    let stands = closed.3.stands in
    (closed.0, stands-elsewhere p q closed.0.long u stands, closed.4, subst (λ n. is_cut n q (standing_of p (exchanged u q)) ≡ true) (sym closed.4) stands.cut)
closed_is_good p s t q (TwoLooks b) sound legal h whole closed = (closed.0, closed.2, cut_at_least b q s t h closed.3)

-- a number that a standing cuts is none that it doesn't cut
not_both : (s : Standing) (q : List ℕ) (b c : ℕ) → b ≡ c → is_cut b q s ≡ true → is_cut c q s ≡ false → ⊥
not_both s q b c same cut free = true≢false (sym cut ∙ ap (λ (n : ℕ). is_cut n q s) same ∙ free)

-- what is closed by a bound under a standing neither branches nor is a whole path under one that is at least as good
bound_goes_on : (p : Problem) (s t : Standing) (q : List ℕ) → IsProblem p → IsAtLeast t s → (kind other : Kind) → IsBoundKind kind → IsClosed p s q kind →
    IsClosed p t q other → IsBoundKind other
bound_goes_on p s t q sound h Branch other bound closed then = absurd bound
bound_goes_on p s t q sound h (Whole n) other bound closed then = absurd bound
bound_goes_on p s t q sound h kind (Mean c) bound closed then = tt
bound_goes_on p s t q sound h kind (Tangent c path) bound closed then = tt
bound_goes_on p s t q sound h kind (Edge c) bound closed then = tt
bound_goes_on p s t q sound h kind (Exchange c u) bound closed then = tt
bound_goes_on p s t q sound h kind (TwoLooks c) bound closed then = tt
bound_goes_on p s t q sound h (Mean b) Branch bound closed then =
    let before = branch_at_least p s t q sound h then in
    absurd (not_both s q b (mean_of p q) closed.1 closed.2 before.1.left.mean)
bound_goes_on p s t q sound h (Tangent b whole) Branch bound closed then =
    let before = branch_at_least p s t q sound h then in
    absurd (true≢false (sym closed.3 ∙ before.1.left.tangent b whole closed.2))
bound_goes_on p s t q sound h (Edge b) Branch bound closed then =
    let before = branch_at_least p s t q sound h then in
    absurd (not_both s q b (edge_of p q) closed.2 closed.3 before.1.edge)
bound_goes_on p s t q sound h (Exchange b u) Branch bound closed then = absurd (then.1.alone closed.0 u closed.3.stands)
bound_goes_on p s t q sound h (TwoLooks b) Branch bound closed then =
    let before = branch_at_least p s t q sound h then in
    absurd (not_both s q b (remembering_of p 2 q) closed.2 closed.3 (before.2 closed.0))
bound_goes_on p s t q sound h (Mean b) (Whole n) bound closed then = absurd (omega (arith, closed.0, then.0))
bound_goes_on p s t q sound h (Tangent b whole) (Whole n) bound closed then = absurd (omega (arith, closed.0, then.0))
bound_goes_on p s t q sound h (Edge b) (Whole n) bound closed then = absurd (omega (arith, closed.0, then.0))
bound_goes_on p s t q sound h (Exchange b u) (Whole n) bound closed then = absurd (omega (arith, closed.0.short, then.0))
bound_goes_on p s t q sound h (TwoLooks b) (Whole n) bound closed then = absurd (omega (arith, closed.0.short, then.0))

-- a prefix is asked for one that stands in for it, or not
asked_or_not : (p : Problem) (q : List ℕ) → HasExchanges p q ⊎ (¬ HasExchanges p q)
asked_or_not p q = elim (cases_lt 3 p.horizon) [
  | inr few ↦ inr (λ asked. omega (arith, few, asked.periods))
  | inl periods ↦ elim (cases_lt 1 (length q)) [
    | inr first ↦ inr (λ asked. omega (arith, first, asked.long))
    | inl long ↦ elim (cases_lt (length q) p.horizon) [
      | inr whole ↦ inr (λ asked. omega (arith, whole, asked.short))
      | inl short ↦ inl (record { periods = omega (arith, periods); long = omega (arith, long); short = short })
    ]
  ]
]

-- the best of those that stand in for it closes it, or it has none
exchange_or_branch : (p : Problem) (q : List ℕ) → IsLegal p q → (HasExchanges p q × ((u : ℕ) × IsBestStandIn p q u)) ⊎ HasNoStandIn p q
exchange_or_branch p q legal = elim (asked_or_not p q) [
  | inr unasked ↦ inr (λ asked. absurd (unasked asked))
  | inl asked ↦ elim (best_or_none p q legal asked.long) [
    | inl (u, best) ↦ inl (asked, (u, best))
    | inr none ↦ inr (λ _. none)
  ]
]

-- two best ones would be better than each other
one_best_stand_in : (p : Problem) (q : List ℕ) (u v : ℕ) → IsBestStandIn p q u → IsBestStandIn p q v → v ≡ u
one_best_stand_in p q u v best other = elim (cases_eq v u) [
  | inl e ↦ e
  | inr differ ↦
      let of : ℕ → Standing = λ w. standing_of p (exchanged w q) in
      absurd (true≢false (sym (other.best u best.stands (λ e. differ (sym e))) ∙ better_one_way (of u) (of v) (best.best v other.stands differ)))
]

module _ (p : Problem) (s : Standing) (q : List ℕ) (sound : IsProblem p) (legal : IsLegal p q) where
  -- what closes a prefix is one kind
  same_kind : (kind other : Kind) → IsClosed p s q kind → IsClosed p s q other → other ≡ kind
  same_kind Branch Branch h g = refl
  same_kind Branch (Whole n) h g = absurd (omega (arith, h.0, g.0))
  same_kind Branch (Mean b) h g = absurd (not_both s q b (mean_of p q) g.1 g.2 h.1.left.mean)
  same_kind Branch (Tangent b whole) h g = absurd (true≢false (sym g.3 ∙ h.1.left.tangent b whole g.2))
  same_kind Branch (Edge b) h g = absurd (not_both s q b (edge_of p q) g.2 g.3 h.1.edge)
  same_kind Branch (Exchange b u) h g = absurd (h.1.alone g.0 u g.3.stands)
  same_kind Branch (TwoLooks b) h g = absurd (not_both s q b (remembering_of p 2 q) g.2 g.3 (h.2 g.0))
  same_kind (Whole n) Branch h g = absurd (omega (arith, h.0, g.0))
  same_kind (Whole n) (Whole m) h g = ap Whole (g.1 ∙ sym h.1)
  same_kind (Whole n) (Mean b) h g = absurd (omega (arith, h.0, g.0))
  same_kind (Whole n) (Tangent b whole) h g = absurd (omega (arith, h.0, g.0))
  same_kind (Whole n) (Edge b) h g = absurd (omega (arith, h.0, g.0))
  same_kind (Whole n) (Exchange b u) h g = absurd (omega (arith, h.0, g.0.short))
  same_kind (Whole n) (TwoLooks b) h g = absurd (omega (arith, h.0, g.0.short))
  same_kind (Mean b) Branch h g = absurd (not_both s q b (mean_of p q) h.1 h.2 g.1.left.mean)
  same_kind (Mean b) (Whole n) h g = absurd (omega (arith, h.0, g.0))
  same_kind (Mean b) (Mean c) h g = ap Mean (g.1 ∙ sym h.1)
  same_kind (Mean b) (Tangent c whole) h g = absurd (not_both s q b (mean_of p q) h.1 h.2 g.1)
  same_kind (Mean b) (Edge c) h g = absurd (not_both s q b (mean_of p q) h.1 h.2 g.1.mean)
  same_kind (Mean b) (Exchange c u) h g = absurd (not_both s q b (mean_of p q) h.1 h.2 g.1.mean)
  same_kind (Mean b) (TwoLooks c) h g = absurd (not_both s q b (mean_of p q) h.1 h.2 g.1.left.mean)
  same_kind (Tangent b whole) Branch h g = absurd (true≢false (sym h.3 ∙ g.1.left.tangent b whole h.2))
  same_kind (Tangent b whole) (Whole n) h g = absurd (omega (arith, h.0, g.0))
  same_kind (Tangent b whole) (Mean c) h g = absurd (not_both s q c (mean_of p q) g.1 g.2 h.1)
  same_kind (Tangent b whole) (Tangent c path) h g =
      let same = one_tangent p q sound legal c b path whole g.2 h.2 in
      ap (λ (n : ℕ). Tangent n path) same.0 ∙ ap (λ (w : List ℕ). Tangent b w) same.1
  same_kind (Tangent b whole) (Edge c) h g = absurd (true≢false (sym h.3 ∙ g.1.tangent b whole h.2))
  same_kind (Tangent b whole) (Exchange c u) h g = absurd (true≢false (sym h.3 ∙ g.1.tangent b whole h.2))
  same_kind (Tangent b whole) (TwoLooks c) h g = absurd (true≢false (sym h.3 ∙ g.1.left.tangent b whole h.2))
  same_kind (Edge b) Branch h g = absurd (not_both s q b (edge_of p q) h.2 h.3 g.1.edge)
  same_kind (Edge b) (Whole n) h g = absurd (omega (arith, h.0, g.0))
  same_kind (Edge b) (Mean c) h g = absurd (not_both s q c (mean_of p q) g.1 g.2 h.1.mean)
  same_kind (Edge b) (Tangent c whole) h g = absurd (true≢false (sym g.3 ∙ h.1.tangent c whole g.2))
  same_kind (Edge b) (Edge c) h g = ap Edge (g.2 ∙ sym h.2)
  same_kind (Edge b) (Exchange c u) h g = absurd (not_both s q b (edge_of p q) h.2 h.3 g.2)
  same_kind (Edge b) (TwoLooks c) h g = absurd (not_both s q b (edge_of p q) h.2 h.3 g.1.edge)
  same_kind (Exchange b u) Branch h g = absurd (g.1.alone h.0 u h.3.stands)
  same_kind (Exchange b u) (Whole n) h g = absurd (omega (arith, h.0.short, g.0))
  same_kind (Exchange b u) (Mean c) h g = absurd (not_both s q c (mean_of p q) g.1 g.2 h.1.mean)
  same_kind (Exchange b u) (Tangent c whole) h g = absurd (true≢false (sym g.3 ∙ h.1.tangent c whole g.2))
  same_kind (Exchange b u) (Edge c) h g = absurd (not_both s q c (edge_of p q) g.2 g.3 h.2)
  same_kind (Exchange b u) (Exchange c v) h g =
      let place = one_best_stand_in p q u v h.3 g.3 in
      ap (λ (n : ℕ). Exchange n v) (g.4 ∙ ap (λ w. exchange_of p q (exchanged w q)) place ∙ sym h.4) ∙ ap (Exchange b) place
  same_kind (Exchange b u) (TwoLooks c) h g = absurd (g.1.alone h.0 u h.3.stands)
  same_kind (TwoLooks b) Branch h g = absurd (not_both s q b (remembering_of p 2 q) h.2 h.3 (g.2 h.0))
  same_kind (TwoLooks b) (Whole n) h g = absurd (omega (arith, h.0.short, g.0))
  same_kind (TwoLooks b) (Mean c) h g = absurd (not_both s q c (mean_of p q) g.1 g.2 h.1.left.mean)
  same_kind (TwoLooks b) (Tangent c whole) h g = absurd (true≢false (sym g.3 ∙ h.1.left.tangent c whole g.2))
  same_kind (TwoLooks b) (Edge c) h g = absurd (not_both s q c (edge_of p q) g.2 g.3 h.1.edge)
  same_kind (TwoLooks b) (Exchange c u) h g = absurd (h.1.alone g.0 u g.3.stands)
  same_kind (TwoLooks b) (TwoLooks c) h g = ap TwoLooks (g.2 ∙ sym h.2)

  -- what closes a prefix by a bound
  abbrev ByBound : Type 0
  ByBound = (kind : Kind) × IsBoundKind kind × IsClosed p s q kind

  -- what the mean bound leaves open is left open by the tangent bound too, or closed by it
  past_mean : length q < p.horizon → is_cut (mean_of p q) q s ≡ false → IsLeftOpen p s q ⊎ ByBound
  past_mean short free = elim (tangent_or_none p q sound legal) [
    | inl (b, whole, tangent) ↦ elim (cases_Bool (is_cut b q (times p.sweep.denominator s))) [
      | inl cut ↦ inr (Tangent b whole, tt, (short, free, tangent, cut))
      | inr open_at ↦
          let others : (c : ℕ) (path : List ℕ) → IsTangent p q c path → is_cut c q (times p.sweep.denominator s) ≡ false =
          λ c path other. ap (λ (n : ℕ). is_cut n q (times p.sweep.denominator s)) (one_tangent p q sound legal c b path whole other tangent).0 ∙ open_at in
          inl (record { mean = free; tangent = others })
    ]
    | inr none ↦ inl (record { mean = free; tangent = λ b whole tangent. absurd (none b whole tangent) })
  ]

  -- a short prefix is left open by its mean and its tangent bound, or closed by one of them
  open_or_closed : length q < p.horizon → IsLeftOpen p s q ⊎ ByBound
  open_or_closed short = elim (cases_Bool (is_cut (mean_of p q) q s)) [
    | inl cut ↦ inr (Mean (mean_of p q), tt, (short, refl, cut))
    | inr free ↦ past_mean short free
  ]

  -- what no bound before closes, and no exchange, is closed by the bound of two looks where it is asked for, or branches
  last_kind : length q < p.horizon → IsLeftOver p s q → (kind : Kind) × IsClosed p s q kind
  last_kind short left = elim (cases_lt 3 p.horizon) [
    | inl periods ↦ elim (cases_Bool (is_cut (remembering_of p 2 q) q s)) [
      | inl cut ↦ (TwoLooks (remembering_of p 2 q), (record { periods = omega (arith, periods); short = short }, left, refl, cut))
      | inr free ↦ (Branch, (short, left, λ _. free))
    ]
    | inr few ↦ (Branch, (short, left, λ asked. absurd (omega (arith, few, asked.periods))))
  ]

  -- something closes each legal prefix
  some_kind : (kind : Kind) × IsClosed p s q kind
  some_kind = elim (cases_lt (length q) p.horizon) [
    | inl short ↦ elim (open_or_closed short) [
      | inl left ↦ elim (cases_Bool (is_cut (edge_of p q) q s)) [
        | inl cut ↦ (Edge (edge_of p q), (short, left, refl, cut))
        | inr free ↦ elim (exchange_or_branch p q legal) [
          | inl (asked, (u, best)) ↦ (Exchange (exchange_of p q (exchanged u q)) u, (asked, left, free, best, refl))
          | inr none ↦ last_kind short (record { left = left; edge = free; alone = none })
        ]
      ]
      | inr (kind, bound, closed) ↦ (kind, closed)
    ]
    | inr long ↦ let full : length q ≡ p.horizon = omega (arith, long, legal.short) in (Whole (value_of p q), (full, refl))
  ]

pub closes_once : ClosesOnce
closes_once p s q sound legal =
    let (kind, closed) = some_kind p s q sound legal in
    (kind, closed, λ other h. same_kind p s q sound legal kind other closed h)

-- what is closed by a bound is closed by a bound under a standing that is at least as good
next_bound : (p : Problem) (s t : Standing) (q : List ℕ) → IsProblem p → IsLegal p q → IsAtLeast t s → (kind : Kind) → IsBoundKind kind → IsClosed p s q kind →
    (next : Kind) × IsBoundKind next × IsClosed p t q next
next_bound p s t q sound legal h Branch bound closed = absurd bound
next_bound p s t q sound legal h (Whole n) bound closed = absurd bound
next_bound p s t q sound legal h (Mean b) bound closed = (Mean b, tt, mean_at_least p s t q b h closed)
next_bound p s t q sound legal h (Tangent b whole) bound closed =
    elim (cases_Bool (is_cut (mean_of p q) q t)) [
      | inl cut ↦ (Mean (mean_of p q), tt, (closed.0, refl, cut))
      | inr free ↦ (Tangent b whole, tt, (closed.0, free, closed.2, finer_cut_stays p.sweep.denominator b q s t sound.sweep.denominator.0 h closed.3))
    ]
next_bound p s t q sound legal h (Edge b) bound closed =
    elim (open_or_closed p t q sound legal closed.0) [
      | inl left ↦ (Edge b, tt, (closed.0, left, closed.2, cut_at_least b q s t h closed.3))
      | inr other ↦ other
    ]
next_bound p s t q sound legal h (Exchange b u) bound closed =
    elim (open_or_closed p t q sound legal closed.0.short) [
      | inl left ↦ elim (cases_Bool (is_cut (edge_of p q) q t)) [
        | inl cut ↦ (Edge (edge_of p q), tt, (closed.0.short, left, refl, cut))
        | inr free ↦ (Exchange b u, tt, (closed.0, left, free, closed.3, closed.4))
      ]
      | inr other ↦ other
    ]
next_bound p s t q sound legal h (TwoLooks b) bound closed =
    elim (open_or_closed p t q sound legal closed.0.short) [
      | inl left ↦ elim (cases_Bool (is_cut (edge_of p q) q t)) [
        | inl cut ↦ (Edge (edge_of p q), tt, (closed.0.short, left, refl, cut))
        | inr free ↦
            let over : IsLeftOver p t q = record { left = left; edge = free; alone = closed.1.alone } in
            (TwoLooks b, tt, (closed.0, over, closed.2, cut_at_least b q s t h closed.3))
      ]
      | inr other ↦ other
    ]

pub closed_stays : ClosedStays
closed_stays p s t q kind sound legal h bound closed =
    (next_bound p s t q sound legal (inr h) kind bound closed, λ other then. bound_goes_on p s t q sound (inr h) kind other bound closed then)
