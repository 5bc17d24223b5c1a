-- Where the best path ends in a tree, and what the leaf there says of it.
use Rattle.std.proofs.Common.{◌≡◌, ℕ, ◌*◌, ◌<◌, ◌≤◌, ◌==◌, true, false, ltb-true, eqb-true, inl, inr, ap, List, [], ◌∷◌, map, length, take, sym, refl, ◌∙◌, subst, arith, Contains, All}
use Rattle.std.proofs.Math.Nat.{le_of_mul-le-mul_left}
use Rattle.std.proofs.lemmas.Bool.{or_cases, and_parts, cond_both, eqb-false}
use Rattle.std.proofs.lemmas.List.Elements.{All-head, All-weaker, All-map, All-contains, All-contains_itself}
use Rattle.search_model.specs.declared.standing.Standing.{Standing}
use Rattle.search_model.specs.Problem.{Problem, IsProblem}
use Rattle.search_model.specs.Tracks.{value_of}
use Rattle.search_model.specs.Order.{smaller, better, standing_of, IsBest}
use Rattle.search_model.proofs.Orders.{not_better_parts, not_better_from, smaller_one_way}
use Rattle.bound_tree.specs.declared.node.Kind.TheVariants.{Branch, Whole, Mean, Tangent, Edge, Exchange, TwoLooks}
use Rattle.bound_tree.specs.declared.gap.Numbers.{Numbers}
use Rattle.bound_tree.specs.declared.gap.Numbers.TheVariants.{Means, Edges}
use Rattle.bound_tree.specs.declared.gap.GapKind.{GapKind}
use Rattle.bound_tree.specs.declared.gap.GapKind.TheVariants.{Closed, Waiting}
use Rattle.bound_tree.specs.declared.gap.GapNode.{GapNode}
use Rattle.bound_tree.specs.Accepts.{Extends, IsGoodKind}
use Rattle.bound_tree.specs.Cut.{is_cut, times}
use Rattle.bound_tree.specs.Exchanges.{StandsIn, exchanged}
use Rattle.bound_tree.specs.Places.{opened_by, AreInPlace}
use Rattle.bound_tree.specs.Gaps.{shape_of_kind, shape_of, open_bound, IsGoodOpenKind, IsGoodOpen}
use Rattle.bound_tree.specs.GapLaws.{PrefixCeilingIsAbove}
use Rattle.bound_tree.proofs.Continuing.{front_legal, front_short, whole_front}
use Rattle.bound_tree.proofs.MeanBound.{mean_is_above}
use Rattle.bound_tree.proofs.TangentBound.{tangent_is_above}
use Rattle.bound_tree.proofs.Remembered.{remembering_is_above, edge_is_above}
use Rattle.bound_tree.proofs.Exchange.{exchange_rules_out}
use Rattle.bound_tree.proofs.StandIns.{exchanged-stands}
use Rattle.bound_tree.proofs.Closing.{smaller_by_fronts}
use Rattle.bound_tree.proofs.Along.{LeadsTo, from_children, PassesOn, along_tree}
use Rattle.bound_tree.proofs.Placing.{opened_by_good}

-- what extends a prefix and has no more than a bound that the standing cuts isn't better than the standing
below_cut : (b v : ℕ) (q y : List ℕ) (s : Standing) → take (length q) y ≡ q → v ≤ b → is_cut b q s ≡ true → better (record { path = y; value = v }) s ≡ false
below_cut b v q y s front le cut =
    let t : Standing = record { path = y; value = v } in
    elim (or_cases _ _ cut) [
      | inl less ↦
          let above = ltb-true b s.value less in
          not_better_from t s (omega (arith, above, le)) (λ e. absurd (omega (arith, above, le, e)))
      | inr level ↦
          let parts = and_parts _ _ level in
          let same = eqb-true b s.value parts.0 in
          let fronts : smaller (take (length q) s.path) (take (length q) y) ≡ true = ap (smaller (take (length q) s.path)) front ∙ parts.1 in
          not_better_from t s (omega (arith, same, le)) (λ _. smaller_one_way s.path y (smaller_by_fronts (length q) s.path y fronts))
    ]

-- standings compare as they do in finer parts
as_in_parts : (g : ℕ) (t s : Standing) → 0 < g → better (times g t) (times g s) ≡ false → better t s ≡ false
as_in_parts g t s some h =
    let parts = not_better_parts (times g t) (times g s) h in
    not_better_from t s (le_of_mul-le-mul_left parts.0 some) (λ e. parts.1 (ap (λ (v : ℕ). g * v) e))

-- a prefix that isn't as long as the horizon is shorter, if it isn't longer
pub shorter : (n m : ℕ) → n ≤ m → (n == m) ≡ false → n < m
shorter n m le other = let differ = eqb-false n m other in omega (arith, le, differ)

-- no path below a shorter prefix finds more than its bound
open_bound_is_above : (numbers : Numbers) (p : Problem) (q y : List ℕ) → IsProblem p → length q < p.horizon → Extends p q y → value_of p y ≤ open_bound numbers p q
open_bound_is_above Means p q y sound short x = mean_is_above p q y sound (front_legal p q y x) short x
open_bound_is_above Edges p q y sound short x = omega (arith, edge_is_above p q y sound (front_legal p q y x) short x)

pub prefix_ceiling_is_above : PrefixCeilingIsAbove
prefix_ceiling_is_above numbers p q y sound x =
    cond_both (length q == p.horizon) (value_of p q) (open_bound numbers p q) (λ c. value_of p y ≤ c)
    (λ whole. omega (arith, ap (value_of p) (whole_front p q y x (eqb-true (length q) p.horizon whole))))
    (λ other. open_bound_is_above numbers p q y sound (shorter (length q) p.horizon (front_short p q y x) other) x)

-- with the position of a good exchange a prefix stands in for itself
good_stands : (p : Problem) (s : Standing) (q : List ℕ) (b u : ℕ) → IsGoodKind p s q (Exchange b u) → StandsIn p (exchanged u q) q
good_stands p s q b u good =
    exchanged-stands p q good.0.long u good.1.legal (subst (λ (n : ℕ). is_cut n q (standing_of p (exchanged u q)) ≡ true) good.2 good.3)

-- The best path alone is followed: a kind of leaf that no best path comes to would say nothing of other paths.
module _ (numbers : Numbers) (p : Problem) (sound : IsProblem p) (s : Standing) (y : List ℕ) (best : IsBest p y) where
  -- what a leaf says of the best path: it isn't better than the standing, or the leaf waits, and it finds at most the number
  abbrev pub Says : GapKind → Type 0
  Says (Closed kind) = better (standing_of p y) s ≡ false
  Says (Waiting n) = value_of p y ≤ n

  -- where the best path begins with the prefix of a good node, it goes on to a prefix that the node opens, or ends there
  goes_on : (E : Type 0) (q : List ℕ) (kind : GapKind) → IsGoodOpenKind numbers p s q kind → (Says kind → E) → All (LeadsTo p y E) (opened_by p q (shape_of_kind kind)) → LeadsTo p y E q
  goes_on E q (Closed Branch) good ends below =
      from_children p y E q good (subst (λ (qs : List (List ℕ)). All (LeadsTo p y E) qs) (opened_by_good p s q Branch good) below)
  goes_on E q (Closed (Whole n)) good ends below = λ x.
      let same = whole_front p q y x good.0 in
      let worse : better (standing_of p q) s ≡ false = subst (λ v. better (record { path = q; value = v }) s ≡ false) good.1 good.2 in
      ends (subst (λ z. better (standing_of p z) s ≡ false) (sym same) worse)
  goes_on E q (Closed (Mean b)) good ends below = λ x.
      let most : value_of p y ≤ b = rw good.1 (mean_is_above p q y sound (front_legal p q y x) good.0 x) in
      ends (below_cut b (value_of p y) q y s x.front most good.2)
  goes_on E q (Closed (Tangent b whole)) good ends below = λ x.
      let (rate, is, reference, at) = good.1 in
      let g = p.sweep.denominator in
      let most : g * value_of p y ≤ b = rw at (tangent_is_above p rate q whole y sound is reference x) in
      ends (as_in_parts g (standing_of p y) s (omega (arith, sound.sweep.denominator)) (below_cut b (g * value_of p y) q y (times g s) x.front most good.2))
  goes_on E q (Closed (Edge b)) good ends below = λ x.
      let most : value_of p y ≤ b = rw good.1 (edge_is_above p q y sound (front_legal p q y x) good.0 x) in
      ends (below_cut b (value_of p y) q y s x.front most good.2)
  goes_on E q (Closed (Exchange b u)) good ends below = λ x. absurd (exchange_rules_out p q (exchanged u q) y sound good.0.short (good_stands p s q b u good) best x)
  goes_on E q (Closed (TwoLooks b)) good ends below = λ x.
      let most : value_of p y ≤ b = rw good.1 (remembering_is_above p 2 q y sound x) in
      ends (below_cut b (value_of p y) q y s x.front most good.2)
  goes_on E q (Waiting n) good ends below = λ x. ends (omega (arith, good, prefix_ceiling_is_above numbers p q y sound x))

  -- the best path ends at one of these nodes, which says this of it
  abbrev pub EndsAmong : List GapNode → Type 0
  EndsAmong nodes = (node : GapNode) × Contains nodes node × Says node.kind

  -- the best path ends at a leaf of each tree whose nodes are good
  pub best_ends : (nodes : List GapNode) → AreInPlace p ([] ∷ []) (map shape_of nodes) → All (IsGoodOpen numbers p s) nodes → EndsAmong nodes
  best_ends nodes placed good =
      let E : Type 0 = EndsAmong nodes in
      let each = All-weaker (Contains nodes) (λ node. PassesOn p (LeadsTo p y E) (shape_of node))
      (λ node has. goes_on E node.prefix node.kind (All-contains (IsGoodOpen numbers p s) nodes node good has) (λ says. (node, has, says)))
      nodes (All-contains_itself nodes) in
      let followed = along_tree p (LeadsTo p y E) ([] ∷ []) (map shape_of nodes) placed (All-map (PassesOn p (LeadsTo p y E)) shape_of nodes each) in
      All-head (LeadsTo p y E) [] [] followed (record { path = best.path; front = refl })
