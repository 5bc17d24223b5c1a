-- What the balance equation says of all that stands somewhere.
use Rattle.std.proofs.Common.{◌≡◌, ℕ, zero, suc, ◌+◌, ◌≤◌, ◌<◌, List, [], ◌∷◌, ◌++◌, length, get_or, sym, ap, subst, arith, Contains, All, length-append}
use Rattle.std.proofs.lemmas.List.{same_from_push}
use Rattle.std.proofs.lemmas.List.Elements.{All-contains_itself, Contains-append_right}
use Rattle.search_model.specs.Problem.{Problem, IsProblem}
use Rattle.search_model.specs.Legal.{IsLegal, moves_after}
use Rattle.search_model.proofs.WalkLemmas.{follows-append}
use Rattle.list_laws.proofs.Members.{Contains-map, Contains-flat_map_cases}
use Rattle.bound_tree.specs.declared.node.Kind.TheVariants.{Branch}
use Rattle.bound_tree.specs.declared.node.TreeNode.{TreeNode}
use Rattle.bound_tree.specs.Accepts.{prefixes_of}
use Rattle.bound_tree.specs.Accepts.{expected_by}
use Rattle.search_core.specs.Counts.{count_of}
use Rattle.search_core.specs.Balance.{expected_of, standing_in, MeetsEquation, AreDistinct}
use Rattle.search_core.proofs.Counts.{count_of-append, counted, Contains-counted, not_counted, at_most_one}
use Rattle.search_core.proofs.Children.{front_of, no_push, expected_cases, expected_by_records, no_empty_children}

-- how often a prefix stands somewhere, in numbers
pub standing_is : (pool hands : List (List ℕ)) (rs : List TreeNode) (q : List ℕ) →
    count_of q (standing_in pool hands rs) ≡ count_of q pool + count_of q hands + count_of q (prefixes_of rs)
standing_is pool hands rs q = omega (arith, count_of-append q (pool ++ hands) (prefixes_of rs), count_of-append q pool hands)

module _ (p : Problem) (pool hands : List (List ℕ)) (rs : List TreeNode) (equation : MeetsEquation p pool hands rs) where
  -- a step from the prefix of a Branch record to a child keeps P
  abbrev pub KeptBelow : (List ℕ → Type 0) → Type 0
  KeptBelow P = (r : TreeNode) → Contains rs r → r.kind ≡ Branch → P r.prefix → (d : ℕ) → Contains (moves_after p r.prefix) d → P (r.prefix ++ d ∷ [])

  reached_at : (n : ℕ) (P : List ℕ → Type 0) → P [] → KeptBelow P → (q : List ℕ) → length q ≤ n → Contains (standing_in pool hands rs) q → P q
  reached_at n P first step [] l h = first
  reached_at zero P first step (x ∷ q) l h = absurd (omega (arith, l))
  reached_at (suc n) P first step (x ∷ q) l h =
      let cut = front_of x q in
      let child : List ℕ = cut.0 ++ cut.1 ∷ [] in
      let stands : Contains (standing_in pool hands rs) child = subst (λ z. Contains (standing_in pool hands rs) z) cut.2 h in
      let expects : 0 < count_of child (expected_of p rs) =
      omega (arith, equation child, counted child _ stands, not_counted child [] (λ e. no_push cut.0 cut.1 (sym e))) in
      let holder = Contains-flat_map_cases (λ r. expected_by p r.prefix r.kind) rs child (Contains-counted child (expected_of p rs) expects) in
      let made = expected_cases p holder.0.prefix holder.0.kind child holder.2 in
      let parts = same_from_push holder.0.prefix cut.0 made.1 cut.1 made.3 in
      let among : Contains (standing_in pool hands rs) holder.0.prefix =
      Contains-append_right (pool ++ hands) (prefixes_of rs) holder.0.prefix (Contains-map (λ (r : TreeNode). r.prefix) rs holder.0 holder.1) in
      let shorter : length holder.0.prefix ≤ n = omega (arith, l, ap length cut.2, length-append cut.0 (cut.1 ∷ []), ap length parts.0) in
      let before : P holder.0.prefix = reached_at n P first step holder.0.prefix shorter among in
      subst P {x = child} (sym cut.2) (subst P {x = holder.0.prefix ++ made.1 ∷ []} made.3 (step holder.0 holder.1 made.0 before made.1 made.2))

  -- what holds of the empty prefix, and is kept by each step down from a Branch record, holds of all that stands somewhere
  pub reached : (P : List ℕ → Type 0) → P [] → KeptBelow P → All P (standing_in pool hands rs)
  reached P first step = λ k d l.
      let q = get_or (standing_in pool hands rs) k d in
      reached_at (length q) P first step q (omega arith) (All-contains_itself (standing_in pool hands rs) k d l)

  once : IsProblem p → (n : ℕ) (q : List ℕ) → length q ≤ n → count_of q ([] ∷ expected_of p rs) ≤ 1
  once sound n [] l = omega (arith, no_empty_children p rs, at_most_one [] [])
  once sound zero (x ∷ q) l = absurd (omega (arith, l))
  once sound (suc n) (x ∷ q) l =
      let cut = front_of x q in
      let size : length cut.0 ≤ n = omega (arith, l, ap length cut.2, length-append cut.0 (cut.1 ∷ [])) in
      let before = once sound n cut.0 size in
      let P : List ℕ → Type 0 = λ z. count_of z ([] ∷ expected_of p rs) ≤ 1 in
      subst P (sym cut.2) (omega (
        arith,
        before,
        equation cut.0,
        standing_is pool hands rs cut.0,
        expected_by_records p sound rs cut.0 cut.1,
        not_counted (cut.0 ++ cut.1 ∷ []) [] (λ e. no_push cut.0 cut.1 (sym e)),
      ))

  -- no prefix stands twice
  pub distinct : IsProblem p → AreDistinct (standing_in pool hands rs)
  distinct sound q = omega (arith, equation q, once sound (length q) q (omega arith))

  -- where Branch records are shorter than the horizon, all is legal
  pub all_legal : ((r : TreeNode) → Contains rs r → r.kind ≡ Branch → IsLegal p r.prefix → length r.prefix < p.horizon) → All (IsLegal p) (standing_in pool hands rs)
  all_legal short = reached (IsLegal p) (record { follows = tt; short = omega arith })
      (λ r among branch legal d move. record {
        follows = (follows-append p.moves p.start r.prefix (d ∷ [])).1 (legal.follows, (move, tt));
        short = omega (arith, short r among branch legal, length-append r.prefix (d ∷ []));
      })
