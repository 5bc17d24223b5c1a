-- What passes hand on to each other keeps the rule of the cell, and a pass that stands for all seats knows all offers.
use Rattle.std.proofs.Common.{◌≡◌, ◌≢◌, ◌⊎◌, inl, inr, ⊎_elim, ℕ, ◌-◌, ◌<◌, List, [], ◌∷◌, ◌++◌, length, drop, set, sym, refl, ap, ◌∙◌, subst, arith, false, IsPermutation}
use Rattle.std.specs.List.{flat_map}
use Rattle.std.proofs.lemmas.Bool.{cases_order}
use Rattle.std.proofs.lemmas.List.{nil_from_length}
use Rattle.std.proofs.lemmas.List.Sums.{sum_by-append, sum_by-cons}
use Rattle.std.proofs.lemmas.List.Elements.{All-nil, All-cons, All-append}
use Rattle.std.proofs.lemmas.List.Sorted.{IsPermutation-trans, length_permutation}
use mathlib.Core.Option.{some, some-injective}
use mathlib.Core.List.{IsPrefix}
use lib.ListN.{get_elem?}
use Rattle.atomic_table.proofs.Lists.{set_else, at_last, at_longer}
use Rattle.crossbeam_utils.specs.Register.{Turns, Forks, Merges}
use Rattle.search_model.specs.declared.standing.Standing.{Standing}
use Rattle.search_model.specs.Order.{better}
use Rattle.incumbent_board.specs.declared.sight.Sight.{Sight}
use Rattle.incumbent_board.specs.History.{last_of}
use Rattle.incumbent_board.specs.Words.{blank}
use Rattle.incumbent_board.specs.Rule.{ALL, sight, spent, cell_of, FitsWords, Knows, IsKept, Closes, joined}
use Rattle.incumbent_board.proofs.Views.{Each, each_set, each_push}
use Rattle.incumbent_board.proofs.Histories.{prefix_self, prefix_none, longer_prefix, longer_whole}
use Rattle.incumbent_board.proofs.Steps.{sees}
use Rattle.list_laws.proofs.Changed.{set_there, sum_by-set_at, sum_by-else, flat_map-push, flat_map-beside, flat_map-out, flat_map-moved, flat_map-one}
use Rattle.list_laws.proofs.Exchanges.{IsPermutation-same}
use Rattle.list_laws.proofs.Halves.{All-front, All-back}

-- one number is another, or it differs
same_or_not : (m n : ℕ) → (m ≡ n) ⊎ (m ≢ n)
same_or_not m n = ⊎_elim (λ e. inl e) (λ o. inr (λ e. absurd (⊎_elim (λ l. omega arith) (λ l. omega arith) o))) (cases_order m n)

-- the view at one place
same_view : (views : List Sight) (port other : ℕ) (v u : Sight) → other ≡ port → get_elem? views port ≡ some v → get_elem? views other ≡ some u → u ≡ v
same_view views port other v u same at there = some-injective u v (sym there ∙ ap (get_elem? views) same ∙ at)

-- some view has seen the whole history
abbrev IsSeen : List Standing → List Sight → Type 0
IsSeen history views = (port : ℕ) × (v : Sight) × (get_elem? views port ≡ some v) × (v.seen ≡ history)

seen_set : (views : List Sight) (port : ℕ) (v w : Sight) (history : List Standing) → get_elem? views port ≡ some v → w.seen ≡ v.seen → IsSeen history views → IsSeen history (set views port w)
seen_set views port v w history at same (p, u, there, is) =
    ⊎_elim (λ (e : p ≡ port). (port, w, set_there views port v w at, same ∙ sym (ap (λ (y : Sight). y.seen) (same_view views port p v u e at there)) ∙ is))
    (λ (n : p ≢ port). (p, u, set_else views port p w n ∙ there, is)) (same_or_not p port)

seen_push : (views : List Sight) (w : Sight) (history : List Standing) → IsSeen history views → IsSeen history (views ++ w ∷ [])
seen_push views w history (p, u, there, is) = (p, u, at_longer views (w ∷ []) p u there, is)

-- the last of some views and one more
last_there : (views : List Sight) (w : Sight) → get_elem? (views ++ w ∷ []) (length views) ≡ some w
last_there views w = at_last views w (length views) refl

seen_handed : (views : List Sight) (port : ℕ) (v : Sight) (history : List Standing) → get_elem? views port ≡ some v → IsSeen history views → IsSeen history (set views port spent ++ v ∷ [])
seen_handed views port v history at (p, u, there, is) =
    ⊎_elim (λ (e : p ≡ port). (length (set views port spent), v, last_there (set views port spent) v, sym (ap (λ (y : Sight). y.seen) (same_view views port p v u e at there)) ∙ is))
    (λ (n : p ≢ port). (p, u, at_longer (set views port spent) (v ∷ []) p u (set_else views port p spent n ∙ there), is)) (same_or_not p port)

-- who stands for no seat knows nothing, and that holds beside each history
knows_spent : (history : List Standing) → Knows history spent
knows_spent history = record {
  seen = prefix_none history;
  told = All-nil (λ (seen : List Standing). IsPrefix seen history);
  best = All-nil (λ t. better t (last_of history) ≡ false);
  none = λ _. refl;
}

-- who has seen a beginning and has offered nothing
knows_seen : (history seen : List Standing) (n : ℕ) → IsPrefix seen history → 0 < n → Knows history (sight n seen [] [] [])
knows_seen history seen n p some_seat = record {
  seen = p;
  told = All-nil (λ (seen : List Standing). IsPrefix seen history);
  best = All-nil (λ t. better t (last_of history) ≡ false);
  none = λ no. absurd (omega (arith, no));
}

-- beside a pass that stands for all seats the others know nothing
others_spent : (x : List ℕ) (views : List Sight) (port : ℕ) (v : Sight) → (h : IsKept x views) → get_elem? views port ≡ some v → v.seats ≡ ALL → (other : ℕ) (u : Sight) → get_elem? views other ≡ some u → other ≢ port → u ≡ spent
others_spent x views port v h at whole other u there differ =
    (h.each other u there).none (sum_by-else (λ (y : Sight). y.seats) views port other v u at there differ (h.all ∙ sym whole))

-- all that was placed is what that pass placed
all_placed : (x : List ℕ) (views : List Sight) (port : ℕ) (v : Sight) → (h : IsKept x views) → get_elem? views port ≡ some v → v.seats ≡ ALL → IsPermutation (drop 1 h.history) v.placed
all_placed x views port v h at whole =
    subst (IsPermutation (drop 1 h.history)) (flat_map-one (λ (y : Sight). y.placed) views port v at (λ other u there differ. ap (λ (y : Sight). y.placed) (others_spent x views port v h at whole other u there differ))) h.placed

-- the cell is blank by a history with no later entries
cell_alone : (history : List Standing) → drop 1 history ≡ [] → cell_of history ≡ blank
cell_alone [] none = refl
cell_alone (a ∷ []) none = refl
cell_alone (a ∷ b ∷ later) none = absurd (let n : length (b ∷ later) ≡ 0 = ap length none in omega (arith, n))

-- the history begins
pub starts : (s : Standing) (port : ℕ) (v : Sight) → v ≡ sight ALL [] [] [] [] → Forks IsKept port v spent (sight ALL (s ∷ []) [] [] [])
starts s port v new x views h at =
    let w = sight ALL (s ∷ []) [] [] [] in
    let vs = set views port spent in
    let whole : v.seats ≡ ALL = ap (λ (y : Sight). y.seats) new in
    let none : drop 1 h.history ≡ [] =
    nil_from_length (drop 1 h.history) (sym (length_permutation _ _ (all_placed x views port v h at whole)) ∙ ap (λ (y : Sight). length y.placed) new) in
    let unplaced : (u : Sight) → u ≡ spent → u.placed ≡ [] = λ u e. ap (λ (y : Sight). y.placed) e in
    let all_none : flat_map (λ (y : Sight). y.placed) (vs ++ w ∷ []) ≡ [] =
    flat_map-beside (λ (y : Sight). y.placed) views port v spent w at (sym (ap (λ (y : Sight). y.placed) new)) refl
    ∙ flat_map-one (λ (y : Sight). y.placed) views port v at (λ other u there differ. unplaced u (others_spent x views port v h at whole other u there differ))
    ∙ ap (λ (y : Sight). y.placed) new in
    let known : Each (Knows (s ∷ [])) views = λ other u there.
    ⊎_elim (λ (e : other ≡ port). subst (Knows (s ∷ [])) (sym new ∙ sym (same_view views port other v u e at there)) (knows_seen (s ∷ []) [] ALL (prefix_none (s ∷ [])) (omega arith)))
    (λ (n : other ≢ port). subst (Knows (s ∷ [])) (sym (others_spent x views port v h at whole other u there n)) (knows_spent (s ∷ []))) (same_or_not other port) in
    record {
      history = s ∷ [];
      rises = tt;
      fits = All-nil (FitsWords s);
      cell = h.cell ∙ cell_alone h.history none;
      all = omega (arith, whole, h.all, sum_by-set_at (λ (y : Sight). y.seats) views port v spent at, sum_by-append (λ (y : Sight). y.seats) vs (w ∷ []));
      whole = (length vs, w, last_there vs w, refl);
      placed = IsPermutation-same [] (flat_map (λ (y : Sight). y.placed) (vs ++ w ∷ [])) (sym all_none);
      each = each_push (Knows (s ∷ [])) vs w (knows_seen (s ∷ []) (s ∷ []) ALL (prefix_self (s ∷ [])) (omega arith)) (each_set (Knows (s ∷ [])) views port spent (knows_spent (s ∷ [])) known);
    }

-- a seat is given away
pub deals : (port : ℕ) (v : Sight) → 1 < v.seats → Forks IsKept port v (sight (v.seats - 1) v.seen v.told v.placed v.behind) (sight 1 v.seen [] [] [])
deals port v two x views h at =
    let l = sight (v.seats - 1) v.seen v.told v.placed v.behind in
    let r = sight 1 v.seen [] [] [] in
    let vs = set views port l in
    let mine = h.each port v at in
    record {
      history = h.history;
      rises = h.rises;
      fits = h.fits;
      cell = h.cell;
      all = omega (arith, two, h.all, sum_by-set_at (λ (y : Sight). y.seats) views port v l at, sum_by-append (λ (y : Sight). y.seats) vs (r ∷ []));
      whole = seen_push vs r h.history (seen_set views port v l h.history at refl h.whole);
      placed = subst (IsPermutation (drop 1 h.history)) (sym (flat_map-beside (λ (y : Sight). y.placed) views port v l r at refl refl)) h.placed;
      each = each_push (Knows h.history) vs r (knows_seen h.history v.seen 1 mine.seen (omega arith)) (each_set (Knows h.history) views port l (record {
        seen = mine.seen;
        told = mine.told;
        best = mine.best;
        none = λ no. absurd (omega (arith, no, two));
      }) h.each);
    }

-- all that a pass knows is handed on
pub cuts : (port : ℕ) (v : Sight) → Forks IsKept port v spent v
cuts port v x views h at =
    let vs = set views port spent in
    record {
      history = h.history;
      rises = h.rises;
      fits = h.fits;
      cell = h.cell;
      all = omega (arith, h.all, sum_by-set_at (λ (y : Sight). y.seats) views port v spent at, sum_by-append (λ (y : Sight). y.seats) vs (v ∷ []), sum_by-cons (λ (y : Sight). y.seats) v []);
      whole = seen_handed views port v h.history at h.whole;
      placed = IsPermutation-trans _ _ _ h.placed (IsPermutation-trans _ _ _ (flat_map-out (λ (y : Sight). y.placed) views port v spent at refl) (IsPermutation-same _ _ (sym (flat_map-push (λ (y : Sight). y.placed) vs v))));
      each = each_push (Knows h.history) vs v (h.each port v at) (each_set (Knows h.history) views port spent (knows_spent h.history) h.each);
    }

-- what both know
knows_joined : (history : List Standing) (v w : Sight) → 0 < v.seats → Knows history v → Knows history w → Knows history (joined v w)
knows_joined history v w some_seat a b =
    let P : Standing → Type 0 = λ t. better t (last_of history) ≡ false in
    let Q : List Standing → Type 0 = λ seen. IsPrefix seen history in
    record {
      seen = longer_prefix v.seen w.seen history a.seen b.seen;
      told = All-append Q (v.seen ∷ v.told) (w.seen ∷ w.told) (All-cons Q v.seen v.told a.seen a.told) (All-cons Q w.seen w.told b.seen b.told);
      best = All-append P (v.placed ++ w.placed) (v.behind ++ w.behind)
          (All-append P v.placed w.placed (All-front P v.placed v.behind a.best) (All-front P w.placed w.behind b.best))
          (All-append P v.behind w.behind (All-back P v.placed v.behind a.best) (All-back P w.placed w.behind b.best));
      none = λ no. absurd (omega (arith, no, some_seat));
    }

-- a pass takes in another
pub merges : (port : ℕ) (v : Sight) (other : ℕ) (w : Sight) → 0 < v.seats → Merges IsKept port v other w (joined v w) spent
merges port v other w some_seat x views h at differ there =
    let both = joined v w in
    let vs = set views port both in
    let was : get_elem? views other ≡ some w = sym (set_else views port other both differ) ∙ there in
    let mine : get_elem? (set vs other spent) port ≡ some both = set_else vs other port spent (λ e. differ (sym e)) ∙ set_there views port v both at in
    let a = h.each port v at in
    let b = h.each other w was in
    let joined_whole : (v.seen ≡ h.history) ⊎ (w.seen ≡ h.history) → IsSeen h.history (set vs other spent) = λ e. (port, both, mine, longer_whole v.seen w.seen h.history a.seen b.seen e) in
    let kept : IsSeen h.history views → IsSeen h.history (set vs other spent) = λ (p, u, here, is).
    ⊎_elim (λ (e : p ≡ port). joined_whole (inl (sym (ap (λ (y : Sight). y.seen) (same_view views port p v u e at here)) ∙ is)))
    (λ (n : p ≢ port). ⊎_elim (λ (e : p ≡ other). joined_whole (inr (sym (ap (λ (y : Sight). y.seen) (same_view views other p w u e was here)) ∙ is)))
    (λ (m : p ≢ other). (p, u, set_else vs other p spent m ∙ set_else views port p both n ∙ here, is)) (same_or_not p other)) (same_or_not p port) in
    record {
      history = h.history;
      rises = h.rises;
      fits = h.fits;
      cell = h.cell;
      all = omega (arith, h.all, sum_by-set_at (λ (y : Sight). y.seats) views port v both at, sum_by-set_at (λ (y : Sight). y.seats) vs other w spent there);
      whole = kept h.whole;
      placed = IsPermutation-trans _ _ _ h.placed (flat_map-moved (λ (y : Sight). y.placed) views port other v w both spent differ (set_else views other port spent (λ e. differ (sym e)) ∙ at) was refl refl);
      each = each_set (Knows h.history) vs other spent (knows_spent h.history) (each_set (Knows h.history) views port both (knows_joined h.history v w some_seat a b) h.each);
    }

-- the last load
pub closes : (port : ℕ) (v : Sight) → v.seats ≡ ALL → Turns IsKept port v (λ x. x) Closes
closes port v whole x views h at =
    let w = sight v.seats h.history v.told v.placed v.behind in
    let k = sees port v x views v.behind (omega (arith, whole)) h at (h.each port v at).best in
    (w, k.0, ((k.1, refl), λ _. all_placed x views port v h at whole))
