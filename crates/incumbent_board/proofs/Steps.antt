-- Each step at the cell keeps its rule.
use Rattle.std.proofs.Common.{◌≡◌, ℕ, zero, suc, ◌<◌, List, [], ◌∷◌, ◌++◌, length, drop, set, sym, refl, ap, ◌∙◌, subst, append_assoc, arith, All, Bool, true, false, IsTrue, if◌then◌else◌, nat_eq, MatchBool, IsPermutation}
use Rattle.std.specs.List.{flat_map}
use Rattle.std.proofs.lemmas.List.Elements.{All-nil, All-cons, All-append}
use Rattle.std.proofs.lemmas.List.Sorted.{IsPermutation-refl, IsPermutation-trans, IsPermutation-append_left}
use mathlib.Core.Option.{some, some-injective, some-ne-none}
use mathlib.Core.List.{IsPrefix}
use lib.ListN.{get_elem?}
use lib.Pointwise.{pointwise, bytes_decides}
use Rattle.crossbeam_utils.specs.Register.{Turns}
use Rattle.search_model.specs.declared.standing.Standing.{Standing}
use Rattle.search_model.specs.Order.{better}
use Rattle.search_model.proofs.Orders.{better_irreflexive}
use Rattle.incumbent_board.specs.declared.sight.Sight.{Sight}
use Rattle.incumbent_board.specs.History.{first_of, last_of, Rises, NoneBetter}
use Rattle.incumbent_board.specs.Words.{words_of, blank}
use Rattle.incumbent_board.specs.Rule.{ALL, sight, cell_of, FitsWords, Knows, IsKept, Sees, Looks, behind_with, Weighs, Places, Tries}
use Rattle.incumbent_board.proofs.Views.{each_set}
use Rattle.incumbent_board.proofs.Histories.{prefix_self, prefix_none, prefix_more, last_push, first_push, later_push, cell_push, rises_push, first_seen, some_seen, none_better_on, last_seen}
use Rattle.list_laws.proofs.Changed.{set_there, sum_by-set_at, flat_map-grown, flat_map-stays}
use Rattle.list_laws.proofs.Halves.{All-front, All-back}

-- the first view, which stands for all seats
pub begins : IsKept blank (sight ALL [] [] [] [] ∷ [])
begins = let v = sight ALL [] [] [] [] in record {
  history = [];
  rises = tt;
  fits = All-nil (FitsWords (first_of []));
  cell = refl;
  all = refl;
  whole = (0, v, refl, refl);
  placed = IsPermutation-refl [];
  each = λ port u at. only port u at;
}
  where
    only : (port : ℕ) (u : Sight) → get_elem? (sight ALL [] [] [] [] ∷ []) port ≡ some u → Knows [] u
    only zero u at = subst (λ (y : Sight). Knows [] y) (some-injective (sight ALL [] [] [] []) u at) (record {
      seen = prefix_none [];
      told = All-nil (λ (seen : List Standing). IsPrefix seen []);
      best = All-nil (λ t. better t (last_of []) ≡ false);
      none = λ no. absurd (omega (arith, no));
    })
    only (suc port) u at = absurd (some-ne-none u (sym at))

-- a step that leaves the words: the whole history is seen, and the offers that are behind may be more
pub sees : (port : ℕ) (v : Sight) (x : List ℕ) (views : List Sight) (behind : List Standing) → 0 < v.seats → (h : IsKept x views) → get_elem? views port ≡ some v → NoneBetter (v.placed ++ behind) (last_of h.history) →
    IsKept x (set views port (sight v.seats h.history v.told v.placed behind)) × Sees v x (sight v.seats h.history v.told v.placed behind)
sees port v x views behind some_seat h at best = let w = sight v.seats h.history v.told v.placed behind in (
  record {
    history = h.history;
    rises = h.rises;
    fits = h.fits;
    cell = h.cell;
    all = omega (arith, sum_by-set_at (λ (y : Sight). y.seats) views port v w at, h.all);
    whole = (port, w, set_there views port v w at, refl);
    placed = subst (λ (l : List Standing). IsPermutation (drop 1 h.history) l) (sym (flat_map-stays (λ (y : Sight). y.placed) views port v w at refl)) h.placed;
    each = each_set (Knows h.history) views port w (record {
      seen = prefix_self h.history;
      told = (h.each port v at).told;
      best = best;
      none = λ no. absurd (omega (arith, no));
    }) h.each;
  },
  record {
    seen = (h.each port v at).seen;
    told = (h.each port v at).told;
    rises = h.rises;
    fits = h.fits;
    cell = h.cell;
    best = best;
  },
)

pub looks : (port : ℕ) (v : Sight) → 0 < v.seats → Turns IsKept port v (λ x. x) Looks
looks port v some_seat x views h at =
    let w = sight v.seats h.history v.told v.placed v.behind in
    let k = sees port v x views v.behind some_seat h at (h.each port v at).best in
    (w, k.0, (k.1, refl))

-- none of the offers is better, nor is the one that is behind now
weighed : (s : Standing) (v : Sight) (history : List Standing) → NoneBetter (v.placed ++ v.behind) (last_of history) → NoneBetter (v.placed ++ behind_with s history v.behind) (last_of history)
weighed s v history best = go (better s (last_of history)) refl
  where
    go : (b : Bool) → better s (last_of history) ≡ b → NoneBetter (v.placed ++ (if b then v.behind else v.behind ++ s ∷ [])) (last_of history)
    go true is = best
    go false is =
        let P : Standing → Type 0 = λ t. better t (last_of history) ≡ false in
        subst (All P) (append_assoc v.placed v.behind (s ∷ [])) (All-append P (v.placed ++ v.behind) (s ∷ []) best (All-cons P s [] is (All-nil P)))

pub weighs : (s : Standing) (port : ℕ) (v : Sight) → 0 < v.seats → Turns IsKept port v (λ x. x) (Weighs s)
weighs s port v some_seat x views h at =
    let behind = behind_with s h.history v.behind in
    let w = sight v.seats h.history v.told v.placed behind in
    let k = sees port v x views behind some_seat h at (weighed s v h.history (h.each port v at).best) in
    (w, k.0, (k.1, refl))

-- a replace of what stands there by what is better
replaces : (s : Standing) (port : ℕ) (v : Sight) (x : List ℕ) (views : List Sight) → 0 < v.seats → (h : IsKept x views) → get_elem? views port ≡ some v → 0 < length h.history → FitsWords (first_of h.history) s →
    IsTrue (better s (last_of h.history)) → let w = sight v.seats (h.history ++ s ∷ []) v.told (v.placed ++ s ∷ []) v.behind in IsKept (words_of s) (set views port w) × Places s v w
replaces s port v x views some_seat h at begun fits up =
    let all = h.history ++ s ∷ [] in
    let w = sight v.seats all v.told (v.placed ++ s ∷ []) v.behind in
    let first : first_of all ≡ first_of h.history = first_push h.history s begun in
    let later : drop 1 all ≡ drop 1 h.history ++ s ∷ [] = later_push h.history s begun in
    let last : last_of all ≡ s = last_push h.history s in
    let rises : Rises (first_of all) (drop 1 all) = rises_push h.history s begun h.rises up in
    let older : (ts : List Standing) → NoneBetter ts (last_of h.history) → NoneBetter ts (last_of all) =
    λ ts best. subst (NoneBetter ts) (sym last) (none_better_on ts (last_of h.history) s up best) in
    let mine = h.each port v at in
    let P : Standing → Type 0 = λ t. better t (last_of all) ≡ false in
    let own : P s = ap (better s) last ∙ better_irreflexive s in
    let parts : NoneBetter (v.placed ++ v.behind) (last_of all) = older (v.placed ++ v.behind) mine.best in (
      record {
        history = all;
        rises = rises;
        fits = rw (first, later) (All-append (FitsWords (first_of h.history)) (drop 1 h.history) (s ∷ []) h.fits (All-cons (FitsWords (first_of h.history)) s [] fits (All-nil (FitsWords (first_of h.history)))));
        cell = sym (cell_push h.history s begun);
        all = omega (arith, sum_by-set_at (λ (y : Sight). y.seats) views port v w at, h.all);
        whole = (port, w, set_there views port v w at, refl);
        placed = subst (λ (l : List Standing). IsPermutation l (flat_map (λ (y : Sight). y.placed) (set views port w))) (sym later)
            (IsPermutation-trans _ _ _ (IsPermutation-append_left (s ∷ []) _ _ h.placed) (flat_map-grown (λ (y : Sight). y.placed) views port v w (s ∷ []) at refl));
        each = each_set (Knows all) views port w (record {
          seen = prefix_self all;
          told = λ k d below. prefix_more _ h.history (s ∷ []) (mine.told k d below);
          best = All-append P (v.placed ++ s ∷ []) v.behind (All-append P v.placed (s ∷ []) (All-front P v.placed v.behind parts) (All-cons P s [] own (All-nil P))) (All-back P v.placed v.behind parts);
          none = λ no. absurd (omega (arith, no));
        })
            (λ j u e. let k = h.each j u e in record {
              seen = prefix_more u.seen h.history (s ∷ []) k.seen;
              told = λ i d below. prefix_more _ h.history (s ∷ []) (k.told i d below);
              best = older (u.placed ++ u.behind) k.best;
              none = k.none;
            });
      },
      record {
        before = h.history;
        seen = mine.seen;
        rises = rises;
        better = up;
        after = refl;
      },
    )

pub tries : (expected : List ℕ) (s : Standing) (port : ℕ) (v : Sight) → 0 < v.seats → 0 < length v.seen → FitsWords (first_of v.seen) s → expected ≡ cell_of v.seen → IsTrue (better s (last_of v.seen)) →
    Turns IsKept port v (λ x. if pointwise nat_eq x expected then words_of s else x) (Tries expected s)
tries expected s port v some_seat begun fits shown up x views h at = go (pointwise nat_eq x expected) refl
  where
    go : (b : Bool) → pointwise nat_eq x expected ≡ b → (w : Sight) × IsKept (if b then words_of s else x) (set views port w) × MatchBool b (Places s v w) (Weighs s v x (if b then words_of s else x) w)
    go true is =
        let seen = (h.each port v at).seen in
        let same : cell_of h.history ≡ cell_of v.seen = sym h.cell ∙ (bytes_decides x expected).0 is ∙ shown in
        let last : last_of h.history ≡ last_of v.seen = last_seen v.seen h.history seen begun h.fits same in
        let first : first_of h.history ≡ first_of v.seen = first_seen v.seen h.history seen begun in
        let k = replaces s port v x views some_seat h at (some_seen v.seen h.history seen begun) (rw first fits) (rw last up) in
        (sight v.seats (h.history ++ s ∷ []) v.told (v.placed ++ s ∷ []) v.behind, k.0, k.1)
    go false is = weighs s port v some_seat x views h at
