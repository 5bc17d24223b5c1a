-- Draws, one after the other.
use Rattle.std.proofs.Common.{ℕ, zero, suc, ◌+◌, ◌<◌, ◌≤◌, ◌≡◌, List, [], ◌∷◌, ◌++◌, length, replicate, refl, sym, ap, ◌∙◌, arith, add-one}
use Rattle.std.specs.Prelude.{All, slice_index, take, drop}
use Rattle.std.specs.List.{AllZip, AllByRecursion as ByRecursion}
use Rattle.std.proofs.Math.ListN.{length-replicate}
use Rattle.std.proofs.Math.Seq.{take-append_seam}
use Rattle.std.proofs.lemmas.List.{replicate-append-replicate}
use Rattle.std.proofs.lemmas.List.Elements.{All-nil, All-cons, All-append, All-replicate, All-from_recursion, recursion_from_All}
use Rattle.scenario_maker.specs.Generator.{next, state_after, draw_below, draws_below}
use Rattle.scenario_maker.specs.Laws.{DrawsWithinBounds}
use Rattle.scenario_maker.specs.Made.{bounds, draws_of, start_of, part_cells, spread_of, overlook_of}

-- one step more
steps : (k x : ℕ) → state_after (suc k) x ≡ next (state_after k x)
unfolding state_after
steps zero x = refl
steps (suc k) x = steps k (next x)

pub state_after-more : (k x : ℕ) → state_after (k + 1) x ≡ next (state_after k x)
state_after-more k x = rw (add-one k) (steps k x)

-- the draws of a longer list of bounds
draws_below-append : (ms ns : List ℕ) (x : ℕ) → draws_below (ms ++ ns) x ≡ draws_below ms x ++ draws_below ns (state_after (length ms) x)
unfolding draws_below state_after
draws_below-append [] ns x = refl
draws_below-append (m ∷ ms) ns x = ap (λ (ds : List ℕ). draw_below m x ∷ ds) (draws_below-append ms ns (next x))

-- there are as many as bounds
length-draws_below : (ms : List ℕ) (x : ℕ) → length (draws_below ms x) ≡ length ms
unfolding draws_below
length-draws_below [] x = refl
length-draws_below (m ∷ ms) x = ap suc (length-draws_below ms (next x))

-- a draw is below its bound
pub draw_below-lt : (m x : ℕ) → 1 ≤ m → draw_below m x < m
unfolding draw_below
draw_below-lt m x some = omega arith

-- draws below one bound are below it
pub All-draws : (k m x : ℕ) → 1 ≤ m → All (λ d. d < m) (draws_below (replicate k m) x)
unfolding draws_below
All-draws zero m x some = All-nil (λ d. d < m)
All-draws (suc k) m x some = All-cons (λ d. d < m) (draw_below m x) (draws_below (replicate k m) (next x)) (draw_below-lt m x some) (All-draws k m (next x) some)

-- one draw more
pub draws_more : (k m x : ℕ) → draws_below (replicate (k + 1) m) x ≡ draws_below (replicate k m) x ++ draw_below m (state_after k x) ∷ []
unfolding draws_below
draws_more k m x =
    ap (λ (ms : List ℕ). draws_below ms x) (sym (replicate-append-replicate k 1 m))
    ∙ draws_below-append (replicate k m) (m ∷ []) x
    ∙ ap (λ j. draws_below (replicate k m) x ++ draw_below m (state_after j x) ∷ []) (length-replicate k m)

pub length-same_draws : (k m x : ℕ) → length (draws_below (replicate k m) x) ≡ k
length-same_draws k m x = length-draws_below (replicate k m) x ∙ length-replicate k m

-- what stands behind a list
at_end : (xs : List ℕ) (b : ℕ) (rest : List ℕ) → slice_index (xs ++ b ∷ rest) (length xs) ≡ b
at_end [] b rest = refl
at_end (x ∷ xs) b rest = at_end xs b rest

after_end : (xs : List ℕ) (b c : ℕ) (rest : List ℕ) → slice_index (xs ++ b ∷ c ∷ rest) (suc (length xs)) ≡ c
after_end [] b c rest = refl
after_end (x ∷ xs) b c rest = after_end xs b c rest

-- a draw below m, then k more, and then one below a and one below b
module _ (k m a b x : ℕ) where
  same : List ℕ
  same = draws_below (replicate k m) (next x)

  first : ℕ
  first = draw_below a (state_after k (next x))

  second : ℕ
  second = draw_below b (next (state_after k (next x)))

  all : List ℕ
  all = draws_below (m ∷ (replicate k m ++ a ∷ b ∷ [])) x

  in_order : all ≡ draw_below m x ∷ (same ++ first ∷ second ∷ [])
  unfolding draws_below all same first second
  in_order =
      ap (λ (ds : List ℕ). draw_below m x ∷ ds) (draws_below-append (replicate k m) (a ∷ b ∷ []) (next x)
      ∙ ap (λ j. draws_below (replicate k m) (next x) ++ draw_below a (state_after j (next x)) ∷ draw_below b (next (state_after j (next x))) ∷ []) (length-replicate k m))

  long : length same ≡ k
  unfolding same
  long = length-same_draws k m (next x)

  same_drawn : take k (drop 1 all) ≡ same
  same_drawn = ap (λ (ds : List ℕ). take k (drop 1 ds)) in_order ∙ ap (λ j. take j (same ++ first ∷ second ∷ [])) (sym long) ∙ take-append_seam same (first ∷ second ∷ [])

  first_drawn : slice_index all (suc k) ≡ first
  first_drawn = ap (λ (ds : List ℕ). slice_index ds (suc k)) in_order ∙ ap (λ j. slice_index (same ++ first ∷ second ∷ []) j) (sym long) ∙ at_end same first (second ∷ [])

  second_drawn : slice_index all (suc (suc k)) ≡ second
  second_drawn = ap (λ (ds : List ℕ). slice_index ds (suc (suc k))) in_order ∙ ap (λ j. slice_index (same ++ first ∷ second ∷ []) (suc j)) (sym long) ∙ after_end same first second []

-- the draws of a number
pub start_is : (x : ℕ) → start_of x ≡ draw_below 25 x
unfolding start_of draws_of bounds draws_below
start_is x = refl

pub part_cells_is : (x : ℕ) → part_cells x ≡ draws_below (replicate 60 25) (next x)
unfolding part_cells draws_of bounds all same
part_cells_is x = same_drawn 60 25 3 4 x

pub spread_is : (x : ℕ) → spread_of x ≡ 1 + draw_below 3 (state_after 60 (next x))
unfolding spread_of draws_of bounds all first
spread_is x = ap (λ d. 1 + d) (first_drawn 60 25 3 4 x)

pub overlook_is : (x : ℕ) → overlook_of x ≡ 1 + draw_below 4 (next (state_after 60 (next x)))
unfolding overlook_of draws_of bounds all second
overlook_is x = ap (λ d. 1 + d) (second_drawn 60 25 3 4 x)

-- each draw is below its bound
within : (ms : List ℕ) (x : ℕ) → ByRecursion (λ m. 1 ≤ m) ms → AllZip (λ d m. d < m) (draws_below ms x) ms
unfolding draws_below
within [] x some = tt
within (m ∷ ms) x some = (draw_below-lt m x some.0, within ms (next x) some.1)

pub draws_within_bounds : DrawsWithinBounds
unfolding draws_of bounds
draws_within_bounds number =
    let some = All-append (λ m. 1 ≤ m) (replicate 60 25) (3 ∷ 4 ∷ []) (All-replicate (λ m. 1 ≤ m) 60 25 (omega arith)) (All-from_recursion (λ m. 1 ≤ m) (3 ∷ 4 ∷ []) (omega arith, (omega arith, tt))) in
    within bounds number (omega arith, recursion_from_All (λ m. 1 ≤ m) (replicate 60 25 ++ 3 ∷ 4 ∷ []) some)
