-- The paths of the scenario that forces a prefix, and those that begin with the prefix.
use Rattle.std.proofs.Common.{ℕ, zero, suc, ◌+◌, ◌<◌, ◌≤◌, ◌≡◌, ◌↔◌, List, [], ◌∷◌, ◌++◌, length, map, take, drop, refl, sym, ap, ◌∙◌, subst, arith, All, Contains, length-append}
use Rattle.std.specs.List.{range_with_len}
use Rattle.std.proofs.lemmas.List.{length-map, map-append}
use Rattle.std.proofs.lemmas.List.Elements.{All-head, All-tail}
use Rattle.std.proofs.lemmas.List.FromFn.{length-range_with_len}
use Rattle.std.proofs.Math.Seq.{drop-append_seam}
use Rattle.list_laws.proofs.Members.{Contains-head}
use Rattle.search_grid.specs.Moves.{moves_from}
use Rattle.search_model.specs.Problem.{Problem, IsProblem}
use Rattle.search_model.specs.Legal.{last_of, Follows, IsLegal}
use Rattle.search_model.proofs.LegalLemmas.{move_within, last_within, follows_within}
use Rattle.search_model.proofs.Orders.{smaller_front}
use Rattle.search_model.proofs.WalkLemmas.{follows-append}
use Rattle.residual_plan.specs.Forced.{source_of, forced_moves, forced_path}
use Rattle.residual_plan.specs.Laws.{ForcedPathsBegin, BeginningsAreForced, ForcedOrderStays}
use Rattle.residual_plan.proofs.Places.{source_own, source_after}
use Rattle.residual_plan.proofs.MoveCases.{rows_own, rows_flown, rows_end, move_flown}

-- the places after one period, two periods and so on are the list itself
places_are : (s : ℕ) (xs : List ℕ) (h : ℕ → ℕ) (a : ℕ) → ((i : ℕ) → h (a + i) ≡ last_of s (take i xs)) → map h (range_with_len (a + 1) (length xs)) ≡ xs
places_are s [] h a each = refl
places_are s (b ∷ xs) h a each =
    let rest : map h (range_with_len (a + 1 + 1) (length xs)) ≡ xs = places_are b xs h (a + 1) (λ i. ap h (omega arith) ∙ each (suc i)) in
    ap (λ (ys : List ℕ). h (a + 1) ∷ ys) rest ∙ ap (λ c. c ∷ xs) (each 1)

module _ (p : Problem) (flown : List ℕ) where
  sources_flown : map (source_of p flown) (range_with_len (p.positions + 1) (length flown)) ≡ flown
  sources_flown = places_are p.start flown (source_of p flown) p.positions (source_after p flown)

  sources_own : (y : List ℕ) → All (λ b. b < p.positions) y → map (source_of p flown) y ≡ y
  sources_own [] within = refl
  sources_own (b ∷ y) within =
      let first : source_of p flown b ≡ b = source_own p flown b (All-head (λ b. b < p.positions) b y within) in
      let rest : map (source_of p flown) y ≡ y = sources_own y (All-tail (λ b. b < p.positions) b y within) in
      ap (λ (ys : List ℕ). source_of p flown b ∷ ys) rest ∙ ap (λ c. c ∷ y) first

  -- the flown positions come first, one after the other
  flown_first : (n a : ℕ) (z : List ℕ) → p.positions ≤ a → a + n ≡ p.positions + length flown → n ≤ length z → Follows (forced_moves p flown) a z →
      (range_with_len (a + 1) n ++ drop n z ≡ z) × Follows (forced_moves p flown) (p.positions + length flown) (drop n z)
  flown_first zero a z past all long follows = (refl, subst (λ b. Follows (forced_moves p flown) b z) (omega (arith, all)) follows)
  flown_first (suc n) a [] past all long follows = absurd (omega (arith, long))
  flown_first (suc n) a (b ∷ z) past all long follows =
      let next : b ≡ a + 1 = move_flown p flown a b past (omega (arith, all)) follows.0 in
      let rest = flown_first n (a + 1) z (omega (arith, past)) (omega (arith, all)) (omega (arith, long)) (subst (λ c. Follows (forced_moves p flown) c z) next follows.1) in
      (ap (λ (ys : List ℕ). (a + 1) ∷ ys) rest.0 ∙ ap (λ c. c ∷ z) (sym next), rest.1)

  first_flown : (n a : ℕ) (y : List ℕ) → p.positions ≤ a → a + n ≡ p.positions + length flown → Follows (forced_moves p flown) (p.positions + length flown) y →
      Follows (forced_moves p flown) a (range_with_len (a + 1) n ++ y)
  first_flown zero a y past all follows = subst (λ b. Follows (forced_moves p flown) b y) (omega (arith, all)) follows
  first_flown (suc n) a y past all follows =
      let row = rows_flown p flown a past (omega (arith, all)) in (
        subst (λ r. Contains r (a + 1)) (sym row) (Contains-head (a + 1) []),
        first_flown n (a + 1) y (omega (arith, past)) (omega (arith, all)) follows,
      )

  module _ (sound : IsProblem p) where
    -- among the positions of p the moves are those of p
    follows_own : (y : List ℕ) (a : ℕ) → a < p.positions → Follows (forced_moves p flown) a y ↔ Follows p.moves a y
    follows_own [] a own = (λ _. tt, λ _. tt)
    follows_own (b ∷ y) a own =
        let row = rows_own p flown a own in
        let within : Contains (moves_from p.moves a) b → b < p.positions = λ move. omega (arith, move_within p.moves sound.grid a b (omega (arith, own, sound.grid_positions)) move, sound.grid_positions) in (
          (λ f. let move = subst (λ r. Contains r b) row f.0 in (move, (follows_own y b (within move)).0 f.1)),
          λ f. (subst (λ r. Contains r b) (sym row) f.0, (follows_own y b (within f.0)).1 f.1),
        )

    -- where the prefix is flown to its end they go on from there
    follows_end : (y : List ℕ) → IsLegal p flown → Follows (forced_moves p flown) (p.positions + length flown) y ↔ Follows p.moves (last_of p.start flown) y
    follows_end [] legal = (λ _. tt, λ _. tt)
    follows_end (b ∷ y) legal =
        let row = rows_end p flown in
        let last = last_within p.moves sound.grid p.start (omega (arith, sound.start, sound.grid_positions)) flown legal.follows in
        let within : Contains (moves_from p.moves (last_of p.start flown)) b → b < p.positions = λ move. omega (arith, move_within p.moves sound.grid (last_of p.start flown) b last move, sound.grid_positions) in (
          (λ f. let move = subst (λ r. Contains r b) row f.0 in (move, (follows_own y b (within move)).0 f.1)),
          λ f. (subst (λ r. Contains r b) (sym row) f.0, (follows_own y b (within f.0)).1 f.1),
        )

    -- what goes on from the prefix stands for itself, and the flown positions for the prefix
    taken_back : (y : List ℕ) → IsLegal p flown → Follows p.moves (last_of p.start flown) y → map (source_of p flown) (range_with_len (p.positions + 1) (length flown) ++ y) ≡ flown ++ y
    taken_back y legal follows =
        let start : p.start < length p.moves = omega (arith, sound.start, sound.grid_positions) in
        let last = last_within p.moves sound.grid p.start start flown legal.follows in
        let within : All (λ b. b < p.positions) y = rw (← sound.grid_positions) (follows_within p.moves sound.grid (last_of p.start flown) last y follows) in
        map-append (source_of p flown) (range_with_len (p.positions + 1) (length flown)) y ∙ rw (sources_flown, sources_own y within) refl

pub paths_begin : ForcedPathsBegin
paths_begin p q flown z sound legal forced path =
    let k : ℕ = length flown in
    let from_start : Follows (forced_moves p flown) p.positions z =
    subst (λ a. Follows (forced_moves p flown) a z) forced.start (subst (λ rows. Follows rows q.start z) forced.moves path.follows) in
    let long : length z ≡ p.horizon = path.whole ∙ forced.target.horizon in
    let parts = flown_first p flown k p.positions z (omega arith) refl (omega (arith, long, legal.short)) from_start in
    let rest : Follows p.moves (last_of p.start flown) (drop k z) = (follows_end p flown sound (drop k z) legal).0 parts.1 in
    let back : map (source_of p flown) z ≡ flown ++ drop k z = ap (map (source_of p flown)) (sym parts.0) ∙ taken_back p flown sound (drop k z) legal rest in
    let follows : Follows p.moves p.start (flown ++ drop k z) = (follows-append p.moves p.start flown (drop k z)).1 (legal.follows, rest) in (
      record { follows = rw back follows; whole = rw length-map long },
      (drop k z, back),
      ap (λ y. range_with_len (p.positions + 1) k ++ drop k y) back ∙ ap (λ y. range_with_len (p.positions + 1) k ++ y) (drop-append_seam flown (drop k z)) ∙ parts.0,
    )

pub beginnings_are_forced : BeginningsAreForced
beginnings_are_forced p q flown y sound legal forced path (rest, is) =
    let k : ℕ = length flown in
    let cut : drop k y ≡ rest = ap (drop k) is ∙ drop-append_seam flown rest in
    let made : forced_path p flown y ≡ range_with_len (p.positions + 1) k ++ rest = ap (λ x. range_with_len (p.positions + 1) k ++ x) cut in
    let parts = (follows-append p.moves p.start flown rest).0 (subst (Follows p.moves p.start) is path.follows) in
    let goes_on = (follows_end p flown sound rest legal).1 parts.1 in
    let follows : Follows (forced_moves p flown) p.positions (range_with_len (p.positions + 1) k ++ rest) = first_flown p flown k p.positions rest (omega arith) refl goes_on in
    let size : length (range_with_len (p.positions + 1) k ++ rest) ≡ length y =
    length-append (range_with_len (p.positions + 1) k) rest ∙ ap (λ n. n + length rest) (length-range_with_len (p.positions + 1) k) ∙ sym (ap length is ∙ length-append flown rest) in (
      record { follows = rw (made, forced.start, forced.moves) follows; whole = ap length made ∙ size ∙ path.whole ∙ sym forced.target.horizon },
      ap (map (source_of p flown)) made ∙ taken_back p flown sound rest legal parts.1 ∙ sym is,
    )

pub order_stays : ForcedOrderStays
order_stays p flown y z (a, y_is) (b, z_is) =
    let k : ℕ = length flown in
    let first : drop k y ≡ a = ap (drop k) y_is ∙ drop-append_seam flown a in
    let second : drop k z ≡ b = ap (drop k) z_is ∙ drop-append_seam flown b in
    smaller_front (range_with_len (p.positions + 1) k) (drop k y) (drop k z) ∙ rw (first, second) refl ∙ sym (smaller_front flown a b) ∙ rw (y_is, z_is) refl
