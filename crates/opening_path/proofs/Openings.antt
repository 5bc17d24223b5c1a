-- A greedy searcher's prefix, period by period.
use Rattle.std.proofs.Common.{ℕ, ◌+◌, ◌<◌, ◌≡◌, List, [], ◌∷◌, ◌++◌, length, take, get_or, refl, sym, ap, subst, ◌∙◌, inl, inr, ◌-◌, arith, Contains, length-append}
use Rattle.std.proofs.lemmas.Bool.{cases_lt}
use Rattle.std.proofs.lemmas.List.{take-append-le, get_or_append_left, get_or-append_right}
use Rattle.std.proofs.lemmas.List.Elements.{All-contains}
use Rattle.std.proofs.Math.Seq.{take-append_seam, take-length}
use Rattle.search_grid.specs.Moves.{IsMoveRow}
use Rattle.search_model.specs.Problem.{Problem, IsProblem}
use Rattle.search_model.specs.Legal.{last_of, moves_after, Follows}
use Rattle.search_model.specs.Opening.{TakesLeastBest, IsOpening}
use Rattle.search_model.proofs.LegalLemmas.{last_within}
use Rattle.search_model.proofs.WalkLemmas.{follows-append}
use Rattle.opening_path.specs.Greedy.{LeavesLess, LeavesLeast, IsOpened}
use Rattle.opening_path.proofs.GreedySteps.{less_is_better}

-- the moves after a prefix are some, ascending positions
pub moves_row : (p : Problem) (q : List ℕ) → IsProblem p → Follows p.moves p.start q → IsMoveRow p.positions (moves_after p q)
moves_row p q sound follows =
    let last = last_within p.moves sound.grid p.start (omega (arith, sound.start, sound.grid_positions)) q follows in
    subst (λ n. IsMoveRow n (moves_after p q)) sound.grid_positions (sound.grid.each (last_of p.start q) last)

-- a move is a position
pub move_is_position : (p : Problem) (q : List ℕ) (a : ℕ) → IsProblem p → Follows p.moves p.start q → Contains (moves_after p q) a → a < p.positions
move_is_position p q a sound follows move = All-contains (λ m. m < p.positions) (moves_after p q) a (moves_row p q sound follows).within move

-- the empty prefix
pub opened-nil : (p : Problem) → IsOpened p []
opened-nil p = record { follows = tt; steps = λ k h. absurd (omega arith) }

-- earlier steps stay in a longer prefix
step_kept : (p : Problem) (q : List ℕ) (a k : ℕ) → k < length q → TakesLeastBest p q k → TakesLeastBest p (q ++ a ∷ []) k
step_kept p q a k inside step =
    let before : take k (q ++ a ∷ []) ≡ take k q = take-append-le k q (a ∷ []) (omega arith) in
    let here : take (k + 1) (q ++ a ∷ []) ≡ take (k + 1) q = take-append-le (k + 1) q (a ∷ []) (omega arith) in
    let at : get_or (q ++ a ∷ []) k 0 ≡ get_or q k 0 = get_or_append_left q (a ∷ []) 0 k inside in
    rw (before, here, at) step

-- the last step is the move that leaves the least
step_made : (p : Problem) → IsProblem p → (q : List ℕ) (a : ℕ) → length q < p.horizon → LeavesLeast p q (moves_after p q) a → TakesLeastBest p (q ++ a ∷ []) (length q)
step_made p sound q a short best =
    let before : take (length q) (q ++ a ∷ []) ≡ q = take-append_seam q (a ∷ []) in
    let long : length q + 1 ≡ length (q ++ a ∷ []) = sym (length-append q (a ∷ [])) in
    let here : take (length q + 1) (q ++ a ∷ []) ≡ q ++ a ∷ [] = ap (λ (n : ℕ). take n (q ++ a ∷ [])) long ∙ take-length (q ++ a ∷ []) in
    let at : get_or (q ++ a ∷ []) (length q) 0 ≡ a = get_or-append_right q (a ∷ []) (length q) (length q) 0 refl (omega arith) ∙ (let none : length q - length q ≡ 0 = omega arith in rw none refl) in
    rw (before, here, at) (λ b move. less_is_better p sound q a b short (All-contains (LeavesLess p q a) (moves_after p q) b best.least move))

-- a longer prefix
pub opened_further : (p : Problem) → IsProblem p → (q : List ℕ) (a : ℕ) → length q < p.horizon → IsOpened p q → LeavesLeast p q (moves_after p q) a → IsOpened p (q ++ a ∷ [])
opened_further p sound q a short opened best = record {
  follows = (follows-append p.moves p.start q (a ∷ [])).1 (opened.follows, (best.move, tt));
  steps = λ k h.
      let within : k < length q + 1 = omega (arith, h, length-append q (a ∷ [])) in
      elim (cases_lt k (length q)) [
        | inl earlier ↦ step_kept p q a k earlier (opened.steps k earlier)
        | inr last ↦ let here : length q ≡ k = omega arith in subst (TakesLeastBest p (q ++ a ∷ [])) here (step_made p sound q a short best)
      ];
}

-- a prefix as long as the horizon
pub opened_whole : (p : Problem) (q : List ℕ) → IsOpened p q → length q ≡ p.horizon → IsOpening p q
opened_whole p q opened whole = record {
  path = record { follows = opened.follows; whole = whole };
  steps = λ k h. opened.steps k (omega (arith, whole));
}
