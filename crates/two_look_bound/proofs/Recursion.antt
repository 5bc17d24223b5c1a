-- The rewards along a continuation, by way of pairs of positions, are those of the bound that remembers two looks.
use Rattle.std.proofs.Common.{ℕ, ◌+◌, ◌≡◌, List, [], ◌∷◌, length, refl, ap, Contains}
use Rattle.std.proofs.lemmas.List.Elements.{All-weaker, All-contains_itself}
use Rattle.list_laws.proofs.Agreeing.{map_agree}
use Rattle.search_model.specs.Problem.{Problem}
use Rattle.search_model.specs.Legal.{continuations}
use Rattle.search_model.specs.Tracks.{value_of}
use Rattle.search_model.specs.Bounds.{greatest}
use Rattle.search_model.specs.Memory.{reward_after, sum_remembering, remembering_of}
use Rattle.search_model.proofs.Remembering.{reward_after-none, reward_after-one}
use Rattle.two_look_bound.specs.Pairs.{two_reward_of, sum_pairs, two_sum, two_look_of}

-- from the third look on
after_two : (p : Problem) (q : List ℕ) (a b : ℕ) (recent : List ℕ) (t : ℕ) (y : List ℕ) → sum_remembering p 2 q (b ∷ a ∷ recent) t y ≡ sum_pairs (two_reward_of p q) t a b y
unfolding sum_remembering sum_pairs
after_two p q a b recent t [] = refl
after_two p q a b recent t (c ∷ y) = ap (λ (n : ℕ). reward_after p q (b ∷ a ∷ []) t c + n) (after_two p q b c (a ∷ recent) (t + 1) y)

sums_same : (p : Problem) (q y : List ℕ) → two_sum p q y ≡ sum_remembering p 2 q [] (length q + 1) y
unfolding sum_remembering
sums_same p q [] = refl
sums_same p q (a ∷ []) = rw (reward_after-none p q (length q + 1) a) refl
sums_same p q (a ∷ b ∷ y) =
    rw (reward_after-none p q (length q + 1) a, reward_after-one p q (length q + 1 + 1) a b, after_two p q a b [] (length q + 1 + 1 + 1) y) refl

pub remembering_two : (p : Problem) (q : List ℕ) → two_look_of p q ≡ remembering_of p 2 q
remembering_two p q =
    let ys = continuations p q in
    ap (λ (vs : List ℕ). value_of p q + greatest vs)
    (map_agree (two_sum p q) (sum_remembering p 2 q [] (length q + 1)) ys
    (All-weaker (Contains ys) (λ y. two_sum p q y ≡ sum_remembering p 2 q [] (length q + 1) y) (λ y _. sums_same p q y) ys (All-contains_itself ys)))
