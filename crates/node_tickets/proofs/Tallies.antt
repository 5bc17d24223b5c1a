-- What a draw adds to the numbers of a seat.
use Rattle.std.proofs.Common.{◌≡◌, ℕ, ◌+◌, ◌<◌, ◌≤◌, [], ◌∷◌, ◌++◌, sym, subst, ap, ◌∙◌}
use Rattle.node_tickets.specs.declared.draw.Draw.{Draw}
use Rattle.node_tickets.specs.declared.draw.Draw.TheVariants.{Number, Full}
use Rattle.node_tickets.specs.declared.hand.Hand.{Hand}
use Rattle.node_tickets.specs.Rule.{hand}
use Rattle.node_tickets.specs.Draws.{number_drawn, IfNumber, IfFull}
use Rattle.node_tickets.proofs.Numbers.{low_of, low_push_yes, low_push_no}

-- the view of a seat that drew one more
abbrev pub with_number : Hand → ℕ → Hand
with_number v n = hand v.stands_for v.limit (v.drawn ++ n ∷ [])

-- how many numbers below the limit a seat drew
abbrev pub low_by : Hand → ℕ
low_by v = low_of v.limit v.drawn

-- one more where it is below the limit
pub number_counts : (d : Draw) (limit n : ℕ) (v w : Hand) → v.limit ≡ limit → w ≡ with_number v n → number_drawn d ≡ n → IfNumber d (λ x. x < limit) → IfNumber d (λ _. low_by w ≡ low_by v + 1)
number_counts (Number x) limit n v w same drawn is low =
    ap low_by (drawn ∙ ap (with_number v) (sym is)) ∙ low_push_yes v.limit v.drawn x (subst (λ (l : ℕ). x < l) (sym same) low)
number_counts (Full x) limit n v w same drawn is low = tt

-- no more where it isn't
pub full_counts : (d : Draw) (limit n : ℕ) (v w : Hand) → v.limit ≡ limit → w ≡ with_number v n → number_drawn d ≡ n → IfFull d (λ x. limit ≤ x) → IfFull d (λ _. low_by w ≡ low_by v)
full_counts (Number x) limit n v w same drawn is high = tt
full_counts (Full x) limit n v w same drawn is high =
    ap low_by (drawn ∙ ap (with_number v) (sym is)) ∙ low_push_no v.limit v.drawn x (subst (λ (l : ℕ). l ≤ x) (sym same) high)
