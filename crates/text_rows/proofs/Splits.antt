-- The pieces of a text.
use Rattle.std.proofs.Common.{◌≡◌, ℕ, false, eqb, eq-eqb, List, [], ◌∷◌, ◌++◌, length, refl, sym, subst, arith, inl, inr}
use Rattle.std.specs.Prelude.{All}
use Rattle.std.specs.List.{slice_split, onto_first, join_with_byte}
use Rattle.std.proofs.lemmas.Bool.{ne_eqb, cases_eq}
use Rattle.std.proofs.lemmas.List.Elements.{All-nil, All-cons, All-head, All-tail, All-weaker}
use Rattle.std.proofs.lemmas.List.Splits.{length-slice_split, slice_split_at, slice_split_none, join_with_byte-slice_split}
use Rattle.text_rows.specs.Lines.{HasNo, split_at}

-- a byte that stops no piece goes in front of the first
pub split_more : (at c : ℕ) (cs : List ℕ) → (c ≡ at → ⊥) → split_at at (c ∷ cs) ≡ onto_first c (split_at at cs)
unfolding split_at
split_more at c cs ne = rw (ne_eqb c at ne) refl

pub split_here : (at : ℕ) (cs : List ℕ) → split_at at (at ∷ cs) ≡ [] ∷ split_at at cs
unfolding split_at
split_here at cs = rw (eq-eqb at at refl) refl

pub split_nothing : (at : ℕ) → split_at at [] ≡ [] ∷ []
unfolding split_at
split_nothing at = refl

none_stops : (at : ℕ) (piece : List ℕ) → HasNo at piece → All (λ c. eqb c at ≡ false) piece
none_stops at piece free = All-weaker (λ (c : ℕ). c ≡ at → ⊥) (λ (c : ℕ). eqb c at ≡ false) (λ c ne. ne_eqb c at ne) piece free

-- a piece in front of a byte that stops it
pub split_piece : (at : ℕ) (piece rest : List ℕ) → HasNo at piece → split_at at (piece ++ at ∷ rest) ≡ piece ∷ split_at at rest
unfolding split_at
split_piece at piece rest free = slice_split_at (λ c. eqb c at) piece at rest (none_stops at piece free) (eq-eqb at at refl)

-- a text without such a byte is one piece
pub split_whole : (at : ℕ) (piece : List ℕ) → HasNo at piece → split_at at piece ≡ piece ∷ []
unfolding split_at
split_whole at piece free = slice_split_none (λ c. eqb c at) piece (none_stops at piece free)

-- a text has a piece
pub some_piece : (at : ℕ) (text : List ℕ) → eqb (length (split_at at text)) 0 ≡ false
unfolding split_at
some_piece at text = let long = length-slice_split (λ c. eqb c at) text in ne_eqb (length (slice_split (λ c. eqb c at) text)) 0 (λ e. omega (arith, long))

-- where a piece ends is told by a byte that it doesn't hold
pub split_once : (at : ℕ) (xs ys us vs : List ℕ) → HasNo at xs → HasNo at ys → xs ++ at ∷ us ≡ ys ++ at ∷ vs → (xs ≡ ys) × (us ≡ vs)
split_once at [] [] us vs free free' e = (refl, cc)
split_once at [] (y ∷ ys) us vs free free' e = absurd (All-head (λ b. b ≡ at → ⊥) y ys free' (let same : y ≡ at = cc in same))
split_once at (x ∷ xs) [] us vs free free' e = absurd (All-head (λ b. b ≡ at → ⊥) x xs free (let same : x ≡ at = cc in same))
split_once at (x ∷ xs) (y ∷ ys) us vs free free' e =
    let rest : xs ++ at ∷ us ≡ ys ++ at ∷ vs = cc in
    let head : x ≡ y = cc in
    let parts = split_once at xs ys us vs (All-tail (λ b. b ≡ at → ⊥) x xs free) (All-tail (λ b. b ≡ at → ⊥) y ys free') rest in
    let tail : xs ≡ ys = parts.0 in
    (cc, parts.1)

-- the pieces, joined by the byte that stops them, are the text
pub split_joined : (at : ℕ) (text : List ℕ) → join_with_byte at (split_at at text) ≡ text
unfolding split_at
split_joined at text = join_with_byte-slice_split at text

-- no piece has such a byte
onto_first_free : (at c : ℕ) (pieces : List (List ℕ)) → (c ≡ at → ⊥) → All (HasNo at) pieces → All (HasNo at) (onto_first c pieces)
onto_first_free at c [] other h = All-cons (HasNo at) (c ∷ []) [] (All-cons (λ (b : ℕ). b ≡ at → ⊥) c [] other (All-nil (λ (b : ℕ). b ≡ at → ⊥))) h
onto_first_free at c (piece ∷ pieces) other h =
    All-cons (HasNo at) (c ∷ piece) pieces (All-cons (λ (b : ℕ). b ≡ at → ⊥) c piece other (All-head (HasNo at) piece pieces h)) (All-tail (HasNo at) piece pieces h)

pub split_free : (at : ℕ) (text : List ℕ) → All (HasNo at) (split_at at text)
split_free at [] = subst (All (HasNo at)) (sym (split_nothing at)) (All-cons (HasNo at) [] [] (All-nil (λ (b : ℕ). b ≡ at → ⊥)) (All-nil (HasNo at)))
split_free at (c ∷ cs) = elim (cases_eq c at) [
  | inl here ↦ subst (λ (b : ℕ). All (HasNo at) (split_at at (b ∷ cs))) (sym here) (subst (All (HasNo at)) (sym (split_here at cs)) (All-cons (HasNo at) [] (split_at at cs) (All-nil (λ (b : ℕ). b ≡ at → ⊥)) (split_free at cs)))
  | inr other ↦ subst (All (HasNo at)) (sym (split_more at c cs other)) (onto_first_free at c (split_at at cs) other (split_free at cs))
]
