-- A text that is appended piece by piece.
use Rattle.std.proofs.Common.{◌≡◌, ℕ, List, [], ◌++◌, sym, ◌∙◌, ap, append_assoc}
use Rattle.std.specs.Prelude.{Result, Ok, Err, OnErr}
use Rattle.std.proofs.lemmas.List.{append-nil}

-- a piece behind the others
pub then_more : (old mid new done piece : List ℕ) → mid ≡ old ++ done → new ≡ mid ++ piece → new ≡ old ++ (done ++ piece)
then_more old mid new done piece before more = more ∙ ap (λ (x : List ℕ). x ++ piece) before ∙ append_assoc old done piece

-- So much of a text stands behind the old bytes, and this of it is left.
pub record Stands (old now left text : List ℕ) : Type 0 where
  pub done : List ℕ
  pub appended : now ≡ old ++ done
  pub whole : text ≡ done ++ left

-- nothing yet
pub stands_first : {old left text : List ℕ} → text ≡ left → Stands old old left text
stands_first {old} {left} {text} e = record { done = []; appended = sym (append-nil old); whole = e }

-- the next piece
pub stands_next : {old mid now text : List ℕ} (piece left : List ℕ) → Stands old mid (piece ++ left) text → now ≡ mid ++ piece → Stands old now left text
stands_next {old} {mid} {now} {text} piece left s e = record {
  done = s.done ++ piece;
  appended = then_more old mid now s.done piece s.appended e;
  whole = s.whole ∙ sym (append_assoc s.done piece left);
}

-- all of it
pub stands_last : {old mid now piece text : List ℕ} → Stands old mid piece text → now ≡ mid ++ piece → now ≡ old ++ text
stands_last {old} {mid} {now} {piece} {text} s e =
    then_more old mid now s.done piece s.appended e ∙ ap (λ (x : List ℕ). old ++ x) (sym s.whole)

-- what a refused call leaves
pub at_refusal : {A E : Type 0} (r : Result A E) (P : Type 0) → P → OnErr r P
at_refusal (Ok _) P h = tt
at_refusal (Err _) P h = h
