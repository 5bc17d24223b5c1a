-- A byte more of the text that a feed was fed.
use Rattle.std.proofs.Common.{◌≡◌, ℕ, List, [], ◌∷◌, ◌++◌, sym, ap, ◌∙◌, append_assoc}
use Rattle.text_rows.specs.Lines.{lines_text}

-- one line more
pub lines_more : (before : List (List ℕ)) (line rest : List ℕ) → lines_text (before ++ line ∷ []) ++ rest ≡ lines_text before ++ (line ++ 10 ∷ rest)
lines_more [] line rest = simp append_assoc
lines_more (first ∷ before) line rest =
    append_assoc (first ++ 10 ∷ []) (lines_text (before ++ line ∷ [])) rest ∙ ap (λ (x : List ℕ). (first ++ 10 ∷ []) ++ x) (lines_more before line rest) ∙ sym (append_assoc (first ++ 10 ∷ []) (lines_text before) (line ++ 10 ∷ rest))

-- where a byte and more follows what was fed
pub text_more : (fed begun : List ℕ) (before : List (List ℕ)) (c : ℕ) (more : List ℕ) → fed ≡ lines_text before ++ begun → (fed ++ c ∷ []) ++ more ≡ lines_text before ++ (begun ++ c ∷ more)
text_more fed begun before c more whole = ap (λ (t : List ℕ). (t ++ c ∷ []) ++ more) whole ∙ simp append_assoc
