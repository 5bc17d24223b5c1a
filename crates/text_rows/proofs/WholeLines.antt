-- The lines that have their line feed, and what follows them.
use Rattle.std.proofs.Common.{◌≡◌, ℕ, suc, ◌-◌, ◌≤◌, List, [], ◌∷◌, ◌++◌, length, take, refl, sym, ap, ◌∙◌, arith, append_assoc, ◌⊎◌, inl, inr}
use Rattle.std.specs.Prelude.{All}
use Rattle.std.proofs.lemmas.Bool.{cases_eq, eqb-false}
use Rattle.std.proofs.lemmas.List.Elements.{All-nil, All-cons, All-head, All-tail}
use Rattle.text_rows.specs.Lines.{HasNoFeed, lines_text, pieces_of, after_lines}
use Rattle.text_rows.specs.WholeLines.{whole_lines}
use Rattle.text_rows.proofs.Splits.{split_piece, split_whole, some_piece}
use Rattle.text_rows.proofs.LineCuts.{after_none, after_lines-line}

-- the first line of a text, where it has its line feed
pub whole_line : (text line after : List ℕ) → text ≡ line ++ 10 ∷ after → HasNoFeed line → whole_lines text ≡ line ∷ whole_lines after
unfolding whole_lines
whole_line text line after is free =
    let cut : pieces_of text ≡ line ∷ pieces_of after = ap pieces_of is ∙ split_piece 10 line after free in
    let some : 1 ≤ length (pieces_of after) = let none = eqb-false (length (pieces_of after)) 0 (some_piece 10 after) in omega (arith, none) in
    let long = ap length cut in
    let count : length (pieces_of text) - 1 ≡ suc (length (pieces_of after) - 1) = omega (arith, long, some) in
    ap (λ (n : ℕ). take n (pieces_of text)) count ∙ ap (take (suc (length (pieces_of after) - 1))) cut

-- a text without a line feed has no such line
pub no_whole_line : (text : List ℕ) → HasNoFeed text → whole_lines text ≡ []
unfolding whole_lines
no_whole_line text free = ap (λ (ps : List (List ℕ)). take (length ps - 1) ps) (split_whole 10 text free)

-- such lines at the front of a text are its first ones
pub lines_before : (before : List (List ℕ)) (rest : List ℕ) → All HasNoFeed before → whole_lines (lines_text before ++ rest) ≡ before ++ whole_lines rest
lines_before [] rest feeds = refl
lines_before (line ∷ before) rest feeds =
    whole_line _ line (lines_text before ++ rest) (simp append_assoc) (All-head HasNoFeed line before feeds) ∙ ap (λ (ls : List (List ℕ)). line ∷ ls) (lines_before before rest (All-tail HasNoFeed line before feeds))

-- and what follows them is the rest
pub after_before : (before : List (List ℕ)) (rest : List ℕ) → All HasNoFeed before → after_lines (length before) (lines_text before ++ rest) ≡ rest
after_before [] rest feeds = sym (after_none rest)
after_before (line ∷ before) rest feeds =
    let begins : lines_text (line ∷ before) ++ rest ≡ line ++ 10 ∷ (lines_text before ++ rest) = simp append_assoc in
    ap (after_lines (suc (length before))) begins ∙ after_lines-line (length before) line _ (All-head HasNoFeed line before feeds) ∙ after_before before rest (All-tail HasNoFeed line before feeds)

-- a text that has a line feed
record HasFeed (text : List ℕ) : Type 0 where
  line : List ℕ
  rest : List ℕ
  whole : text ≡ line ++ 10 ∷ rest
  free : HasNoFeed line

feed_or_none : (text : List ℕ) → HasNoFeed text ⊎ HasFeed text
feed_or_none [] = inl (All-nil (λ (b : ℕ). b ≡ 10 → ⊥))
feed_or_none (c ∷ cs) = elim (cases_eq c 10) [
  | inl here ↦ inr (record { line = []; rest = cs; whole = ap (λ (b : ℕ). b ∷ cs) here; free = All-nil (λ (b : ℕ). b ≡ 10 → ⊥) })
  | inr other ↦ elim (feed_or_none cs) [
    | inl none ↦ inl (All-cons (λ (b : ℕ). b ≡ 10 → ⊥) c cs other none)
    | inr cut ↦ inr (record { line = c ∷ cut.line; rest = cut.rest; whole = ap (λ (t : List ℕ). c ∷ t) cut.whole; free = All-cons (λ (b : ℕ). b ≡ 10 → ⊥) c cut.line other cut.free })
  ]
]

-- a text is its first ones, each with its line feed, and what follows them
pub lines_first : (before more : List (List ℕ)) (text : List ℕ) → whole_lines text ≡ before ++ more → text ≡ lines_text before ++ after_lines (length before) text
lines_first [] more text e = after_none text
lines_first (line ∷ before) more text e = elim (feed_or_none text) [
  | inl free ↦ absurd (let none : [] ≡ line ∷ (before ++ more) = sym (no_whole_line text free) ∙ e in let bad : ⊥ = cc in bad)
  | inr cut ↦
      let both : cut.line ∷ whole_lines cut.rest ≡ line ∷ (before ++ more) = sym (whole_line text cut.line cut.rest cut.whole cut.free) ∙ e in
      let first : cut.line ≡ line = cc in
      let later : whole_lines cut.rest ≡ before ++ more = cc in
      let behind : after_lines (suc (length before)) text ≡ after_lines (length before) cut.rest = ap (after_lines (suc (length before))) cut.whole ∙ after_lines-line (length before) cut.line cut.rest cut.free in
      cut.whole
      ∙ ap (λ (t : List ℕ). cut.line ++ 10 ∷ t) (lines_first before more cut.rest later)
      ∙ ap (λ (l : List ℕ). l ++ 10 ∷ (lines_text before ++ after_lines (length before) cut.rest)) first
      ∙ sym (simp append_assoc)
      ∙ ap (λ (t : List ℕ). lines_text (line ∷ before) ++ t) (sym behind)
]
