-- The first line of a text, and what follows line feeds.
use Rattle.std.proofs.Common.{◌≡◌, ℕ, zero, suc, ◌+◌, ◌-◌, ◌<◌, ◌≤◌, Bool, true, false, List, [], ◌∷◌, ◌++◌, length, get_or, take, drop, refl, sym, ap, ◌∙◌, arith, add-one, drop-cons}
use Rattle.std.specs.Prelude.{◌==◌, if◌then◌else◌}
use Rattle.std.specs.List.{onto_first}
use Rattle.std.proofs.lemmas.Bool.{ne_eqb}
use Rattle.std.proofs.lemmas.List.{take-append-drop, get_or-take, length-take-le}
use Rattle.std.proofs.lemmas.List.Elements.{All-head, All-tail, All-from_get_or}
use Rattle.text_rows.specs.Lines.{HasNo, HasNoFeed, split_at, lines_of, after_lines}
use Rattle.text_rows.proofs.Splits.{split_piece, split_whole}

-- A text is cut at the first byte of a kind.

pub cut_here : (text : List ℕ) (at i : ℕ) → i < length text → get_or text i 0 ≡ at → text ≡ take i text ++ at ∷ drop (i + 1) text
cut_here text at i lt here = sym (take-append-drop i text) ∙ ap (λ (xs : List ℕ). take i text ++ xs) (rw (add-one, drop-cons text i 0) (ap (λ (c : ℕ). c ∷ drop (suc i) text) here))

pub none_before : (text : List ℕ) (at i : ℕ) → i ≤ length text → ((k : ℕ) → k < i → get_or text k 0 ≡ at → ⊥) → HasNo at (take i text)
none_before text at i le before =
    let long = length-take-le i text le in
    All-from_get_or (λ (c : ℕ). c ≡ at → ⊥) (take i text) 0 (λ k lt e. let within : k < i = omega (arith, long) in before k within (sym (get_or-take i text k 0 within) ∙ e))

pub none_at_all : (text : List ℕ) (at : ℕ) → ((k : ℕ) → k < length text → get_or text k 0 ≡ at → ⊥) → HasNo at text
none_at_all text at before = All-from_get_or (λ (c : ℕ). c ≡ at → ⊥) text 0 before

pub pieces_here : (text : List ℕ) (at i : ℕ) → i < length text → get_or text i 0 ≡ at → ((k : ℕ) → k < i → get_or text k 0 ≡ at → ⊥) → split_at at text ≡ take i text ∷ split_at at (drop (i + 1) text)
pieces_here text at i lt here before = ap (split_at at) (cut_here text at i lt here) ∙ split_piece at (take i text) (drop (i + 1) text) (none_before text at i (omega arith) before)

pub one_piece : (text : List ℕ) (at : ℕ) → ((k : ℕ) → k < length text → get_or text k 0 ≡ at → ⊥) → split_at at text ≡ text ∷ []
one_piece text at before = split_whole at text (none_at_all text at before)

pub ruleset cut_steps = (cut_here, none_before, none_at_all, pieces_here, one_piece)

-- Lines.

-- a line without line feeds, and what follows its line feed
pub lines_of-line : (line rest : List ℕ) → HasNoFeed line → lines_of (line ++ 10 ∷ rest) ≡ line ∷ lines_of rest
unfolding lines_of
lines_of-line [] rest free = refl
lines_of-line (c ∷ cs) rest free =
    rw (ne_eqb c 10 (All-head (λ (c : ℕ). c ≡ 10 → ⊥) c cs free)) (ap (onto_first c) (lines_of-line cs rest (All-tail (λ (c : ℕ). c ≡ 10 → ⊥) c cs free)))

pub lines_of-nil : lines_of [] ≡ []
unfolding lines_of
lines_of-nil = refl

lines_of-whole : (line : List ℕ) → 0 < length line → HasNoFeed line → lines_of line ≡ line ∷ []
unfolding lines_of
lines_of-whole [] some free = absurd (omega arith)
lines_of-whole (c ∷ []) some free = rw (ne_eqb c 10 (All-head (λ (c : ℕ). c ≡ 10 → ⊥) c [] free)) refl
lines_of-whole (c ∷ d ∷ cs) some free =
    rw (ne_eqb c 10 (All-head (λ (c : ℕ). c ≡ 10 → ⊥) c (d ∷ cs) free)) (ap (onto_first c) (lines_of-whole (d ∷ cs) (omega arith) (All-tail (λ (c : ℕ). c ≡ 10 → ⊥) c (d ∷ cs) free)))

-- What follows line feeds.

-- behind the line feed of a line
pub after_lines-line : (n : ℕ) (line rest : List ℕ) → HasNoFeed line → after_lines (suc n) (line ++ 10 ∷ rest) ≡ after_lines n rest
unfolding after_lines
after_lines-line n [] rest free = refl
after_lines-line n (c ∷ cs) rest free =
    rw (ne_eqb c 10 (All-head (λ (c : ℕ). c ≡ 10 → ⊥) c cs free)) (after_lines-line n cs rest (All-tail (λ (c : ℕ). c ≡ 10 → ⊥) c cs free))

pub after_none : (text : List ℕ) → text ≡ after_lines 0 text
unfolding after_lines
after_none text = refl

after_whole : (line : List ℕ) → HasNoFeed line → after_lines 1 line ≡ []
unfolding after_lines
after_whole [] free = refl
after_whole (c ∷ cs) free =
    rw (ne_eqb c 10 (All-head (λ (c : ℕ). c ≡ 10 → ⊥) c cs free)) (after_whole cs (All-tail (λ (c : ℕ). c ≡ 10 → ⊥) c cs free))

-- the first line is cut off, or is the whole text
pub line_cut : (text line rest : List ℕ) → text ≡ line ++ 10 ∷ rest → HasNoFeed line → lines_of text ≡ line ∷ lines_of rest
line_cut text line rest is free = ap lines_of is ∙ lines_of-line line rest free

pub line_whole : (text : List ℕ) → 0 < length text → HasNoFeed text → lines_of text ≡ text ∷ lines_of []
line_whole text some free = lines_of-whole text some free ∙ ap (λ (ls : List (List ℕ)). text ∷ ls) (sym lines_of-nil)

pub rest_cut : (text line rest : List ℕ) → text ≡ line ++ 10 ∷ rest → HasNoFeed line → rest ≡ after_lines 1 text
rest_cut text line rest is free = after_none rest ∙ sym (after_lines-line 0 line rest free) ∙ ap (after_lines 1) (sym is)

pub rest_whole : (text : List ℕ) → HasNoFeed text → [] ≡ after_lines 1 text
rest_whole text free = sym (after_whole text free)

pub ruleset line_steps = (line_cut, line_whole, rest_cut, rest_whole)

-- one line feed more
after_by : (b : Bool) (n : ℕ) (cs : List ℕ) → after_lines 1 (after_lines n cs) ≡ after_lines (suc n) cs → after_lines 1 (after_lines (suc n) cs) ≡ after_lines (suc (suc n)) cs → after_lines 1 (if b then after_lines n cs else after_lines (suc n) cs) ≡ (if b then after_lines (suc n) cs else after_lines (suc (suc n)) cs)
after_by true n cs here further = here
after_by false n cs here further = further

after_one : (n : ℕ) (text : List ℕ) → after_lines 1 (after_lines n text) ≡ after_lines (suc n) text
unfolding after_lines
after_one zero text = refl
after_one (suc n) [] = refl
after_one (suc n) (c ∷ cs) = after_by (c == 10) n cs (after_one n cs) (after_one (suc n) cs)

pub after_next : (number : ℕ) (text rest after : List ℕ) → 1 ≤ number → rest ≡ after_lines (number - 1) text → after ≡ after_lines 1 rest → after ≡ after_lines number text
after_next zero text rest after some here next = absurd (omega arith)
after_next (suc n) text rest after some here next =
    let less : suc n - 1 ≡ n = omega arith in
    next ∙ ap (after_lines 1) (here ∙ ap (λ (k : ℕ). after_lines k text) less) ∙ after_one n text

-- Lines have bytes.

one_shorter : (b : Bool) (most : ℕ) (xs ys : List ℕ) → length xs ≤ most → length ys ≤ most → length (if b then xs else ys) ≤ suc most
one_shorter true most xs ys le le' = omega (arith, le)
one_shorter false most xs ys le le' = omega (arith, le')

pub after_short : (n : ℕ) (text : List ℕ) → length (after_lines n text) ≤ length text
unfolding after_lines
after_short zero text = omega arith
after_short (suc n) [] = omega arith
after_short (suc n) (c ∷ cs) = one_shorter (c == 10) (length cs) _ _ (after_short n cs) (after_short (suc n) cs)

one_or_all : {P : Type 0} (c n : ℕ) (pieces : List (List ℕ)) → suc n ≤ length (onto_first c pieces) → (n ≡ 0 → P) → (suc n ≤ length pieces → P) → P
one_or_all c n [] le one all = one (omega (arith, le))
one_or_all c n (piece ∷ pieces) le one all = all le

one_line : (b : Bool) (c n : ℕ) (cs : List ℕ) → (n ≤ length (lines_of cs) → n + length (after_lines n cs) ≤ length cs) → (suc n ≤ length (lines_of cs) → suc n + length (after_lines (suc n) cs) ≤ length cs) →
    suc n ≤ length (if b then [] ∷ lines_of cs else onto_first c (lines_of cs)) → suc n + length (if b then after_lines n cs else after_lines (suc n) cs) ≤ suc (length cs)
one_line true c n cs here further le = omega (arith, here (omega (arith, le)))
one_line false c n cs here further le =
    one_or_all c n (lines_of cs) le (λ none. omega (arith, none, after_short (suc n) cs)) (λ all. omega (arith, further all))

-- so many lines, and what follows them, fit into the text
pub lines_fit : (n : ℕ) (text : List ℕ) → n ≤ length (lines_of text) → n + length (after_lines n text) ≤ length text
unfolding lines_of after_lines
lines_fit zero text le = omega arith
lines_fit (suc n) [] le = absurd (omega arith)
lines_fit (suc n) (c ∷ cs) le = one_line (c == 10) c n cs (lines_fit n cs) (lines_fit (suc n) cs) le
