-- The fields of a line, cut off one after the other.
use Rattle.std.proofs.Common.{◌≡◌, ℕ, zero, suc, ◌≤◌, ◌<◌, Bool, true, false, cond, List, [], ◌∷◌, ◌++◌, length, get_or, take, drop, refl, sym, ap, ◌∙◌, arith, map, Bor, subst}
use Rattle.std.specs.List.{onto_first}
use Rattle.std.proofs.lemmas.Bool.{false_from_ne_true}
use Rattle.text_rows.specs.Fields.{is_blank, ends_field, fields_of}
use Rattle.std.proofs.lemmas.List.{drop_all, length-map}
use Rattle.std.proofs.Math.ListN.{get_or-map}
use Rattle.std.specs.Prelude.{All}
use Rattle.std.proofs.lemmas.List.Elements.{All-cons, All-head, All-tail}
use Rattle.std.proofs.Math.Seq.{take-length}

-- blanks at the front say nothing
skip_more : (line : List ℕ) (i : ℕ) → i ≤ length line → ((k : ℕ) → k < i → is_blank (get_or line k 0) ≡ true) → fields_of line ≡ fields_of (drop i line)
unfolding fields_of
skip_more line zero le blanks = refl
skip_more [] (suc i) le blanks = absurd (omega arith)
skip_more (c ∷ cs) (suc i) le blanks = rw (blanks 0 (omega arith)) (skip_more cs i (omega arith) (λ k lt. blanks (suc k) (omega arith)))

pub fields_of-nil : fields_of [] ≡ []
unfolding fields_of
fields_of-nil = refl

pub skip_to : (line : List ℕ) (i : ℕ) → i < length line → ((k : ℕ) → k < i → is_blank (get_or line k 0) ≡ true) → fields_of line ≡ fields_of (drop i line)
skip_to line i lt blanks = skip_more line i (omega arith) blanks

pub skip_all : (line : List ℕ) → ((k : ℕ) → k < length line → is_blank (get_or line k 0) ≡ true) → fields_of line ≡ fields_of []
skip_all line blanks = skip_more line (length line) (omega arith) blanks ∙ ap fields_of (drop_all (length line) line (omega arith))

pub starts_at : (line : List ℕ) (i : ℕ) → i < length line → is_blank (get_or line i 0) ≡ false → ends_field (drop i line) ≡ false
starts_at [] i lt not_blank = absurd (omega arith)
starts_at (c ∷ cs) zero lt not_blank = not_blank
starts_at (c ∷ cs) (suc i) lt not_blank = starts_at cs i (omega arith) not_blank

word_more : (line : List ℕ) (i : ℕ) → i < length line → ((k : ℕ) → k < suc i → is_blank (get_or line k 0) ≡ false) → ends_field (drop (suc i) line) ≡ true → fields_of line ≡ take (suc i) line ∷ fields_of (drop (suc i) line)
unfolding fields_of
word_more [] i lt word after = absurd (omega arith)
word_more (c ∷ cs) zero lt word after = rw (word 0 (omega arith), after) refl
word_more (c ∷ cs) (suc i) lt word after =
    let goes_on : ends_field cs ≡ false = starts_at cs 0 (omega arith) (word 1 (omega arith)) in
    rw (word 0 (omega arith), goes_on) (ap (onto_first c) (word_more cs i (omega arith) (λ k below. word (suc k) (omega arith)) after))

ends_there : (line : List ℕ) (i : ℕ) → i < length line → is_blank (get_or line i 0) ≡ true → ends_field (drop i line) ≡ true
ends_there [] i lt blank = absurd (omega arith)
ends_there (c ∷ cs) zero lt blank = blank
ends_there (c ∷ cs) (suc i) lt blank = ends_there cs i (omega arith) blank

-- a field that starts the line goes on past its first byte
pub field_goes_on : (line : List ℕ) (i : ℕ) → is_blank (get_or line i 0) ≡ true → ends_field line ≡ false → 0 < i
field_goes_on [] i blank starts = absurd cc
field_goes_on (c ∷ cs) zero blank starts = absurd cc
field_goes_on (c ∷ cs) (suc i) blank starts = omega arith

pub field_is_some : (line : List ℕ) → ends_field line ≡ false → 0 < length line
field_is_some [] starts = absurd cc
field_is_some (c ∷ cs) starts = omega arith

pub word_to : (line : List ℕ) (i : ℕ) → i < length line → ((k : ℕ) → k < i → is_blank (get_or line k 0) ≡ false) → is_blank (get_or line i 0) ≡ true → ends_field line ≡ false → fields_of line ≡ take i line ∷ fields_of (drop i line)
word_to line zero lt word blank starts = absurd (omega (arith, field_goes_on line zero blank starts))
word_to line (suc i) lt word blank starts = word_more line i (omega arith) word (ends_there line (suc i) lt blank)

pub word_all : (line : List ℕ) → ends_field line ≡ false → ((k : ℕ) → k < length line → is_blank (get_or line k 0) ≡ false) → fields_of line ≡ line ∷ fields_of (drop (length line) line)
word_all [] starts word = absurd cc
word_all (c ∷ cs) starts word =
    let gone : drop (suc (length cs)) (c ∷ cs) ≡ [] = drop_all (suc (length cs)) (c ∷ cs) (omega arith) in
    let whole : take (suc (length cs)) (c ∷ cs) ≡ c ∷ cs = take-length (c ∷ cs) in
    let one = word_more (c ∷ cs) (length cs) (omega arith) word (ap ends_field gone) in
    rw whole at one

-- what is not at its end starts a field
pub starts_field : (line : List ℕ) → (ends_field line ≡ true → line ≡ []) → 0 < length line → ends_field line ≡ false
starts_field line h long = false_from_ne_true (ends_field line) (λ e. absurd (let none : length line ≡ 0 = ap length (h e) in omega arith))

pub ruleset skip_steps = (skip_to, skip_all, starts_at)

pub ruleset word_steps = (word_to, word_all, field_goes_on, field_is_some)

pub fields_gone : (rest : List ℕ) → length rest ≡ 0 → fields_of rest ≡ []
fields_gone [] e = fields_of-nil
fields_gone (c ∷ cs) e = absurd (omega arith)

-- the fields so far are the first ones, where none is left or so many were taken
first_done : {X : Type 0} (done rest fs : List X) (most : ℕ) → done ++ rest ≡ fs → length done ≤ most → (length done < most → rest ≡ []) → done ≡ take most fs
first_done [] rest fs zero so_far le gone = refl
first_done [] rest fs (suc most) so_far le gone = ap (take (suc most)) (sym (gone (omega arith)) ∙ so_far)
first_done (x ∷ done) rest fs zero so_far le gone = absurd (omega arith)
first_done {X} (x ∷ done) rest fs (suc most) so_far le gone =
    let more : done ≡ take most (done ++ rest) = first_done done rest (done ++ rest) most refl (omega arith) (λ lt. gone (omega arith)) in
    ap (λ (xs : List X). x ∷ xs) more ∙ ap (take (suc most)) so_far

-- no field is left
pub first_all : (done : List (List ℕ)) (rest : List ℕ) (fs : List (List ℕ)) (most : ℕ) → done ++ fields_of rest ≡ fs → length done ≤ most → length rest ≡ 0 → done ≡ take most fs
first_all done rest fs most so_far le e = first_done done (fields_of rest) fs most so_far le (λ _. fields_gone rest e)

-- so many fields were taken
pub first_most : (done : List (List ℕ)) (rest : List ℕ) (fs : List (List ℕ)) (most : ℕ) → done ++ fields_of rest ≡ fs → length done ≤ most → most ≤ length done → done ≡ take most fs
first_most done rest fs most so_far le full = first_done done (fields_of rest) fs most so_far le (λ lt. absurd (omega arith))

-- behind the first of no fields there are none
pub after_none : (line rest : List ℕ) → fields_of line ≡ fields_of rest → length rest ≡ 0 → fields_of rest ≡ drop 1 (fields_of line)
after_none line rest same e = rw same (rw (fields_gone rest e) refl)

pub ruleset field_steps = (starts_field, fields_gone)

-- a byte at the front leaves no piece empty
some_onto : (c : ℕ) (pieces : List (List ℕ)) → All (λ f. 1 ≤ length f) pieces → All (λ f. 1 ≤ length f) (onto_first c pieces)
some_onto c [] h = All-cons (λ (f : List ℕ). 1 ≤ length f) (c ∷ []) [] (omega arith) h
some_onto c (piece ∷ pieces) h = All-cons (λ (f : List ℕ). 1 ≤ length f) (c ∷ piece) pieces (omega arith) (All-tail (λ (f : List ℕ). 1 ≤ length f) piece pieces h)

some_by : (blank ends : Bool) (c : ℕ) (fields : List (List ℕ)) → All (λ f. 1 ≤ length f) fields → All (λ f. 1 ≤ length f) (cond blank fields (cond ends ((c ∷ []) ∷ fields) (onto_first c fields)))
some_by true ends c fields h = h
some_by false true c fields h = All-cons (λ (f : List ℕ). 1 ≤ length f) (c ∷ []) fields (omega arith) h
some_by false false c fields h = some_onto c fields h

-- no field is empty
pub fields_some : (line : List ℕ) → All (λ f. 1 ≤ length f) (fields_of line)
unfolding fields_of
fields_some [] = λ k d lt. absurd (omega arith)
fields_some (c ∷ cs) = some_by (is_blank c) (ends_field cs) c (fields_of cs) (fields_some cs)

front_some : (fs more : List (List ℕ)) → All (λ f. 1 ≤ length f) (fs ++ more) → All (λ f. 1 ≤ length f) fs
front_some [] more all = λ k d lt. absurd (omega arith)
front_some (f ∷ fs) more all =
    All-cons (λ (f : List ℕ). 1 ≤ length f) f fs (All-head (λ (f : List ℕ). 1 ≤ length f) f (fs ++ more) all) (front_some fs more (All-tail (λ (f : List ℕ). 1 ≤ length f) f (fs ++ more) all))

-- nor is one of a list that is mapped to the first fields
pub mapped_some : (fields : List (Bor (List ℕ))) (more : List (List ℕ)) (line : List ℕ) → map (λ f. f.now) fields ++ more ≡ fields_of line → All (λ f. 1 ≤ length f.now) fields
mapped_some fields more line e = λ k d lt.
    let P : List (List ℕ) → Type 0 = λ fs. All (λ f. 1 ≤ length f) fs in
    let all : All (λ (f : List ℕ). 1 ≤ length f) (map (λ (f : Bor (List ℕ)). f.now) fields) = front_some (map (λ (f : Bor (List ℕ)). f.now) fields) more (subst P (sym e) (fields_some line)) in
    let long : length (map (λ (f : Bor (List ℕ)). f.now) fields) ≡ length fields = length-map fields (λ f. f.now) in
    let there = all k d.now (omega arith) in
    rw (get_or-map (λ (f : Bor (List ℕ)). f.now) fields k d) at there
