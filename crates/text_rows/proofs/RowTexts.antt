-- A row of fields is read as those fields, and the text of rows as their lines.
use Rattle.std.proofs.Common.{◌≡◌, ℕ, suc, ◌<◌, ◌^◌, Bool, true, false, List, [], ◌∷◌, ◌++◌, map, length, refl, sym, ap, ◌∙◌, arith}
use Rattle.std.specs.Prelude.{All, ◌==◌}
use Rattle.std.specs.Fmt.{decimal}
use Rattle.std.specs.Int.{IsInRange}
use Rattle.std.specs.List.{list_all, list_any, join_with_byte, onto_first}
use Rattle.std.proofs.lemmas.Bool.{and_parts, ne_eqb}
use Rattle.std.proofs.lemmas.Grind.{common_steps}
use Rattle.std.proofs.lemmas.List.{append-nil}
use Rattle.std.proofs.lemmas.List.Elements.{All-nil, All-cons, All-append, All-weaker, All-head, All-tail}
use Rattle.std.proofs.lemmas.List.Folds.{list_all-append}
use Rattle.std.proofs.lemmas.List.Sums.{AllPass-from_list_all, list_all-from_AllPass}
use Rattle.exact_parts.proofs.Decimals.{some-decimal, All-decimal}
use Rattle.text_rows.specs.Lines.{HasNo, HasNoFeed, lines_of, after_lines}
use Rattle.text_rows.specs.Fields.{is_text_byte, is_field_byte, exact_fields, is_blank, ends_field, fields_of}
use Rattle.text_rows.proofs.Splits.{split_piece, split_whole}
use Rattle.text_rows.proofs.LineCuts.{lines_of-line, after_lines-line}
use Rattle.text_rows.proofs.FieldCuts.{fields_of-nil}

-- bytes of text that are no blanks, one or more
pub record IsField (f : List ℕ) : Type 0 where
  pub some : 0 < length f
  pub bytes : list_all is_field_byte f ≡ true

abbrev pub AreFields : List (List ℕ) → Type 0
AreFields [] = Unit {0}
AreFields (f ∷ fs) = IsField f × AreFields fs

-- What is a field.

pub word : (w : List ℕ) → 0 < length w → list_all is_field_byte w ≡ true → IsField w
word w some bytes = record { some = some; bytes = bytes }

-- bytes that pass a test which bytes of fields alone pass
pub field_by : (test : ℕ → Bool) → ((c : ℕ) → test c ≡ true → is_field_byte c ≡ true) → (f : List ℕ) → 0 < length f → list_all test f ≡ true → IsField f
field_by test each f some bytes = record {
  some = some;
  bytes = list_all-from_AllPass is_field_byte f (All-weaker (λ c. test c ≡ true) (λ c. is_field_byte c ≡ true) each f (AllPass-from_list_all test f bytes));
}

digit_is_field : (c : ℕ) → IsInRange 48 57 c → is_field_byte c ≡ true
digit_is_field c range = grind (arith, common_steps)

pub IsField-decimal : (n : ℕ) → n < 2 ^ 128 → IsField (decimal n)
IsField-decimal n small = record {
  some = some-decimal n small;
  bytes = list_all-from_AllPass is_field_byte (decimal n) (All-weaker (IsInRange 48 57) (λ c. is_field_byte c ≡ true) digit_is_field (decimal n) (All-decimal n small));
}

pub AreFields-map : {X : Type 0} (g : X → List ℕ) (P : X → Type 0) → ((x : X) → P x → IsField (g x)) → (xs : List X) → All P xs → AreFields (map g xs)
AreFields-map g P each [] h = tt
AreFields-map g P each (x ∷ xs) h = (each x (All-head P x xs h), AreFields-map g P each xs (All-tail P x xs h))

pub AreFields-append : (fs gs : List (List ℕ)) → AreFields fs → AreFields gs → AreFields (fs ++ gs)
AreFields-append [] gs h k = k
AreFields-append (f ∷ fs) gs h k = (h.0, AreFields-append fs gs h.1 k)

-- The bytes of a row.

field_byte-low : (c : ℕ) → is_field_byte c ≡ true → 32 < c
field_byte-low c h = grind (arith, common_steps)

field_byte-high : (c : ℕ) → is_field_byte c ≡ true → c < 127
field_byte-high c h = grind (arith, common_steps)

field_byte_is_no_blank : (c : ℕ) → is_field_byte c ≡ true → is_blank c ≡ false
field_byte_is_no_blank c h = let low = field_byte-low c h in grind (arith, common_steps)

field_byte_is_text : (c : ℕ) → is_field_byte c ≡ true → is_text_byte c ≡ true
field_byte_is_text c h = let low = field_byte-low c h in let high = field_byte-high c h in grind (arith, common_steps)

-- no byte of a field ends it, or its line
field_free : (at : ℕ) (f : List ℕ) → at < 33 → IsField f → HasNo at f
field_free at f low h =
    All-weaker (λ (c : ℕ). is_field_byte c ≡ true) (λ (c : ℕ). c ≡ at → ⊥) (λ c is e. omega (arith, field_byte-low c is)) f (AllPass-from_list_all is_field_byte f h.bytes)

pub row_free : (fs : List (List ℕ)) → AreFields fs → HasNoFeed (join_with_byte 32 fs)
row_free [] h = All-nil (λ (c : ℕ). c ≡ 10 → ⊥)
row_free (f ∷ []) h = field_free 10 f (omega arith) h.0
row_free (f ∷ g ∷ fs) h =
    let P : ℕ → Type 0 = λ c. c ≡ 10 → ⊥ in
    All-append P f (32 ∷ join_with_byte 32 (g ∷ fs)) (field_free 10 f (omega arith) h.0) (All-cons P 32 (join_with_byte 32 (g ∷ fs)) (λ e. omega arith) (row_free (g ∷ fs) h.1))

field_is_text : (f : List ℕ) → IsField f → list_all is_text_byte f ≡ true
field_is_text f h = list_all-from_AllPass is_text_byte f (All-weaker (λ c. is_field_byte c ≡ true) (λ c. is_text_byte c ≡ true) field_byte_is_text f (AllPass-from_list_all is_field_byte f h.bytes))

-- a row has bytes of text alone
pub row_is_text : (fs : List (List ℕ)) → AreFields fs → list_all is_text_byte (join_with_byte 32 fs) ≡ true
row_is_text [] h = refl
row_is_text (f ∷ []) h = field_is_text f h.0
row_is_text (f ∷ g ∷ fs) h =
    list_all-append is_text_byte f (32 ∷ join_with_byte 32 (g ∷ fs)) ∙ rw (field_is_text f h.0, row_is_text (g ∷ fs) h.1) refl

-- no field is empty
pub none_empty : (fs : List (List ℕ)) → AreFields fs → list_any (λ f. length f == 0) fs ≡ false
none_empty [] h = refl
none_empty (f ∷ fs) h = rw (ne_eqb (length f) 0 (λ e. omega (arith, h.0.some)), none_empty fs h.1) refl

-- Fields with one blank between are read as those fields, where more blanks might stand between them.

fields_of-last : (c : ℕ) (cs : List ℕ) → is_blank c ≡ false → ends_field cs ≡ true → fields_of (c ∷ cs) ≡ (c ∷ []) ∷ fields_of cs
unfolding fields_of
fields_of-last c cs b e = rw (b, e) refl

fields_of-more : (c : ℕ) (cs : List ℕ) → is_blank c ≡ false → ends_field cs ≡ false → fields_of (c ∷ cs) ≡ onto_first c (fields_of cs)
unfolding fields_of
fields_of-more c cs b e = rw (b, e) refl

-- a field stands first, and what follows it is read on
fields_of-field : (f rest : List ℕ) → 0 < length f → list_all is_field_byte f ≡ true → ends_field rest ≡ true → fields_of (f ++ rest) ≡ f ∷ fields_of rest
fields_of-field [] rest some bytes after = absurd (omega arith)
fields_of-field (c ∷ []) rest some bytes after = fields_of-last c rest (field_byte_is_no_blank c (and_parts _ _ bytes).0) after
fields_of-field (c ∷ d ∷ f) rest some bytes after =
    let b = and_parts (is_field_byte c) (list_all is_field_byte (d ∷ f)) bytes in
    let next = and_parts (is_field_byte d) (list_all is_field_byte f) b.1 in
    fields_of-more c (d ∷ (f ++ rest)) (field_byte_is_no_blank c b.0) (field_byte_is_no_blank d next.0)
    ∙ ap (onto_first c) (fields_of-field (d ∷ f) rest (omega arith) b.1 after)

fields_of-blank : (rest : List ℕ) → fields_of (32 ∷ rest) ≡ fields_of rest
unfolding fields_of
fields_of-blank rest = refl

pub fields_of-join : (fs : List (List ℕ)) → AreFields fs → fields_of (join_with_byte 32 fs) ≡ fs
fields_of-join [] h = fields_of-nil
fields_of-join (f ∷ []) h =
    ap fields_of (sym (append-nil f)) ∙ fields_of-field f [] h.0.some h.0.bytes refl ∙ ap (λ (x : List (List ℕ)). f ∷ x) fields_of-nil
fields_of-join (f ∷ g ∷ fs) h =
    fields_of-field f (32 ∷ join_with_byte 32 (g ∷ fs)) h.0.some h.0.bytes refl
    ∙ ap (λ (x : List (List ℕ)). f ∷ x) (fields_of-blank (join_with_byte 32 (g ∷ fs)) ∙ fields_of-join (g ∷ fs) h.1)

-- The same, where no other blank may stand, of one field or more.

abbrev pub IsRow : List (List ℕ) → Type 0
IsRow [] = ⊥
IsRow (f ∷ fs) = IsField f × AreFields fs

pub row_fields : (row : List (List ℕ)) → IsRow row → AreFields row
row_fields [] h = tt
row_fields (f ∷ fs) h = h

pub exact_fields-row : (row : List (List ℕ)) → IsRow row → exact_fields (join_with_byte 32 row) ≡ row
exact_fields-row [] h = absurd h
exact_fields-row (f ∷ []) h = split_whole 32 f (field_free 32 f (omega arith) h.0)
exact_fields-row (f ∷ g ∷ fs) h =
    split_piece 32 f (join_with_byte 32 (g ∷ fs)) (field_free 32 f (omega arith) h.0) ∙ ap (λ (x : List (List ℕ)). f ∷ x) (exact_fields-row (g ∷ fs) h.1)

-- A row is the first line of a text that begins with it.

pub lines_of-row : (fs : List (List ℕ)) (rest : List ℕ) → AreFields fs → lines_of (join_with_byte 32 fs ++ 10 ∷ rest) ≡ join_with_byte 32 fs ∷ lines_of rest
lines_of-row fs rest h = lines_of-line (join_with_byte 32 fs) rest (row_free fs h)

pub after_lines-row : (n : ℕ) (fs : List (List ℕ)) (rest : List ℕ) → AreFields fs → after_lines (suc n) (join_with_byte 32 fs ++ 10 ∷ rest) ≡ after_lines n rest
after_lines-row n fs rest h = after_lines-line n (join_with_byte 32 fs) rest (row_free fs h)
