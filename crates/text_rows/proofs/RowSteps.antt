-- A row is appended field by field, and a text row by row.
use Rattle.std.proofs.Common.{◌≡◌, ℕ, ◌+◌, ◌<◌, List, [], ◌∷◌, ◌++◌, length, get_or, take, map, sym, ap, ◌∙◌, append_assoc, add-one}
use Rattle.std.specs.List.{flat_map, range_with_len}
use Rattle.std.proofs.lemmas.List.{map-append}
use Rattle.std.proofs.lemmas.List.Concat.{flat_map-append}
use Rattle.list_laws.proofs.Changed.{flat_map-push}
use Rattle.list_laws.proofs.Ranges.{range_with_len-suc, range_more}
use Rattle.exact_parts.proofs.Beginnings.{begins_same, begins_more, begins_after}
use Rattle.exact_parts.proofs.AppendLemmas.{at_refusal, then_more}
use Rattle.text_rows.specs.Rows.{text_of, spaced}
use Rattle.text_rows.proofs.RowLemmas.{join-fields, text_of-append, take_one_more}

-- what is left where memory was refused begins with what stood there
pub ruleset row_steps = (begins_same, begins_more, begins_after, at_refusal)

-- a row that was begun, and the line feed
pub row_whole : (old at new word : List ℕ) (fields : List (List ℕ)) → at ≡ old ++ (word ++ spaced fields) → new ≡ at ++ 10 ∷ [] → new ≡ old ++ text_of ((word ∷ fields) ∷ [])
row_whole old at new word fields begun end = then_more old at new _ (10 ∷ []) (begun ∙ ap (λ (t : List ℕ). old ++ t) (sym (join-fields word fields))) end

-- a word, the fields behind it, and the line feed
pub row_ended : (old at now new word : List ℕ) (fields : List (List ℕ)) → at ≡ old ++ word → now ≡ at ++ spaced fields → new ≡ now ++ 10 ∷ [] → new ≡ old ++ text_of ((word ∷ fields) ∷ [])
row_ended old at now new word fields begun more end = row_whole old now new word fields (then_more old at now word (spaced fields) begun more) end

-- a row that was begun, the fields that follow, and the line feed
pub begun_row_ended : (old at now new word : List ℕ) (first fields : List (List ℕ)) → at ≡ old ++ (word ++ spaced first) → now ≡ at ++ spaced fields → new ≡ now ++ 10 ∷ [] → new ≡ old ++ text_of ((word ∷ (first ++ fields)) ∷ [])
begun_row_ended old at now new word first fields begun more end =
    let whole : (word ++ spaced first) ++ spaced fields ≡ word ++ spaced (first ++ fields) =
    append_assoc word (spaced first) (spaced fields) ∙ ap (λ (t : List ℕ). word ++ t) (sym (flat_map-append (λ (field : List ℕ). 32 ∷ field) first fields)) in
    row_whole old now new word (first ++ fields) (then_more old at now _ (spaced fields) begun more ∙ ap (λ (t : List ℕ). old ++ t) whole) end

-- fields behind others, and rows behind others
pub fields_then : (old mid new : List ℕ) (fields more : List (List ℕ)) → mid ≡ old ++ spaced fields → new ≡ mid ++ spaced more → new ≡ old ++ spaced (fields ++ more)
fields_then old mid new fields more e f = then_more old mid new _ _ e f ∙ ap (λ (t : List ℕ). old ++ t) (sym (flat_map-append (λ (field : List ℕ). 32 ∷ field) fields more))

pub rows_then : (old mid new : List ℕ) (rows more : List (List (List ℕ))) → mid ≡ old ++ text_of rows → new ≡ mid ++ text_of more → new ≡ old ++ text_of (rows ++ more)
rows_then old mid new rows more e f = then_more old mid new _ _ e f ∙ ap (λ (t : List ℕ). old ++ t) (sym (text_of-append rows more))

-- the fields of one element more
pub fields_more : {X : Type 0} (f : X → List (List ℕ)) (xs : List X) (i : ℕ) (d : X) (old mid new : List ℕ) → i < length xs → mid ≡ old ++ spaced (flat_map f (take i xs)) → new ≡ mid ++ spaced (f (get_or xs i d)) → new ≡ old ++ spaced (flat_map f (take (i + 1) xs))
fields_more f xs i d old mid new lt e more =
    fields_then old mid new (flat_map f (take i xs)) (f (get_or xs i d)) e more
    ∙ ap (λ (fields : List (List ℕ)). old ++ spaced fields) (sym (ap (flat_map f) (take_one_more xs i d lt) ∙ flat_map-push f (take i xs) (get_or xs i d)))

-- of one number more
pub fields_in_range : (f : ℕ → List (List ℕ)) (k : ℕ) (old mid new : List ℕ) → mid ≡ old ++ spaced (flat_map f (range_with_len 0 k)) → new ≡ mid ++ spaced (f k) → new ≡ old ++ spaced (flat_map f (range_with_len 0 (k + 1)))
fields_in_range f k old mid new e more =
    fields_then old mid new (flat_map f (range_with_len 0 k)) (f k) e more
    ∙ ap (λ (fields : List (List ℕ)). old ++ spaced fields) (sym (ap (flat_map f) (range_more k) ∙ flat_map-push f (range_with_len 0 k) k))

-- the row of one number more
pub row_in_range : (f : ℕ → List (List ℕ)) (k : ℕ) (old mid new : List ℕ) → mid ≡ old ++ text_of (map f (range_with_len 0 k)) → new ≡ mid ++ text_of (f k ∷ []) → new ≡ old ++ text_of (map f (range_with_len 0 (k + 1)))
row_in_range f k old mid new e more =
    rows_then old mid new (map f (range_with_len 0 k)) (f k ∷ []) e more
    ∙ ap (λ (rows : List (List (List ℕ))). old ++ text_of rows) (sym (ap (map f) (range_more k) ∙ map-append f (range_with_len 0 k) (k ∷ [])))

-- the rows that stand for what one number more, from another one on, makes
pub rows_in_range : {X : Type 0} (row : X → List (List ℕ)) (g : ℕ → List X) (a k n : ℕ) (old mid new : List ℕ) → a + k ≡ n → mid ≡ old ++ text_of (map row (flat_map g (range_with_len a k))) → new ≡ mid ++ text_of (map row (g n)) → new ≡ old ++ text_of (map row (flat_map g (range_with_len a (k + 1))))
rows_in_range row g a k n old mid new at e more =
    let one : range_with_len a (k + 1) ≡ range_with_len a k ++ n ∷ [] = rw (add-one, ← at) (range_with_len-suc a k) in
    rows_then old mid new (map row (flat_map g (range_with_len a k))) (map row (g n)) e more
    ∙ ap (λ (rows : List (List (List ℕ))). old ++ text_of rows) (sym (ap (λ (ks : List ℕ). map row (flat_map g ks)) one ∙ ap (map row) (flat_map-push g (range_with_len a k) n) ∙ map-append row (flat_map g (range_with_len a k)) (g n)))
