-- What a call that comes last has appended behind what stands there, or has left.
use Rattle.std.proofs.Common.{◌≡◌, ℕ, List, [], ◌∷◌, ◌++◌, Result, Ok, Err, OnOk, OnErr}
use Rattle.exact_parts.specs.Appending.{Begins}
use Rattle.exact_parts.proofs.Beginnings.{begins_after}
use Rattle.text_rows.specs.Rows.{text_of, spaced}
use Rattle.text_rows.proofs.RowSteps.{rows_then, begun_row_ended}

-- rows behind others
pub rows_last : {A E : Type 0} (r : Result A E) (old mid new : List ℕ) (rows more : List (List (List ℕ))) → mid ≡ old ++ text_of rows → OnOk r (new ≡ mid ++ text_of more) → OnOk r (new ≡ old ++ text_of (rows ++ more))
rows_last (Ok _) old mid new rows more e f = rows_then old mid new rows more e f
rows_last (Err _) old mid new rows more e f = tt

-- the line feed of a row that was begun, behind the fields that followed
pub row_last : {A E : Type 0} (r : Result A E) (old at now new word : List ℕ) (first fields : List (List ℕ)) → at ≡ old ++ (word ++ spaced first) → now ≡ at ++ spaced fields → OnOk r (new ≡ now ++ 10 ∷ []) → OnOk r (new ≡ old ++ text_of ((word ∷ (first ++ fields)) ∷ []))
row_last (Ok _) old at now new word first fields begun more end = begun_row_ended old at now new word first fields begun more end
row_last (Err _) old at now new word first fields begun more end = tt

-- what stands there where it was refused
pub begins_last : {A E : Type 0} (r : Result A E) (old mid new text : List ℕ) → mid ≡ old ++ text → OnErr r (Begins mid new) → OnErr r (Begins old new)
begins_last (Ok _) old mid new text e b = tt
begins_last (Err _) old mid new text e b = begins_after old mid new text e b
