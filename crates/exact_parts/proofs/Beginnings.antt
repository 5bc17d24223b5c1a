-- Bytes that begin with those that stood there before.
use Rattle.std.proofs.Common.{◌≡◌, ℕ, List, [], ◌++◌, length, take, sym, ◌∙◌, ap, append_assoc}
use Rattle.std.proofs.lemmas.List.{append-nil}
use Rattle.std.proofs.Math.Seq.{take-append_seam}
use Rattle.exact_parts.specs.Appending.{Begins}

pub begins_same : (old new : List ℕ) → new ≡ old → Begins old new
begins_same old new e = record { more = []; is = e ∙ sym (append-nil old) }

pub begins_more : (old new text : List ℕ) → new ≡ old ++ text → Begins old new
begins_more old new text e = record { more = text; is = e }

begins_then : (old mid new : List ℕ) → Begins old mid → Begins mid new → Begins old new
begins_then old mid new a b = record {
  more = a.more ++ b.more;
  is = b.is ∙ ap (λ (xs : List ℕ). xs ++ b.more) a.is ∙ append_assoc old a.more b.more;
}

pub begins_after : (old mid new text : List ℕ) → mid ≡ old ++ text → Begins mid new → Begins old new
begins_after old mid new text e b = begins_then old mid new (begins_more old mid text e) b

-- so far they are what stood there
pub take_beginning : (old new : List ℕ) → Begins old new → take (length old) new ≡ old
take_beginning old new b = ap (take (length old)) b.is ∙ take-append_seam old b.more

pub ruleset begins_steps = (begins_same, begins_more, begins_after, take_beginning)
