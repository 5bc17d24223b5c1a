-- Names are text.
use Rattle.std.proofs.Common.{ℕ, ◌<◌, ◌≡◌, List, true, refl, arith}
use Rattle.std.specs.Prelude.{Result, Ok, Err, IsOk, MatchResult}
use Rattle.std.specs.Str.{IsUtf8}
use Rattle.std.proofs.lemmas.Grind.{common_steps}
use Rattle.std.proofs.lemmas.List.Elements.{All-weaker}
use Rattle.std.proofs.lemmas.List.Sums.{AllPass-from_list_all}
use Rattle.std.proofs.lemmas.Str.{IsUtf8-from_ascii}
use Rattle.std.proofs.lemmas.Str.Ascii.{IsAscii-from_all}
use Rattle.search_model.specs.Names.{IsName, is_name_byte}

byte_small : (c : ℕ) → is_name_byte c ≡ true → c < 128
byte_small c h = grind (arith, common_steps)

-- each byte of a name is a character
pub IsUtf8-name : (name : List ℕ) → IsName name → IsUtf8 name
IsUtf8-name name h = IsUtf8-from_ascii name (IsAscii-from_all name (All-weaker (λ (c : ℕ). is_name_byte c ≡ true) (λ (c : ℕ). c < 128) byte_small name (AllPass-from_list_all is_name_byte name h.bytes)))

-- what can't be refused is read
pub is_read : {T E : Type 0} (r : Result T E) (P : T → Type 0) (Q : E → Type 0) → MatchResult r P Q → ((e : E) → Q e → ⊥) → IsOk r
is_read (Ok x) P Q h never = refl
is_read (Err e) P Q h never = absurd (never e h)
