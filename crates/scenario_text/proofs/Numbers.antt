-- What stands in the place of a number.
use Rattle.std.proofs.Common.{◌≡◌, ℕ, ◌≤◌, false, List, arith}
use Rattle.std.proofs.lemmas.Bool.{ltb-false}
use Rattle.exact_parts.specs.declared.number.Number.{Number}
use Rattle.exact_parts.specs.declared.number.Number.TheVariants.{NotPlain, Above, Of}
use Rattle.exact_parts.specs.Decimal.{Spells, number_at}
use Rattle.scenario_text.specs.Fields.{is_bad, is_over, number_in}
use Rattle.exact_parts.proofs.Decimals.{spelled_once, spells-number_at}

-- what a field spells is what it says in a number's place
pub spelled : (most : ℕ) (field : List ℕ) (x : Number) → Spells most field x → x ≡ number_at most field
spelled most field x h = spelled_once most field x (number_at most field) h (spells-number_at most field)

pub spelled_within : (most : ℕ) (field : List ℕ) (x : Number) → Spells most field x → number_in x ≤ most
spelled_within most field NotPlain h = omega arith
spelled_within most field Above h = omega arith
spelled_within most field (Of n) h = h.2

pub number_at_within : (most : ℕ) (field : List ℕ) → number_in (number_at most field) ≤ most
number_at_within most field = spelled_within most field (number_at most field) (spells-number_at most field)

-- a number that is neither bad nor over is at least the least
pub least_met : (least : ℕ) (x : Number) → is_bad least x ≡ false → is_over x ≡ false → least ≤ number_in x
least_met least NotPlain bad over = absurd cc
least_met least Above bad over = absurd cc
least_met least (Of n) bad over = ltb-false _ _ bad

pub ruleset number_steps = (spelled, spelled_within)
