-- Shares of the whole weight, at the ends of lines.
use Rattle.std.proofs.Common.{ℕ, ◌-◌, ◌≤◌, ◌≡◌, [], ◌∷◌, arith}
use Rattle.std.specs.Prelude.{All}
use Rattle.std.proofs.Math.Nat.{one-le-pow, one-le-mul}
use Rattle.std.proofs.lemmas.List.Elements.{All-cons, All-nil}
use Rattle.exact_parts.proofs.Widths.{ten_weights_fit}
use Rattle.text_rows.specs.RowFields.{IsField}
use Rattle.text_rows.specs.declared.rows.Field.{Field}
use Rattle.text_rows.specs.declared.rows.Field.TheVariants.{Share}
use Rattle.search_model.specs.Problem.{Problem, IsProblem}
use Rattle.search_model.specs.Tracks.{whole_weight}

module _ (p : Problem) (sound : IsProblem p) where
  -- there is some weight
  some_weight : 1 ≤ whole_weight p
  some_weight =
      let drift = one-le-pow (p.horizon - 1) p.drift.denominator (omega (arith, sound.drift.denominator)) in
      let look = one-le-pow p.horizon p.sweep.denominator (omega (arith, sound.sweep.denominator)) in
      one-le-mul (one-le-mul (omega (arith, sound.total)) drift) look

  -- the whole weight leaves room for a digit more
  pub share_field : (n whole : ℕ) → n ≤ whole_weight p → whole ≡ whole_weight p → IsField (Share n whole)
  share_field n whole part e =
      let room = ten_weights_fit p.total p.drift.denominator p.sweep.denominator p.horizon (omega (arith, sound.drift.denominator)) (omega (arith, sound.sweep.denominator)) sound.fits in
      rw e (some_weight, part, room)

-- lines of three fields and of four
pub three_fields : (a b c : Field) → IsField a → IsField b → IsField c → All IsField (a ∷ b ∷ c ∷ [])
three_fields a b c h i j = All-cons IsField a (b ∷ c ∷ []) h (All-cons IsField b (c ∷ []) i (All-cons IsField c [] j (All-nil IsField)))

pub four_fields : (a b c d : Field) → IsField a → IsField b → IsField c → IsField d → All IsField (a ∷ b ∷ c ∷ d ∷ [])
four_fields a b c d h i j k = All-cons IsField a (b ∷ c ∷ d ∷ []) h (three_fields b c d i j k)
