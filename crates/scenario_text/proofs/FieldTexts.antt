-- Names, numbers and keywords are fields.
use Rattle.std.proofs.Common.{◌≡◌, ℕ, ◌<◌, ◌≤◌, true, List, [], ◌∷◌, map, arith}
use Rattle.std.specs.Prelude.{All}
use Rattle.std.proofs.lemmas.Grind.{common_steps}
use Rattle.std.proofs.lemmas.List.Elements.{All-head, All-tail}
use Rattle.period_rows.specs.declared.part.CellPart.{CellPart}
use Rattle.search_model.specs.Names.{IsName, is_name_byte, name_in}
use Rattle.scenario_text.specs.RowFields.{entry_fields}
use Rattle.text_rows.specs.Fields.{is_field_byte}
use Rattle.text_rows.proofs.RowTexts.{IsField, AreFields, field_by, IsField-decimal, AreFields-map}

name_byte_is_field : (c : ℕ) → is_name_byte c ≡ true → is_field_byte c ≡ true
name_byte_is_field c h = grind (arith, common_steps)

pub IsField-name : (name : List ℕ) → IsName name → IsField name
IsField-name name h = field_by is_name_byte name_byte_is_field name (omega (arith, h.some)) h.bytes

-- where so many cells have names
module _ (names : List (List ℕ)) (cells : ℕ) (field : (c : ℕ) → c < cells → IsField (name_in names c)) where
  -- the names of some
  pub AreFields-named : (cs : List ℕ) → All (λ c. c < cells) cs → AreFields (map (name_in names) cs)
  AreFields-named cs within = AreFields-map (name_in names) (λ c. c < cells) field cs within

  -- the pairs of some entries
  pub AreFields-entries : (es : List CellPart) → All (λ e. e.cell < cells) es → All (λ e. e.part ≤ 1000000) es → AreFields (entry_fields names es)
  AreFields-entries [] within small = tt
  AreFields-entries (e ∷ es) within small = (
    field e.cell (All-head (λ e. e.cell < cells) e es within),
    (
      IsField-decimal e.part (omega (arith, All-head (λ e. e.part ≤ 1000000) e es small)),
      AreFields-entries es (All-tail (λ e. e.cell < cells) e es within) (All-tail (λ e. e.part ≤ 1000000) e es small),
    ),
  )
