-- The fields of a row, as the code passes them.
use Rattle.std.specs.Prelude.{ℕ, ◌*◌, ◌^◌, ◌<◌, ◌≤◌, List}
use Rattle.std.specs.Fmt.{decimal}
use Rattle.exact_parts.specs.Percent.{percent_text}
use Rattle.text_rows.specs.declared.rows.Field.{Field}
use Rattle.text_rows.specs.declared.rows.Field.TheVariants.{Word, Number, Share}

-- what a field is in the text
abbrev pub field_text : Field → List ℕ
field_text (Word bytes) = bytes.now
field_text (Number n) = decimal n
field_text (Share n whole) = percent_text n whole

-- a share is a part of a whole that leaves room for a digit more
abbrev pub IsField : Field → Type 0
IsField (Word bytes) = Unit {0}
IsField (Number n) = Unit {0}
IsField (Share n whole) = (1 ≤ whole) × (n ≤ whole) × (10 * whole < 2 ^ 127)
