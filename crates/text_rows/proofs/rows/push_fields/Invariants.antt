use Rattle.std.proofs.Common.{◌≡◌, ◌++◌, map, take}
use Rattle.text_rows.specs.Rows.{spaced}
use Rattle.text_rows.specs.RowFields.{field_text}
use Rattle.text_rows.proofs.rows.push_fields.Given as goal

abbrev pub invariant-loop-field : goal.invariant-loop-field
invariant-loop-field l = l.out.items ≡ l.fn.out.items ++ spaced (map field_text (take l.field-index l.fields))
