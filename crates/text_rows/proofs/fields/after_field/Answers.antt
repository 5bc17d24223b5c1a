use Rattle.std.proofs.Common.{sym, ◌∙◌}
use Rattle.std.proofs.lemmas.Bool.{eqb-true}
use Rattle.text_rows.proofs.FieldCuts.{after_none}
use Rattle.text_rows.proofs.fields.after_field.Goals as goal

pub returns-then-is_empty : goal.returns-then-is_empty
returns-then-is_empty c = after_none _ _ c.skip_blanks-line.ensures.fields (eqb-true _ _ (sym c.is_empty.ensures ∙ c.if-is_empty.true))
