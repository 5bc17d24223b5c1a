use Rattle.std.proofs.Common.{map}
use Rattle.text_rows.specs.RowFields.{field_text}
use Rattle.text_rows.proofs.RowSteps.{row_whole}
use Rattle.text_rows.proofs.rows.push_row.Goals as goal

pub returns-clause-ok : goal.returns-clause-ok
returns-clause-ok c = row_whole _ _ c.push.new.self.items c.args.word.now (map field_text c.args.fields.now) c.in_ok-begin_row.ensures.ok c.in_ok-push.ensures.items
