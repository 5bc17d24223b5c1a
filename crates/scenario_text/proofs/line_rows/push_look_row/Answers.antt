use Rattle.std.proofs.Common.{map}
use Rattle.exact_parts.proofs.AppendLemmas.{at_refusal}
use Rattle.exact_parts.proofs.Beginnings.{begins_after}
use Rattle.text_rows.specs.RowFields.{field_text}
use Rattle.scenario_text.specs.Canonical.{covered}
use Rattle.scenario_text.specs.RowFields.{entry_fields}
use Rattle.scenario_text.proofs.LastCalls.{row_last, begins_last}
use Rattle.scenario_text.proofs.line_rows.push_look_row.Goals as goal

pub returns-in_err-begin_row-clause-err : goal.returns-in_err-begin_row-clause-err
returns-in_err-begin_row-clause-err c = at_refusal _ _ c.in_err-begin_row.ensures.err

pub returns-in_err-push_look-clause-err : goal.returns-in_err-push_look-clause-err
returns-in_err-push_look-clause-err c = at_refusal _ _ (begins_after _ _ _ _ c.in_ok-begin_row.ensures.ok c.in_err-push_look.ensures.err)

pub returns-clause-ok : goal.returns-clause-ok
returns-clause-ok c =
    row_last c.end_row.result c.args.out.now.items c.begin_row.new.out.items c.push_look.new.out.items c.end_row.new.out.items c.args.word.now (map field_text c.args.fields.now) (entry_fields c.args.sc.now.names (covered c.args.sc.now c.args.t c.args.q)) c.in_ok-begin_row.ensures.ok c.in_ok-push_look.ensures.ok c.end_row.ensures.ok

pub returns-clause-err : goal.returns-clause-err
returns-clause-err c = begins_last c.end_row.result _ _ _ _ c.in_ok-begin_row.ensures.ok (begins_last c.end_row.result _ _ _ _ c.in_ok-push_look.ensures.ok c.end_row.ensures.err)
