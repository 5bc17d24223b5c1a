use Rattle.std.proofs.Common.{◌∷◌, [], ◌++◌, List, ◌∙◌, ap, take_all}
use Rattle.std.specs.Fmt.{decimal}
use Rattle.period_rows.specs.declared.part.CellPart.{CellPart}
use Rattle.search_model.specs.Names.{name_in}
use Rattle.exact_parts.proofs.AppendLemmas.{at_refusal}
use Rattle.exact_parts.proofs.Beginnings.{begins_after}
use Rattle.text_rows.specs.Rows.{spaced}
use Rattle.text_rows.proofs.RowSteps.{fields_more}
use Rattle.scenario_text.specs.RowFields.{entry_fields}
use Rattle.scenario_text.proofs.line_rows.push_entries.Goals as goal

pub loop-entry-preserved : goal.loop-entry-preserved
loop-entry-preserved c = fields_more (λ e. name_in c.args.sc.now.names e.cell ∷ decimal e.part ∷ []) c.args.entries.now c.loop-entry.entry-index (record { cell = 0; part = 0 }) _ _ _ c.loop-entry-test.true c.loop-entry.invariant c.in_ok-push_entry.ensures.ok

pub returns-in_err-push_entry-clause-err : goal.returns-in_err-push_entry-clause-err
returns-in_err-push_entry-clause-err c = at_refusal _ _ (begins_after _ _ _ _ c.loop-entry.invariant c.in_err-push_entry.ensures.err)

pub returns-clause-ok : goal.returns-clause-ok
returns-clause-ok c =
    c.loop-entry.invariant ∙ ap (λ (entries : List CellPart). c.args.out.now.items ++ spaced (entry_fields c.args.sc.now.names entries)) (take_all c.loop-entry.entry-index c.args.entries.now c.loop-entry-test.false)
