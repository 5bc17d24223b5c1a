use Rattle.std.proofs.Common.{◌++◌, List, ◌∙◌, ap, take_all}
use Rattle.std.specs.List.{flat_map}
use Rattle.exact_parts.proofs.AppendLemmas.{at_refusal}
use Rattle.exact_parts.proofs.Beginnings.{begins_after}
use Rattle.text_rows.specs.Rows.{spaced}
use Rattle.text_rows.proofs.RowSteps.{fields_more}
use Rattle.period_rows.specs.declared.part.CellPart.{CellPart}
use Rattle.scenario_text.specs.RowFields.{entry_fields}
use Rattle.scenario_text.specs.Printing.{covered_entry}
use Rattle.scenario_text.proofs.line_rows.push_covered.Goals as goal

pub loop-entry-preserved : goal.loop-entry-preserved
loop-entry-preserved c = fields_more (λ e. entry_fields c.args.sc.now.names (covered_entry c.args.sc.now e)) c.args.entries.now c.loop-entry.entry-index (record { cell = 0; part = 0 }) _ _ _ c.loop-entry-test.true c.loop-entry.invariant c.in_ok-push_covered_part.ensures.ok

pub returns-in_err-push_covered_part-clause-err : goal.returns-in_err-push_covered_part-clause-err
returns-in_err-push_covered_part-clause-err c = at_refusal _ _ (begins_after _ _ _ _ c.loop-entry.invariant c.in_err-push_covered_part.ensures.err)

pub returns-clause-ok : goal.returns-clause-ok
returns-clause-ok c =
    let p = c.args.sc.now in
    c.loop-entry.invariant ∙ ap (λ (entries : List CellPart). c.args.out.now.items ++ spaced (flat_map (λ e. entry_fields p.names (covered_entry p e)) entries)) (take_all c.loop-entry.entry-index c.args.entries.now c.loop-entry-test.false)
