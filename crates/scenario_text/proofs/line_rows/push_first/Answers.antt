use Rattle.exact_parts.proofs.AppendLemmas.{at_refusal}
use Rattle.exact_parts.proofs.Beginnings.{begins_after}
use Rattle.scenario_text.specs.RowFields.{entry_fields}
use Rattle.scenario_text.specs.Printing.{first_entry}
use Rattle.text_rows.proofs.RowSteps.{fields_in_range}
use Rattle.scenario_text.proofs.Printed.{first_fields}
use Rattle.std.proofs.Common.{◌≡◌, ℕ, List, ◌++◌, ◌∙◌, ap, arith}
use Rattle.std.specs.List.{flat_map, range_with_len}
use Rattle.text_rows.specs.Rows.{spaced}
use Rattle.scenario_text.proofs.line_rows.push_first.Goals as goal

pub loop-c-preserved : goal.loop-c-preserved
loop-c-preserved c = fields_in_range (λ n. entry_fields c.args.sc.now.names (first_entry c.args.sc.now n)) c.loop-c.c _ _ _ c.loop-c.invariant c.in_ok-push_first_of.ensures.ok

pub returns-clause-ok : goal.returns-clause-ok
returns-clause-ok c =
    let p = c.args.sc.now in
    let all : c.loop-c.c ≡ p.cells = omega (arith, c.cells-c-end.ensures.value) in
    c.loop-c.invariant ∙ ap (λ (n : ℕ). c.args.out.now.items ++ spaced (flat_map (λ k. entry_fields p.names (first_entry p k)) (range_with_len 0 n))) all ∙ ap (λ (t : List ℕ). c.args.out.now.items ++ t) (first_fields p)

pub returns-in_err-push_first_of-clause-err : goal.returns-in_err-push_first_of-clause-err
returns-in_err-push_first_of-clause-err c = at_refusal _ _ (begins_after _ _ _ _ c.loop-c.invariant c.in_err-push_first_of.ensures.err)
