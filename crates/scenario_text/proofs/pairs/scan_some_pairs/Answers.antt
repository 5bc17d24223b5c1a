use Rattle.std.proofs.Common.{◌∙◌, sym}
use Rattle.std.proofs.lemmas.Bool.{eqb-true}
use Rattle.std.proofs.lemmas.Result.{IfOk-weaker}
use Rattle.scenario_text.proofs.PairSteps.{begun, no_pairs, some_scanned}
use Rattle.scenario_text.proofs.pairs.scan_some_pairs.Goals as goal

pub returns-then-is_empty : goal.returns-then-is_empty
returns-then-is_empty c = no_pairs _ _ c.skip_blanks.ensures.fields (eqb-true _ _ (sym c.is_empty.ensures ∙ c.if-is_empty.true))

pub returns : goal.returns
returns c =
    let first = c.skip_blanks.result.now in
    let some = begun first c.is_empty.result c.skip_blanks.ensures.starts c.is_empty.ensures c.if-is_empty.false in
    IfOk-weaker c.scan_pairs.result _ _ (λ o. some_scanned _ c.args.text.now first o c.skip_blanks.ensures.fields some) c.scan_pairs.ensures
