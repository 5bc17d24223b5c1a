use Rattle.std.proofs.Common.{ℕ, List, ◌++◌, ap, ◌∙◌}
use Rattle.serde_json.specs.View.{view}
use Rattle.mission_report.proofs.JsonText.{written_json}
use Rattle.mission_report.proofs.json.push_report_json.Goals as goal

pub returns-clause-ok : goal.returns-clause-ok
returns-clause-ok c =
    let told = written_json c.args.sc.now c.args.path.now (view c.in_ok-report_value.field-0) c.in_ok-text.text.items c.in_ok-report_value.ensures c.in_ok-text.ensures.text in
    c.in_ok-extend_from_slice.ensures.items ∙ ap (λ (t : List ℕ). c.args.out.now.items ++ t) (c.deref.ensures.value ∙ c.in_ok-push.ensures.items ∙ told)
