use Rattle.std.proofs.Common.{◌∙◌, refl}
use Rattle.std.proofs.lemmas.Result.{IfOk-weaker}
use Rattle.mission_report.specs.Json.{left_entry}
use Rattle.mission_report.proofs.Masses.{by_last_masses}
use Rattle.mission_report.proofs.json.report_value.Goals as goal

pub returns : goal.returns
returns c =
    let p = c.args.sc.now in
    let q = c.args.path.now in
    let value = c.value_after.ensures q c.in_ok-course.ensures.belief in
    let left = by_last_masses p c.weight.ensures.sound q c.in_ok-course.course.belief c.in_ok-course.ensures.belief (left_entry p) c.requires in
    IfOk-weaker c.report_object.result _ _ (λ v is. is ∙ rw (c.in_ok-chance.ensures, value, c.in_ok-left.ensures, left, c.in_ok-places.ensures, c.in_ok-periods.ensures, c.deref.ensures.value, c.in_ok-course.ensures.values, c.in_ok-weight.ensures, c.weight.ensures.value) refl) c.report_object.ensures
