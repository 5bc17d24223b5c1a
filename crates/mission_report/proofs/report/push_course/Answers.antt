use Rattle.std.proofs.Common.{[], ◌∷◌, codes}
use Rattle.std.proofs.lemmas.Result.{on_ok_weaker, on_err_weaker}
use Rattle.exact_parts.proofs.AppendLemmas.{Stands, stands_first, stands_next, stands_last}
use Rattle.exact_parts.proofs.Beginnings.{begins_after}
use Rattle.text_rows.specs.Rows.{text_of}
use Rattle.mission_report.specs.Report.{report_text}
use Rattle.mission_report.proofs.Values.{last_is}
use Rattle.mission_report.proofs.TextParts.{report_parts}
use Rattle.mission_report.proofs.report.push_course.Goals as goal
use Rattle.mission_report.proofs.report.push_course.Goals.{After-push_row-2}

pub push_masses-requires : goal.push_masses-requires
push_masses-requires c = (c.args.path.now, c.requires.course.belief)

-- all lines but the last stand
but_end : (c : After-push_row-2) → Stands c.args.out.now.items c.push_masses.new.out.items (text_of ((codes "end" ∷ []) ∷ [])) (report_text c.args.sc.now c.args.path.now)
but_end c =
    let value = c.value_after.ensures c.args.path.now c.requires.course.belief in
    let parts = report_parts c.args.sc.now c.args.path.now c.value_after.result c.args.course.now.belief.period value (last_is c.args.sc.now c.args.path.now c.args.course.now.belief c.requires.path c.requires.course.belief) in
    let version = stands_next _ _ (stands_first parts) c.in_ok-push_row.ensures.ok in
    let chance = stands_next _ _ version c.in_ok-push_chance.ensures.ok in
    let periods = stands_next _ _ chance c.in_ok-push_periods.ensures.ok in
    stands_next _ _ periods (c.in_ok-push_masses.ensures.ok c.args.path.now c.requires.course.belief)

pub returns-clause-ok : goal.returns-clause-ok
returns-clause-ok c = on_ok_weaker _ (stands_last (but_end c)) c.push_row-2.ensures.ok

pub returns-clause-err : goal.returns-clause-err
returns-clause-err c = on_err_weaker _ (begins_after _ _ _ (but_end c).done (but_end c).appended) c.push_row-2.ensures.err
