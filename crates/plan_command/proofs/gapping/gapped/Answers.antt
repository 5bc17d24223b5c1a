use Rattle.std.proofs.Common.{sym, subst, ◌∙◌}
use Rattle.search_model.specs.declared.standing.Standing.{Standing}
use Rattle.bound_tree.specs.declared.plan.Plan.{Plan}
use Rattle.bound_tree.specs.Close.{IsAtLeast}
use Rattle.bound_tree.specs.Gaps.{gap_of, numbers_for}
use Rattle.search_workers.specs.Search.{plan_of, StopsAtLimit}
use Rattle.plan_command.specs.GapPlans.{IsGapped}
use Rattle.plan_command.proofs.Certified.{told_full}
use Rattle.plan_command.proofs.Gapped.{found_gapped, full_gapped}
use Rattle.plan_command.proofs.gapping.gapped.Goals as goal

pub returns-in_ok-text_of_found-in-Ok : goal.returns-in_ok-text_of_found-in-Ok
returns-in_ok-text_of_found-in-Ok g c =
    let sc = c.args.sc.now in
    let first = c.in_ok-first.first in
    let found = c.in-Ok.ensures in
    let gapped = found_gapped c.args.nodes sc c.recall_sound.ensures first c.in_ok-first.ensures.path c.in_ok-first.ensures.value (plan_of sc c.in-Ok.found) found.best found.accepted found.branches found.few in
    (gap_of (numbers_for sc) c.plan_found-plan.result, subst (λ (plan : Plan). IsGapped c.args.nodes sc (gap_of (numbers_for sc) plan)) (sym c.plan_found-plan.ensures) gapped, c.in_ok-text_of_found-in-Ok.ensures)

pub returns-in_ok-text_of_gap-in-Err-Full : goal.returns-in_ok-text_of_gap-in-Err-Full
returns-in_ok-text_of_gap-in-Err-Full g c =
    let sc = c.args.sc.now in
    let first = c.in_ok-first.first in
    let part = c.in-Err-Full.part in
    let stops = told_full _ part c.in-Err-Full.field-0-is (StopsAtLimit sc first c.args.nodes) c.in-Err-Full.ensures.full in
    let made = c.in_ok-plan-in-Err-Full.ensures in
    let plan = c.in_ok-plan-in-Err-Full.plan in
    let up = subst (λ (t : Standing). IsAtLeast t first) (sym made.standing) stops.up in
    let gapped = full_gapped c.args.nodes sc c.recall_sound.ensures first c.in_ok-first.ensures.path c.in_ok-first.ensures.value plan part.closed.items made.accepted (made.numbers ∙ c.numbers_for.ensures) up stops.joined.branches made.closed stops.closed stops.more in
    (plan, gapped, c.in_ok-text_of_gap-in-Err-Full.ensures)
