-- What is planned of a scenario that is made is the best of the scenario that it is made of, is accepted, and isn't too long
-- for a check.
use Rattle.std.proofs.Common.{◌≤◌, ◌≡◌, [], ◌++◌, length, refl, sym, ap, arith, subst, ◌∙◌, length-append}
use Rattle.std.proofs.Math.Seq.{drop-append_seam}
use Rattle.scenario_text.specs.Canonical.{canonical_text}
use Rattle.scenario_text.proofs.Back.{canonical_front_reads_back}
use Rattle.bound_tree.proofs.SamePlans.{accepts_same}
use Rattle.tree_format.proofs.SameTexts.{same_search_same_texts}
use Rattle.residual_plan.proofs.Carried.{forced_best}
use Rattle.duo_search.specs.Product.{pair_value}
use Rattle.duo_search.proofs.PairPaths.{paths_are_pairs}
use Rattle.duo_search.proofs.Values.{pair_is_value, no_pair_finds_more}
use Rattle.plan_command.specs.declared.request.TheConstants.{MOST_JUDGED}
use Rattle.plan_command.specs.Plans.{BeginsWith, IsPlanRest}
use Rattle.plan_command.specs.Commands.{IsInput}
use Rattle.plan_command.specs.MadePlans.{IsMadeAndPlanned}
use Rattle.plan_command.specs.MadeLaws.{ReplannedIsBest, PairedIsBest, MadeIsAccepted, MadeIsWithin, WrittenIsAccepted}
use Rattle.plan_command.proofs.Versions.{written_is_text}
use Rattle.plan_command.proofs.PlanSizes.{plan_text_fits}
use Rattle.plan_command.proofs.ScenarioSizes.{canonical_text_fits}

pub replanned_is_best : ReplannedIsBest
replanned_is_best p q flown plan sound made legal forced certified = forced_best p q flown plan.standing.path sound made legal forced certified.best

pub paired_is_best : PairedIsBest
paired_is_best p q second plan sound made within product certified =
    let path = plan.standing.path in
    let both = (paths_are_pairs p q second sound made product within).pair path certified.best.path in
    let value = certified.accepted.value ∙ pair_is_value p q second sound made product path certified.best.path in (
      both.0,
      both.1,
      value,
      λ a b from_start from_second.
          subst (λ n. pair_value p a b ≤ n) (sym value) (no_pair_finds_more p q second sound made product within path certified.best a b from_start from_second),
    )

pub made_is_accepted : MadeIsAccepted
made_is_accepted q nodes text sound (rest, (plan, certified, few, spelled), whole) =
    let (r, same, front) = canonical_front_reads_back q rest sound in
    let begins : BeginsWith r (canonical_text q ++ rest) rest = record { bytes = length (canonical_text q); front = front; follows = sym (drop-append_seam (canonical_text q) rest) } in
    let behind : IsPlanRest r rest plan = record { blanks = []; only = refl; text = rest; spelled = same_search_same_texts q r plan rest same (written_is_text q plan rest spelled); whole = refl } in
    (r, plan, same, subst (λ both. IsInput both r plan) (sym whole) (rest, begins, behind), accepts_same q r plan sound same certified.accepted)

pub made_is_within : MadeIsWithin
made_is_within q nodes text sound (rest, (plan, certified, few, spelled), whole) =
    let scenario = canonical_text_fits q sound in
    let records = plan_text_fits q sound plan rest spelled in
    let judged : MOST_JUDGED ≡ 336592896 = refl in
    (MOST_JUDGED, refl, omega (arith, ap length whole, length-append (canonical_text q) rest, scenario, records, spelled.printable.few, judged))

-- so is what was written
pub written_is_accepted : WrittenIsAccepted
written_is_accepted q plan nodes text sound certified few spelled =
    let made : IsMadeAndPlanned nodes q (canonical_text q ++ text) = (text, (plan, certified, few, spelled), refl) in
    let (r, other, same, is, accepts) = made_is_accepted q nodes (canonical_text q ++ text) sound made in
    (made_is_within q nodes (canonical_text q ++ text) sound made, (q, r, other, same, is, accepts))
