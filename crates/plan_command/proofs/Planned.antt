-- What is planned is accepted behind any text of the same search, and isn't too long there; and so it is of a gap plan.
use Rattle.std.proofs.Common.{◌≡◌, ℕ, true, List, ◌++◌, length, refl, sym, ap, arith, ◌∙◌, append_assoc, length-append}
use Rattle.std.specs.List.{list_all}
use Rattle.std.proofs.lemmas.List.{length-drop}
use Rattle.std.proofs.lemmas.List.Folds.{list_all-append}
use Rattle.std.proofs.Math.Seq.{drop-append_seam}
use Rattle.scenario_text.specs.Canonical.{canonical_text}
use Rattle.scenario_text.proofs.Back.{canonical_front_reads_back}
use Rattle.bound_tree.proofs.SamePlans.{accepts_same}
use Rattle.gap_plan.proofs.SameGaps.{gap_accepts_same}
use Rattle.tree_format.proofs.SameTexts.{same_search_same_texts, same_search_same_gap_text}
use Rattle.tree_format.specs.PlanText.{IsTextOfPlan, IsGapText}
use Rattle.tree_format.proofs.TextLengths.{plan_text_is_short}
use Rattle.plan_command.specs.declared.request.Request.TheVariants.{Check, CheckGap}
use Rattle.plan_command.specs.declared.request.TheConstants.{MOST_CLOSED, MOST_SCENARIO, MOST_JUDGED}
use Rattle.tree_format.specs.declared.dialects.TheConstants.{MOST_GAP_NODES}
use Rattle.plan_command.specs.Plans.{BeginsWith, IsRest, IsPlanRest, IsGapRest}
use Rattle.plan_command.specs.Spaces.{is_space}
use Rattle.plan_command.specs.Laws.{PlannedIsAccepted, PlannedBehindCanonical, PlannedBehindInput, PlannedIsWithin, PlannedIsWithinBehindInput, GappedIsAccepted, GappedBehindCanonical, GappedBehindInput, GappedIsWithin, GappedIsWithinBehindInput}
use Rattle.plan_command.proofs.Behind.{StandsBehind, stands_behind}
use Rattle.plan_command.proofs.Versions.{written_is_text}
use Rattle.plan_command.proofs.PlanSizes.{gap_text_fits}
use Rattle.plan_command.proofs.Finishing.{accepted_due, gap_accepted_due}

-- more blanks before such a text
blanks_before : (IsText : List ℕ → Type 0) (blanks rest : List ℕ) → list_all is_space blanks ≡ true → IsRest IsText rest → IsRest IsText (blanks ++ rest)
blanks_before IsText blanks rest only is = record {
  blanks = blanks ++ is.blanks;
  only = rw (list_all-append is_space blanks is.blanks, only, is.only) refl;
  text = is.text;
  spelled = is.spelled;
  whole = ap (λ (t : List ℕ). blanks ++ t) is.whole ∙ sym (append_assoc blanks is.blanks is.text);
}

pub planned_is_accepted : PlannedIsAccepted
planned_is_accepted words p q nodes input rest both status is same begins behind due =
    let (plan, certified, few, spelled) = behind.spelled in
    let stands : IsPlanRest q rest plan = record { blanks = behind.blanks; only = behind.only; text = behind.text; spelled = same_search_same_texts p q plan behind.text same (written_is_text p plan behind.text spelled); whole = behind.whole } in
    accepted_due words Check both q plan status refl (rest, begins, stands) (accepts_same p q plan is.says.sound same certified.accepted) due

pub planned_behind_canonical : PlannedBehindCanonical
planned_behind_canonical words p nodes input rest status is behind due =
    let (q, same, front) = canonical_front_reads_back p rest is.says.sound in
    let begins : BeginsWith q (canonical_text p ++ rest) rest = record { bytes = length (canonical_text p); front = front; follows = sym (drop-append_seam (canonical_text p) rest) } in
    planned_is_accepted words p q nodes input rest (canonical_text p ++ rest) status is same begins behind due

pub planned_behind_input : PlannedBehindInput
planned_behind_input words p nodes input rest status is feed behind due =
    let (plan, certified, few, spelled) = behind.spelled in
    let there : StandsBehind p input rest = stands_behind p input rest is feed in
    let plain : IsPlanRest p rest plan = record { blanks = behind.blanks; only = behind.only; text = behind.text; spelled = written_is_text p plan behind.text spelled; whole = behind.whole } in
    let stands = blanks_before (IsTextOfPlan p plan) there.blanks rest there.only plain in
    accepted_due words Check (input ++ rest) p plan status refl (there.blanks ++ rest, there.begins, stands) certified.accepted due

pub planned_is_within : PlannedIsWithin
planned_is_within p q nodes input rest both begins behind is short =
    let (plan, certified, few, spelled) = behind.spelled in
    let long = plan_text_is_short p plan behind.text is.says.sound (written_is_text p plan behind.text spelled) in
    let follows = ap length begins.follows in
    let judged : MOST_JUDGED ≡ 336592896 = refl in
    let scenario : MOST_SCENARIO ≡ 1048576 = refl in
    (MOST_JUDGED, refl, omega (arith, long, short, spelled.printable.few, follows, judged, scenario, length-drop begins.bytes both, ap length behind.whole, length-append behind.blanks behind.text))

pub planned_is_within_behind_input : PlannedIsWithinBehindInput
planned_is_within_behind_input p nodes input text is (plan, certified, few, spelled) short =
    let long = plan_text_is_short p plan text is.says.sound (written_is_text p plan text spelled) in
    let judged : MOST_JUDGED ≡ 336592896 = refl in
    let scenario : MOST_SCENARIO ≡ 1048576 = refl in
    (MOST_JUDGED, refl, omega (arith, long, short, spelled.printable.few, judged, scenario, length-append input text))

pub gapped_is_accepted : GappedIsAccepted
gapped_is_accepted words p q nodes input rest both status is same begins behind due =
    let (plan, gapped, spelled) = behind.spelled in
    let stands : IsGapRest q rest plan = record { blanks = behind.blanks; only = behind.only; text = behind.text; spelled = same_search_same_gap_text p q plan behind.text same spelled; whole = behind.whole } in
    gap_accepted_due words CheckGap both q plan status refl (rest, begins, stands) (gap_accepts_same p q plan is.says.sound same gapped.accepted) due

pub gapped_behind_canonical : GappedBehindCanonical
gapped_behind_canonical words p nodes input rest status is behind due =
    let (q, same, front) = canonical_front_reads_back p rest is.says.sound in
    let begins : BeginsWith q (canonical_text p ++ rest) rest = record { bytes = length (canonical_text p); front = front; follows = sym (drop-append_seam (canonical_text p) rest) } in
    gapped_is_accepted words p q nodes input rest (canonical_text p ++ rest) status is same begins behind due

pub gapped_behind_input : GappedBehindInput
gapped_behind_input words p nodes input rest status is feed behind due =
    let (plan, gapped, spelled) = behind.spelled in
    let there : StandsBehind p input rest = stands_behind p input rest is feed in
    let plain : IsGapRest p rest plan = record { blanks = behind.blanks; only = behind.only; text = behind.text; spelled = spelled; whole = behind.whole } in
    let stands = blanks_before (IsGapText p plan) there.blanks rest there.only plain in
    gap_accepted_due words CheckGap (input ++ rest) p plan status refl (there.blanks ++ rest, there.begins, stands) gapped.accepted due

pub gapped_is_within : GappedIsWithin
gapped_is_within p q nodes input rest both begins behind few is short =
    let (plan, gapped, spelled) = behind.spelled in
    let long = gap_text_fits p is.says.sound plan behind.text spelled in
    let follows = ap length begins.follows in
    let judged : MOST_JUDGED ≡ 336592896 = refl in
    let scenario : MOST_SCENARIO ≡ 1048576 = refl in
    let all : MOST_GAP_NODES ≡ 4194305 = refl in
    let most : MOST_CLOSED ≡ 65536 = refl in
    (MOST_JUDGED, refl, omega (arith, long, short, spelled.printable.few, gapped.few, few, follows, judged, scenario, all, most, length-drop begins.bytes both, ap length behind.whole, length-append behind.blanks behind.text))

pub gapped_is_within_behind_input : GappedIsWithinBehindInput
gapped_is_within_behind_input p nodes input text few is (plan, gapped, spelled) short =
    let long = gap_text_fits p is.says.sound plan text spelled in
    let judged : MOST_JUDGED ≡ 336592896 = refl in
    let scenario : MOST_SCENARIO ≡ 1048576 = refl in
    let all : MOST_GAP_NODES ≡ 4194305 = refl in
    let most : MOST_CLOSED ≡ 65536 = refl in
    (MOST_JUDGED, refl, omega (arith, long, short, spelled.printable.few, gapped.few, few, judged, scenario, all, most, length-append input text))
