-- What a run has done that ended with a status.
use Rattle.std.proofs.Common.{ℕ, ◌≡◌, List, Option, Some, refl, sym, ap, inl, inr, subst, ◌⊎◌, ◌∙◌}
use Rattle.std.specs.Prelude.{codes}
use Rattle.byte_ports.specs.Causes.{Rose}
use Rattle.search_model.specs.Problem.{Problem}
use Rattle.scenario_text.specs.declared.kind.TextFault.{TextFault}
use Rattle.bound_tree.specs.declared.plan.Plan.{Plan as APlan}
use Rattle.bound_tree.specs.declared.gap.GapPlan.{GapPlan}
use Rattle.bound_tree.specs.Accepts.{Accepts}
use Rattle.bound_tree.specs.Gaps.{GapAccepts}
use Rattle.bound_tree.proofs.Accepted.{accepted_plan_is_best}
use Rattle.bound_tree.proofs.Ceilings.{ceiling_is_above}
use Rattle.tree_format.specs.declared.kind.PlanFault.{PlanFault}
use Rattle.tree_checker.specs.declared.verdict.RejectAt.{RejectAt}
use Rattle.tree_checker.specs.Reasons.{first_reason}
use Rattle.tree_checker.specs.GapReasons.{gap_reason}
use Rattle.plan_command.specs.declared.flown.FlownWhy.{FlownWhy}
use Rattle.plan_command.specs.declared.pairing.DuoWhy.{DuoWhy}
use Rattle.plan_command.specs.declared.request.Request.{Request}
use Rattle.plan_command.specs.declared.request.Request.TheVariants.{Plan, Check, Report, Make, Drill, Convert, Gap, CheckGap, Replan, Map, Duo}
use Rattle.plan_command.specs.declared.status.Status.{Status}
use Rattle.plan_command.specs.declared.status.Status.TheVariants as statuses
use Rattle.plan_command.specs.declared.status.Refusal.{Refusal}
use Rattle.plan_command.specs.declared.status.Refusal.TheVariants as refusals
use Rattle.plan_command.specs.declared.status.Stop.TheVariants as stops
use Rattle.plan_command.specs.Words.{Family, of_scenario, of_plan, of_gap, of_nothing, family_of, limit_at, limit_of, Spells, SpellNone}
use Rattle.plan_command.specs.Lines.{rejection_of, gap_rejection_of}
use Rattle.plan_command.specs.GapPlans.{IsAbove}
use Rattle.plan_command.specs.Inputs.{Source, Course, Reads, ReadWhole}
use Rattle.plan_command.specs.Commands.{IsInput, IsGapInput, TellsWhether, IsGapVerdict, TellsPlan, AnswersAs, RefusesAs}
use Rattle.plan_command.specs.Run.{Call, Delivered, Refused, Ending, delivered, stopped, Ends, status_at, IsRefusal, IsCutOff}
use Rattle.plan_command.specs.Promises.{ReadsAll, Writes, WritesNothing, Plans, Gaps, Replans, Maps, FindsMost, Pairs, ReadsBest, Affirms, AffirmsGap, Reports, Converts, RejectsPlan, RejectsGap, Rejects, Makes, Drills, TakesTooMuch, FailsToRead, TakesNoMore, Keeps}
use Rattle.plan_command.proofs.MadeBest.{replanned_is_best, paired_is_best}
use Rattle.plan_command.proofs.Inputs.{part_read}
use Rattle.plan_command.proofs.Unmade.{never_rejected}
use Rattle.plan_command.proofs.WordForms.{spelled_once}

-- what a run has done that ended with this status
abbrev ByStatus : {Went : Course → Type 0} → Call Went → Status → Type 0
ByStatus c statuses.Done = (r : Request) × Spells c.words r × Delivered c r statuses.Done
ByStatus c statuses.Rejected =
    ((r : Request) × Spells c.words r × Delivered c r statuses.Rejected)
    ⊎ ((at : RejectAt) × IsRefusal c (refusals.Rejected at))
ByStatus c statuses.Usage = SpellNone c.words
ByStatus c statuses.BadScenario = (fault : TextFault) × IsRefusal c (refusals.BadScenario fault)
ByStatus c statuses.BadPlan = (fault : PlanFault) × IsRefusal c (refusals.BadPlan fault)
ByStatus c statuses.BadFlown = (why : FlownWhy) × IsRefusal c (refusals.BadFlown why)
ByStatus c statuses.BadDuo = (why : DuoWhy) × IsRefusal c (refusals.BadDuo why)
ByStatus c statuses.TooManyNodes = (nodes : ℕ) × IsRefusal c (refusals.TooManyNodes nodes)
ByStatus c statuses.TooLong = TakesTooMuch c
ByStatus c statuses.ReadFault = FailsToRead c
ByStatus c statuses.WriteFault = Rose c.before.write_faults c.after.write_faults × IsCutOff c
ByStatus c statuses.NoMemory = (WritesNothing c ⊎ IsCutOff c) × TakesNoMore c

done_isnt_rejected : statuses.Done ≡ statuses.Rejected → ⊥
done_isnt_rejected e = cc

-- a verdict has the status Done, and then it accepts, or the status Rejected, and then it tells the reason
module _ {W : Type 0} (Accepted : Type 0) (reason : Option W) (line : W → List ℕ) (status : Status) (text : List ℕ) where
  verdict_done_or_rejected : TellsWhether Accepted reason line status text → (status ≡ statuses.Done) ⊎ (status ≡ statuses.Rejected)
  verdict_done_or_rejected (inl taken) = inl taken.1
  verdict_done_or_rejected (inr turned) = inr turned.1

  accepting : status ≡ statuses.Done → TellsWhether Accepted reason line status text → Accepted × (text ≡ codes "accepted\n")
  accepting done (inl taken) = (taken.0, taken.2)
  accepting done (inr turned) = absurd (done_isnt_rejected (sym done ∙ turned.1))

  turning : status ≡ statuses.Rejected → TellsWhether Accepted reason line status text → (Accepted → ⊥) × ((at : W) × (reason ≡ Some at) × (text ≡ line at))
  turning rejected (inl taken) = absurd (done_isnt_rejected (sym taken.1 ∙ rejected))
  turning rejected (inr turned) = (turned.0, turned.2)

-- what is told of a plan is told with the status Done, or with Rejected
told_done_or_rejected : (request : Request) (p : Problem) (plan : APlan) (status : Status) (text : List ℕ) → TellsPlan request p plan status text → (status ≡ statuses.Done) ⊎ (status ≡ statuses.Rejected)
told_done_or_rejected Check p plan status text tells = verdict_done_or_rejected (Accepts p plan) (first_reason p plan) rejection_of status text tells
told_done_or_rejected (Report json) p plan status text tells = inl tells.0
told_done_or_rejected Convert p plan status text tells = inl tells.0
told_done_or_rejected (Plan workers nodes) p plan status text tells = absurd tells
told_done_or_rejected (Make number) p plan status text tells = absurd tells
told_done_or_rejected (Drill number workers) p plan status text tells = absurd tells
told_done_or_rejected (Gap workers nodes) p plan status text tells = absurd tells
told_done_or_rejected CheckGap p plan status text tells = absurd tells
told_done_or_rejected (Replan workers nodes flown) p plan status text tells = absurd tells
told_done_or_rejected (Map flown) p plan status text tells = absurd tells
told_done_or_rejected (Duo workers nodes second) p plan status text tells = absurd tells

-- so is each answer
done_or_rejected : (family : Family) (words : List (List ℕ)) (request : Request) (input : List ℕ) (status : Status) (text : List ℕ) → AnswersAs family words request input status text → (status ≡ statuses.Done) ⊎ (status ≡ statuses.Rejected)
done_or_rejected of_scenario words request input status text answers = inl answers.0
done_or_rejected of_plan words request input status text (p, plan, is, tells) = told_done_or_rejected request p plan status text tells
done_or_rejected of_gap words request input status text (p, plan, is, tells) = verdict_done_or_rejected (GapAccepts p plan) (gap_reason p plan) gap_rejection_of status text tells
done_or_rejected of_nothing words request input status text answers = inl answers.0

-- gap plans are read by the check of them alone
gaps_alone : (r : Request) → family_of r ≡ of_gap → r ≡ CheckGap
gaps_alone CheckGap its = refl
gaps_alone Check its = let bad : ⊥ = cc in absurd bad
gaps_alone (Report json) its = let bad : ⊥ = cc in absurd bad
gaps_alone Convert its = let bad : ⊥ = cc in absurd bad
gaps_alone (Plan workers nodes) its = let bad : ⊥ = cc in absurd bad
gaps_alone (Make number) its = let bad : ⊥ = cc in absurd bad
gaps_alone (Drill number workers) its = let bad : ⊥ = cc in absurd bad
gaps_alone (Gap workers nodes) its = let bad : ⊥ = cc in absurd bad
gaps_alone (Replan workers nodes flown) its = let bad : ⊥ = cc in absurd bad
gaps_alone (Map flown) its = let bad : ⊥ = cc in absurd bad
gaps_alone (Duo workers nodes second) its = let bad : ⊥ = cc in absurd bad

module _ (Went : Course → Type 0) (c : Call Went) where
  delivered_by : (r : Request) (status : Status) → Spells c.words r → Delivered c r status → ByStatus c status
  delivered_by r status spelled whole =
      elim (done_or_rejected (family_of r) c.words r whole.input status whole.text whole.answers) [
        | inl done ↦ subst (ByStatus c) (sym done) (r, spelled, subst (λ (s : Status). Delivered c r s) done whole)
        | inr rejected ↦ subst (ByStatus c) (sym rejected) (inl (r, spelled, subst (λ (s : Status). Delivered c r s) rejected whole))
      ]

  refused_by : (r : Request) (refusal : Refusal) → Spells c.words r → Refused c r refusal → ByStatus c (status_at (stopped (stops.Refused refusal)))
  refused_by r (refusals.Rejected at) spelled refused = inr (at, (r, spelled, refused))
  refused_by r (refusals.BadScenario fault) spelled refused = (fault, (r, spelled, refused))
  refused_by r (refusals.BadPlan fault) spelled refused = (fault, (r, spelled, refused))
  refused_by r (refusals.BadFlown why) spelled refused = (why, (r, spelled, refused))
  refused_by r (refusals.BadDuo why) spelled refused = (why, (r, spelled, refused))
  refused_by r (refusals.TooManyNodes limit) spelled refused = (limit, (r, spelled, refused))

  -- an ending tells what its status tells
  ends_by : (end : Ending) → Ends c end → ByStatus c (status_at end)
  ends_by (delivered status) (r, spelled, whole) = delivered_by r status spelled whole
  ends_by (stopped stops.Usage) ends = ends.0
  ends_by (stopped (stops.Refused refusal)) (r, spelled, refused) = refused_by r refusal spelled refused
  ends_by (stopped stops.ReadFault) (r, spelled, (failed, same)) = (r, failed.limit, spelled, failed.is_limit, failed.taken, failed.rose, failed.gone, same)
  ends_by (stopped stops.TooLong) (r, spelled, (long, same)) = (r, long.limit, spelled, long.is_limit, long.taken, long.gone, same)
  ends_by (stopped stops.WriteFault) (r, spelled, fault) = (fault.0, (r, spelled, fault.1))
  ends_by (stopped stops.NoMemory) (r, spelled, inl (part, same)) = (inl same, (r, spelled, part))
  ends_by (stopped stops.NoMemory) (r, spelled, inr cut) = (inr (r, spelled, cut), (r, spelled, part_read Went (limit_of r) c.before.source c.after.source cut.input cut.read))

  -- what was delivered to the request that the words spell
  delivered_to : (request : Request) → ByStatus c statuses.Done → Spells c.words request → Delivered c request statuses.Done
  delivered_to request (r, spelled, whole) asked = subst (λ (q : Request). Delivered c q statuses.Done) (spelled_once c.words r request spelled asked) whole

  -- an input that was read whole
  whole_read : (limit : ℕ) (input : List ℕ) → ReadWhole Went limit c.before.source c.after.source input → ReadsAll c input
  whole_read limit input read = (read.taken, read.ended, (limit, read.short, read.gone))

  planned_input : ByStatus c statuses.Done → Plans c
  planned_input done workers nodes asked =
      let d = delivered_to (Plan workers nodes) done asked in
      let (p, is, (plan, certified, few, spelled)) = d.answers.1 in
      (p, d.input, is, (whole_read _ d.input d.read), (plan, d.text, certified, few, spelled, d.written))

  gapped_input : ByStatus c statuses.Done → Gaps c
  gapped_input done workers nodes asked =
      let d = delivered_to (Gap workers nodes) done asked in
      let (p, is, (plan, gapped, spelled)) = d.answers.1 in
      (p, d.input, is, (whole_read _ d.input d.read), (plan, d.text, gapped, spelled, d.written))

  replanned_input : ByStatus c statuses.Done → Replans c
  replanned_input done workers nodes flown asked =
      let d = delivered_to (Replan workers nodes flown) done asked in
      let (p, is, (q, (made, (prefix, named, forced)), (text, (plan, certified, few, spelled), whole))) = d.answers.1 in
      let best = replanned_is_best p q prefix plan is.says.sound made named.1 forced certified in
      (p, q, d.input, prefix, is, (whole_read _ d.input d.read), named, made, forced, (plan, text, certified, few, spelled, best, subst (λ t. Writes c t) whole d.written))

  mapped_input : ByStatus c statuses.Done → Maps c
  mapped_input done flown asked =
      let d = delivered_to (Map flown) done asked in
      let (p, is, (prefix, named, told)) = d.answers.1 in
      (p, d.input, prefix, is, (whole_read _ d.input d.read), named, subst (λ t. Writes c t) told d.written)

  paired_input : ByStatus c statuses.Done → Pairs c
  paired_input done workers nodes name asked =
      let d = delivered_to (Duo workers nodes name) done asked in
      let (p, is, (q, (made, (second, named, product)), (text, (plan, certified, few, spelled), whole))) = d.answers.1 in
      let (first_path, second_path, value, most) = paired_is_best p q second plan is.says.sound made named.0 product certified in
      let finds : FindsMost p second plan = record { first_path = first_path; second_path = second_path; value = value; most = most } in
      (p, q, d.input, second, is, (whole_read _ d.input d.read), named, made, product, (plan, text, certified, few, spelled, finds, subst (λ t. Writes c t) whole d.written))

  -- the plan of an input is the best
  best_of : (p : Problem) (plan : APlan) (input : List ℕ) → ReadsAll c input → IsInput input p plan → Accepts p plan → ReadsBest c p plan
  best_of p plan input read is accepts = (input, read, is, accepts, accepted_plan_is_best p plan is.1.front.says.sound accepts)

  accepted_input : ByStatus c statuses.Done → Affirms c
  accepted_input done asked =
      let d = delivered_to Check done asked in
      let (p, plan, is, verdict) = d.answers in
      let taken = accepting (Accepts p plan) (first_reason p plan) rejection_of statuses.Done d.text refl verdict in
      ((p, plan, best_of p plan d.input (whole_read _ d.input d.read) is taken.0), subst (λ t. Writes c t) taken.1 d.written)

  accepted_gap_input : ByStatus c statuses.Done → AffirmsGap c
  accepted_gap_input done asked =
      let d = delivered_to CheckGap done asked in
      let (p, plan, is, verdict) = d.answers in
      let taken = accepting (GapAccepts p plan) (gap_reason p plan) gap_rejection_of statuses.Done d.text refl verdict in
      let above : IsAbove p plan.ceiling = λ y path. ceiling_is_above p plan y is.1.front.says.sound taken.0 path in
      ((p, plan, d.input, (whole_read _ d.input d.read), is, taken.0, above), subst (λ t. Writes c t) taken.1 d.written)

  reported_input : ByStatus c statuses.Done → Reports c
  reported_input done json asked =
      let d = delivered_to (Report json) done asked in
      let (p, plan, is, (status, accepts, told)) = d.answers in
      (p, plan, best_of p plan d.input (whole_read _ d.input d.read) is accepts, subst (λ t. Writes c t) told d.written)

  converted_input : ByStatus c statuses.Done → Converts c
  converted_input done asked =
      let d = delivered_to Convert done asked in
      let (p, plan, is, (status, accepts, told)) = d.answers in
      (p, plan, best_of p plan d.input (whole_read _ d.input d.read) is accepts, (d.text, told, d.written))

  made_text : ByStatus c statuses.Done → Makes c
  made_text done number asked =
      let d = delivered_to (Make number) done asked in
      (ap (λ (s : Source). s.left) d.read.same, subst (λ t. Writes c t) d.answers.1 d.written)

  drilled_text : ByStatus c statuses.Done → Drills c
  drilled_text done number workers asked =
      let d = delivered_to (Drill number workers) done asked in
      (ap (λ (s : Source). s.left) d.read.same, (d.text, d.answers.1, d.written))

  -- of what is told of a plan only a check's verdict is a rejection
  told_rejected : (r : Request) (p : Problem) (plan : APlan) (input text : List ℕ) → Spells c.words r → ReadsAll c input → IsInput input p plan → Writes c text → TellsPlan r p plan statuses.Rejected text → RejectsPlan c
  told_rejected Check p plan input text spelled read is written tells =
      let (turned, (at, reason, same)) = turning (Accepts p plan) (first_reason p plan) rejection_of statuses.Rejected text refl tells in
      (input, at, read, (p, plan, is, turned, reason), inl (spelled, subst (λ t. Writes c t) same written))
  told_rejected (Report json) p plan input text spelled read is written tells = absurd (done_isnt_rejected (sym tells.0))
  told_rejected Convert p plan input text spelled read is written tells = absurd (done_isnt_rejected (sym tells.0))
  told_rejected (Plan workers nodes) p plan input text spelled read is written tells = absurd tells
  told_rejected (Make number) p plan input text spelled read is written tells = absurd tells
  told_rejected (Drill number workers) p plan input text spelled read is written tells = absurd tells
  told_rejected (Gap workers nodes) p plan input text spelled read is written tells = absurd tells
  told_rejected CheckGap p plan input text spelled read is written tells = absurd tells
  told_rejected (Replan workers nodes flown) p plan input text spelled read is written tells = absurd tells
  told_rejected (Map flown) p plan input text spelled read is written tells = absurd tells
  told_rejected (Duo workers nodes second) p plan input text spelled read is written tells = absurd tells

  -- and so is that of a check of a gap plan
  gap_rejected : (p : Problem) (plan : GapPlan) (input text : List ℕ) → Spells c.words CheckGap → ReadsAll c input → IsGapInput input p plan → Writes c text → IsGapVerdict p plan statuses.Rejected text → RejectsGap c
  gap_rejected p plan input text spelled read is written tells =
      let (turned, (at, reason, same)) = turning (GapAccepts p plan) (gap_reason p plan) gap_rejection_of statuses.Rejected text refl tells in
      (spelled, (input, at, read, (p, plan, is, turned, reason), subst (λ t. Writes c t) same written))

  rejected_as : (family : Family) (r : Request) (input text : List ℕ) → family_of r ≡ family → Spells c.words r → Reads Went (limit_at family) c.before.source c.after.source input → AnswersAs family c.words r input statuses.Rejected text → Writes c text → Rejects c
  rejected_as of_scenario r input text its spelled read answers written = absurd (done_isnt_rejected (sym answers.0))
  rejected_as of_plan r input text its spelled read (p, plan, is, tells) written = inl (told_rejected r p plan input text spelled (whole_read _ input read) is written tells)
  rejected_as of_gap r input text its spelled read (p, plan, is, tells) written =
      inr (gap_rejected p plan input text (subst (Spells c.words) (gaps_alone r its) spelled) (whole_read _ input read) is written tells)
  rejected_as of_nothing r input text its spelled read answers written = absurd (done_isnt_rejected (sym answers.0))

  -- and of what is refused, only a plan that has to be accepted
  stopped_as : (family : Family) (r : Request) (input : List ℕ) (at : RejectAt) → Spells c.words r → Reads Went (limit_at family) c.before.source c.after.source input → RefusesAs family c.words r input (refusals.Rejected at) → WritesNothing c → RejectsPlan c
  stopped_as of_scenario r input at spelled read (p, is, unmade) unwritten = absurd (never_rejected c.words r p at unmade)
  stopped_as of_plan r input at spelled read (needs, rejected) unwritten = (input, at, (whole_read _ input read), rejected, inr (r, needs, spelled, unwritten))
  stopped_as of_gap r input at spelled read refuses unwritten = absurd refuses
  stopped_as of_nothing r input at spelled read refuses unwritten = absurd refuses

  rejected_input : ByStatus c statuses.Rejected → Rejects c
  rejected_input (inl (r, spelled, d)) = rejected_as (family_of r) r d.input d.text refl spelled d.read d.answers d.written
  rejected_input (inr (at, (r, spelled, d))) = inl (stopped_as (family_of r) r d.input at spelled d.read d.refuses d.unwritten)

  -- words that spell nothing end a run so
  only_usage : (end : Ending) → Ends c end → SpellNone c.words → status_at end ≡ statuses.Usage
  only_usage (delivered status) (r, spelled, whole) none = absurd (none r spelled)
  only_usage (stopped stops.Usage) ends none = refl
  only_usage (stopped (stops.Refused refusal)) (r, spelled, refused) none = absurd (none r spelled)
  only_usage (stopped stops.ReadFault) (r, spelled, fault) none = absurd (none r spelled)
  only_usage (stopped stops.TooLong) (r, spelled, long) none = absurd (none r spelled)
  only_usage (stopped stops.WriteFault) (r, spelled, fault) none = absurd (none r spelled)
  only_usage (stopped stops.NoMemory) (r, spelled, cut) none = absurd (none r spelled)

  pub run_keeps : (end : Ending) → Ends c end → Keeps c (status_at end)
  run_keeps end ends =
      let told : (status : Status) → status_at end ≡ status → ByStatus c status = λ status same. subst (ByStatus c) same (ends_by end ends) in
      record {
        planned = λ done. planned_input (told statuses.Done done);
        gapped = λ done. gapped_input (told statuses.Done done);
        replanned = λ done. replanned_input (told statuses.Done done);
        mapped = λ done. mapped_input (told statuses.Done done);
        paired = λ done. paired_input (told statuses.Done done);
        accepted = λ done. accepted_input (told statuses.Done done);
        accepted_gap = λ done. accepted_gap_input (told statuses.Done done);
        reported = λ done. reported_input (told statuses.Done done);
        converted = λ done. converted_input (told statuses.Done done);
        made = λ done. made_text (told statuses.Done done);
        drilled = λ done. drilled_text (told statuses.Done done);
        rejected = λ rejected. rejected_input (told statuses.Rejected rejected);
        usage = (told statuses.Usage, only_usage end ends);
        bad_scenario = told statuses.BadScenario;
        bad_plan = told statuses.BadPlan;
        bad_flown = told statuses.BadFlown;
        bad_duo = told statuses.BadDuo;
        too_many_nodes = told statuses.TooManyNodes;
        too_long = told statuses.TooLong;
        read_fault = told statuses.ReadFault;
        write_fault = told statuses.WriteFault;
        no_memory = λ none. (told statuses.NoMemory none).0;
        part_read = λ none. (told statuses.NoMemory none).1;
      }
