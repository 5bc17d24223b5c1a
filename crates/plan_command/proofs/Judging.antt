-- What a judge took of the bytes behind a scenario, and kept of them.
use Rattle.std.proofs.Common.{ℕ, suc, get_or, ◌≡◌, ◌+◌, ◌<◌, ◌≤◌, ◌^◌, true, false, List, [], ◌∷◌, ◌++◌, length, take, drop, Option, Some, None, Result, Ok, Err, refl, sym, ap, ◌∙◌, subst, arith, append_assoc, append-nil, length-append, OnOk}
use Rattle.std.specs.Prelude.{◌==◌}
use Rattle.std.proofs.Math.Seq.{take-add, take-suc}
use Rattle.std.proofs.lemmas.List.{take-append-drop, take_all, drop-append-le}
use Rattle.std.proofs.lemmas.List.Folds.{list_all-append}
use Rattle.search_model.specs.Problem.{Problem, IsProblem}
use Rattle.scenario_text.specs.Reading.{front_of}
use Rattle.scenario_text.specs.Laws.{EndsWithEnd}
use Rattle.scenario_text.specs.Scenarios.{IsFront}
use Rattle.scenario_text.proofs.EndLines.{front_ignores_rest}
use Rattle.bound_tree.specs.declared.plan.Plan.{Plan}
use Rattle.bound_tree.specs.declared.gap.GapPlan.{GapPlan}
use Rattle.scenario_text.specs.declared.kind.TextFault.{TextFault}
use Rattle.tree_format.specs.declared.kind.PlanFault.{PlanFault}
use Rattle.tree_format.specs.declared.stop.PlanStop.{PlanStop}
use Rattle.tree_format.specs.declared.stop.PlanStop.TheVariants as halts
use Rattle.tree_format.specs.Gives.{IfFault}
use Rattle.tree_format.specs.declared.plan_item.PlanItem.{PlanItem}
use Rattle.tree_format.specs.Reading.{text_at}
use Rattle.tree_format.specs.declared.plan_line.Family.{Family}
use Rattle.tree_format.specs.Dialects.{first_line}
use Rattle.tree_format.specs.declared.plan_item.Step.{Step}
use Rattle.tree_format.specs.declared.plan_item.Step.TheVariants.{More, Item, Fault}
use Rattle.tree_format.specs.Feeding.{HasRead, IfRead, IfMore, IfItem, IfFaulty, IsDecided, IsWhole, IsCutOff}
use Rattle.tree_format.specs.FeedSteps.{Stand}
use Rattle.tree_checker.specs.declared.gap_verdict.GapRejectAt.{GapRejectAt}
use Rattle.tree_checker.specs.declared.gap_verdict.GapVerdict.{GapVerdict}
use Rattle.tree_checker.specs.declared.gap_verdict.GapVerdict.TheVariants as verdicts
use Rattle.tree_checker.specs.GapReasons.{gap_verdict_of}
use Rattle.tree_checker.specs.Progress.{gap_reason_at_end, IsUnderWay, IsMadeFor}
use Rattle.tree_checker.proofs.Reason.{no_reason_from}
use Rattle.plan_command.specs.declared.judge.Task.{Task}
use Rattle.plan_command.specs.declared.judge.Judge.{Judge}
use Rattle.plan_command.specs.declared.intake.Intake.{Intake}
use Rattle.plan_command.specs.declared.intake.Intake.TheVariants as intakes
use Rattle.plan_command.specs.declared.status.Stop.{Stop}
use Rattle.plan_command.specs.declared.status.Stop.TheVariants as stops
use Rattle.plan_command.specs.declared.status.Refusal.TheVariants as refusals
use Rattle.plan_command.specs.Spaces.{is_space, starts_with_space, SkipsSpaces}
use Rattle.plan_command.specs.Plans.{BeginsWith, HasFaultIn}
use Rattle.plan_command.specs.Families.{reason_against}
use Rattle.plan_command.specs.Commands.{HasBadText}
use Rattle.plan_command.specs.Intakes.{LacksBy, nodes_in, records_kept, kept_of, kept_by, IsNextItem, HasHeard, HasTakenText, HasTakenRest, IsVerdictOn, TellsRest, JudgesAs, IsBehind, JudgesRest, JudgesFront, Lacks, IsBehindAll, HasTaken, stopped_by, intake_by, GoesOn}
use Rattle.plan_command.proofs.Heard.{few_nodes, is_next, plan_reason, plan_kept, kept_on, kept_still}
use Rattle.plan_command.proofs.Reading.{rest_behind, read_fault}

-- The text of the plan.

-- a checker that goes by the feed has room for one record more
pub line_left : (task : Task) (text : List ℕ) (judge : Judge) → IsProblem judge.sc → HasTakenText task text judge → judge.checker.line < 2 ^ 63
line_left task text judge sound taken =
    let few = few_nodes task.family judge.sc text taken.told sound (judge.feed, taken.read) in
    omega (arith, few, taken.heard.line)

-- What a feed did with first bytes of a text, and the judge that goes on with it.
module _ (task : Task) (before text : List ℕ) (old new : Judge) (feed : Stand) (used : ℕ) (step : Step) (h : HasTakenText task before old) where
  -- neither an item nor a fault
  pub text_more : step ≡ More → IfMore step (used ≡ length text) → IfRead old.sc old.feed (λ kind fed items. IfMore step (HasRead kind old.sc (fed ++ text) items feed)) →
      new ≡ record old { feed = feed } → HasTakenText task (before ++ take used text) new
  text_more is all reads same =
      let count : used ≡ length text = subst (λ (s : Step). IfMore s (used ≡ length text)) is all in
      let read : HasRead task.family old.sc (before ++ text) h.told feed = subst (λ (s : Step). IfMore s (HasRead task.family old.sc (before ++ text) h.told feed)) is (reads task.family before h.told h.read) in
      let whole : before ++ text ≡ before ++ take used text = ap (λ (t : List ℕ). before ++ t) (sym (take_all used text (omega (arith, count)))) in
      subst (HasTakenText task (before ++ take used text)) (sym same) (record {
        same = h.same;
        told = h.told;
        read = subst (λ (t : List ℕ). HasRead task.family old.sc t h.told feed) whole read;
        heard = h.heard;
        kept = h.kept;
      })

  -- an item
  pub text_item : (item : PlanItem) → IsProblem old.sc → step ≡ Item item → IfRead old.sc old.feed (λ kind fed items. IfItem step (λ told. HasRead kind old.sc (fed ++ take used text) (items ++ told ∷ []) feed)) →
      ((told : List PlanItem) → IsNextItem told item → HasHeard old.task.family old.sc told old.head old.checker → HasHeard old.task.family old.sc (told ++ item ∷ []) new.head new.checker) →
      new.records.items ≡ old.records.items ++ records_kept old.task.keeps (nodes_in (item ∷ [])) →
      new.task ≡ old.task → new.sc ≡ old.sc → new.feed ≡ feed → HasTakenText task (before ++ take used text) new
  text_item item sound is reads hears keeps same sc feeds =
      let read : HasRead task.family old.sc (before ++ take used text) (h.told ++ item ∷ []) feed =
      subst (λ (s : Step). IfItem s (λ told. HasRead task.family old.sc (before ++ take used text) (h.told ++ told ∷ []) feed)) is (reads task.family before h.told h.read) in
      let heard = subst (λ (t : Task). HasHeard t.family old.sc h.told old.head old.checker → HasHeard t.family old.sc (h.told ++ item ∷ []) new.head new.checker) h.same
      (hears h.told (is_next task.family old.sc _ h.told item sound (feed, read))) in
      record {
        same = same ∙ h.same;
        told = h.told ++ item ∷ [];
        read = subst (λ (q : Problem). HasRead task.family q (before ++ take used text) (h.told ++ item ∷ []) new.feed) (sym sc) (subst (λ (f : Stand). HasRead task.family old.sc (before ++ take used text) (h.told ++ item ∷ []) f) (sym feeds) read);
        heard = subst (λ (q : Problem). HasHeard task.family q (h.told ++ item ∷ []) new.head new.checker) (sym sc) (heard h.heard);
        kept = kept_on task.keeps h.told item old.records.items new.records.items (subst (λ (t : Task). new.records.items ≡ old.records.items ++ records_kept t.keeps (nodes_in (item ∷ []))) h.same keeps) h.kept;
      }

-- a fault that first bytes decide is that of more bytes
pub decided_on : (family : Family) (p : Problem) (before text : List ℕ) (n : ℕ) (fault : PlanFault) → IsDecided family p (before ++ take n text) fault → IsDecided family p (before ++ text) fault
decided_on family p before text n fault decided = λ more.
    let whole : before ++ take n text ++ (drop n text ++ more) ≡ before ++ text ++ more =
    append_assoc before (take n text) (drop n text ++ more)
    ∙ ap (λ (t : List ℕ). before ++ t) (sym (append_assoc (take n text) (drop n text) more) ∙ ap (λ (t : List ℕ). t ++ more) (take-append-drop n text))
    ∙ sym (append_assoc before text more) in
    subst (λ (t : List ℕ). text_at family p t ≡ Err fault) whole (decided (drop n text ++ more))

pub text_fault : (task : Task) (before text : List ℕ) (judge : Judge) (used : ℕ) (step : Step) (fault : PlanFault) → HasTakenText task before judge → step ≡ Fault fault → IfRead judge.sc judge.feed (λ kind fed items. IfFaulty step (λ f. IsDecided kind judge.sc (fed ++ take used text) f)) → IsDecided task.family judge.sc (before ++ text) fault
text_fault task before text judge used step fault h is decides =
    decided_on task.family judge.sc before text used fault (subst (λ (s : Step). IfFaulty s (λ f. IsDecided task.family judge.sc (before ++ take used text) f)) is (decides task.family before h.told h.read))

-- and so is one of what is left of a text
pub decided_left : (family : Family) (p : Problem) (before text : List ℕ) (n : ℕ) (fault : PlanFault) → IsDecided family p (before ++ take n text ++ drop n text) fault → IsDecided family p (before ++ text) fault
decided_left family p before text n fault decided =
    subst (λ (t : List ℕ). IsDecided family p t fault) (append_assoc before (take n text) (drop n text) ∙ ap (λ (t : List ℕ). before ++ t) (take-append-drop n text)) decided

-- first bytes of what is left are bytes more
pub taken_on : (P : List ℕ → Type 0) (before text : List ℕ) (n m : ℕ) → P (before ++ take n text ++ take m (drop n text)) → P (before ++ take (n + m) text)
taken_on P before text n m taken = subst P (append_assoc before (take n text) (take m (drop n text)) ∙ ap (λ (t : List ℕ). before ++ t) (sym (take-add n m text))) taken

pub taken_all : (P : List ℕ → Type 0) (before text : List ℕ) (n : ℕ) → length text ≤ n → P (before ++ take n text) → P (before ++ text)
taken_all P before text n le taken = subst P (ap (λ (t : List ℕ). before ++ t) (take_all n text le)) taken

-- Blanks, and then the text.

-- nothing but blanks so far, and then these
skips_behind : (rest piece text : List ℕ) → SkipsSpaces rest [] → SkipsSpaces piece text → SkipsSpaces (rest ++ piece) text
skips_behind rest piece text before skips = record {
  blanks = before.blanks ++ skips.blanks;
  only = list_all-append is_space before.blanks skips.blanks ∙ (rw (before.only, skips.only) refl);
  whole =
      ap (λ (t : List ℕ). t ++ piece) (before.whole ∙ append-nil before.blanks)
      ∙ ap (λ (t : List ℕ). before.blanks ++ t) skips.whole
      ∙ sym (append_assoc before.blanks skips.blanks text);
  stops = skips.stops;
}

still_starts : (text more : List ℕ) → 0 < length text → starts_with_space text ≡ false → starts_with_space (text ++ more) ≡ false
still_starts [] more some stops = absurd (omega (arith, some))
still_starts (c ∷ text) more some stops = stops

-- a text that has begun goes on
skips_on : (rest text more : List ℕ) → SkipsSpaces rest text → 0 < length text → SkipsSpaces (rest ++ more) (text ++ more)
skips_on rest text more skips some = record {
  blanks = skips.blanks;
  only = skips.only;
  whole = ap (λ (t : List ℕ). t ++ more) skips.whole ∙ append_assoc skips.blanks text more;
  stops = still_starts text more some skips.stops;
}

some_and_more : (text more : List ℕ) → 0 < length text → 0 < length (text ++ more)
some_and_more text more some = omega (arith, some, length-append text more)

-- a judge that took nothing
pub nothing_taken : (judge : Judge) → judge.begun ≡ false → judge.records.items ≡ [] → judge.checker.line ≡ 5 → IsUnderWay judge.sc judge.checker → IsMadeFor judge.sc judge.checker → HasRead judge.task.family judge.sc [] [] judge.feed → HasTakenRest judge.task [] judge
nothing_taken judge begun none line under_way made read = record {
  text = [];
  skips = record { blanks = []; only = refl; whole = refl; stops = refl };
  none = λ _. refl;
  some = λ yet. let bad : true ≡ false = sym yet ∙ begun in let no : ⊥ = cc in absurd no;
  taken = record {
    same = refl;
    told = [];
    read = read;
    heard = record { under_way = under_way; made_for = made; line = omega (arith, line); reason = tt };
    kept = none ∙ kept_still judge.task.keeps [];
  };
}

-- What was taken of the bytes behind the scenario, and of a piece more.
module _ (task : Task) (rest piece : List ℕ) (old new : Judge) (h : HasTakenRest task rest old) where
  -- blanks alone
  pub more_blanks : old.begun ≡ false → SkipsSpaces piece [] → HasTakenRest task (rest ++ piece) old
  more_blanks flag skips =
      let empty = h.none flag in
      record {
        text = h.text;
        skips = subst (λ (t : List ℕ). SkipsSpaces (rest ++ piece) t) (sym empty) (skips_behind rest piece [] (subst (SkipsSpaces rest) empty h.skips) skips);
        none = h.none;
        some = h.some;
        taken = h.taken;
      }

  -- the first bytes of the text
  pub first_text : (text : List ℕ) → old.begun ≡ false → SkipsSpaces piece text → 0 < length text → new.begun ≡ true → HasTakenText task (h.text ++ text) new → HasTakenRest task (rest ++ piece) new
  first_text text flag skips some begun taken =
      let empty = h.none flag in
      record {
        text = text;
        skips = skips_behind rest piece text (subst (SkipsSpaces rest) empty h.skips) skips;
        none = λ not_yet. let bad : true ≡ false = sym begun ∙ not_yet in let no : ⊥ = cc in absurd no;
        some = λ _. some;
        taken = subst (λ (t : List ℕ). HasTakenText task (t ++ text) new) empty taken;
      }

  -- more of it
  pub more_text : old.begun ≡ true → new.begun ≡ true → HasTakenText task (h.text ++ piece) new → HasTakenRest task (rest ++ piece) new
  more_text flag begun taken = record {
    text = h.text ++ piece;
    skips = skips_on rest h.text piece h.skips (h.some flag);
    none = λ not_yet. let bad : true ≡ false = sym begun ∙ not_yet in let no : ⊥ = cc in absurd no;
    some = λ _. some_and_more h.text piece (h.some flag);
    taken = taken;
  }

  -- a fault that the first bytes of the text decide
  pub first_fault : (text : List ℕ) (fault : PlanFault) → old.begun ≡ false → SkipsSpaces piece text → 0 < length text → IsDecided task.family old.sc (h.text ++ text) fault → (more : List ℕ) → HasFaultIn task.family old.sc (rest ++ piece ++ more) fault
  first_fault text fault flag skips some decided more =
      let empty = h.none flag in
      record {
        text = text ++ more;
        skips = skips_on (rest ++ piece) text more (skips_behind rest piece text (subst (SkipsSpaces rest) empty h.skips) skips) some;
        read = read_fault task.family old.sc _ fault (subst (λ (t : List ℕ). IsDecided task.family old.sc (t ++ text) fault) empty decided more);
      }

  -- or more of it
  pub more_fault : (fault : PlanFault) → old.begun ≡ true → IsDecided task.family old.sc (h.text ++ piece) fault → (more : List ℕ) → HasFaultIn task.family old.sc (rest ++ piece ++ more) fault
  more_fault fault flag decided more = record {
    text = h.text ++ piece ++ more;
    skips = skips_on (rest ++ piece) (h.text ++ piece) more (skips_on rest h.text piece h.skips (h.some flag)) (some_and_more h.text piece (h.some flag));
    read = read_fault task.family old.sc _ fault (decided more);
  }

-- What was made of a piece, by what was made of the text in it.

on_ok : {X E : Type 0} {P Q : Type 0} (r : Result X E) → (P → Q) → OnOk r P → OnOk r Q
on_ok (Ok x) f p = f p
on_ok (Err e) f p = tt

pub if_fault : (X Y : Type 0) {P Q : PlanFault → Type 0} (stop : PlanStop) → ((fault : PlanFault) → P fault → Q fault) → IfFault {A = X} (Err stop) P → IfFault {A = Y} (Err stop) Q
if_fault X Y (halts.Fault fault) f p = f fault p
if_fault X Y halts.NoMemory f p = tt

any_fault : {X : Type 0} {P Q : PlanFault → Type 0} (r : Result X PlanStop) → ((fault : PlanFault) → P fault → Q fault) → IfFault r P → IfFault r Q
any_fault (Ok x) f p = tt
any_fault {X = X} (Err stop) f p = if_fault X X stop f p

-- a judge was stopped by this, at these bytes: where it is a fault, they have it, and so they have whatever follows
abbrev WrongOf : Judge → List ℕ → PlanStop → Type 0
WrongOf judge piece stop = IfFault {A = Unit {0}} (Err stop) (λ fault. (task : Task) (before more : List ℕ) → HasTakenRest task before judge → HasFaultIn task.family judge.sc (before ++ piece ++ more) fault)

pub goes_wrong : (task : Task) (judge : Judge) (piece : List ℕ) (stop : PlanStop) → WrongOf judge piece stop → GoesOn task judge piece (Err (stopped_by stop))
goes_wrong task judge piece (halts.Fault fault) wrong = wrong task
goes_wrong task judge piece halts.NoMemory wrong = tt

-- the judge whose text has begun
pub text_begun : (task : Task) (text : List ℕ) (judge : Judge) → HasTakenText task text judge → HasTakenText task text (record judge { begun = true })
text_begun task text judge h = record { same = h.same; told = h.told; read = h.read; heard = h.heard; kept = h.kept }

abbrev TakesText : Judge → Judge → List ℕ → Type 0
TakesText old new text = (task : Task) (before : List ℕ) → HasTakenText task before old → HasTakenText task (before ++ text) new

module _ (piece : List ℕ) (old new : Judge) (r : Result (Unit {0}) PlanStop) where
  pub piece_more : old.begun ≡ true → new.begun ≡ old.begun → OnOk r (TakesText old new piece) → OnOk r ((task : Task) (before : List ℕ) → HasTakenRest task before old → HasTakenRest task (before ++ piece) new)
  piece_more flag kept takes = on_ok r (λ takes task before h. more_text task before piece old new h flag (kept ∙ flag) (takes task h.text h.taken)) takes

  pub piece_fault : old.begun ≡ true → IfFault r (λ fault. (task : Task) (before : List ℕ) → HasTakenText task before old → IsDecided task.family old.sc (before ++ piece) fault) → IfFault r (λ fault. (task : Task) (before more : List ℕ) → HasTakenRest task before old → HasFaultIn task.family old.sc (before ++ piece ++ more) fault)
  piece_fault flag decides = any_fault r (λ fault decides task before more h. more_fault task before piece old new h fault flag (decides task h.text h.taken) more) decides

  pub first_more : (text : List ℕ) → old.begun ≡ false → SkipsSpaces piece text → 0 < length text → new.begun ≡ true → OnOk r (TakesText (record old { begun = true }) new text) → OnOk r ((task : Task) (before : List ℕ) → HasTakenRest task before old → HasTakenRest task (before ++ piece) new)
  first_more text flag skips some begun takes = on_ok r (λ takes task before h. first_text task before piece old new h text flag skips some begun (takes task h.text (text_begun task h.text old h.taken))) takes

  pub first_wrong : (text : List ℕ) → old.begun ≡ false → SkipsSpaces piece text → 0 < length text → IfFault r (λ fault. (task : Task) (before : List ℕ) → HasTakenText task before (record old { begun = true }) → IsDecided task.family old.sc (before ++ text) fault) → IfFault r (λ fault. (task : Task) (before more : List ℕ) → HasTakenRest task before old → HasFaultIn task.family old.sc (before ++ piece ++ more) fault)
  first_wrong text flag skips some decides = any_fault r (λ fault decides task before more h. first_fault task before piece old new h text fault flag skips some (decides task h.text (text_begun task h.text old h.taken)) more) decides

-- Where the text ends.

none_said : (reason : Option GapRejectAt) → gap_verdict_of reason ≡ verdicts.Accepted → reason ≡ None
none_said None h = refl
none_said (Some at) h = let bad : ⊥ = cc in absurd bad

verdict_on : (family : Family) (p : Problem) (plan : GapPlan) (verdict : GapVerdict) → verdict ≡ gap_verdict_of (reason_against family p plan) → IsVerdictOn family p plan verdict
verdict_on family p plan verdict is =
    let exact = no_reason_from (first_line family) p plan in
    record {
      exact = is;
      accepted = (λ accepted. exact.0 (none_said _ (sym is ∙ accepted)), λ accepts. is ∙ ap gap_verdict_of (exact.1 accepts));
    }

pub told_verdict : (task : Task) (rest : List ℕ) (judge : Judge) (verdict : GapVerdict) → IsProblem judge.sc → (h : HasTakenRest task rest judge) → IsWhole task.family judge.sc h.text h.taken.told → verdict ≡ gap_verdict_of (gap_reason_at_end judge.checker judge.head.ceiling) → TellsRest task judge.sc (kept_by judge) rest (Ok verdict)
told_verdict task rest judge verdict sound h whole is =
    let plan = whole.plan in
    let reason = plan_reason task.family judge.sc plan h.taken.told judge.head judge.checker whole.tell h.taken.heard in
    let said : verdict ≡ gap_verdict_of (reason_against task.family judge.sc plan) = is ∙ ap gap_verdict_of reason.1 in
    let kept : kept_by judge ≡ kept_of task.keeps plan = plan_kept task.keeps plan h.taken.told judge.head judge.records.items whole.tell reason.0 h.taken.kept in
    (plan, (rest_behind task.family judge.sc rest h.text plan sound h.skips whole.spelled, verdict_on task.family judge.sc plan verdict said), kept)

pub told_early : (task : Task) (rest : List ℕ) (judge : Judge) (fault : PlanFault) → (h : HasTakenRest task rest judge) → IsCutOff task.family judge.sc h.text fault → TellsRest task judge.sc (kept_by judge) rest (Err fault)
told_early task rest judge fault h cut = record { text = h.text; skips = h.skips; read = read_fault task.family judge.sc h.text fault cut.first }

-- What an input lacks, another lacks for which the faults are the same.
lacks_alike : (Front Front' : TextFault → Type 0) (Behind Behind' : PlanFault → Type 0) → ((fault : TextFault) → Front fault → Front' fault) → ((fault : PlanFault) → Behind fault → Behind' fault) →
    (stop : Stop) → LacksBy Front Behind stop → LacksBy Front' Behind' stop
lacks_alike F G B C front behind (stops.Refused (refusals.BadScenario fault)) lacks = front fault lacks
lacks_alike F G B C front behind (stops.Refused (refusals.BadPlan fault)) lacks = behind fault lacks
lacks_alike F G B C front behind (stops.Refused (refusals.Rejected at)) lacks = lacks
lacks_alike F G B C front behind (stops.Refused (refusals.BadFlown why)) lacks = lacks
lacks_alike F G B C front behind (stops.Refused (refusals.BadDuo why)) lacks = lacks
lacks_alike F G B C front behind (stops.Refused (refusals.TooManyNodes limit)) lacks = lacks
lacks_alike F G B C front behind stops.NoMemory lacks = tt
lacks_alike F G B C front behind stops.Usage lacks = lacks
lacks_alike F G B C front behind stops.ReadFault lacks = lacks
lacks_alike F G B C front behind stops.TooLong lacks = lacks
lacks_alike F G B C front behind stops.WriteFault lacks = lacks

-- Behind the scenario of an input.

-- what follows a line `end` follows the scenario
begins_on : (p : Problem) (text rest more : List ℕ) → EndsWithEnd text → BeginsWith p text rest → BeginsWith p (text ++ more) (rest ++ more)
begins_on p text rest more ends begins =
    let within : begins.bytes ≤ length text = omega (arith, begins.front.bytes) in
    record {
      bytes = begins.bytes;
      front = ((front_ignores_rest text more ends).1 p begins.bytes).0 begins.front;
      follows = ap (λ (t : List ℕ). t ++ more) begins.follows ∙ sym (drop-append-le begins.bytes text more within);
    }

-- the same without more
pub begins_here : (p : Problem) (text rest : List ℕ) → BeginsWith p (text ++ []) (rest ++ []) → BeginsWith p text rest
begins_here p text rest begins = subst (λ (t : List ℕ). BeginsWith p t rest) (append-nil text) (subst (λ (t : List ℕ). BeginsWith p (text ++ []) t) (append-nil rest) begins)

-- what is said of an input, by what was said of what stands behind its scenario
module _ (task : Task) (p : Problem) (kept : Plan) (input rest : List ℕ) (said : Result GapVerdict PlanFault) (begins : BeginsWith p input rest) (tells : TellsRest task p kept rest said) where
  pub judged_input : (verdict : GapVerdict) → said ≡ Ok verdict → JudgesAs task input (Ok (record { sc = p; plan = kept; verdict = verdict }))
  judged_input verdict is = let (plan, (behind, on), same) = subst (TellsRest task p kept rest) is tells in (plan, (rest, begins, behind), on, same)

  pub faulty_input : (fault : PlanFault) → said ≡ Err fault → JudgesAs task input (Err (stops.Refused (refusals.BadPlan fault)))
  faulty_input fault is = (p, (rest, begins, subst (TellsRest task p kept rest) is tells))

-- What was made of the bytes behind a scenario is said of the whole text.

here : (p : Problem) (text : List ℕ) (n : ℕ) → IsFront text p n → BeginsWith p text (drop n text)
here p text n front = record { bytes = n; front = front; follows = refl }

pub front_judged : (task : Task) (p : Problem) (text : List ℕ) (n : ℕ) (judged : Result Judge Stop) → IsFront text p n → JudgesRest task p (drop n text) judged → JudgesFront task text judged
front_judged task p text n (Ok judge) front (same, taken) = record { rest = drop n text; begins = subst (λ (q : Problem). BeginsWith q text (drop n text)) (sym same) (here p text n front); taken = taken }
front_judged task p text n (Err stop) front lacks =
    lacks_alike _ _ _ _ (λ fault none. absurd none) (λ fault faulty. record { problem = p; rest = drop n text; begins = here p text n front; faulty = faulty }) stop lacks

-- Whatever follows a line `end`.

-- the bytes that follow
begins_far : (p : Problem) (text rest more later : List ℕ) → EndsWithEnd text → BeginsWith p text rest → BeginsWith p (text ++ more ++ later) (rest ++ more ++ later)
begins_far p text rest more later ends begins =
    subst (λ (t : List ℕ). BeginsWith p t (rest ++ more ++ later)) (sym (append_assoc text more later))
    (subst (λ (t : List ℕ). BeginsWith p (text ++ (more ++ later)) t) (sym (append_assoc rest more later)) (begins_on p text rest (more ++ later) ends begins))

pub judged_far : (task : Task) (text more : List ℕ) (judge : Judge) (next : Result Judge Stop) → EndsWithEnd text → IsBehind task text judge → GoesOn task judge more next → HasTaken task (text ++ more) (intake_by next)
judged_far task text more judge (Ok new) ends h (same, takes) = record {
  rest = h.rest ++ more;
  begins = λ later. subst (λ (q : Problem). BeginsWith q (text ++ more ++ later) (h.rest ++ more ++ later)) (sym same) (begins_far judge.sc text h.rest more later ends h.begins);
  taken = takes h.rest h.taken;
}
judged_far task text more judge (Err stop) ends h lacks =
    lacks_alike _ _ _ _ (λ fault none. absurd none)
    (λ fault faulty later. (judge.sc, (h.rest ++ more ++ later, begins_far judge.sc text h.rest more later ends h.begins, faulty h.rest later h.taken)))
    stop lacks

-- what was gathered, and the rest of the piece
pub gathered_rest : (task : Task) (old piece new : List ℕ) (used : ℕ) (next : Intake) → new ≡ old ++ take used piece → HasTaken task (new ++ drop used piece) next → HasTaken task (old ++ piece) next
gathered_rest task old piece new used next same taken =
    let whole : new ++ drop used piece ≡ old ++ piece =
    ap (λ (t : List ℕ). t ++ drop used piece) same ∙ append_assoc old (take used piece) (drop used piece) ∙ ap (λ (t : List ℕ). old ++ t) (take-append-drop used piece) in
    subst (λ (t : List ℕ). HasTaken task t next) whole taken

pub lacks_on : (task : Task) (text more : List ℕ) (stop : Stop) → EndsWithEnd text → JudgesFront task text (Err stop) → Lacks task (text ++ more) stop
lacks_on task text more stop ends lacks =
    lacks_alike _ _ _ _
    (λ fault bad later. ap front_of (append_assoc text more later) ∙ (front_ignores_rest text (more ++ later) ends).0 ∙ bad)
    (λ fault bad later.
    let begins = subst (λ (t : List ℕ). BeginsWith bad.problem t (bad.rest ++ (more ++ later))) (sym (append_assoc text more later)) (begins_on bad.problem text bad.rest (more ++ later) ends bad.begins) in
    (bad.problem, (bad.rest ++ (more ++ later), begins, bad.faulty (more ++ later))))
    stop lacks

-- Where the input ends.

pub behind_here : (task : Task) (input : List ℕ) (judge : Judge) → IsBehindAll task input judge → IsBehind task input judge
behind_here task input judge h = record { rest = h.rest; begins = begins_here judge.sc input h.rest (h.begins []); taken = h.taken }

pub lacks_front : (task : Task) (input : List ℕ) (stop : Stop) → JudgesFront task input (Err stop) → JudgesAs task input (Err stop)
lacks_front task input stop lacks =
    lacks_alike _ _ _ _ (λ fault bad. bad)
    (λ fault bad. (bad.problem, (bad.rest, bad.begins, subst (λ (t : List ℕ). HasFaultIn task.family bad.problem t fault) (append-nil bad.rest) (bad.faulty []))))
    stop lacks

pub lacks_here : (task : Task) (input : List ℕ) (stop : Stop) → Lacks task input stop → JudgesAs task input (Err stop)
lacks_here task input stop lacks =
    lacks_alike _ _ _ _
    (λ fault bad. subst (λ (t : List ℕ). front_of t ≡ Err fault) (append-nil input) (bad []))
    (λ fault bad. subst (λ (t : List ℕ). HasBadText task.family t fault) (append-nil input) (bad []))
    stop lacks

-- Bytes more of an input that is judged or refused.

pub lacks_more : (task : Task) (bytes more : List ℕ) (stop : Stop) → Lacks task bytes stop → Lacks task (bytes ++ more) stop
lacks_more task bytes more stop lacks =
    lacks_alike _ _ _ _
    (λ fault bad later. ap front_of (append_assoc bytes more later) ∙ bad (more ++ later))
    (λ fault bad later. subst (λ (t : List ℕ). HasBadText task.family t fault) (sym (append_assoc bytes more later)) (bad (more ++ later)))
    stop lacks

begins_more : (p : Problem) (bytes more rest later : List ℕ) → ((all : List ℕ) → BeginsWith p (bytes ++ all) (rest ++ all)) → BeginsWith p (bytes ++ more ++ later) (rest ++ more ++ later)
begins_more p bytes more rest later begins =
    subst (λ (t : List ℕ). BeginsWith p t (rest ++ more ++ later)) (sym (append_assoc bytes more later))
    (subst (λ (t : List ℕ). BeginsWith p (bytes ++ (more ++ later)) t) (sym (append_assoc rest more later)) (begins (more ++ later)))

module _ (task : Task) (bytes more : List ℕ) (intake : Intake) (h : HasTaken task bytes intake) where
  -- a judge
  pub plan_taken : (judge : Judge) → intake ≡ intakes.Plan judge → (kind : Task) × (rest : List ℕ) × HasTakenRest kind rest judge
  plan_taken judge is = let behind : IsBehindAll task bytes judge = subst (HasTaken task bytes) is h in (task, behind.rest, behind.taken)

  pub plan_more : (old new : Judge) → intake ≡ intakes.Plan old → new.sc ≡ old.sc → ((before : List ℕ) → HasTakenRest task before old → HasTakenRest task (before ++ more) new) → IsBehindAll task (bytes ++ more) new
  plan_more old new is same takes =
      let behind : IsBehindAll task bytes old = subst (HasTaken task bytes) is h in
      record {
        rest = behind.rest ++ more;
        begins = λ later. subst (λ (q : Problem). BeginsWith q (bytes ++ more ++ later) (behind.rest ++ more ++ later)) (sym same) (begins_more old.sc bytes more behind.rest later behind.begins);
        taken = takes behind.rest behind.taken;
      }

  plan_faulty : (judge : Judge) (fault : PlanFault) → intake ≡ intakes.Plan judge → ((before later : List ℕ) → HasTakenRest task before judge → HasFaultIn task.family judge.sc (before ++ more ++ later) fault) → Lacks task (bytes ++ more) (stops.Refused (refusals.BadPlan fault))
  plan_faulty judge fault is faulty = λ later.
      let behind : IsBehindAll task bytes judge = subst (HasTaken task bytes) is h in
      (judge.sc, (behind.rest ++ more ++ later, begins_more judge.sc bytes more behind.rest later behind.begins, faulty behind.rest later behind.taken))

  pub plan_stops : (judge : Judge) (stop : PlanStop) → intake ≡ intakes.Plan judge → WrongOf judge more stop → Lacks task (bytes ++ more) (stopped_by stop)
  plan_stops judge (halts.Fault fault) is wrong = plan_faulty judge fault is (wrong task)
  plan_stops judge halts.NoMemory is wrong = tt

  -- a refusal
  pub stopped_more : (stop : Stop) → intake ≡ intakes.Stopped stop → HasTaken task (bytes ++ more) intake
  stopped_more stop is = subst (HasTaken task (bytes ++ more)) (sym is) (lacks_more task bytes more stop (subst (HasTaken task bytes) is h))

-- no byte more
pub taken_none : (task : Task) (before text : List ℕ) (judge : Judge) → HasTakenText task before judge → HasTakenText task (before ++ take 0 text) judge
taken_none task before text judge h = subst (λ (t : List ℕ). HasTakenText task t judge) (sym (append-nil before)) h

pub decided_part : (family : Family) (q p : Problem) (before text : List ℕ) (n : ℕ) (fault : PlanFault) → q ≡ p → IsDecided family q (before ++ take n text ++ drop n text) fault → IsDecided family p (before ++ text) fault
decided_part family q p before text n fault same decided = subst (λ (r : Problem). IsDecided family r (before ++ text) fault) same (decided_left family q before text n fault decided)

-- a text that is empty, or isn't
pub no_text : (text : List ℕ) → length text ≡ 0 → text ≡ []
no_text [] none = refl
no_text (c ∷ text) none = absurd (omega (arith, none))

pub some_text : (text : List ℕ) → (length text == 0) ≡ false → 0 < length text
some_text [] some = let bad : ⊥ = cc in absurd bad
some_text (c ∷ text) some = omega arith

-- A judge that goes on with the bytes behind a scenario.

faulty_rest : (family : Family) (p q : Problem) (rest : List ℕ) (fault : PlanFault) → q ≡ p → ((more : List ℕ) → HasFaultIn family q ([] ++ rest ++ more) fault) → (more : List ℕ) → HasFaultIn family p (rest ++ more) fault
faulty_rest family p q rest fault same faulty = subst (λ (r : Problem). (more : List ℕ) → HasFaultIn family r (rest ++ more) fault) same faulty

pub rest_gone : (task : Task) (p : Problem) (rest : List ℕ) (judge : Judge) (next : Result Judge Stop) → judge.sc ≡ p → HasTakenRest task [] judge → GoesOn task judge rest next → JudgesRest task p rest next
rest_gone task p rest judge (Ok new) same nothing (kept, takes) = (kept ∙ same, takes [] nothing)
rest_gone task p rest judge (Err stop) same nothing lacks =
    lacks_alike _ _ _ _ (λ fault none. absurd none) (λ fault faulty. faulty_rest task.family p judge.sc rest fault same (λ more. faulty [] more nothing)) stop lacks

-- a byte more of a piece
pub gathered_byte : (old piece now : List ℕ) (i : ℕ) → i < length piece → now ≡ old ++ take i piece → now ++ get_or piece i 0 ∷ [] ≡ old ++ take (i + 1) piece
gathered_byte old piece now i lt so_far =
    let more : i + 1 ≡ suc i = omega arith in
    ap (λ (t : List ℕ). t ++ get_or piece i 0 ∷ []) so_far ∙ append_assoc old (take i piece) (get_or piece i 0 ∷ []) ∙ ap (λ (t : List ℕ). old ++ t) (sym (ap (λ (k : ℕ). take k piece) more ∙ take-suc piece i 0 lt))

-- An input that ends with a judge, or with a refusal.
module _ (task : Task) (input : List ℕ) (intake : Intake) (h : HasTaken task input intake) where
  pub plan_ends : (judge : Judge) → intake ≡ intakes.Plan judge → IsBehind task input judge
  plan_ends judge is = behind_here task input judge (subst (HasTaken task input) is h)

  pub stopped_ends : (stop : Stop) → intake ≡ intakes.Stopped stop → JudgesAs task input (Err stop)
  stopped_ends stop is = lacks_here task input stop (subst (HasTaken task input) is h)
