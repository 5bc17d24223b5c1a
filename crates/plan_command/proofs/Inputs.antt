-- What is made of an input that is read.
use Rattle.std.proofs.Common.{ℕ, ◌≡◌, ◌≤◌, ◌+◌, List, [], Result, Ok, Err, Some, None, inl, inr, refl, sym, subst, ◌⊎◌}
use Rattle.std.specs.Prelude.{IsErrOf, IfOk, IfErr, OnErr}
use Rattle.std.specs.Io.KnownBytes.{Appends}
use Rattle.std.specs.declared.option.Option.{Option}
use Rattle.byte_ports.specs.declared.ports.Failed.{Failed}
use Rattle.tree_format.specs.declared.plan_line.Family.{Family as TextFamily}
use Rattle.tree_format.specs.declared.plan_line.Family.TheVariants.{Plans, Gaps}
use Rattle.byte_ports.specs.declared.pieces.InputStop.{InputStop}
use Rattle.byte_ports.specs.declared.pieces.InputStop.TheVariants.{Fault, TooLong}
use Rattle.byte_ports.specs.Causes.{Rose, CountsRefusal}
use Rattle.byte_ports.specs.Taken.{HandsOn, TakesCount, TakesAtMost, AppendsPrefix}
use Rattle.plan_command.specs.declared.answer.Answer.{Answer}
use Rattle.plan_command.specs.declared.judge.Task.{Task}
use Rattle.plan_command.specs.declared.intake.Intake.{Intake}
use Rattle.plan_command.specs.declared.intake.Judgement.{Judgement}
use Rattle.plan_command.specs.declared.request.Request.{Request}
use Rattle.plan_command.specs.declared.request.Request.TheVariants.{Plan, Check, Report, Make, Drill, Convert, Gap, CheckGap, Replan, Map, Duo}
use Rattle.plan_command.specs.declared.status.Status.{Status}
use Rattle.plan_command.specs.declared.status.Stop.{Stop}
use Rattle.plan_command.specs.declared.status.Stop.TheVariants as stops
use Rattle.plan_command.specs.declared.status.Refusal.{Refusal}
use Rattle.plan_command.specs.declared.status.Refusal.TheVariants as refusals
use Rattle.plan_command.specs.Words.{Spells, of_plan, of_gap, family_of, limit_of}
use Rattle.plan_command.specs.Inputs.{Source, source_view, Course, to_fault, too_far, went, Reads, ReadsPart, ReadsAnd, HasFailed, IsOverLong}
use Rattle.plan_command.specs.Commands.{Answers, Refuses}
use Rattle.plan_command.specs.Makes.{MakesOf, IsAsked}
use Rattle.plan_command.specs.Intakes.{Judges, JudgesAs, HasTaken}
use Rattle.plan_command.proofs.WordLimits.{plan_asked, drill_asked, gap_asked, replan_asked, replan_names, map_names, duo_asked}
use Rattle.plan_command.specs.Run.{Call, CutOff, Ends, stopped, ending_of}

-- what was read whole isn't more than may be read
pub part_read : (Went : Course → Type 0) (limits : Option ℕ) (before after : Source) (input : List ℕ) → Reads Went limits before after input → ReadsPart Went limits before after
part_read Went (Some limit) before after input read = record { taken = (input, read.taken, read.short); kept = read.kept; gone = inr (input, read.gone) }
part_read Went None before after input read = read.same

-- what a request makes of the input that was read
pub made_read : (Went : Course → Type 0) (words : List (List ℕ)) (request : Request) (limits : Option ℕ) (before after : Source) (input : List ℕ) (made : Result Answer Stop) → Reads Went limits before after input → MakesOf words request input made → ReadsAnd Went limits before after (MakesOf words request) made
made_read Went words request limits before after input (Ok answer) read makes = (input, read, makes)
made_read Went words request limits before after input (Err (stops.Refused refusal)) read makes = (input, read, makes)
made_read Went words request limits before after input (Err stops.NoMemory) read makes = part_read Went limits before after input read
made_read Went words request limits before after input (Err stops.Usage) read makes = absurd makes
made_read Went words request limits before after input (Err stops.ReadFault) read makes = absurd makes
made_read Went words request limits before after input (Err stops.TooLong) read makes = absurd makes
made_read Went words request limits before after input (Err stops.WriteFault) read makes = absurd makes

-- what is judged of the bytes that an intake was handed
pub judged_read : (task : Task) {S : Type 0} (Left : S → Option (List ℕ)) (Faults : S → ℕ) (Gives : S → List ℕ → Result ℕ Failed → S → Type 0) (limit : ℕ) (source source' : S) (old new : Intake) (judged : Result Judgement Stop) →
    HandsOn Left Gives HasTaken limit source source' old new → Faults source ≤ Faults source' → HasTaken task [] old → ((input : List ℕ) → HasTaken task input new → JudgesAs task input judged) →
    ReadsAnd (went Gives source source') (Some limit) (source_view Left Faults source) (source_view Left Faults source') (JudgesAs task) judged
judged_read task Left Faults Gives limit source source' old new judged hands kept none says = told judged (says hands.bytes (hands.received task [] none))
  where
    before : Source
    before = source_view Left Faults source

    after : Source
    after = source_view Left Faults source'

    read : Reads (went Gives source source') (Some limit) before after hands.bytes
    read = record { taken = hands.taken; ended = hands.ended; short = hands.short; kept = kept; gone = hands.reads }

    told : (judged : Result Judgement Stop) → JudgesAs task hands.bytes judged → ReadsAnd (went Gives source source') (Some limit) before after (JudgesAs task) judged
    told (Ok judgement) is = (hands.bytes, read, is)
    told (Err (stops.Refused refusal)) is = (hands.bytes, read, is)
    told (Err stops.NoMemory) is = part_read (went Gives source source') (Some limit) before after hands.bytes read
    told (Err stops.Usage) is = absurd is
    told (Err stops.ReadFault) is = absurd is
    told (Err stops.TooLong) is = absurd is
    told (Err stops.WriteFault) is = absurd is

-- and why they weren't read to their end
pub stop_read : {T V : Type 0} (Went : Course → Type 0) (limit : ℕ) (before after : Source) (Makes : List ℕ → Result V Stop → Type 0) (stop : InputStop) (said : Stop) →
    (stop ≡ Fault → said ≡ stops.ReadFault) → (stop ≡ TooLong → said ≡ stops.TooLong) →
    (IsErrOf {T = T} (Err stop) TooLong → TakesCount before.left after.left (limit + 1)) →
    (IsErrOf {T = T} (Err stop) Fault → TakesAtMost before.left after.left limit) →
    CountsRefusal before.faults after.faults (IsErrOf {T = T} (Err stop) Fault) →
    (IsErrOf {T = T} (Err stop) Fault → Went (to_fault limit)) → (IsErrOf {T = T} (Err stop) TooLong → Went (too_far limit)) →
    ReadsAnd Went (Some limit) before after Makes (Err said)
stop_read Went limit before after Makes Fault said fault long over most cause to_there too_long =
    let failed : HasFailed Went (Some limit) before after = record { limit = limit; is_limit = refl; taken = most refl; rose = cause.cause refl; gone = to_there refl } in
    subst (λ (s : Stop). ReadsAnd Went (Some limit) before after Makes (Err s)) (sym (fault refl)) failed
stop_read Went limit before after Makes TooLong said fault long over most cause to_there too_long =
    let past : IsOverLong Went (Some limit) before after = record { limit = limit; is_limit = refl; taken = over refl; gone = too_long refl } in
    subst (λ (s : Stop). ReadsAnd Went (Some limit) before after Makes (Err s)) (sym (long refl)) past

-- a request that reads a text of the family behind a scenario
abbrev IsOfText : TextFamily → Request → Type 0
IsOfText Plans request = family_of request ≡ of_plan
IsOfText Gaps request = family_of request ≡ of_gap

-- and why there is no judgement
pub lacks_refuses : (family : TextFamily) (words : List (List ℕ)) (request : Request) (input : List ℕ) (refusal : Refusal) → IsOfText family request → Judges family input (Err (stops.Refused refusal)) → Refuses words request input refusal
lacks_refuses Plans words request input (refusals.BadScenario fault) judges lacks = rw judges lacks
lacks_refuses Gaps words request input (refusals.BadScenario fault) judges lacks = rw judges lacks
lacks_refuses Plans words request input (refusals.BadPlan fault) judges lacks = rw judges lacks
lacks_refuses Gaps words request input (refusals.BadPlan fault) judges lacks = rw judges lacks
lacks_refuses family words request input (refusals.Rejected at) judges lacks = absurd lacks
lacks_refuses family words request input (refusals.BadFlown why) judges lacks = absurd lacks
lacks_refuses family words request input (refusals.BadDuo why) judges lacks = absurd lacks
lacks_refuses family words request input (refusals.TooManyNodes limit) judges lacks = absurd lacks

pub stopped_alike : {V W : Type 0} (Went : Course → Type 0) (limits : Option ℕ) (before after : Source) (Makes : List ℕ → Result V Stop → Type 0) (Makes' : List ℕ → Result W Stop → Type 0) →
    ((input : List ℕ) (refusal : Refusal) → Makes input (Err (stops.Refused refusal)) → Makes' input (Err (stops.Refused refusal))) → (stop : Stop) → ReadsAnd Went limits before after Makes (Err stop) → ReadsAnd Went limits before after Makes' (Err stop)
stopped_alike Went limits before after Makes Makes' refuses (stops.Refused refusal) (input, read, lacks) = (input, read, refuses input refusal lacks)
stopped_alike Went limits before after Makes Makes' refuses stops.NoMemory read = read
stopped_alike Went limits before after Makes Makes' refuses stops.ReadFault read = read
stopped_alike Went limits before after Makes Makes' refuses stops.TooLong read = read
stopped_alike Went limits before after Makes Makes' refuses stops.Usage read = absurd read
stopped_alike Went limits before after Makes Makes' refuses stops.WriteFault read = absurd read

-- how a run ends that makes nothing
pub ends_stopped : (Went : Course → Type 0) (c : Call Went) (request : Request) (stop : Stop) → Spells c.words request → ReadsAnd Went (limit_of request) c.before.source c.after.source (MakesOf c.words request) (Err stop) → c.after.wrote ≡ c.before.wrote → Ends c (stopped stop)
ends_stopped Went c request (stops.Refused refusal) spelled (input, read, refuses) same = (request, spelled, record { input = input; read = read; refuses = refuses; unwritten = same })
ends_stopped Went c request stops.ReadFault spelled failed same = (request, spelled, (failed, same))
ends_stopped Went c request stops.TooLong spelled long same = (request, spelled, (long, same))
ends_stopped Went c request stops.NoMemory spelled part same = (request, spelled, inl (part, same))
ends_stopped Went c request stops.Usage spelled none same = absurd none
ends_stopped Went c request stops.WriteFault spelled none same = absurd none

-- and it isn't for its words
pub stopped_unused : (Went : Course → Type 0) (words : List (List ℕ)) (request : Request) (before after : Source) (stop : Stop) → stop ≡ stops.Usage → ReadsAnd Went (limit_of request) before after (MakesOf words request) (Err stop) → ⊥
stopped_unused Went words request before after stop same read = subst (λ (s : Stop). ReadsAnd Went (limit_of request) before after (MakesOf words request) (Err s)) same read

-- the numbers of a request that words spell are within their limits
pub spelled_asked : (words : List (List ℕ)) (request : Request) → Spells words request → IsAsked words request
spelled_asked words (Plan workers nodes) spelled = plan_asked words workers nodes spelled
spelled_asked words Check spelled = tt
spelled_asked words (Report json) spelled = tt
spelled_asked words (Make number) spelled = spelled.0
spelled_asked words (Drill number workers) spelled = drill_asked words number workers spelled
spelled_asked words Convert spelled = tt
spelled_asked words (Gap workers nodes) spelled = gap_asked words workers nodes spelled
spelled_asked words CheckGap spelled = tt
spelled_asked words (Replan workers nodes flown) spelled = (replan_asked words workers nodes flown spelled, replan_names words workers nodes flown spelled)
spelled_asked words (Map flown) spelled = map_names words flown spelled
spelled_asked words (Duo workers nodes second) spelled = duo_asked words workers nodes second spelled

-- how a run ends that made an answer and wrote it, or a front of it
pub ends_served : (Went : Course → Type 0) (c : Call Went) (request : Request) (answer : Answer) (result : Result Status Stop) → Spells c.words request →
    ReadsAnd Went (limit_of request) c.before.source c.after.source (MakesOf c.words request) (Ok answer) →
    IfOk result (λ status. (status ≡ answer.status) × Appends c.before.wrote c.after.wrote answer.text.items) →
    OnErr result (AppendsPrefix c.before.wrote c.after.wrote answer.text.items) →
    IfErr result (λ stop. ((stop ≡ stops.WriteFault) × Rose c.before.write_faults c.after.write_faults) ⊎ (stop ≡ stops.NoMemory)) →
    Ends c (ending_of result)
ends_served Went c request answer (Ok status) spelled (input, read, answers) (same, written) front cause = (
  request,
  spelled,
  record {
    input = input;
    text = answer.text.items;
    read = read;
    answers = subst (λ (s : Status). Answers c.words request input s answer.text.items) (sym same) answers;
    written = written;
  },
)
ends_served Went c request answer (Err stop) spelled (input, read, answers) whole front cause = told cause
  where
    cut : CutOff c request
    cut = record { input = input; text = answer.text.items; status = answer.status; read = read; answers = answers; written = front }

    told : ((stop ≡ stops.WriteFault) × Rose c.before.write_faults c.after.write_faults) ⊎ (stop ≡ stops.NoMemory) → Ends c (stopped stop)
    told (inl (same, rose)) = subst (λ (s : Stop). Ends c (stopped s)) (sym same) (request, spelled, (rose, cut))
    told (inr same) = subst (λ (s : Stop). Ends c (stopped s)) (sym same) (request, spelled, inr cut)

-- and it isn't for its words
pub served_unused : (C : Type 0) (result : Result Status Stop) → IfErr result (λ stop. ((stop ≡ stops.WriteFault) × C) ⊎ (stop ≡ stops.NoMemory)) → result ≡ Err stops.Usage → ⊥
served_unused C (Ok status) cause same = cc
served_unused C (Err stop) (inl (fault, rose)) same = cc
served_unused C (Err stop) (inr none) same = cc

pub err_unused : (stop : Stop) → IsErrOf {T = Status} (Err stop) stops.Usage → stop ≡ stops.Usage
err_unused stop same = cc
