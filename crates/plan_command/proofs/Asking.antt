-- What is made of the text of a scenario alone, said of the words and the request that ask it.
use Rattle.std.proofs.Common.{ℕ, ◌≡◌, List, [], Some, None, Result, Ok, Err, refl, sym, ap, ◌∙◌, subst}
use Rattle.std.specs.Global.{Vec}
use Rattle.std.specs.declared.option.Option.{Option}
use Rattle.search_model.specs.Problem.{Problem}
use Rattle.scenario_text.specs.declared.kind.TextFault.{TextFault}
use Rattle.scenario_text.specs.Reading.{alone_of}
use Rattle.scenario_text.specs.Scenarios.{IsTextOf}
use Rattle.plan_command.specs.declared.answer.Answer.{Answer}
use Rattle.plan_command.specs.declared.asked.ScenarioRequest.{ScenarioRequest}
use Rattle.plan_command.specs.declared.asked.ScenarioRequest.TheVariants as alone
use Rattle.plan_command.specs.declared.asked.JudgedRequest.{JudgedRequest}
use Rattle.plan_command.specs.declared.asked.JudgedRequest.TheVariants as judged
use Rattle.plan_command.specs.declared.request.Request.{Request}
use Rattle.plan_command.specs.declared.status.Refusal.{Refusal}
use Rattle.plan_command.specs.declared.status.Refusal.TheVariants as refusals
use Rattle.plan_command.specs.declared.status.Stop.{Stop}
use Rattle.plan_command.specs.declared.status.Stop.TheVariants as stops
use Rattle.tree_format.specs.declared.plan_line.Family.TheVariants.{Plans, Gaps}
use Rattle.plan_command.specs.declared.request.TheConstants.{MOST_SCENARIO, MOST_JUDGED}
use Rattle.plan_command.specs.Words.{Family, of_scenario, family_of, limit_at, limit_of}
use Rattle.plan_command.specs.Gives.{Gives}
use Rattle.plan_command.specs.Replans.{IsReplanned, IsUnreplanned, IsMapped, IsUnmapped}
use Rattle.plan_command.specs.Commands.{MakesText, IsUnmade, AnswersAs, RefusesAs}
use Rattle.plan_command.specs.Inputs.{Source, Course, InputOf, ReadsAnd}
use Rattle.plan_command.specs.Intakes.{JudgesAs}
use Rattle.plan_command.specs.Asked.{Asks, GivesFor, request_of, task_of}
use Rattle.plan_command.specs.Makes.{MakesOf, IsDone}
use Rattle.plan_command.proofs.Inputs.{lacks_refuses, stopped_alike, made_read}

-- the request reads the text of a scenario alone
reads_alone : (words : List (List ℕ)) (request : Request) (asked : ScenarioRequest) → Asks words request asked → family_of request ≡ of_scenario
reads_alone words request (alone.Plan workers nodes) asks = ap family_of asks
reads_alone words request (alone.Gap workers nodes) asks = ap family_of asks
reads_alone words request (alone.Replan workers nodes names) (flown, asks, same) = ap family_of asks
reads_alone words request (alone.Map names) (flown, asks, same) = ap family_of asks
reads_alone words request (alone.Duo workers nodes second) asks = ap family_of asks

-- so it is read, and what is made of it
pub read_alone : (words : List (List ℕ)) (request : Request) (asked : ScenarioRequest) → Asks words request asked → (Went : Course → Type 0) (before after : Source) (result : Result Answer Stop) →
    ReadsAnd Went (Some MOST_SCENARIO) before after (MakesOf words request) result → ReadsAnd Went (limit_of request) before after (MakesOf words request) result
read_alone words request asked asks Went before after result read =
    subst (λ (family : Family). ReadsAnd Went (limit_at family) before after (MakesOf words request) result) (sym (reads_alone words request asked asks)) read

pub alone_reads : (words : List (List ℕ)) (request : Request) (asked : ScenarioRequest) → Asks words request asked → limit_of request ≡ None → ⊥
alone_reads words request asked asks none = let bad : Some MOST_SCENARIO ≡ None = sym (ap limit_at (reads_alone words request asked asks)) ∙ none in cc

-- and of a scenario and what stands behind it
judged_limit : (asked : JudgedRequest) → limit_of (request_of asked) ≡ Some MOST_JUDGED
judged_limit judged.Check = refl
judged_limit judged.CheckGap = refl
judged_limit (judged.Report json) = refl
judged_limit judged.Convert = refl

pub read_judged : (words : List (List ℕ)) (request : Request) (asked : JudgedRequest) → request ≡ request_of asked → (Went : Course → Type 0) (before after : Source) (result : Result Answer Stop) →
    ReadsAnd Went (Some MOST_JUDGED) before after (MakesOf words (request_of asked)) result → ReadsAnd Went (limit_of request) before after (MakesOf words request) result
read_judged words request asked is Went before after result read =
    subst (λ (r : Request). ReadsAnd Went (limit_of r) before after (MakesOf words r) result) (sym is)
    (subst (λ (limit : Option ℕ). ReadsAnd Went limit before after (MakesOf words (request_of asked)) result) (sym (judged_limit asked)) read)

pub judged_reads : (request : Request) (asked : JudgedRequest) → request ≡ request_of asked → limit_of request ≡ None → ⊥
judged_reads request asked is none = let bad : Some MOST_JUDGED ≡ None = sym (judged_limit asked) ∙ sym (ap limit_of is) ∙ none in cc

-- and of nothing
pub read_nothing : (words : List (List ℕ)) (request other : Request) → request ≡ other → limit_of other ≡ None → (Went : Course → Type 0) (source : Source) (result : Result Answer Stop) →
    MakesOf words other [] result → ReadsAnd Went (limit_of request) source source (MakesOf words request) result
read_nothing words request other is none Went source result makes =
    subst (λ (r : Request). ReadsAnd Went (limit_of r) source source (MakesOf words r) result) (sym is)
    (subst (λ (limit : Option ℕ). ReadsAnd Went limit source source (MakesOf words other) result) (sym none) (made_read Went words other None source source [] result (record { empty = refl; same = refl }) makes))

-- what is made for what is asked is made for the request
given_so : (words : List (List ℕ)) (request : Request) (asked : ScenarioRequest) (p : Problem) (made : Result (Vec ℕ) Stop) → Asks words request asked → GivesFor asked p made → Gives (MakesText words request p) (IsUnmade words request p) made
given_so words request (alone.Plan workers nodes) p made asks gives = subst (λ (r : Request). Gives (MakesText words r p) (IsUnmade words r p) made) (sym asks) gives
given_so words request (alone.Gap workers nodes) p made asks gives = subst (λ (r : Request). Gives (MakesText words r p) (IsUnmade words r p) made) (sym asks) gives
given_so words request (alone.Replan workers nodes names) p made (flown, asks, same) gives =
    let named = subst (λ (ns : List (List ℕ)). Gives (IsReplanned nodes p ns) (IsUnreplanned nodes p ns) made) same gives in
    subst (λ (r : Request). Gives (MakesText words r p) (IsUnmade words r p) made) (sym asks) named
given_so words request (alone.Map names) p made (flown, asks, same) gives =
    let named = subst (λ (ns : List (List ℕ)). Gives (IsMapped p ns) (IsUnmapped p ns) made) same gives in
    subst (λ (r : Request). Gives (MakesText words r p) (IsUnmade words r p) made) (sym asks) named
given_so words request (alone.Duo workers nodes second) p made asks gives = subst (λ (r : Request). Gives (MakesText words r p) (IsUnmade words r p) made) (sym asks) gives

-- a scenario that was read has no fault in its text
no_fault : (asked : ScenarioRequest) (p : Problem) (fault : TextFault) → GivesFor asked p (Err (stops.Refused (refusals.BadScenario fault))) → ⊥
no_fault (alone.Plan workers nodes) p fault gives = gives
no_fault (alone.Gap workers nodes) p fault gives = gives
no_fault (alone.Replan workers nodes names) p fault gives = gives
no_fault (alone.Map names) p fault gives = gives
no_fault (alone.Duo workers nodes second) p fault gives = gives

module _ (words : List (List ℕ)) (request : Request) (asked : ScenarioRequest) (input : List ℕ) (asks : Asks words request asked) where
  by_family : (refusal : Refusal) → RefusesAs of_scenario words request input refusal → MakesOf words request input (Err (stops.Refused refusal))
  by_family refusal refuses = subst (λ (f : Family). RefusesAs f words request input refusal) (sym (reads_alone words request asked asks)) refuses

  -- the first fault of a text
  pub faulty : (fault : TextFault) → alone_of input ≡ Err fault → MakesOf words request input (Err (stops.Refused (refusals.BadScenario fault)))
  faulty fault bad = by_family (refusals.BadScenario fault) bad

  refused_alone : (p : Problem) (refusal : Refusal) → IsTextOf p input → GivesFor asked p (Err (stops.Refused refusal)) → RefusesAs of_scenario words request input refusal
  refused_alone p (refusals.BadScenario fault) is gives = absurd (no_fault asked p fault gives)
  refused_alone p (refusals.Rejected at) is gives = (p, is, given_so words request asked p (Err (stops.Refused (refusals.Rejected at))) asks gives)
  refused_alone p (refusals.BadPlan fault) is gives = (p, is, given_so words request asked p (Err (stops.Refused (refusals.BadPlan fault))) asks gives)
  refused_alone p (refusals.BadFlown why) is gives = (p, is, given_so words request asked p (Err (stops.Refused (refusals.BadFlown why))) asks gives)
  refused_alone p (refusals.BadDuo why) is gives = (p, is, given_so words request asked p (Err (stops.Refused (refusals.BadDuo why))) asks gives)
  refused_alone p (refusals.TooManyNodes limit) is gives = (p, is, given_so words request asked p (Err (stops.Refused (refusals.TooManyNodes limit))) asks gives)

  -- what was made of the scenario of the input is the answer
  pub answered : (p : Problem) (made : Result (Vec ℕ) Stop) (result : Result Answer Stop) → IsTextOf p input → GivesFor asked p made → IsDone made result → MakesOf words request input result
  answered p (Ok text) (Ok answer) is gives (done, same) =
      let makes : MakesText words request p text.items = given_so words request asked p (Ok text) asks gives in
      let mine = subst (λ (t : List ℕ). MakesText words request p t) (sym same) makes in
      subst (λ (f : Family). AnswersAs f words request input answer.status answer.text.items) (sym (reads_alone words request asked asks)) (done, (p, is, mine))
  answered p (Err (stops.Refused refusal)) (Err other) is gives same =
      subst (λ (s : Stop). MakesOf words request input (Err s)) (sym same) (by_family refusal (refused_alone p refusal is gives))
  answered p (Err stops.NoMemory) (Err other) is gives same = subst (λ (s : Stop). MakesOf words request input (Err s)) (sym same) tt
  answered p (Err stops.Usage) (Err other) is gives same = absurd (given_so words request asked p (Err stops.Usage) asks gives)
  answered p (Err stops.ReadFault) (Err other) is gives same = absurd (given_so words request asked p (Err stops.ReadFault) asks gives)
  answered p (Err stops.TooLong) (Err other) is gives same = absurd (given_so words request asked p (Err stops.TooLong) asks gives)
  answered p (Err stops.WriteFault) (Err other) is gives same = absurd (given_so words request asked p (Err stops.WriteFault) asks gives)
  answered p (Ok text) (Err other) is gives same = absurd same
  answered p (Err stop) (Ok answer) is gives same = absurd same

-- an input that wasn't read to its end
pub unread_alike : {V W : Type 0} (items : V → List ℕ) (Went : Course → Type 0) (limits : Option ℕ) (before after : Source) (Makes : List ℕ → Result W Stop → Type 0) (stop : Stop) → InputOf items Went limits before after (Err stop) → ReadsAnd Went limits before after Makes (Err stop)
unread_alike items Went limits before after Makes stops.ReadFault read = read
unread_alike items Went limits before after Makes stops.TooLong read = read
unread_alike items Went limits before after Makes stops.NoMemory read = read
unread_alike items Went limits before after Makes (stops.Refused refusal) read = absurd read
unread_alike items Went limits before after Makes stops.Usage read = absurd read
unread_alike items Went limits before after Makes stops.WriteFault read = absurd read

-- why there is no judgement, said of the request that asks for it
unjudged : (asked : JudgedRequest) (words : List (List ℕ)) (input : List ℕ) (refusal : Refusal) → JudgesAs (task_of asked) input (Err (stops.Refused refusal)) → MakesOf words (request_of asked) input (Err (stops.Refused refusal))
unjudged judged.Check words input refusal lacks = lacks_refuses Plans words (request_of judged.Check) input refusal refl lacks
unjudged judged.CheckGap words input refusal lacks = lacks_refuses Gaps words (request_of judged.CheckGap) input refusal refl lacks
unjudged (judged.Report json) words input refusal lacks = lacks_refuses Plans words (request_of (judged.Report json)) input refusal refl lacks
unjudged judged.Convert words input refusal lacks = lacks_refuses Plans words (request_of judged.Convert) input refusal refl lacks

pub unjudged_read : (asked : JudgedRequest) (words : List (List ℕ)) (Went : Course → Type 0) (limits : Option ℕ) (before after : Source) (stop : Stop) → ReadsAnd Went limits before after (JudgesAs (task_of asked)) (Err stop) → ReadsAnd Went limits before after (MakesOf words (request_of asked)) (Err stop)
unjudged_read asked words Went limits before after stop read =
    stopped_alike Went limits before after (JudgesAs (task_of asked)) (MakesOf words (request_of asked)) (λ input refusal lacks. unjudged asked words input refusal lacks) stop read
