-- A run ends as its input is due.
use Rattle.std.proofs.Common.{ℕ, ◌≡◌, List, Option, Some, None, inl, inr, refl, ap, ◌∙◌}
use Rattle.byte_ports.specs.Causes.{Rose}
use Rattle.plan_command.specs.declared.request.Request.{Request}
use Rattle.plan_command.specs.declared.status.Status.{Status}
use Rattle.plan_command.specs.declared.status.Status.TheVariants as statuses
use Rattle.plan_command.specs.declared.status.Refusal.{Refusal}
use Rattle.plan_command.specs.declared.status.Stop.TheVariants as stops
use Rattle.plan_command.specs.Words.{Family, of_scenario, of_plan, of_gap, of_nothing, family_of, limit_at, limit_of, Spells}
use Rattle.plan_command.specs.Commands.{AnswersAs, RefusesAs}
use Rattle.plan_command.specs.Inputs.{Course}
use Rattle.plan_command.specs.Run.{Call, Ending, delivered, stopped, Ends, status_at}
use Rattle.plan_command.specs.Complete.{IsUnlessNoMemory}
use Rattle.plan_command.specs.Promises.{Completes}
use Rattle.plan_command.proofs.Endings.{ends_as_due, ends_refused, ends_longer}
use Rattle.plan_command.proofs.Finishing.{feasible_due, judge_accepts, judge_rejects}
use Rattle.plan_command.proofs.WordForms.{spelled_once}

-- what reads nothing answers with the status Done, and refuses nothing
unread_done : (family : Family) (words : List (List ℕ)) (request : Request) (input : List ℕ) (status : Status) (text : List ℕ) → limit_at family ≡ None → AnswersAs family words request input status text → status ≡ statuses.Done
unread_done of_scenario words request input status text none answers = answers.0
unread_done of_plan words request input status text none answers = let bad : ⊥ = cc in absurd bad
unread_done of_gap words request input status text none answers = let bad : ⊥ = cc in absurd bad
unread_done of_nothing words request input status text none answers = answers.0

unread_refuses : (family : Family) (words : List (List ℕ)) (request : Request) (input : List ℕ) (refusal : Refusal) → limit_at family ≡ None → RefusesAs family words request input refusal → ⊥
unread_refuses of_scenario words request input refusal none refuses = let bad : ⊥ = cc in bad
unread_refuses of_plan words request input refusal none refuses = let bad : ⊥ = cc in bad
unread_refuses of_gap words request input refusal none refuses = let bad : ⊥ = cc in bad
unread_refuses of_nothing words request input refusal none refuses = refuses

unread_limit : (o : Option ℕ) (limit : ℕ) → o ≡ None → o ≡ Some limit → ⊥
unread_limit o limit e h = let bad : ⊥ = cc in bad

module _ (Went : Course → Type 0) (c : Call Went) where
  -- the request that the words spell reads nothing
  none_of : (r request : Request) → Spells c.words r → Spells c.words request → limit_of request ≡ None → limit_of r ≡ None
  none_of r request spelled asked none = ap limit_of (spelled_once c.words r request spelled asked) ∙ none

  ends_unread : (end : Ending) (request : Request) → Ends c end → Spells c.words request → limit_of request ≡ None → (Rose c.before.write_faults c.after.write_faults → ⊥) → IsUnlessNoMemory statuses.Done (status_at end)
  ends_unread (delivered status) request (r, spelled, d) asked none calm = inl (unread_done (family_of r) c.words r d.input status d.text (none_of r request spelled asked none) d.answers)
  ends_unread (stopped stops.Usage) request ends asked none calm = absurd (ends.0 request asked)
  ends_unread (stopped (stops.Refused refusal)) request (r, spelled, d) asked none calm = absurd (unread_refuses (family_of r) c.words r d.input refusal (none_of r request spelled asked none) d.refuses)
  ends_unread (stopped stops.ReadFault) request (r, spelled, d) asked none calm = absurd (unread_limit (limit_of r) d.0.limit (none_of r request spelled asked none) d.0.is_limit)
  ends_unread (stopped stops.TooLong) request (r, spelled, d) asked none calm = absurd (unread_limit (limit_of r) d.0.limit (none_of r request spelled asked none) d.0.is_limit)
  ends_unread (stopped stops.WriteFault) request (r, spelled, fault) asked none calm = absurd (calm fault.0)
  ends_unread (stopped stops.NoMemory) request ends asked none calm = inr refl

  pub run_completes : (end : Ending) → Ends c end → Completes c (status_at end)
  run_completes end ends = record {
    complete = λ request input calm. ends_as_due Went c request input end ends calm;
    finishes = λ request input calm feasible. feasible_due c.words request input (status_at end) feasible (ends_as_due Went c request input end ends calm);
    accepts = λ request input calm good. judge_accepts c.words request input (status_at end) good (ends_as_due Went c request input end ends calm);
    rejects = λ request input calm bad. judge_rejects c.words request input (status_at end) bad (ends_as_due Went c request input end ends calm);
    makes = λ request asked none calm. ends_unread end request ends asked none calm;
    refused = λ request input refusal heard short due by. ends_refused Went c request input end refusal ends heard short due by;
    longer = λ request input heard long. ends_longer Went c request input end ends heard long;
  }
