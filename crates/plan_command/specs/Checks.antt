-- What the functions of a check return.
use Rattle.std.specs.Prelude.{ℕ, ◌≡◌, List, Result, Ok, Err, codes}
use Rattle.tree_checker.specs.declared.gap_verdict.GapVerdict.{GapVerdict}
use Rattle.tree_checker.specs.declared.gap_verdict.GapVerdict.TheVariants as verdicts
use Rattle.plan_command.specs.declared.answer.Answer.{Answer}
use Rattle.plan_command.specs.declared.status.Status.{Status}
use Rattle.plan_command.specs.declared.status.Status.TheVariants as statuses
use Rattle.plan_command.specs.declared.status.Stop.{Stop}
use Rattle.plan_command.specs.declared.status.Stop.TheVariants as stops
use Rattle.plan_command.specs.Lines.{gap_rejection_of}

-- a verdict as a status and a text
abbrev pub IsTold : GapVerdict → Status → List ℕ → Type 0
IsTold verdicts.Accepted status text = (status ≡ statuses.Done) × (text ≡ codes "accepted\n")
IsTold (verdicts.Rejected at) status text = (status ≡ statuses.Rejected) × (text ≡ gap_rejection_of at)

-- the verdict is told, unless memory ran out
abbrev pub TellsVerdict : GapVerdict → Result Answer Stop → Type 0
TellsVerdict verdict (Ok answer) = IsTold verdict answer.status answer.text.items
TellsVerdict verdict (Err stop) = stop ≡ stops.NoMemory
