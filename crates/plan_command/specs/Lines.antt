-- What stops a run, its status, and the one line that is said of it.
use Rattle.std.specs.Prelude.{ℕ, List, [], ◌∷◌, ◌++◌, codes}
use Rattle.std.specs.Fmt.{decimal}
use Rattle.scenario_text.specs.Kinds.{name_of}
use Rattle.tree_format.specs.Kinds.{name_of as plan_name_of}
use Rattle.tree_checker.specs.declared.verdict.RejectAt.{RejectAt}
use Rattle.tree_checker.specs.declared.gap_verdict.GapRejectAt.{GapRejectAt}
use Rattle.tree_checker.specs.Whys.{name_of as reason_name_of, gap_name_of}
use Rattle.plan_command.specs.declared.status.Status.{Status}
use Rattle.plan_command.specs.declared.status.Status.TheVariants as statuses
use Rattle.plan_command.specs.declared.status.Refusal.{Refusal}
use Rattle.plan_command.specs.declared.status.Refusal.TheVariants.{Rejected, BadScenario, BadPlan, BadFlown, BadDuo, TooManyNodes}
use Rattle.plan_command.specs.declared.status.Stop.{Stop}
use Rattle.plan_command.specs.declared.status.Stop.TheVariants.{Usage, ReadFault, TooLong, Refused, WriteFault, NoMemory}
use Rattle.plan_command.specs.Whys.{flown_name_of, duo_name_of}

-- the numbers of the statuses
abbrev pub code_of : Status → ℕ
code_of statuses.Done = 0
code_of statuses.Rejected = 1
code_of statuses.Usage = 2
code_of statuses.BadScenario = 3
code_of statuses.BadPlan = 4
code_of statuses.ReadFault = 5
code_of statuses.WriteFault = 6
code_of statuses.NoMemory = 7
code_of statuses.TooManyNodes = 8
code_of statuses.TooLong = 9
code_of statuses.BadFlown = 10
code_of statuses.BadDuo = 11

-- the status of a refusal, and of all that stops a run
abbrev pub refused_status : Refusal → Status
refused_status (Rejected at) = statuses.Rejected
refused_status (BadScenario fault) = statuses.BadScenario
refused_status (BadPlan fault) = statuses.BadPlan
refused_status (BadFlown why) = statuses.BadFlown
refused_status (BadDuo why) = statuses.BadDuo
refused_status (TooManyNodes limit) = statuses.TooManyNodes

abbrev pub status_of : Stop → Status
status_of Usage = statuses.Usage
status_of ReadFault = statuses.ReadFault
status_of TooLong = statuses.TooLong
status_of (Refused refusal) = refused_status refusal
status_of WriteFault = statuses.WriteFault
status_of NoMemory = statuses.NoMemory

-- `rejected LINE WHY`, of the first reason against a plan
abbrev pub rejection_of : RejectAt → List ℕ
rejection_of at = codes "rejected " ++ decimal at.line ++ 32 ∷ (reason_name_of at.why ++ 10 ∷ [])

-- and of that against a gap plan
abbrev pub gap_rejection_of : GapRejectAt → List ℕ
gap_rejection_of at = codes "rejected " ++ decimal at.line ++ 32 ∷ (gap_name_of at.why ++ 10 ∷ [])

-- the line of a refusal, and of all that stops a run
unfoldable pub refusal_line : Refusal → List ℕ
refusal_line (Rejected at) = rejection_of at
refusal_line (BadScenario fault) = codes "bad scenario: line " ++ decimal fault.line ++ 32 ∷ (name_of fault.kind ++ 10 ∷ [])
refusal_line (BadPlan fault) = codes "bad plan: line " ++ decimal fault.line ++ 32 ∷ (plan_name_of fault.kind ++ 10 ∷ [])
refusal_line (BadFlown why) = codes "bad flown: " ++ (flown_name_of why ++ 10 ∷ [])
refusal_line (BadDuo why) = codes "bad duo: " ++ (duo_name_of why ++ 10 ∷ [])
refusal_line (TooManyNodes limit) = codes "too many nodes: " ++ decimal limit ++ 10 ∷ []

unfoldable pub line_of : Stop → List ℕ
line_of Usage = codes "usage: osp plan [--workers N] [--nodes N] / check / report [--json yes] / make NUMBER / drill NUMBER [--workers N] / convert / gap [--workers N] [--nodes N] / checkgap / replan [--workers N] [--nodes N] flown NAME .. / map flown NAME .. / duo [--workers N] [--nodes N] start NAME\n"
line_of ReadFault = codes "read fault\n"
line_of TooLong = codes "input too long\n"
line_of (Refused refusal) = refusal_line refusal
line_of WriteFault = codes "write fault\n"
line_of NoMemory = codes "no memory\n"
