use Rattle.std.proofs.Common.{refl, rules}
use Rattle.plan_command.specs.Run.{delivered, stopped}
use Rattle.plan_command.proofs.Completing.{run_completes}
use Rattle.plan_command.proofs.Endings.{says_nothing}
use Rattle.plan_command.proofs.Outcomes.{run_keeps}
use Rattle.plan_command.proofs.top.run.Goals as goal

pub returns-in-Ok-clause-ended : goal.returns-in-Ok-clause-ended
returns-in-Ok-clause-ended g c = (delivered c.in-Ok.status, refl, c.in-Ok.ensures.ends, says_nothing _)

pub returns-in-Err-clause-ended : goal.returns-in-Err-clause-ended
returns-in-Err-clause-ended g c = (stopped c.in-Err.stop, c.status.ensures, c.in-Err.ensures.ends, search rules)

pub returns-in-Ok-clause-keeps : goal.returns-in-Ok-clause-keeps
returns-in-Ok-clause-keeps g c = run_keeps _ _ (delivered c.in-Ok.status) c.in-Ok.ensures.ends

pub returns-in-Err-clause-keeps : goal.returns-in-Err-clause-keeps
returns-in-Err-clause-keeps g c = rw c.status.ensures (run_keeps _ _ (stopped c.in-Err.stop) c.in-Err.ensures.ends)

pub returns-in-Ok-clause-completes : goal.returns-in-Ok-clause-completes
returns-in-Ok-clause-completes g c = run_completes _ _ (delivered c.in-Ok.status) c.in-Ok.ensures.ends

pub returns-in-Err-clause-completes : goal.returns-in-Err-clause-completes
returns-in-Err-clause-completes g c = rw c.status.ensures (run_completes _ _ (stopped c.in-Err.stop) c.in-Err.ensures.ends)
