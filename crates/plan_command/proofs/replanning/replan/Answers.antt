use Rattle.std.specs.Prelude.{map, string_bytes}
use Rattle.plan_command.proofs.replanning.replan.Goals as goal

pub returns-in-Ok : goal.returns-in-Ok
returns-in-Ok g c = c.replan_flown.ensures (map string_bytes c.args.names.now) c.in-Ok.ensures.ok
