use Rattle.std.proofs.Common.{◌∙◌, sym}
use Rattle.bound_tree.proofs.Closing.{at_least_from}
use Rattle.scout_path.proofs.rollout.better_of.Goals as goal

pub returns-else-better-clause-second : goal.returns-else-better-clause-second
returns-else-better-clause-second c = at_least_from c.args.s.now c.args.t.now (sym c.better.ensures ∙ c.if-better.false)
