use Rattle.bound_tree.proofs.Tangents.{reference_extends}
use Rattle.scout_path.proofs.rollout.reached.Goals as goal

pub returns-clause-path : goal.returns-clause-path
returns-clause-path c = (reference_extends c.args.sc.now c.args.prefix.now c.horizon.ensures.sound c.requires.legal c.reference.new.to c.reference.ensures).path
