use Rattle.search_core.proofs.Answered.{balanced_after, not_pooled, not_held, no_standing}
use Rattle.search_core.proofs.machine.CoreState.step.Goals as goal

pub returns-clause-balanced : goal.returns-clause-balanced
returns-clause-balanced c =
    balanced_after c.args.sc.now c.args.self.now c.args.event c.answer.result c.answer.new.self c.recall_sound.ensures c.requires.balanced c.requires.allowed c.answer.ensures

pub returns-clause-not_pooled : goal.returns-clause-not_pooled
returns-clause-not_pooled c = not_pooled c.args.sc.now c.args.self.now c.answer.new.self c.args.event c.answer.result c.answer.ensures

pub returns-clause-not_held : goal.returns-clause-not_held
returns-clause-not_held c = not_held c.args.sc.now c.args.self.now c.answer.new.self c.args.event c.answer.result c.answer.ensures

pub returns-clause-no_standing : goal.returns-clause-no_standing
returns-clause-no_standing c = no_standing c.args.sc.now c.args.self.now c.answer.new.self c.args.event c.answer.result c.answer.ensures
