use Rattle.plan_command.proofs.Judging.{told_verdict, told_early}
use Rattle.plan_command.proofs.judge.Judge.finish.Goals as goal

pub returns-in-Ok : goal.returns-in-Ok
returns-in-Ok c = λ task rest h. told_verdict task rest c.args.self.now _ c.recall_sound.ensures h (c.in-Ok.ensures.whole _ _ _ _ h.taken.read) c.verdict.ensures

pub returns-in-Err : goal.returns-in-Err
returns-in-Err c = λ task rest h. told_early task rest c.args.self.now _ h (c.in-Err.ensures.early _ _ _ _ h.taken.read)
