use Rattle.plan_command.proofs.Summaries.{made_few, summary_of_best}
use Rattle.plan_command.proofs.drilling.drilled_summary.Goals as goal

pub drilled-requires-clause-few : goal.drilled-requires-clause-few
drilled-requires-clause-few g c = λ κs ls. rw c.requires.made (made_few c.args.number)

pub returns : goal.returns
returns g c = summary_of_best c.args.number c.args.sc.now c.in_ok-plan.plan.standing.path c.summary.result (λ text. text.items) c.requires.made c.in_ok-plan.ensures.certified.best c.summary.ensures
