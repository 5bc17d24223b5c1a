use Rattle.plan_command.proofs.Summaries.{summary_written}
use Rattle.plan_command.proofs.drilling.summary.Goals as goal

pub returns : goal.returns
returns c =
    summary_written c.args.number c.args.sc.now c.args.best.now.path _ _ _ _ _ (rw c.new-text.ensures.items at c.in_ok-push_row.ensures.ok) (rw c.from.ensures at c.in_ok-push_row-2.ensures.ok)
    c.in_ok-push_path.ensures.ok (rw c.requires.value at c.in_ok-push_chance.ensures.ok) c.in_ok-push_row-3.ensures.ok
