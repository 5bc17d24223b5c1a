use Rattle.std.proofs.Common.{◌≡◌, Ok, Err, arith}
use Rattle.std.proofs.lemmas.Grind.{common_steps}
use Rattle.tree_format.proofs.Spelled.{one_text_a_plan}
use Rattle.tree_format.proofs.Answered.{plan_given, printable_read, plan_said, stop_read, told_first, first_told}
use Rattle.tree_format.proofs.reading.read_plan.Goals as goal

pub returns-in_err-kept-clause-exact : goal.returns-in_err-kept-clause-exact
returns-in_err-kept-clause-exact c = λ plan k.
    let stop = c.in_err-kept.field-0.0 in
    let is : c.from_residual.result ≡ Err stop = grind (arith, common_steps, c.from_residual.ensures.0, c.from_residual.ensures.1) in
    rw is (plan_said c.args.sc.now c.cells-cells.ensures.sound plan c.args.text.now (Err stop) (stop_read c.args.sc.now c.args.text.now stop c.in_err-kept.ensures) k)

pub returns-clause-spelled : goal.returns-clause-spelled
returns-clause-spelled c =
    one_text_a_plan c.args.sc.now c.plan_from.result c.args.text.now c.cells-cells.ensures.sound (plan_given c.args.sc.now c.args.text.now c.in_ok-kept.kept c.plan_from.result c.in_ok-kept.ensures c.plan_from.ensures)

pub returns-clause-printable : goal.returns-clause-printable
returns-clause-printable c =
    printable_read c.args.sc.now c.plan_from.result c.args.text.now
    (one_text_a_plan c.args.sc.now c.plan_from.result c.args.text.now c.cells-cells.ensures.sound (plan_given c.args.sc.now c.args.text.now c.in_ok-kept.kept c.plan_from.result c.in_ok-kept.ensures c.plan_from.ensures))

pub returns-clause-exact : goal.returns-clause-exact
returns-clause-exact c = λ plan k.
    plan_said c.args.sc.now c.cells-cells.ensures.sound plan c.args.text.now (Ok c.plan_from.result) (plan_given c.args.sc.now c.args.text.now c.in_ok-kept.kept c.plan_from.result c.in_ok-kept.ensures c.plan_from.ensures) k

pub returns-in_err-kept-clause-first : goal.returns-in_err-kept-clause-first
returns-in_err-kept-clause-first c =
    let stop = c.in_err-kept.field-0.0 in
    let is : c.from_residual.result ≡ Err stop = grind (arith, common_steps, c.from_residual.ensures.0, c.from_residual.ensures.1) in
    rw is (told_first c.args.sc.now c.args.text.now (Err stop) (stop_read c.args.sc.now c.args.text.now stop c.in_err-kept.ensures))

pub returns-in_err-kept-clause-faulty : goal.returns-in_err-kept-clause-faulty
returns-in_err-kept-clause-faulty c = λ fault h.
    let stop = c.in_err-kept.field-0.0 in
    let is : c.from_residual.result ≡ Err stop = grind (arith, common_steps, c.from_residual.ensures.0, c.from_residual.ensures.1) in
    rw is (first_told c.args.sc.now c.args.text.now (Err stop) fault (stop_read c.args.sc.now c.args.text.now stop c.in_err-kept.ensures) h)

pub returns-clause-faulty : goal.returns-clause-faulty
returns-clause-faulty c = λ fault h.
    first_told c.args.sc.now c.args.text.now (Ok c.plan_from.result) fault (plan_given c.args.sc.now c.args.text.now c.in_ok-kept.kept c.plan_from.result c.in_ok-kept.ensures c.plan_from.ensures) h
