use Rattle.std.proofs.Common.{◌≡◌, Ok, Err, arith}
use Rattle.std.proofs.lemmas.Grind.{common_steps}
use Rattle.tree_format.proofs.Spelled.{one_text_a_gap}
use Rattle.tree_format.proofs.Answered.{gap_given, gap_said, gap_stop_read, gap_told_first, gap_first_told}
use Rattle.tree_format.proofs.reading.read_gap.Goals as goal

pub returns-in_err-kept-clause-exact : goal.returns-in_err-kept-clause-exact
returns-in_err-kept-clause-exact c = λ plan k.
    let stop = c.in_err-kept.field-0.0 in
    let is : c.from_residual.result ≡ Err stop = grind (arith, common_steps, c.from_residual.ensures.0, c.from_residual.ensures.1) in
    rw is (gap_said c.args.sc.now c.cells-cells.ensures.sound plan c.args.text.now (Err stop) (gap_stop_read c.args.sc.now c.args.text.now stop c.in_err-kept.ensures) k)

pub returns-clause-spelled : goal.returns-clause-spelled
returns-clause-spelled c =
    one_text_a_gap c.args.sc.now c.gap_from.result c.args.text.now c.cells-cells.ensures.sound (gap_given c.args.sc.now c.args.text.now c.in_ok-kept.kept c.gap_from.result c.in_ok-kept.ensures c.gap_from.ensures)

pub returns-clause-printable : goal.returns-clause-printable
returns-clause-printable c =
    (one_text_a_gap c.args.sc.now c.gap_from.result c.args.text.now c.cells-cells.ensures.sound (gap_given c.args.sc.now c.args.text.now c.in_ok-kept.kept c.gap_from.result c.in_ok-kept.ensures c.gap_from.ensures)).printable

pub returns-clause-exact : goal.returns-clause-exact
returns-clause-exact c = λ plan k.
    gap_said c.args.sc.now c.cells-cells.ensures.sound plan c.args.text.now (Ok c.gap_from.result) (gap_given c.args.sc.now c.args.text.now c.in_ok-kept.kept c.gap_from.result c.in_ok-kept.ensures c.gap_from.ensures) k

pub returns-in_err-kept-clause-first : goal.returns-in_err-kept-clause-first
returns-in_err-kept-clause-first c =
    let stop = c.in_err-kept.field-0.0 in
    let is : c.from_residual.result ≡ Err stop = grind (arith, common_steps, c.from_residual.ensures.0, c.from_residual.ensures.1) in
    rw is (gap_told_first c.args.sc.now c.args.text.now (Err stop) (gap_stop_read c.args.sc.now c.args.text.now stop c.in_err-kept.ensures))

pub returns-in_err-kept-clause-faulty : goal.returns-in_err-kept-clause-faulty
returns-in_err-kept-clause-faulty c = λ fault h.
    let stop = c.in_err-kept.field-0.0 in
    let is : c.from_residual.result ≡ Err stop = grind (arith, common_steps, c.from_residual.ensures.0, c.from_residual.ensures.1) in
    rw is (gap_first_told c.args.sc.now c.args.text.now (Err stop) fault (gap_stop_read c.args.sc.now c.args.text.now stop c.in_err-kept.ensures) h)

pub returns-clause-faulty : goal.returns-clause-faulty
returns-clause-faulty c = λ fault h.
    gap_first_told c.args.sc.now c.args.text.now (Ok c.gap_from.result) fault (gap_given c.args.sc.now c.args.text.now c.in_ok-kept.kept c.gap_from.result c.in_ok-kept.ensures c.gap_from.ensures) h
