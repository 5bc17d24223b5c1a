use Rattle.std.proofs.Common.{◌≡◌, Err, take, arith, length-drop}
use Rattle.std.proofs.lemmas.Grind.{common_steps}
use Rattle.tree_format.proofs.ItemsKept.{collected_on, collected_all, whole_collected, stop_collected}
use Rattle.tree_format.proofs.collecting.take_all.Goals as goal

pub returns-in_err-done-clause-fault : goal.returns-in_err-done-clause-fault
returns-in_err-done-clause-fault c =
    let stop = c.in_err-done.field-0.0 in
    let is : c.from_residual.result ≡ Err stop = grind (arith, common_steps, c.from_residual.ensures.0, c.from_residual.ensures.1) in
    rw is (stop_collected c.args.family c.args.sc.now c.args.text.now c.loop-done.done c.loop-done.feed c.loop-done.kept stop c.loop-done.invariant.taken c.in_err-done.ensures.fault)

pub loop-done-preserved : goal.loop-done-preserved
loop-done-preserved c =
    let family = c.args.family in
    let text = c.args.text.now in
    let done = c.loop-done.done in
    let used = c.in_ok-done.field-0 in
    record {
      within = omega (arith, length-drop done text, c.in_ok-done.ensures.used, c.loop-done.invariant.within);
      taken = collected_on family c.args.sc.now text done used c.take_some.new.feed c.take_some.new.kept (c.in_ok-done.ensures.taken (take done text) c.loop-done.invariant.taken);
    }

pub returns-in-Ok-clause-whole : goal.returns-in-Ok-clause-whole
returns-in-Ok-clause-whole c =
    let family = c.args.family in
    let text = c.args.text.now in
    let all = collected_all family c.args.sc.now text c.loop-done.done c.loop-done.feed c.loop-done.kept (omega (arith, c.loop-done-test.false)) c.loop-done.invariant.taken in
    whole_collected family c.args.sc.now text c.loop-done.feed c.loop-done.kept all (c.in-Ok.ensures.whole family c.args.sc.now text all.items all.read)

pub returns-in-Err-clause-fault : goal.returns-in-Err-clause-fault
returns-in-Err-clause-fault c =
    let family = c.args.family in
    let text = c.args.text.now in
    let all = collected_all family c.args.sc.now text c.loop-done.done c.loop-done.feed c.loop-done.kept (omega (arith, c.loop-done-test.false)) c.loop-done.invariant.taken in
    (c.in-Err.ensures.early family c.args.sc.now text all.items all.read).first
