use Rattle.std.proofs.Common.{◌∷◌, [], ap, arith, length, length-append}
use Rattle.belief_update.proofs.FlowSteps.{flows_more}
use Rattle.belief_update.proofs.flows.flows_over.Goals as goal

pub loop-c-preserved : goal.loop-c-preserved
loop-c-preserved c =
    let p = c.args.sc.now in
    let old = c.loop-c.flows.items in
    let next = c.in_ok-tables.field-0 in
    let items = c.in_ok-push.ensures.items in
    record {
      size = omega (arith, ap length items, length-append old (next ∷ []), c.loop-c.invariant.size);
      each = rw items (flows_more p old next c.loop-c.c c.loop-c.invariant.size c.loop-c.invariant.each c.in_ok-tables.ensures);
    }
