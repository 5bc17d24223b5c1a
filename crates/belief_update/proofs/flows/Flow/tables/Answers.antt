use Rattle.std.proofs.Common.{◌≡◌, ◌∙◌, ap, length, replicate}
use Rattle.std.proofs.Math.ListN.{length-set}
use Rattle.std.proofs.lemmas.List.{length-replicate}
use Rattle.belief_update.proofs.FlowSteps.{first_unit, flow_begun}
use Rattle.belief_update.proofs.flows.Flow.tables.Goals as goal

pub returns : goal.returns
returns c =
    let p = c.args.sc.now in
    let cells : c.from-cells.result ≡ p.cells = c.from-cells.ensures ∙ c.cells.ensures.value in
    let masses = c.in_ok-unit.unit.items in
    let zeros : masses ≡ replicate p.cells 0 = rw (← cells) (c.in_ok-unit.ensures.items_if_clones_equal (λ y same. same)) in
    let size = length-set masses c.args.cell 1 ∙ ap length zeros ∙ length-replicate p.cells 0 in
    rw c.from.ensures (flow_begun p c.args.cell _ size (first_unit p c.args.cell masses zeros c.requires) c.in_ok-with_capacity-2.ensures.items)
