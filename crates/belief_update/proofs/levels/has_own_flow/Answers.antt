use Rattle.std.proofs.Common.{◌≤◌, length, sym, ◌∙◌, arith}
use Rattle.search_model.proofs.NameLemmas.{some_in}
use Rattle.search_model.proofs.LookRows.{own_cell}
use Rattle.belief_update.proofs.levels.has_own_flow.Goals as goal

pub returns-in-Some : goal.returns-in-Some
returns-in-Some c there =
    let p = c.args.sc.now in
    let some : 1 ≤ length c.args.flows.now = some_in c.args.flows.now (sym c.is_empty.ensures ∙ c.if-is_empty.false) in
    let here = own_cell p c.sweep.ensures.sound 1 c.args.a _ c.sweep.ensures.value _ c.in-Some.ensures.row in
    record {
      own = (c.in-Some.field-0, rw c.sweep.ensures.value at c.in-Some.ensures.row);
      alike = c.requires.flows.alike some;
      inside = omega (arith, here, c.requires.flows.all some);
    }
