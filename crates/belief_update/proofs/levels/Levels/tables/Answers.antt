use Rattle.std.proofs.Common.{arith, ◌∙◌}
use Rattle.std.proofs.lemmas.List.{with_items_is}
use Rattle.belief_update.proofs.levels.Levels.tables.Goals as goal

pub invariant_of-result : goal.invariant_of-result
invariant_of-result c =
    let stored = with_items_is c.in_ok-levels.levels c.begin.new.levels (c.begin.auto.levels ∙ c.deref_mut.ensures.len) in
    rw (stored, c.empty.ensures) (omega (arith, c.begin.ensures.size, c.recall_sound.ensures.horizon))

pub returns-clause-made : goal.returns-clause-made
returns-clause-made c =
    let p = c.args.sc.now in
    let stored = with_items_is c.in_ok-levels.levels c.begin.new.levels (c.begin.auto.levels ∙ c.deref_mut.ensures.len) in
    rw (stored, c.empty.ensures) (record {
      short = omega (arith, c.recall_sound.ensures.horizon);
      cells = c.in_ok-tables.ensures;
      levels = c.begin.ensures;
      flows = c.in_ok-flows_over.ensures;
    })
