use Rattle.std.proofs.Common.{[], ◌∷◌, ◌++◌, ap, sym, ◌∙◌, subst, append_assoc}
use Rattle.crossbeam_utils.specs.Seq.{cell_view}
use Rattle.incumbent_board.specs.declared.sight.Sight.{Sight}
use Rattle.incumbent_board.specs.Joins.{Gathers}
use Rattle.incumbent_board.proofs.Ends.{joins_more}
use Rattle.incumbent_board.proofs.closing.join_all.Goals as goal

pub loop-seat-preserved : goal.loop-seat-preserved
loop-seat-preserved c =
    let done = c.loop-seat.yielded in
    let split = c.loop-seat.invariant.split ∙ ap (λ l. done ++ l) c.in-Some.ensures.steps.0 in
    let same = c.loop-seat.invariant.same in
    record {
      split = split ∙ sym (append_assoc done (c.in-Some.seat ∷ []) c.next.new.self.rest.items);
      same = (c.join.ensures.same.0 ∙ same.0, c.join.ensures.same.1 ∙ same.1);
      joins = subst (λ (w : Sight). Gathers (cell_view c.args.place.now) (done ++ c.in-Some.seat ∷ []) w) (sym c.join.ensures.joined) (joins_more _ _ _ done c.in-Some.seat c.loop-seat.invariant.joins c.pass_of.ensures.knows);
    }
