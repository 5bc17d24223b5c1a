use Rattle.std.proofs.Common.{[], ◌∷◌, ◌++◌, length, IsPermutation, ap, sym, ◌∙◌, arith, append_assoc, length-append}
use Rattle.std.proofs.lemmas.List.Sorted.{IsPermutation-trans, IsPermutation-append_left}
use Rattle.crossbeam_deque.specs.Handles.{worker_view}
use Rattle.list_laws.proofs.Exchanges.{IsPermutation-same, IsPermutation-swap_last}
use Rattle.steal_pool.proofs.Balance.{whole}
use Rattle.steal_pool.proofs.Left.{left_many, left_none}
use Rattle.steal_pool.proofs.settling.drain.Goals as goal

pub loop-task-smaller : goal.loop-task-smaller
loop-task-smaller g c =
    let v = worker_view c.loop-task.own in
    let took = c.in-Some.ensures.rule in
    let many = left_many v.put v.taken (c.in-Some.task ∷ took.1.0) (whole _ v c.loop-task.invariant.passes took.1.1) in
    omega (arith, many, ap (λ h. length h.put) took.0, ap (λ h. length h.taken) took.0, length-append v.taken (c.in-Some.task ∷ []))

pub loop-task-preserved : goal.loop-task-preserved
loop-task-preserved g c =
    let inv = c.loop-task.invariant in
    let v = worker_view c.loop-task.own in
    let x = c.in-Some.task in
    let took = c.in-Some.ensures.rule.0 in
    record {
      fifo = c.take_task.ensures.same.0.1 ∙ inv.fifo;
      passes = ap (λ h. h.passes) took ∙ inv.passes;
      put = ap (λ h. h.put) took ∙ inv.put;
      taken =
          IsPermutation-trans _ _ _ (IsPermutation-same _ _ (ap (λ h. h.taken ++ c.args.out.now.items) took))
          (IsPermutation-trans _ _ _ (IsPermutation-swap_last v.taken (x ∷ []) c.args.out.now.items)
          (IsPermutation-trans _ _ _ (IsPermutation-append_left (x ∷ []) _ _ inv.taken)
          (IsPermutation-same _ _ (append_assoc (worker_view c.args.own).taken c.loop-task.out.items (x ∷ []) ∙ ap (λ l. (worker_view c.args.own).taken ++ l) (sym c.in_ok-push.ensures.items)))));
    }

pub returns : goal.returns
returns g c =
    let inv = c.loop-task.invariant in
    let v = worker_view c.loop-task.own in
    let same : IsPermutation v.put v.taken = left_none v.put v.taken (whole [] v inv.passes c.in_default.ensures.rule.1) in
    IsPermutation-trans _ _ _ (IsPermutation-same _ _ (ap (λ l. l ++ c.args.out.now.items) (sym inv.put)))
    (IsPermutation-trans _ _ _ (IsPermutation-append_left c.args.out.now.items _ _ same) inv.taken)
