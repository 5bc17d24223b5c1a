use Rattle.std.proofs.Common.{◌≡◌, length, arith, ap, sym, ◌∙◌, subst}
use Rattle.std.proofs.lemmas.List.{length-map}
use Rattle.std.proofs.lemmas.List.Sorted.{IsPermutation-sym, IsPermutation-trans, IsPermutation-append_left}
use Rattle.crossbeam_deque.specs.Handles.{worker_deque}
use Rattle.steal_pool.specs.Pools.{IsRest}
use Rattle.list_laws.proofs.Exchanges.{IsPermutation-same}
use Rattle.steal_pool.proofs.settling.settle.Goals as goal

pub give_all-requires-clause-each : goal.give_all-requires-clause-each
give_all-requires-clause-each g c = λ i r e. subst (λ ids. IsRest ids i r) (sym c.in_ok-owns.ensures.deques) (c.in_ok-owns.ensures.rests i r e)

pub give_all-requires-clause-passes : goal.give_all-requires-clause-passes
give_all-requires-clause-passes g c =
    let many : length c.in_ok-owns.owns.items ≡ length c.args.kits.items = sym (length-map c.in_ok-owns.owns.items (λ w. worker_deque w)) ∙ ap length c.in_ok-owns.ensures.deques ∙ sym c.requires.all in
    λ i h. omega (arith, many, c.in_ok-owns.ensures.passes i (omega (arith, many)))

pub returns : goal.returns
returns g c =
    IsPermutation-trans _ _ _ (IsPermutation-same _ _ (c.in_ok-owns.ensures.put ∙ sym c.give_all.ensures.put))
    (IsPermutation-trans _ _ _ c.in_ok-drain_all.ensures
    (IsPermutation-append_left c.drain_all.new.out.items _ _ (IsPermutation-trans _ _ _ c.give_all.ensures.taken (IsPermutation-sym _ _ c.in_ok-owns.ensures.taken))))
