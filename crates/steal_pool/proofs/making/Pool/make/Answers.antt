use Rattle.std.proofs.Common.{◌≡◌, [], length, map, arith, ap, sym, ◌∙◌, subst}
use Rattle.std.proofs.lemmas.List.{length-map}
use Rattle.crossbeam_deque.specs.Handles.{worker_deque}
use Rattle.steal_pool.specs.Pools.{IsRest, rest_taken}
use Rattle.steal_pool.proofs.NewKits.{whole_turned}
use Rattle.steal_pool.proofs.making.Pool.make.Goals as goal

pub assemble_all-requires-clause-each : goal.assemble_all-requires-clause-each
assemble_all-requires-clause-each g c = λ i r e. subst (λ ids. IsRest ids i r × (rest_taken r ≡ [])) (sym c.in_ok-rests.ensures.same) (c.in_ok-rests.ensures.each i r e)

pub returns-clause-whole : goal.returns-clause-whole
returns-clause-whole g c =
    let owns = c.deal_all.new.owns.items in
    let n : length owns ≡ c.args.workers = sym (length-map owns (λ w. worker_deque w)) ∙ ap length c.in_ok-rests.ensures.same ∙ length-map c.in_ok-owns.owns.items (λ w. worker_deque w) ∙ c.in_ok-owns.ensures.many in
    rw c.reverse.ensures.items ((whole_turned c.in_ok-kits.kits.items (map (λ w. worker_deque w) owns) (length owns) (omega (arith, n, c.requires.some)) c.in_ok-kits.ensures.many (length-map owns (λ w. worker_deque w)) c.in_ok-kits.ensures.each).0)

pub returns-clause-fresh : goal.returns-clause-fresh
returns-clause-fresh g c =
    let owns = c.deal_all.new.owns.items in
    let n : length owns ≡ c.args.workers = sym (length-map owns (λ w. worker_deque w)) ∙ ap length c.in_ok-rests.ensures.same ∙ length-map c.in_ok-owns.owns.items (λ w. worker_deque w) ∙ c.in_ok-owns.ensures.many in
    rw c.reverse.ensures.items ((whole_turned c.in_ok-kits.kits.items (map (λ w. worker_deque w) owns) (length owns) (omega (arith, n, c.requires.some)) c.in_ok-kits.ensures.many (length-map owns (λ w. worker_deque w)) c.in_ok-kits.ensures.each).1)
