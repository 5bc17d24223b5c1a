use Rattle.std.proofs.Common.{◌≡◌, ◌∙◌, ◌++◌, ℕ, List, [], Option, inr, ap, sym, arith}
use Rattle.search_workers.specs.Agendas.{kept, out_of}
use Rattle.search_workers.proofs.Balanced.{took_waits}
use Rattle.search_workers.proofs.run.has_work.Goals as goal

pub returns-in_default-clause-work : goal.returns-in_default-clause-work
returns-in_default-clause-work g c =
    let empty : c.args.stack.now ≡ [] = c.is_empty.ensures.0 c.if-not-is_empty.false in
    (rw empty (λ k d l. absurd (omega (arith, l))), inr (c.in_default.ensures.none, c.in_default.ensures.misses))

pub returns-clause-took : goal.returns-clause-took
returns-clause-took g c =
    took_waits c.args.kit.now (kept c.args.agenda.now) c.args.stack.now c.take_next.new.kit (kept c.take_next.new.agenda) c.push.new.self (out_of c.take_next.result) c.take_next.ensures.shifts
    (c.push.ensures ∙ ap (λ (o : Option (List ℕ)). c.args.stack.now ++ out_of o) (sym c.in-Some.is))
