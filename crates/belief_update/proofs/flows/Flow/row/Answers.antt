use Rattle.std.proofs.Common.{◌≡◌, ◌≤◌, length, ap, arith}
use Rattle.std.proofs.lemmas.List.{get_or_read}
use Rattle.belief_update.specs.Flows.{FlowState, IsFlow, span_of}
use Rattle.belief_update.proofs.FlowSteps.{no_units, units_held}
use Rattle.belief_update.proofs.flows.Flow.row.Goals as goal

pub returns-then-units-eq0 : goal.returns-then-units-eq0
returns-then-units-eq0 c p a given = rw (c.if-units-eq0.true) (no_units p a c.args.n)

pub returns : goal.returns
returns c p a given =
    let f : FlowState = record { unit = c.self.inside.unit.items; entries = c.self.inside.entries.items; spans = c.self.inside.spans.items } in
    let flow : IsFlow p a f = rw c.self.view_is given in
    let some : 1 ≤ c.args.units = omega (arith, c.if-units-eq0.false) in
    let made : c.args.n ≤ length f.spans = rw (ap (λ (s : FlowState). s.spans) c.self.view_is) (c.requires.made some) in
    let span : c.index-span.result.now ≡ span_of f.spans c.args.n = get_or_read f.spans _ _ (omega (arith, c.requires.first, made)) c.index-span.ensures (record { from = 0; to = 0 }) in
    rw (c.deref.ensures.value, span) (units_held p a c.args.units c.args.n _ (flow.rows c.args.n c.requires.first made))
