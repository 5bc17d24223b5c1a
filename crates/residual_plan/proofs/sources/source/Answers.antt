use Rattle.std.proofs.Common.{◌≡◌, ◌-◌, min, sym, ap, ◌∙◌, arith, length, take}
use Rattle.search_model.specs.Legal.{last_of}
use Rattle.residual_plan.proofs.Places.{source_own, source_past, take-min}
use Rattle.residual_plan.proofs.sources.source.Goals as goal

pub returns-then-a-own : goal.returns-then-a-own
returns-then-a-own c = sym (source_own c.args.sc.now c.args.flown.now c.args.a (omega (arith, c.if-a-own.true, c.positions-own.ensures.value)))

pub returns : goal.returns
returns c =
    let p = c.args.sc.now in
    let flown = c.args.flown.now in
    let past = source_past p flown c.args.a (omega (arith, c.if-a-own.false, c.positions-own.ensures.value)) in
    let periods : c.min-periods.result ≡ min (length flown) (c.args.a - p.positions) = rw (← c.len.ensures.value, ← c.positions-own.ensures.value) c.min-periods.ensures in
    let front = c.first.ensures ∙ ap (λ n. take n flown) periods ∙ take-min (c.args.a - p.positions) flown in
    c.last_after.ensures.value ∙ ap (last_of p.start) front ∙ sym past
