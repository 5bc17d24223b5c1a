use Rattle.std.proofs.Common.{sym, ◌∙◌}
use Rattle.exchange_bound.proofs.StandIns.{value_uncut}
use Rattle.exchange_bound.proofs.stand_in.candidate_at.Goals as goal

pub returns-then-not-cuts-clause-none : goal.returns-then-not-cuts-clause-none
returns-then-not-cuts-clause-none c =
    let p = c.args.sc.now in
    let q = c.args.prefix.now in
    let least = c.value-least.ensures p q (c.onward.ensures p q c.value-value.ensures.made (c.value-value.ensures.there q c.requires.along)) in
    value_uncut p q c.args.u c.exchanged-other.result c.value-value.result c.value-least.result c.exchanged-other.ensures.prefix c.value-value.ensures.value least (sym c.cuts.ensures ∙ c.if-not-cuts.true)

pub returns-then-not-cuts-clause-along : goal.returns-then-not-cuts-clause-along
returns-then-not-cuts-clause-along c = c.value-value.ensures.there c.args.prefix.now c.requires.along

pub returns-clause-along : goal.returns-clause-along
returns-clause-along c = c.value-value.ensures.there c.args.prefix.now c.requires.along
