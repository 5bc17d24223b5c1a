use Rattle.std.proofs.Common.{◌≡◌, ◌+◌, ◌-◌, ◌∙◌, suc, ◌∷◌, None, ap, subst, arith}
use Rattle.std.specs.List.{flat_map, range_with_len}
use Rattle.sweep_table.specs.LookParts.{positions_of, look_row}
use Rattle.sweep_table.specs.Rates.{IsRateOf, TellsRate, parts_at, parts_in_period}
use Rattle.sweep_table.proofs.OneRate.{range_more, range_none, stands_last}
use Rattle.sweep_table.proofs.rates.rate_in_period.Goals as goal

pub loop-p-init : goal.loop-p-init
loop-p-init c =
    let all : positions_of c.args.sweep.now - 0 ≡ positions_of c.args.sweep.now = omega arith in
    rw all (λ o told. told)

pub returns-in_err-rate : goal.returns-in_err-rate
returns-in_err-rate c =
    let sweep = c.args.sweep.now in
    let row : c.parts.result.now ≡ look_row sweep c.args.t c.loop-p.p = c.parts.ensures ∙ c.look.ensures.value in
    let told : TellsRate sweep.denominator (c.loop-p.rate ∷ parts_at sweep c.args.t c.loop-p.p) None = subst (λ g. TellsRate g (c.loop-p.rate ∷ parts_at sweep c.args.t c.loop-p.p) None) c.denominator-denominator.ensures.value (rw (← row) c.in_err-rate.ensures) in
    let many : positions_of sweep - c.loop-p.p ≡ suc (positions_of sweep - (c.loop-p.p + 1)) = omega (arith, c.positions-p-end.ensures.value) in
    rw c.from_residual.ensures (range_none sweep.denominator c.args.so_far (parts_in_period sweep c.args.t) c.loop-p.rate (parts_at sweep c.args.t) c.loop-p.p _ _ many c.loop-p.invariant told)

pub loop-p-preserved : goal.loop-p-preserved
loop-p-preserved c =
    let sweep = c.args.sweep.now in
    let row : c.parts.result.now ≡ look_row sweep c.args.t c.loop-p.p = c.parts.ensures ∙ c.look.ensures.value in
    let told : IsRateOf sweep.denominator (c.loop-p.rate ∷ parts_at sweep c.args.t c.loop-p.p) c.in_ok-rate.rate = subst (λ g. IsRateOf g (c.loop-p.rate ∷ parts_at sweep c.args.t c.loop-p.p) c.in_ok-rate.rate) c.denominator-denominator.ensures.value (rw (← row) c.in_ok-rate.ensures) in
    let many : positions_of sweep - c.loop-p.p ≡ suc (positions_of sweep - (c.loop-p.p + 1)) = omega (arith, c.positions-p-end.ensures.value) in
    range_more sweep.denominator c.args.so_far (parts_in_period sweep c.args.t) c.loop-p.rate (parts_at sweep c.args.t) c.loop-p.p _ _ many c.in_ok-rate.rate c.loop-p.invariant told

pub returns : goal.returns
returns c =
    let sweep = c.args.sweep.now in
    let none : positions_of sweep - c.loop-p.p ≡ 0 = omega (arith, c.positions-p-end.ensures.value) in
    stands_last sweep.denominator c.args.so_far (parts_in_period sweep c.args.t) c.loop-p.rate _ (ap (λ n. flat_map (parts_at sweep c.args.t) (range_with_len c.loop-p.p n)) none) c.loop-p.invariant
