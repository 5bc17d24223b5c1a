use Rattle.std.proofs.Common.{◌≡◌, List, ℕ, Vec, Global, map, refl, sym, ap, ◌∙◌, arith}
use Rattle.std.specs.List.{range_with_len}
use Rattle.std.proofs.lemmas.List.{map_push}
use Rattle.std.proofs.lemmas.List.FromFn.{map-range_with_len_more}
use Rattle.residual_plan.specs.Forced.{forced_count, forced_row, forced_moves}
use Rattle.residual_plan.proofs.forcing.rows.Goals as goal

pub loop-a-preserved : goal.loop-a-preserved
loop-a-preserved c =
    let items : Vec ℕ Global → List ℕ = λ row. row.items in
    let before : map items c.loop-a.rows.items ≡ map (forced_row c.args.sc.now c.args.flown.now) (range_with_len 0 c.loop-a.a) = c.loop-a.invariant in
    let next = map-range_with_len_more (forced_row c.args.sc.now c.args.flown.now) 0 c.loop-a.a c.loop-a.a (omega arith) in
    ap (map items) c.in_ok-push.ensures.items ∙ map_push items c.loop-a.rows.items c.in_ok-row.field-0 ∙ (rw (before, c.in_ok-row.ensures) refl) ∙ sym next

pub returns : goal.returns
unfolding forced_moves
returns c =
    let all : c.loop-a.a ≡ forced_count c.args.sc.now c.args.flown.now = omega (arith, c.loop-a-test.false, c.count-a-end.ensures.value) in
    c.loop-a.invariant ∙ ap (λ n. map (forced_row c.args.sc.now c.args.flown.now) (range_with_len 0 n)) all
