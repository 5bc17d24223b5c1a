use Rattle.std.proofs.Common.{◌≡◌, List, Vec, Global, map, refl, sym, ap, ◌∙◌, arith}
use Rattle.std.specs.List.{range_with_len}
use Rattle.std.proofs.lemmas.List.{map_push}
use Rattle.std.proofs.lemmas.List.FromFn.{map-range_with_len_more}
use Rattle.period_rows.specs.declared.part.CellPart.{CellPart}
use Rattle.residual_plan.specs.Forced.{forced_count}
use Rattle.residual_plan.specs.Rows.{forced_look, forced_looks_in}
use Rattle.residual_plan.proofs.forcing.looks_in.Goals as goal

pub loop-a-preserved : goal.loop-a-preserved
loop-a-preserved c =
    let items : Vec CellPart Global → List CellPart = λ row. row.items in
    let row = forced_look c.args.sc.now c.args.flown.now c.args.t in
    let before : map items c.loop-a.rows.items ≡ map row (range_with_len 0 c.loop-a.a) = c.loop-a.invariant in
    let next = map-range_with_len_more row 0 c.loop-a.a c.loop-a.a (omega arith) in
    ap (map items) c.in_ok-push.ensures.items ∙ map_push items c.loop-a.rows.items c.in_ok-look.field-0 ∙ (rw (before, c.in_ok-look.ensures) refl) ∙ sym next

pub returns : goal.returns
unfolding forced_looks_in
returns c =
    let all : c.loop-a.a ≡ forced_count c.args.sc.now c.args.flown.now = omega (arith, c.loop-a-test.false, c.count-a-end.ensures.value) in
    c.loop-a.invariant ∙ ap (λ n. map (forced_look c.args.sc.now c.args.flown.now c.args.t) (range_with_len 0 n)) all
