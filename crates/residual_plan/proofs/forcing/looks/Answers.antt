use Rattle.std.proofs.Common.{◌≡◌, ◌+◌, List, Vec, Global, map, refl, sym, ap, ◌∙◌, arith}
use Rattle.std.specs.List.{range_with_len}
use Rattle.std.proofs.lemmas.List.{map_push}
use Rattle.std.proofs.lemmas.List.FromFn.{map-range_with_len_more}
use Rattle.period_rows.specs.declared.part.CellPart.{CellPart}
use Rattle.residual_plan.specs.Rows.{forced_looks_in, forced_looks}
use Rattle.residual_plan.proofs.forcing.looks.Goals as goal

pub loop-t-preserved : goal.loop-t-preserved
loop-t-preserved c =
    let items : Vec (Vec CellPart Global) Global → List (List CellPart) = λ period. map (λ row. row.items) period.items in
    let rows = forced_looks_in c.args.sc.now c.args.flown.now in
    let before : map items c.loop-t.rows.items ≡ map rows (range_with_len 1 c.loop-t.t) = c.loop-t.invariant in
    let next = map-range_with_len_more rows 1 c.loop-t.t (c.loop-t.t + 1) (omega arith) in
    ap (map items) c.in_ok-push.ensures.items ∙ map_push items c.loop-t.rows.items c.in_ok-looks_in.field-0 ∙ (rw (before, c.in_ok-looks_in.ensures) refl) ∙ sym next

pub returns : goal.returns
unfolding forced_looks
returns c =
    let all : c.loop-t.t ≡ c.args.sc.now.horizon = omega (arith, c.loop-t-test.false, c.horizon-t-end.ensures.value) in
    c.loop-t.invariant ∙ ap (λ n. map (forced_looks_in c.args.sc.now c.args.flown.now) (range_with_len 1 n)) all
