use Rattle.std.proofs.Common.{List, Vec, Global, map, arith, ◌-◌}
use Rattle.period_rows.specs.declared.part.CellPart.{CellPart}
use Rattle.duo_search.specs.Rows.{product_looks}
use Rattle.duo_search.proofs.Counted.{counted_behind}
use Rattle.duo_search.proofs.looks.looks_in_all.Goals as goal

pub loop-t-preserved : goal.loop-t-preserved
loop-t-preserved c =
    let parts : Vec (Vec CellPart Global) Global → List (List CellPart) = λ rows. map (λ row. row.items) rows.items in
    counted_behind parts (product_looks c.args.sc.now) 1 (c.loop-t.t - 1) _ c.loop-t.t c.loop-t.periods.items _ c.in_ok-looks_in.field-0 (omega arith) (omega arith) c.in_ok-push.ensures.items c.loop-t.invariant c.in_ok-looks_in.ensures
