use Rattle.std.proofs.Common.{List, Vec, Global, refl, arith}
use Rattle.period_rows.specs.declared.part.CellPart.{CellPart}
use Rattle.duo_search.specs.Rows.{product_look}
use Rattle.duo_search.proofs.Counted.{counted_behind}
use Rattle.duo_search.proofs.looks.looks_in.Goals as goal

pub loop-both-preserved : goal.loop-both-preserved
loop-both-preserved c =
    let parts : Vec CellPart Global → List CellPart = λ row. row.items in
    counted_behind parts (product_look c.args.sc.now c.args.t) 0 c.loop-both.both _ c.loop-both.both c.loop-both.rows.items _ c.in_ok-joint_look.field-0 (omega arith) refl c.in_ok-push.ensures.items c.loop-both.invariant c.in_ok-joint_look.ensures
