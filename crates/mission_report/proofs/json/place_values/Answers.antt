use Rattle.std.proofs.Common.{length, ap, arith}
use Rattle.mission_report.proofs.CourseSteps.{position_at}
use Rattle.mission_report.proofs.json.place_values.Goals as goal

pub position-requires : goal.position-requires
position-requires c =
    let sound = c.recall_sound.ensures in
    let long = ap length c.cells-a-items.ensures.value in
    let here = position_at c.args.sc.now sound c.args.path.now c.requires c.loop-a.a-index (omega (arith, c.loop-a-test.true, c.requires.whole, long)) in
    rw c.cells-a-items.ensures.value here
