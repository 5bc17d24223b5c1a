use Rattle.std.proofs.Common.{ℕ, ◌+◌, ◌<◌, ◌≤◌, ◌≡◌, List, ◌++◌, length, take, ap, ◌∙◌, arith}
use Rattle.text_rows.specs.Rows.{text_of}
use Rattle.mission_report.specs.Map.{period_block}
use Rattle.mission_report.proofs.CourseSteps.{position_in}
use Rattle.mission_report.proofs.RowSteps.{block_more, blocks_all}
use Rattle.mission_report.proofs.MapSteps.{after_look, block_is}
use Rattle.mission_report.proofs.maps.push_looks.Goals as goal

pub push_look-requires-clause-position : goal.push_look-requires-clause-position
push_look-requires-clause-position c =
    let long = ap length c.cells-looks.ensures.value in
    rw c.cells-looks.ensures.value (position_in c.args.sc.now c.recall_sound.ensures c.args.flown.now c.requires.legal.follows c.loop-i.i (omega (arith, c.loop-i-test.true, long)))

pub push_look-requires-clause-belief : goal.push_look-requires-clause-belief
push_look-requires-clause-belief c =
    let p = c.args.sc.now in
    let q = c.args.flown.now in
    let long = ap length c.cells-looks.ensures.value in
    let here : c.loop-i.i < length q = omega (arith, c.loop-i-test.true, long) in
    (take (c.loop-i.i + 1) q, after_look p q c.args.trail.now.prefix c.loop-i.i c.row.result.now c.requires.prefix here (c.row.ensures.belief p c.requires.trail))

pub loop-i-preserved : goal.loop-i-preserved
loop-i-preserved c =
    let p = c.args.sc.now in
    let q = c.args.flown.now in
    let i = c.loop-i.i in
    let long = ap length c.cells-looks.ensures.value in
    let here : i < length q = omega (arith, c.loop-i-test.true, long) in
    let belief = after_look p q c.args.trail.now.prefix i c.row.result.now c.requires.prefix here (c.row.ensures.belief p c.requires.trail) in
    let block = block_is p q c.cells-looks.result.now i c.row.result.now c.cells-looks.ensures.value here belief in
    let made : c.push_look.new.out.items ≡ c.loop-i.out.items ++ text_of (period_block p q (1 + i)) =
    c.in_ok-push_look.ensures.ok (take (i + 1) q) belief ∙ ap (λ (rows : List (List (List ℕ))). c.loop-i.out.items ++ text_of rows) block in
    block_more (period_block p q) 1 (length q) i _ _ _ here c.loop-i.invariant made

pub returns-clause-ok : goal.returns-clause-ok
returns-clause-ok c =
    let p = c.args.sc.now in
    let q = c.args.flown.now in
    let long = ap length c.cells-looks.ensures.value in
    let all : length q ≤ c.loop-i.i = omega (arith, c.loop-i-test.false, long) in
    blocks_all (period_block p q) 1 (length q) c.loop-i.i _ _ all c.loop-i.invariant
