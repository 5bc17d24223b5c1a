use Rattle.std.proofs.Common.{◌<◌, ◌≡◌, [], ◌∷◌, length, take, ap, ◌∙◌, arith}
use Rattle.mission_report.proofs.CourseSteps.{position_at, belief_next, values_next, first_value, take_path}
use Rattle.mission_report.proofs.course.note_looks.Goals as goal

pub note_look-requires-clause-position : goal.note_look-requires-clause-position
note_look-requires-clause-position c =
    let sound = c.recall_sound.ensures in
    rw c.cells-looks.ensures.value (position_at c.args.sc.now sound c.args.path.now c.requires.path 0 (omega (arith, sound.horizon)))

pub loop-t-init : goal.loop-t-init
loop-t-init c =
    let p = c.args.sc.now in
    let q = c.args.path.now in
    let some : 0 < length q = omega (arith, c.requires.path.whole, c.recall_sound.ensures.horizon) in
    record {
      belief = belief_next p q 0 _ some (rw c.cells-looks.ensures.value at c.note_look.ensures.belief [] c.requires.start);
      values = rw (c.cells-looks.ensures.value, c.requires.empty) at c.in_ok-note_look.ensures.value [] c.requires.start ∙ ap (λ v. v ∷ []) (first_value p q some);
    }

pub note_look-requires-in-loop-t-clause-belief : goal.note_look-requires-in-loop-t-clause-belief
note_look-requires-in-loop-t-clause-belief c = (take c.loop-t.t c.args.path.now, c.drift.ensures.belief _ c.loop-t.invariant.belief)

pub note_look-requires-in-loop-t-clause-position :
    goal.note_look-requires-in-loop-t-clause-position
note_look-requires-in-loop-t-clause-position c =
    let long = ap length c.cells-looks.ensures.value in
    rw c.cells-looks.ensures.value (position_at c.args.sc.now c.recall_sound.ensures c.args.path.now c.requires.path c.loop-t.t (omega (arith, c.loop-t-test.true, c.requires.path.whole, long)))

pub loop-t-preserved : goal.loop-t-preserved
loop-t-preserved c =
    let p = c.args.sc.now in
    let q = c.args.path.now in
    let long = ap length c.cells-looks.ensures.value in
    let more : c.loop-t.t < length q = omega (arith, c.loop-t-test.true, long) in
    let before = c.drift.ensures.belief _ c.loop-t.invariant.belief in
    record {
      belief = belief_next p q c.loop-t.t _ more (rw c.cells-looks.ensures.value at c.note_look-in-loop-t.ensures.belief _ before);
      values = rw (values_next p q c.loop-t.t more, ← c.loop-t.invariant.values) (rw c.cells-looks.ensures.value at c.in_ok-note_look-2.ensures.value _ before);
    }

pub returns-clause-values : goal.returns-clause-values
returns-clause-values c =
    let long = ap length c.cells-looks.ensures.value in
    let end : c.loop-t.t ≡ c.args.sc.now.horizon = omega (arith, c.loop-t-test.false, c.loop-t.auto.t-end, c.recall_sound.ensures.horizon, c.requires.path.whole, long) in
    rw end at c.loop-t.invariant.values

pub returns-clause-belief : goal.returns-clause-belief
returns-clause-belief c =
    let long = ap length c.cells-looks.ensures.value in
    let end : c.loop-t.t ≡ c.args.sc.now.horizon = omega (arith, c.loop-t-test.false, c.loop-t.auto.t-end, c.recall_sound.ensures.horizon, c.requires.path.whole, long) in
    rw (take_path c.args.sc.now c.args.path.now c.loop-t.t c.requires.path end) at c.loop-t.invariant.belief
