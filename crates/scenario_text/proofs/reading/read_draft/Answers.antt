use Rattle.std.proofs.Common.{◌∙◌, sym, ap, arith, subst}
use Rattle.text_rows.specs.Lines.{lines_of}
use Rattle.text_rows.proofs.LineCuts.{after_none, after_next}
use Rattle.scenario_text.specs.State.{State, state_of}
use Rattle.scenario_text.specs.Sound.{IsSound}
use Rattle.text_rows.specs.LineMachine.{read_from}
use Rattle.text_rows.proofs.LineMachine.{at_line, at_last}
use Rattle.scenario_text.specs.Reading.{scenario_lines}
use Rattle.scenario_text.proofs.Loop.{at_stop, after_going_on}
use Rattle.scenario_text.proofs.Soundness.{blank_sound, line_sound}
use Rattle.scenario_text.proofs.reading.read_draft.Goals as goal

pub loop-rest-init : goal.loop-rest-init
loop-rest-init c = record {
  so_far = ap (λ (s : State). read_from scenario_lines s 1 (lines_of c.args.text.now)) c.requires;
  rest = after_none c.args.text.now;
  number = omega arith;
  short = omega arith;
  sound = subst IsSound (sym c.requires) blank_sound;
}

pub returns-in-Err : goal.returns-in-Err
returns-in-Err c =
    rw c.at_number.ensures (at_stop (state_of c.loop-rest.draft) c.loop-rest.number c.take_line.new.draft c.cut_line.result.0.now (lines_of c.cut_line.result.1.now) (lines_of c.loop-rest.rest.now) c.in-Err.stop c.args.text.now c.take_line.new.draft c.cut_line.ensures.lines c.in-Err.ensures c.loop-rest.invariant.so_far)

pub returns-then-is_ended : goal.returns-then-is_ended
returns-then-is_ended c = (
  sym c.loop-rest.invariant.so_far ∙ at_last scenario_lines (state_of c.loop-rest.draft) (state_of c.take_line.new.draft) c.loop-rest.number c.cut_line.result.0.now (lines_of c.cut_line.result.1.now) (lines_of c.loop-rest.rest.now) c.cut_line.ensures.lines c.in-Ok.ensures (sym c.is_ended.ensures ∙ c.if-is_ended.true),
  line_sound (state_of c.loop-rest.draft) (state_of c.take_line.new.draft) c.cut_line.result.0.now c.loop-rest.invariant.sound c.in-Ok.ensures,
  after_next c.loop-rest.number c.args.text.now c.loop-rest.rest.now c.cut_line.result.1.now c.loop-rest.invariant.number c.loop-rest.invariant.rest c.cut_line.ensures.rest,
)

pub loop-rest-preserved : goal.loop-rest-preserved
loop-rest-preserved c = record {
  so_far = sym (at_line scenario_lines (state_of c.loop-rest.draft) (state_of c.take_line.new.draft) c.loop-rest.number c.cut_line.result.0.now (lines_of c.cut_line.result.1.now) (lines_of c.loop-rest.rest.now) c.cut_line.ensures.lines c.in-Ok.ensures (sym c.is_ended.ensures ∙ c.if-is_ended.false)) ∙ c.loop-rest.invariant.so_far;
  rest = after_going_on c.loop-rest.number c.args.text.now c.cut_line.result.1.now (after_next c.loop-rest.number c.args.text.now c.loop-rest.rest.now c.cut_line.result.1.now c.loop-rest.invariant.number c.loop-rest.invariant.rest c.cut_line.ensures.rest);
  number = omega arith;
  short = omega (arith, c.cut_line.ensures.shorter);
  sound = line_sound (state_of c.loop-rest.draft) (state_of c.take_line.new.draft) c.cut_line.result.0.now c.loop-rest.invariant.sound c.in-Ok.ensures;
}
