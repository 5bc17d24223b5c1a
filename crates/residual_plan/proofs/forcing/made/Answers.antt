use Rattle.std.proofs.Common.{length, sym, ap, ◌∙◌, arith}
use Rattle.sweep_table.specs.LookParts.{factor_of, factor_in, look_row}
use Rattle.residual_plan.specs.Rows.{forced_look}
use Rattle.residual_plan.proofs.MoveCases.{count_moves}
use Rattle.residual_plan.proofs.NewNames.{are_names}
use Rattle.residual_plan.proofs.forcing.made.Goals as goal

pub with_searcher-requires-clause-names : goal.with_searcher-requires-clause-names
with_searcher-requires-clause-names c =
    let p = c.args.sc.now in
    let flown = c.args.flown.now in
    let sound = c.positions.ensures.sound in
    let positions = ap length c.in_ok-grid.ensures ∙ count_moves p flown in
    rw (positions, c.in_ok-names.ensures) (are_names p flown sound (omega (arith, c.requires.legal.short, sound.horizon.1)) c.requires.free)

pub with_searcher-requires-clause-start : goal.with_searcher-requires-clause-start
with_searcher-requires-clause-start c =
    let positions = ap length c.in_ok-grid.ensures ∙ count_moves c.args.sc.now c.args.flown.now in
    omega (arith, positions, c.positions.ensures.value)

pub with_searcher-requires-clause-positions : goal.with_searcher-requires-clause-positions
with_searcher-requires-clause-positions c = c.in_ok-sweep.ensures.positions ∙ sym (ap length c.in_ok-grid.ensures ∙ count_moves c.args.sc.now c.args.flown.now)

pub returns : goal.returns
unfolding factor_of forced_look
returns c =
    let p = c.args.sc.now in
    let flown = c.args.flown.now in
    let has = c.in_ok-scenario.ensures.searcher in
    let sweep = c.in_ok-sweep.ensures in
    let looks = c.in_ok-sweep.field-0 in
    let count = has.positions ∙ ap length c.in_ok-grid.ensures ∙ count_moves p flown in
    record {
      target = c.in_ok-scenario.ensures.target;
      position_names = has.position_names ∙ c.in_ok-names.ensures;
      positions = count;
      start = has.start ∙ c.positions.ensures.value;
      moves = has.moves ∙ c.in_ok-grid.ensures;
      look_denominator = ap (λ s. s.denominator) has.sweep ∙ sweep.denominator;
      looks = λ t a x from to position cell.
          ap (λ s. factor_of s t a x) has.sweep
          ∙ ap (λ g. factor_in g (look_row looks t a) x) sweep.denominator
          ∙ ap (λ row. factor_in p.sweep.denominator row x) (sweep.looks t a from to (omega (arith, position, count)));
    }
