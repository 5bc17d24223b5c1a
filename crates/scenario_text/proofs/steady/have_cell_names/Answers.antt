use Rattle.std.proofs.Common.{◌≡◌, false, length, sym, ap, ◌∙◌, arith, rules}
use Rattle.std.specs.Str.{bytes_eq}
use Rattle.std.proofs.lemmas.Bool.{false_from_ne_true, true≢false}
use Rattle.search_model.specs.Problem.{cell_name, position_name}
use Rattle.scenario_text.proofs.SameRows.{same_names, each_name, own_name}
use Rattle.scenario_text.proofs.steady.have_cell_names.Goals as goal

pub returns-then-not-has_cell_name-clause-value : goal.returns-then-not-has_cell_name-clause-value
returns-then-not-has_cell_name-clause-value c =
    let p = c.args.sc.now in
    let other : bytes_eq (position_name p c.loop-q.q) (cell_name p c.loop-q.q) ≡ false = search rules in
    sym (false_from_ne_true _ (λ same. true≢false (sym (own_name p.position_names p.names c.loop-q.q (same_names _ _ same)) ∙ other)))

pub returns-then-positions-cells-clause-value : goal.returns-then-positions-cells-clause-value
returns-then-positions-cells-clause-value c =
    let p = c.args.sc.now in
    let h = c.positions.ensures.sound in
    sym (false_from_ne_true _ (λ same. let long : length p.position_names ≡ length p.names = ap length (same_names _ _ same) in omega (arith, long, h.names.count, h.position_names.count, c.positions.ensures.value, c.cells.ensures.value, c.if-positions-cells.true)))

pub returns-clause-value : goal.returns-clause-value
returns-clause-value c =
    let p = c.args.sc.now in
    let h = c.positions.ensures.sound in
    sym (each_name p.position_names p.names (omega (arith, h.names.count, h.position_names.count, c.positions.ensures.value, c.cells.ensures.value, c.if-positions-cells.false)) (λ d inside. c.loop-q.invariant d (omega (arith, inside, h.position_names.count, c.positions-q-end.ensures.value))))
