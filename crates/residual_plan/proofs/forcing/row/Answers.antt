use Rattle.std.proofs.Common.{◌≡◌, ◌++◌, List, ℕ, length, sym, ap, ◌∙◌, arith}
use Rattle.search_grid.specs.Moves.{moves_from}
use Rattle.residual_plan.specs.Forced.{source_of}
use Rattle.residual_plan.proofs.Places.{source_within, row_on, row_off}
use Rattle.residual_plan.proofs.forcing.row.Goals as goal

pub returns-then-goes_on : goal.returns-then-goes_on
returns-then-goes_on c = c.in_ok-vec.ensures.items ∙ sym (row_on c.args.sc.now c.args.flown.now c.args.a (sym c.if-goes_on.ensures.value))

pub moves-requires : goal.moves-requires
moves-requires c =
    let sound = c.grid.ensures.sound in
    omega (arith, source_within c.args.sc.now c.args.flown.now sound c.requires.legal c.args.a, c.source.ensures, ap length c.grid.ensures.value, sound.grid_positions)

pub returns : goal.returns
returns c =
    let p = c.args.sc.now in
    let flown = c.args.flown.now in
    let moves : c.moves.result.now ≡ moves_from p.moves (source_of p flown c.args.a) =
    c.moves.ensures.value ∙ ap (λ g. moves_from g c.source.result) c.grid.ensures.value ∙ ap (moves_from p.moves) c.source.ensures in
    c.in_ok-extend_from_slice.ensures.items ∙ ap (λ (xs : List ℕ). xs ++ c.moves.result.now) c.new-row.ensures.items ∙ moves ∙ sym (row_off p flown c.args.a (sym c.if-goes_on.ensures.value))
