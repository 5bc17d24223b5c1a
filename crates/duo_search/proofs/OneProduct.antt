-- Which problems are the product problem.
use Rattle.std.proofs.Common.{◌*◌, ◌<◌, ◌≤◌, [], length, sym, ap, ◌∙◌, arith}
use Rattle.std.proofs.lemmas.List.{same_lists, get_or_default}
use Rattle.search_grid.specs.Moves.{moves_from}
use Rattle.searcher_maps.proofs.OneTarget.{same_by_target, target_same}
use Rattle.duo_search.specs.Laws.{ProductIsOne, SameIsProduct}

pub product_is_one : ProductIsOne
unfolding moves_from
product_is_one p q r second sound other one two =
    let target = one.target in
    same_by_target p q r target two.target (record {
      position_names = one.position_names ∙ sym two.position_names;
      positions = one.positions ∙ sym two.positions;
      start = one.start ∙ sym two.start;
      moves = same_lists q.moves r.moves (sound.grid_positions ∙ one.positions ∙ sym two.positions ∙ sym other.grid_positions) (λ n d inside.
          let here : n < p.positions * p.positions = omega (arith, inside, sound.grid_positions, one.positions) in
          let there : n < length r.moves = omega (arith, here, other.grid_positions, two.positions) in
          get_or_default q.moves n d [] inside ∙ one.moves n here ∙ sym (two.moves n here) ∙ get_or_default r.moves n [] d there);
      look_denominator = one.denominator ∙ sym two.denominator;
      factors = λ t n c from to position cell.
          let before : t ≤ p.horizon = omega (arith, to, target.horizon) in
          let here : n < p.positions * p.positions = omega (arith, position, one.positions) in
          let place : c < p.cells = omega (arith, cell, target.cells) in
          one.looks t n c from before here place ∙ sym (two.looks t n c from before here place);
    })

pub same_is_product : SameIsProduct
same_is_product p q r second one same =
    let target = one.target in
    record {
      target = target_same p q r target same;
      positions = sym same.positions ∙ one.positions;
      position_names = sym same.position_names ∙ one.position_names;
      start = sym same.start ∙ one.start;
      moves = λ n inside. ap (λ rows. moves_from rows n) (sym same.moves) ∙ one.moves n inside;
      denominator = sym same.look_denominator ∙ one.denominator;
      looks = λ t n c from to inside cell.
          sym (same.factors t n c from (omega (arith, to, target.horizon)) (omega (arith, inside, one.positions)) (omega (arith, cell, target.cells))) ∙ one.looks t n c from to inside cell;
    }
