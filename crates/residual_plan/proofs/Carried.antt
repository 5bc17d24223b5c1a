-- The best path of the scenario that forces a prefix, and which problems force it.
use Rattle.std.proofs.Common.{ℕ, ◌<◌, ◌≡◌, List, map, refl, sym, ap, ◌∙◌, arith}
use Rattle.search_model.specs.Problem.{Problem, IsProblem}
use Rattle.search_model.specs.Legal.{IsLegal}
use Rattle.search_model.specs.Order.{Starts}
use Rattle.searcher_maps.specs.Carried.{IsCarried}
use Rattle.searcher_maps.proofs.Carrying.{best_is_carried}
use Rattle.searcher_maps.proofs.Finding.{one_finds_the_same}
use Rattle.searcher_maps.proofs.OneTarget.{same_by_target, target_same}
use Rattle.residual_plan.specs.Forced.{source_of, forced_path, IsForced}
use Rattle.residual_plan.specs.Laws.{ForcedValueStays, ForcedBest, ForcedIsOne, SameIsForced}
use Rattle.residual_plan.proofs.Places.{source_after}
use Rattle.residual_plan.proofs.MoveCases.{forced_stands_for}
use Rattle.residual_plan.proofs.Beginnings.{paths_begin, beginnings_are_forced, order_stays}

pub value_stays : ForcedValueStays
value_stays p q flown z sound other legal forced path = one_finds_the_same p q (source_of p flown) sound other (forced_stands_for p q flown sound legal forced) z path

-- the paths of the forced scenario stand for those that begin with the prefix, in the same order
are_carried : (p q : Problem) (flown : List ℕ) → IsProblem p → IsLegal p flown → IsForced p flown q → IsCarried p q (source_of p flown) (Starts flown)
are_carried p q flown sound legal forced = record {
  start = ap (source_of p flown) forced.start ∙ source_start;
  has = λ z path. (paths_begin p q flown z sound legal forced path).1;
  back = λ y path begins. let made = beginnings_are_forced p q flown y sound legal forced path begins in (forced_path p flown y, made.0, made.1);
  order = λ z r path second.
      let one = paths_begin p q flown z sound legal forced path in
      let two = paths_begin p q flown r sound legal forced second in
      sym (order_stays p flown (map (source_of p flown) z) (map (source_of p flown) r) one.1 two.1) ∙ rw (one.2, two.2) refl;
}
  where
    source_start : source_of p flown p.positions ≡ p.start
    source_start = ap (source_of p flown) (omega arith) ∙ source_after p flown 0

pub forced_best : ForcedBest
forced_best p q flown z sound other legal forced best =
    best_is_carried p q (source_of p flown) flown sound other (forced_stands_for p q flown sound legal forced) (are_carried p q flown sound legal forced) z best

pub forced_is_one : ForcedIsOne
forced_is_one p q r flown one two =
    let target = one.target in
    same_by_target p q r target two.target (record {
      position_names = one.position_names ∙ sym two.position_names;
      positions = one.positions ∙ sym two.positions;
      start = one.start ∙ sym two.start;
      moves = one.moves ∙ sym two.moves;
      look_denominator = one.look_denominator ∙ sym two.look_denominator;
      factors = λ t a c from to position cell.
          let here : c < p.cells = omega (arith, cell, target.cells) in
          one.looks t a c from (omega (arith, to, target.horizon)) position here
          ∙ sym (two.looks t a c from (omega (arith, to, target.horizon)) (omega (arith, position, one.positions, two.positions)) here);
    })

pub same_is_forced : SameIsForced
same_is_forced p q r flown one same =
    let target = one.target in
    record {
      target = target_same p q r target same;
      position_names = sym same.position_names ∙ one.position_names;
      positions = sym same.positions ∙ one.positions;
      start = sym same.start ∙ one.start;
      moves = sym same.moves ∙ one.moves;
      look_denominator = sym same.look_denominator ∙ one.look_denominator;
      looks = λ t a c from to position cell.
          let here : a < q.positions = omega (arith, position, same.positions) in
          sym (same.factors t a c from (omega (arith, to, target.horizon)) here (omega (arith, cell, target.cells))) ∙ one.looks t a c from to here cell;
    }
