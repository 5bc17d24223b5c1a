-- The product problem is made.
use Rattle.std.proofs.Common.{ℕ, ◌≡◌, ◌<◌, ◌*◌, ◌∙◌, length, Ok, Err, sym, ap}
use Rattle.std.specs.Prelude.{Result, IfOk, IsErrOf, ◌↔◌}
use Rattle.exact_parts.specs.declared.no_memory.NoMemory.{NoMemory}
use Rattle.search_grid.specs.Moves.{moves_from}
use Rattle.sweep_table.specs.LookParts.{factor_of, positions_of}
use Rattle.search_model.specs.Names.{AreNames}
use Rattle.search_model.specs.Problem.{Problem, IsProblem}
use Rattle.searcher_maps.specs.declared.searcher.Searcher.{Searcher}
use Rattle.searcher_maps.specs.Target.{HasSameTarget}
use Rattle.searcher_maps.specs.Searchers.{HasSearcher}
use Rattle.duo_search.specs.declared.faults.DuoFault.{DuoFault}
use Rattle.duo_search.specs.declared.faults.DuoFault.TheVariants.{NoMemory as OutOfMemory}
use Rattle.duo_search.specs.Product.{IsProduct}
use Rattle.duo_search.specs.Refusals.{IsRefused, IsSmall}
use Rattle.duo_search.specs.Rows.{StandsForBoth}
use Rattle.duo_search.proofs.Numbers.{both_within}
use Rattle.duo_search.proofs.PairMoves.{length-rows, row_is}
use Rattle.duo_search.proofs.PairNames.{names_right}
use Rattle.duo_search.proofs.Reasons.{not_refused}

module _ (p : Problem) (sound : IsProblem p) (second : ℕ) (searcher : Searcher) (both : StandsForBoth p second searcher) where
  -- the searcher has as many positions as there are pairs
  pub all_positions : length searcher.grid ≡ p.positions * p.positions
  all_positions = ap length both.grid ∙ length-rows p sound

  pub names_of_both : IsSmall p → AreNames (length searcher.grid) searcher.positions.items
  names_of_both small = rw (all_positions, both.names) (names_right p.positions small.positions)

  pub start_of_both : second < p.positions → searcher.start < length searcher.grid
  start_of_both below = rw (all_positions, both.start) (both_within p.positions p.start second sound.start below)

  pub looks_of_both : positions_of searcher.sweep ≡ length searcher.grid
  looks_of_both = both.looks.positions ∙ sym all_positions

  -- a problem with the same target and this searcher is the product
  pub is_product : (q : Problem) → HasSameTarget p q → HasSearcher searcher q → IsProduct p second q
  is_product q target has = record {
    target = target;
    positions = has.positions ∙ all_positions;
    position_names = has.position_names ∙ both.names;
    start = has.start ∙ both.start;
    moves = λ n inside. ap (λ rows. moves_from rows n) (has.moves ∙ both.grid) ∙ row_is p sound n inside;
    denominator = ap (λ s. s.denominator) has.sweep ∙ both.looks.denominator;
    looks = λ t n c from to inside cell. ap (λ s. factor_of s t n c) has.sweep ∙ both.looks.factors t n c from to inside cell;
  }

  -- whatever came of making it
  pub product_made : (result : Result Problem NoMemory) → IfOk result (HasSameTarget p) → IfOk result (HasSearcher searcher) → IfOk result (IsProduct p second)
  product_made (Ok q) target has = is_product q target has
  product_made (Err e) target has = tt

module _ {T : Type 0} (p : Problem) where
  -- no reason is told where there is none
  pub told_none : IsSmall p → (made : T) (other : DuoFault) → IsErrOf {T = T} (Ok made) other ↔ IsRefused p other
  told_none small made other = (λ e. absurd (let wrong : ⊥ = cc in wrong), λ holds. absurd (not_refused p small other holds))

  pub told_memory : IsSmall p → (other : DuoFault) → (OutOfMemory ≡ other → ⊥) → IsErrOf {T = T} (Err OutOfMemory) other ↔ IsRefused p other
  told_memory small other apart = (λ e. absurd (apart (let same : OutOfMemory ≡ other = cc in same)), λ holds. absurd (not_refused p small other holds))
