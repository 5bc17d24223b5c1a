-- A scenario's target with another searcher makes a scenario.
use Rattle.std.proofs.Common.{◌≡◌, ℕ, ◌<◌, ◌≤◌, length, sum, List, sym, ap, subst, ◌∙◌, arith, max}
use Rattle.exact_parts.specs.Width.{Fits}
use Rattle.drift_chain.specs.DriftRows.{DriftRows, drift_cells, row_of}
use Rattle.sweep_table.specs.LookParts.{positions_of, cells_of}
use Rattle.search_model.specs.declared.scenario.Parts.{Parts}
use Rattle.search_model.specs.declared.scenario.ModelFault.{ModelFault}
use Rattle.search_model.specs.declared.scenario.ModelFault.TheVariants.{OutOfLimits, SizesDiffer, StartOutOfRange, WrongFirstSum, DoubleName, TooWide, DoublePosition}
use Rattle.search_model.specs.Faults.{HasFault}
use Rattle.search_model.specs.Names.{AreNames, IsRepeated}
use Rattle.search_model.specs.Parts.{problem_of}
use Rattle.search_model.specs.Problem.{Problem, IsProblem}
use Rattle.searcher_maps.specs.Target.{HasSameTarget}

-- the rows of a copy of a drift are those of the drift
pub copied_rows : (copy given drift : DriftRows) (end horizon cells : ℕ) → given ≡ drift → end ≡ horizon → drift_cells drift ≡ cells →
    ((t c : ℕ) → 1 ≤ t → t < max 2 end → c < drift_cells given → row_of copy t c ≡ row_of given t c) →
    (t c : ℕ) → 1 ≤ t → t < max 2 horizon → c < cells → row_of copy t c ≡ row_of drift t c
copied_rows copy given drift end horizon cells is ends size rows t c some before inside =
    rows t c some (rw ends before) (rw (is, size) inside) ∙ ap (λ (d : DriftRows). row_of d t c) is

module _ (p : Problem) (h : IsProblem p) (parts : Parts) (names : parts.names.items ≡ p.names) (first : parts.first.items ≡ p.first) (horizon : parts.horizon ≡ p.horizon) (total : parts.total ≡ p.total) (cells : drift_cells parts.drift ≡ p.cells) (denominator : parts.drift.denominator ≡ p.drift.denominator) where
  -- parts with the target's own have the same target
  pub same_target : ((t c : ℕ) → 1 ≤ t → t < max 2 p.horizon → c < p.cells → row_of parts.drift t c ≡ row_of p.drift t c) → HasSameTarget p (problem_of parts)
  same_target rows = record {
    names = names;
    cells = cells;
    horizon = horizon;
    total = total;
    first = first;
    drift_denominator = denominator;
    rows = rows;
  }

  -- and no fault, where the rest is a searcher's and the sums fit
  pub no_fault : AreNames (length parts.grid) parts.positions.items → parts.start < length parts.grid → positions_of parts.sweep ≡ length parts.grid → cells_of parts.sweep ≡ p.cells →
      Fits p.total p.drift.denominator parts.sweep.denominator p.horizon → (fault : ModelFault) → HasFault parts fault → ⊥
  no_fault positions start looked_from looked_at fits OutOfLimits has = has (record { horizon = rw horizon h.horizon; total = rw total h.total })
  no_fault positions start looked_from looked_at fits SizesDiffer has =
      has (record {
        names = ap length names ∙ h.names.count ∙ sym cells;
        first = ap length first ∙ h.first_length ∙ sym cells;
        cells = looked_at ∙ sym cells;
        position_names = positions.count;
        positions = looked_from;
      })
  no_fault positions start looked_from looked_at fits StartOutOfRange has = omega (arith, has, start)
  no_fault positions start looked_from looked_at fits WrongFirstSum has = has (ap sum first ∙ h.first_total ∙ sym total)
  no_fault positions start looked_from looked_at fits (DoubleName c) has = h.names.differ c (subst (λ (ns : List (List ℕ)). IsRepeated ns c) names has)
  no_fault positions start looked_from looked_at fits TooWide has = has (rw (total, denominator, horizon) fits)
  no_fault positions start looked_from looked_at fits (DoublePosition a) has = positions.differ a has
