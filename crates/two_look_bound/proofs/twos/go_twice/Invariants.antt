use Rattle.std.proofs.Common.{◌≡◌, ◌*◌, ◌<◌, ℕ, length, slice_index, sum_by, take}
use Rattle.period_rows.specs.declared.part.CellPart.{CellPart}
use Rattle.drift_chain.specs.DriftRows.{part_of}
use Rattle.two_look_bound.proofs.twos.go_twice.Given as goal

-- what comes by way of the entries so far
abbrev pub invariant-loop-i : goal.invariant-loop-i
invariant-loop-i l = record {
  each : (d : ℕ) → d < l.sc.cells → slice_index l.gone d ≡ sum_by (λ (e : CellPart). e.part * part_of l.sc.drift l.s e.cell d) (take l.i l.row);
  size : length l.gone ≡ l.sc.cells;
}
