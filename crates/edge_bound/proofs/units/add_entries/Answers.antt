use Rattle.std.proofs.Common.{◌≡◌, ◌+◌, ◌-◌, ◌<◌, ◌≤◌, ℕ, length, take, slice_index_or, refl, ap, ◌∙◌, arith, get_or-set_other}
use Rattle.std.proofs.Math.ListN.{length-set}
use Rattle.std.proofs.lemmas.List.{take_all}
use Rattle.drift_chain.specs.DriftRows.{DriftRows, row_of}
use Rattle.sweep_table.specs.LookParts.{factor_of, misses}
use Rattle.belief_update.proofs.RowSteps.{part_in_none}
use Rattle.edge_bound.proofs.UnitTable.{entries_give, one-within, entry_added, entry_left_out, entry-within}
use Rattle.edge_bound.proofs.units.add_entries.Goals as goal
use Rattle.edge_bound.proofs.units.add_entries.Goals.{then-entry-positions, else-entry-positions}

pub loop-entry-init : goal.loop-entry-init
loop-entry-init c = record {
  each = λ b short. rw (part_in_none b) (omega (arith, c.requires.zeros b short));
  earlier = λ i before. refl;
  size = refl;
}

pub overflow_add-units-then-entry-positions : goal.overflow_add-units-then-entry-positions
overflow_add-units-then-entry-positions c =
    let p = c.args.sc.now in
    let i = c.loop-entry.entry-index in
    let row = c.row-row.result.now in
    let left : ℕ → ℕ = λ b. p.sweep.denominator - factor_of p.sweep c.args.t b b in
    let cell = (slice_index_or row i (misses 0 0)).cell in
    let there : cell < p.positions = omega (arith, c.if-entry-positions.true, c.positions.ensures.value) in
    let most = entry-within c.args.here p.positions left c.loop-entry.units row i (misses 0 0) c.loop-entry-test.true c.loop-entry.invariant.each there in
    let is : c.row-row.result.now ≡ row_of p.drift (c.args.t - 1) c.args.c = c.row-row.ensures.value ∙ ap (λ (d : DriftRows). row_of d (c.args.t - 1) c.args.c) c.drift.ensures.value in
    let all = entries_give p c.drift.ensures.sound c.args.t c.args.c cell (c.requires.own cell there) row is in
    let fits = one-within p c.drift.ensures.sound c.args.t c.args.c cell c.requires.cell in
    rw (c.from-then-entry-positions-2.ensures, c.from.ensures, c.from-then-entry-positions.ensures, c.left_own-left.ensures) (omega (arith, most, all, fits))

pub loop-entry-preserved : goal.loop-entry-preserved
loop-entry-preserved c =
    let p = c.args.sc.now in
    let i = c.loop-entry.entry-index in
    let row = c.row-row.result.now in
    let left : ℕ → ℕ = λ b. p.sweep.denominator - factor_of p.sweep c.args.t b b in
    let cell = (slice_index_or row i (misses 0 0)).cell in
    elim c.if-entry-positions.branch [
      | then-entry-positions w ↦
          let there : cell < p.positions = omega (arith, w.if-entry-positions.true, c.positions.ensures.value) in
          let room : c.args.here + p.positions ≤ length c.loop-entry.units = omega (arith, c.requires.room, c.loop-entry.invariant.size) in
          rw (w.units-is, w.from-then-entry-positions-2.ensures, w.from.ensures, w.from-then-entry-positions.ensures, w.left_own-left.ensures) (record {
            each = entry_added c.args.here p.positions left c.loop-entry.units row i (misses 0 0) c.loop-entry-test.true c.loop-entry.invariant.each room there _ refl;
            earlier = λ j before. get_or-set_other c.loop-entry.units (c.args.here + cell) j _ 0 (λ s. omega (arith, s, before)) ∙ c.loop-entry.invariant.earlier j before;
            size = length-set _ _ _ ∙ c.loop-entry.invariant.size;
          })
      | else-entry-positions w ↦
          let past : p.positions ≤ cell = omega (arith, w.if-entry-positions.false, c.positions.ensures.value) in
          rw w.units-is (record {
            each = entry_left_out c.args.here p.positions left c.loop-entry.units row i (misses 0 0) c.loop-entry-test.true c.loop-entry.invariant.each past;
            earlier = c.loop-entry.invariant.earlier;
            size = c.loop-entry.invariant.size;
          })
    ]

pub returns-clause-each : goal.returns-clause-each
returns-clause-each c b short =
    let p = c.args.sc.now in
    let is : c.row-row.result.now ≡ row_of p.drift (c.args.t - 1) c.args.c = c.row-row.ensures.value ∙ ap (λ (d : DriftRows). row_of d (c.args.t - 1) c.args.c) c.drift.ensures.value in
    let whole : take c.loop-entry.entry-index c.row-row.result.now ≡ c.row-row.result.now = take_all c.loop-entry.entry-index c.row-row.result.now c.loop-entry-test.false in
    c.loop-entry.invariant.each b short ∙ rw whole (entries_give p c.drift.ensures.sound c.args.t c.args.c b (c.requires.own b short) c.row-row.result.now is)
