use Rattle.std.proofs.Common.{ℕ, ◌*◌, ◌<◌, ◌≡◌, length, slice_index, sym, ◌∙◌, arith}
use Rattle.drift_chain.specs.DriftRows.{part_of}
use Rattle.list_laws.proofs.Sums.{sum_by-range-part}
use Rattle.belief_update.proofs.SparseSums.{sum_by-none_to, sum_by-next}
use Rattle.belief_update.proofs.steps.move_on.Goals as goal

-- a cell without a mass sends nothing on
nothing : (m part : ℕ) → m ≡ 0 → m * part ≡ 0
nothing m part none = rw none (omega arith)

pub loop-c-init : goal.loop-c-init
loop-c-init c = record {
  inside = c.next_mass-c.ensures.inside;
  sums = λ d lt.
      let sent : ℕ → ℕ = λ x. slice_index c.args.masses.now x * part_of c.args.drift.now c.args.t x d in
      let none = sum_by-none_to sent 0 c.next_mass-c.result (omega arith) (λ k from to. nothing (slice_index c.args.masses.now k) (part_of c.args.drift.now c.args.t k d) (c.next_mass-c.ensures.none k from to)) in
      c.clear.ensures d (omega (arith, lt, c.requires.cells)) ∙ sym none;
}

pub spread-requires-clause-fits : goal.spread-requires-clause-fits
spread-requires-clause-fits c = λ d lt.
    let cell : d < length c.args.masses.now = omega (arith, lt, c.loop-c.auto.next, c.clear.auto.masses, c.requires.cells) in
    let part = sum_by-range-part (length c.args.masses.now) (λ x. slice_index c.args.masses.now x * part_of c.args.drift.now c.args.t x d) c.loop-c.c c.loop-c-test.true in
    rw (c.loop-c.invariant.sums d cell, c.row.ensures.value) (omega (arith, part, c.requires.fits d cell))

pub loop-c-preserved : goal.loop-c-preserved
loop-c-preserved c = record {
  inside = c.next_mass-c-in-loop-c.ensures.inside;
  sums = λ d lt.
      let next : d < length c.loop-c.next = omega (arith, lt, c.loop-c.auto.next, c.clear.auto.masses, c.requires.cells) in
      let sent : ℕ → ℕ = λ x. slice_index c.args.masses.now x * part_of c.args.drift.now c.args.t x d in
      let more = sum_by-next sent c.loop-c.c c.next_mass-c-in-loop-c.result c.next_mass-c-in-loop-c.ensures.order (λ k from to. nothing (slice_index c.args.masses.now k) (part_of c.args.drift.now c.args.t k d) (c.next_mass-c-in-loop-c.ensures.none k from to)) in
      c.spread.ensures.each d next ∙ rw (c.loop-c.invariant.sums d lt, c.row.ensures.value) (sym more);
}
