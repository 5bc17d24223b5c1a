use Rattle.std.proofs.Common.{ℕ, ◌≡◌, ◌+◌, ◌*◌, ◌<◌, ◌≤◌, length, slice_index, slice_index_or, arith}
use Rattle.std.proofs.lemmas.List.Elements.{All-get_or}
use Rattle.period_rows.specs.declared.part.CellPart.{CellPart}
use Rattle.sweep_table.specs.LookParts.{misses}
use Rattle.list_laws.proofs.Sums.{sum_by-range_more, sum_by-range-part}
use Rattle.edge_bound.specs.Units.{unit_at, place_of}
use Rattle.two_look_bound.specs.Taken.{weighted_sum}
use Rattle.two_look_bound.proofs.taken.weighted.Goals as goal

pub unit-unit-requires-clause-inside : goal.unit-unit-requires-clause-inside
unit-unit-requires-clause-inside c =
    All-get_or (λ (e : CellPart). place_of c.args.table.now c.args.t e.cell c.args.b < length c.args.table.now.units) c.args.row.now c.loop-i.i (misses 0 0) c.loop-i-test.true c.requires.inside

-- the sum so far and one entry more are within the whole sum
within : (c : goal.After-from) → c.loop-i.sum + slice_index c.args.shares.now c.loop-i.i * c.from.result ≤ weighted_sum c.args.table.now c.args.t c.args.b c.args.row.now c.args.shares.now
within c =
    let f : ℕ → ℕ = λ i. slice_index c.args.shares.now i * unit_at c.args.table.now c.args.t (slice_index_or c.args.row.now i (misses 0 0)).cell c.args.b in
    let part = sum_by-range-part (length c.args.row.now) f c.loop-i.i c.loop-i-test.true in
    rw (c.from.ensures, c.unit-unit.ensures, c.loop-i.invariant.sum) (omega (arith, part))

pub overflow_mul-sum : goal.overflow_mul-sum
overflow_mul-sum c = omega (arith, within c, c.requires.fits)

pub overflow_add-sum : goal.overflow_add-sum
overflow_add-sum c = omega (arith, within c, c.requires.fits)

pub loop-i-preserved : goal.loop-i-preserved
loop-i-preserved c =
    let f : ℕ → ℕ = λ i. slice_index c.args.shares.now i * unit_at c.args.table.now c.args.t (slice_index_or c.args.row.now i (misses 0 0)).cell c.args.b in
    record {
      sum = rw (c.from.ensures, c.unit-unit.ensures) (omega (arith, c.loop-i.invariant.sum, sum_by-range_more f c.loop-i.i));
      inside = omega (arith, c.loop-i-test.true);
    }

pub returns : goal.returns
returns c =
    let e : c.loop-i.i ≡ length c.args.row.now = omega (arith, c.loop-i-test.false, c.loop-i.invariant.inside) in
    rw e at c.loop-i.invariant.sum
