use Rattle.std.proofs.Common.{◌≡◌, ◌-◌, length, refl, arith, ◌∙◌}
use Rattle.longest_walk.specs.Sums.{entry_at}
use Rattle.longest_walk.proofs.Filling.{HasSumsOf-last, HasSumsOf-more, next_fits, AllPositions, all_closed}
use Rattle.longest_walk.proofs.rows.fill_rows.Goals as goal

pub loop-t-init : goal.loop-t-init
loop-t-init c =
    let rows = c.args.grid.now in
    let positions : c.from-positions.result ≡ length rows = c.from-positions.ensures ∙ c.cells.ensures.value in
    HasSumsOf-last rows c.args.horizon (entry_at (length rows) c.args.rewards.now) (AllPositions rows) c.args.rewards.now c.fill_last.new.sums (omega arith) (rw positions at c.fill_last.ensures) (λ q here. refl)

pub fill_row-requires-clause-fits : goal.fill_row-requires-clause-fits
fill_row-requires-clause-fits c q within =
    let rows = c.args.grid.now in
    let positions : c.from-positions.result ≡ length rows = c.from-positions.ensures ∙ c.cells.ensures.value in
    rw positions (next_fits rows c.cells.ensures.sound c.args.horizon (entry_at (length rows) c.args.rewards.now) (AllPositions rows) c.loop-t.sums (c.loop-t.t - 1) c.loop-t.invariant (omega arith) c.args.k q (omega arith) within
    (all_closed rows c.cells.ensures.sound (c.loop-t.t - 1) q within).1 c.requires.fits)

pub loop-t-preserved : goal.loop-t-preserved
loop-t-preserved c =
    let rows = c.args.grid.now in
    let positions : c.from-positions.result ≡ length rows = c.from-positions.ensures ∙ c.cells.ensures.value in
    HasSumsOf-more rows c.cells.ensures.sound c.args.horizon (entry_at (length rows) c.args.rewards.now) (AllPositions rows) c.loop-t.sums (c.loop-t.t - 1) c.loop-t.invariant (omega arith) c.fill_row.new.sums (omega arith)
    (all_closed rows c.cells.ensures.sound (c.loop-t.t - 1))
    (rw positions at c.fill_row.ensures.row) (rw positions at c.fill_row.ensures.later)
