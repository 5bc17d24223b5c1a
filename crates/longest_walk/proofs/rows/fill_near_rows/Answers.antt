use Rattle.std.proofs.Common.{ℕ, ◌≡◌, ◌-◌, ◌+◌, ◌*◌, ◌<◌, length, ap, ◌∙◌, arith, Contains, slice_index}
use Rattle.std.proofs.lemmas.List.Elements.{All-weaker, All-contains_itself}
use Rattle.search_grid.specs.Moves.{moves_from}
use Rattle.longest_walk.specs.Near.{IsNear}
use Rattle.longest_walk.proofs.Filling.{HasSumsOf-last, HasSumsOf-more, next_fits, NearPositions, near_closed}
use Rattle.longest_walk.proofs.NearSteps.{near_within}
use Rattle.longest_walk.proofs.rows.fill_near_rows.Goals as goal

pub loop-t-init : goal.loop-t-init
loop-t-init c = λ r agree.
    let rows = c.args.grid.now in
    let positions : c.from-positions.result ≡ length rows = c.from-positions.ensures ∙ c.cells.ensures.value in
    HasSumsOf-last rows c.args.horizon r (NearPositions rows c.args.from c.args.k) c.args.rewards.now c.fill_last.new.sums (omega arith) (rw positions at c.fill_last.ensures)
    (λ q near. agree c.args.horizon q (omega (arith, c.requires.period)) (omega arith) near)

pub fill_places-requires-clause-inside : goal.fill_places-requires-clause-inside
fill_places-requires-clause-inside c =
    let rows = c.args.grid.now in
    let some = c.within-some.result.now in
    All-weaker (Contains some) (λ q. q < length rows)
    (λ q listed. near_within rows c.cells.ensures.sound (c.loop-t.t - 1 - c.args.k) c.args.from q c.requires.from ((c.within-some.ensures q).0 listed)) some (All-contains_itself some)

pub fill_places-requires-clause-fits : goal.fill_places-requires-clause-fits
fill_places-requires-clause-fits c q listed =
    let rows = c.args.grid.now in
    let positions : c.from-positions.result ≡ length rows = c.from-positions.ensures ∙ c.cells.ensures.value in
    let p : ℕ = c.loop-t.t - 1 in
    let (r, agree, fits) = c.requires.fits in
    let near : IsNear rows (p - c.args.k) c.args.from q = (c.within-some.ensures q).0 listed in
    let parts = near_closed rows c.cells.ensures.sound c.args.from c.args.k p q c.requires.from (omega arith) near in
    let reward : slice_index c.args.rewards.now ((p - 1) * length rows + q) ≡ r p q = agree p q (omega arith) (omega arith) near in
    let sums = next_fits rows c.cells.ensures.sound c.args.horizon r (NearPositions rows c.args.from c.args.k) c.loop-t.sums p (c.loop-t.invariant r agree) (omega arith) c.args.k q (omega arith) parts.0 parts.1 fits in
    rw positions (omega (arith, reward, sums))

pub loop-t-preserved : goal.loop-t-preserved
loop-t-preserved c = λ r agree.
    let rows = c.args.grid.now in
    let positions : c.from-positions.result ≡ length rows = c.from-positions.ensures ∙ c.cells.ensures.value in
    let p : ℕ = c.loop-t.t - 1 in
    let row = rw positions at c.fill_places.ensures.row in
    HasSumsOf-more rows c.cells.ensures.sound c.args.horizon r (NearPositions rows c.args.from c.args.k) c.loop-t.sums p (c.loop-t.invariant r agree) (omega arith) c.fill_places.new.sums (omega arith)
    (λ q near. near_closed rows c.cells.ensures.sound c.args.from c.args.k p q c.requires.from (omega arith) near)
    (λ q near. row q ((c.within-some.ensures q).1 near) ∙ ap (λ v. v + Rattle.search_model.specs.Bounds.greatest (Rattle.longest_walk.specs.Rows.sums_at c.loop-t.sums (p * length rows) (moves_from rows q))) (agree p q (omega arith) (omega arith) near))
    (rw positions at c.fill_places.ensures.later)
