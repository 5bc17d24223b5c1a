use Rattle.std.proofs.Common.{◌≡◌, ◌==◌, length, ap, ◌∙◌, arith}
use Rattle.std.proofs.lemmas.List.{with_items_is}
use Rattle.std.proofs.lemmas.List.Sums.{common_prefix_len-le}
use Rattle.search_model.proofs.PlainSteps.{positions_follow}
use Rattle.belief_update.specs.Trails.{IsTrailOf, TrailState, common_of}
use Rattle.belief_update.proofs.TrailSteps.{common_front, rows_shared}
use Rattle.belief_update.proofs.trail.Trail.go.Goals as goal

pub go_on-requires-clause-same : goal.go_on-requires-clause-same
go_on-requires-clause-same g c =
    let le = (common_prefix_len-le (λ a b. a == b) c.cells.result.now c.cells-2.result.now).1 in
    omega (arith, c.in_common-same.ensures, le, ap length c.cells-2.ensures.value, ap length c.cells-3.ensures.value)

pub go_on-requires-clause-positions : goal.go_on-requires-clause-positions
go_on-requires-clause-positions g c =
    let p = c.args.sc.now in
    let sound = c.recall_sound.ensures in
    rw c.cells-3.ensures.value (positions_follow p sound p.start (omega (arith, sound.start, sound.grid_positions)) c.args.prefix.now c.requires.legal.follows)

pub go_on-requires-clause-rows : goal.go_on-requires-clause-rows
go_on-requires-clause-rows g c =
    let p = c.args.sc.now in
    let old = c.self.inside.prefix in
    let q = c.args.prefix.now in
    let le = (common_prefix_len-le (λ a b. a == b) old q).0 in
    let made : IsTrailOf p (record { prefix = old; rows = c.self.inside.rows.items; ahead = c.self.inside.ahead.items }) = rw c.self.view_is c.requires.made in
    rw (c.in_common-same.ensures, c.cells.ensures.value, c.cells-2.ensures.value, c.cells-3.ensures.value, c.deref_mut.ensures.value, c.deref_mut-2.ensures.value)
    (rows_shared p old q _ (length old) c.self.inside.rows.items c.self.inside.ahead.items le (common_front old q) made.rows)

pub invariant_of-self : goal.invariant_of-self
invariant_of-self g c =
    let kept = with_items_is c.self.inside.rows c.go_on.new.rows (c.go_on.auto.rows ∙ c.deref_mut.ensures.len) in
    rw kept (omega (arith, c.go_on.ensures.rows.size, c.requires.legal.short))

pub returns-clause-made : goal.returns-clause-made
returns-clause-made g c =
    let kept = with_items_is c.self.inside.rows c.go_on.new.rows (c.go_on.auto.rows ∙ c.deref_mut.ensures.len) in
    let kept_ahead = with_items_is c.self.inside.ahead c.go_on.new.ahead (c.go_on.auto.ahead ∙ c.deref_mut-2.ensures.len) in
    rw (kept, kept_ahead) (record { short = c.requires.legal.short; rows = rw c.cells-3.ensures.value at c.go_on.ensures.rows })

pub returns-clause-counted : goal.returns-clause-counted
returns-clause-counted g c =
    let old = ap (λ (t : TrailState). t.prefix) c.self.view_is in
    let same : c.in_common-same.result ≡ common_of c.args.self.now.prefix c.args.prefix.now = rw (← old, ← c.cells.ensures.value, ← c.cells-2.ensures.value) c.in_common-same.ensures in
    omega (arith, c.go_on.ensures.counted, same, ap length c.cells-3.ensures.value)
