use Rattle.std.proofs.Common.{◌==◌, length, ap, ◌∙◌, arith}
use Rattle.std.proofs.lemmas.List.{with_items_is}
use Rattle.std.proofs.lemmas.List.Sums.{common_prefix_len-le}
use Rattle.search_model.proofs.PlainSteps.{positions_follow}
use Rattle.belief_update.specs.Levels.{AreLevelsOf}
use Rattle.belief_update.proofs.TrailSteps.{common_front}
use Rattle.belief_update.proofs.LevelSteps.{levels_shared}
use Rattle.belief_update.proofs.levels.Levels.go_to.Goals as goal

pub go_on-requires-clause-same : goal.go_on-requires-clause-same
go_on-requires-clause-same c =
    let le = (common_prefix_len-le (λ a b. a == b) c.cells.result.now c.cells-2.result.now).1 in
    omega (arith, c.in_common-same.ensures, le, ap length c.cells-2.ensures.value, ap length c.cells-3.ensures.value)

pub go_on-requires-clause-positions : goal.go_on-requires-clause-positions
go_on-requires-clause-positions c =
    let p = c.args.sc.now in
    let sound = c.recall_sound.ensures in
    rw c.cells-3.ensures.value (positions_follow p sound p.start (omega (arith, sound.start, sound.grid_positions)) c.args.prefix.now c.requires.legal.follows)

pub go_on-requires-clause-levels : goal.go_on-requires-clause-levels
go_on-requires-clause-levels c =
    let p = c.args.sc.now in
    let old = c.self.inside.prefix in
    let q = c.args.prefix.now in
    let le = (common_prefix_len-le (λ a b. a == b) old q).0 in
    let made : AreLevelsOf p (record { prefix = old; levels = c.self.inside.levels.items; taken = c.self.inside.taken; flows = c.self.inside.flows.items }) = rw c.self.view_is c.requires.made in
    rw (c.in_common-same.ensures, c.cells.ensures.value, c.cells-2.ensures.value, c.cells-3.ensures.value, c.deref_mut.ensures.value)
    (levels_shared p old q _ (length old) c.self.inside.levels.items le (common_front old q) made.levels)

pub invariant_of-self : goal.invariant_of-self
invariant_of-self c =
    let kept = with_items_is c.self.inside.levels c.go_on.new.levels (c.go_on.auto.levels ∙ c.deref_mut.ensures.len) in
    rw kept (omega (arith, c.go_on.ensures.levels.size, c.requires.short))

pub returns-clause-made : goal.returns-clause-made
returns-clause-made c =
    let kept = with_items_is c.self.inside.levels c.go_on.new.levels (c.go_on.auto.levels ∙ c.deref_mut.ensures.len) in
    let kept_flows = with_items_is c.self.inside.flows c.go_on.new.flows (c.go_on.auto.flows ∙ c.deref_mut-2.ensures.len) in
    rw (kept, kept_flows)
    (record { short = c.requires.short; cells = c.go_on.ensures.room; levels = rw c.cells-3.ensures.value at c.go_on.ensures.levels; flows = c.go_on.ensures.flows })
