use Rattle.std.proofs.Common.{◌≡◌, length, ap, arith}
use Rattle.belief_update.specs.Levels.{AreLevelsOf}
use Rattle.belief_update.specs.Trails.{common_of}
use Rattle.belief_update.proofs.LevelSteps.{common_within, common_level}
use Rattle.belief_update.proofs.levels.Levels.value.Goals as goal

pub index-onward-requires : goal.index-onward-requires
index-onward-requires c =
    let made : AreLevelsOf c.args.sc.now (record { prefix = c.self.inside.prefix; levels = c.self.inside.levels.items; taken = c.self.inside.taken; flows = c.self.inside.flows.items }) = rw c.self.view_is c.requires.made in
    let few = (common_within c.cells.result.now c.cells-2.result.now c.in_common-same.result c.in_common-same.ensures).0 in
    omega (arith, few, ap length c.cells.ensures.value, made.short, made.levels.size)

pub overflow_cast-same : goal.overflow_cast-same
overflow_cast-same c =
    let few = (common_within c.cells.result.now c.cells-2.result.now c.in_common-same.result c.in_common-same.ensures).0 in
    omega (arith, few, ap length c.cells.ensures.value, c.cells.ensures.small)

pub value_from-requires-clause-inside : goal.value_from-requires-clause-inside
value_from-requires-clause-inside c =
    let few = (common_within c.cells.result.now c.cells-2.result.now c.in_common-same.result c.in_common-same.ensures).1 in
    omega (arith, few, ap length c.cells-2.ensures.value)

pub value_from-requires-clause-onward : goal.value_from-requires-clause-onward
value_from-requires-clause-onward c =
    let p = c.args.sc.now in
    let made : AreLevelsOf p (record { prefix = c.self.inside.prefix; levels = c.self.inside.levels.items; taken = c.self.inside.taken; flows = c.self.inside.flows.items }) = rw c.self.view_is c.requires.made in
    let same : c.in_common-same.result ≡ common_of c.self.inside.prefix c.args.prefix.now = rw (← c.cells.ensures.value, ← c.cells-2.ensures.value) c.in_common-same.ensures in
    common_level p c.self.inside.prefix c.args.prefix.now c.in_common-same.result c.self.inside.levels.items c.index-onward.result.now same made.short made.levels c.index-onward.ensures
