use Rattle.std.proofs.Common.{◌≡◌, ◌<◌, ◌∷◌, ◌++◌, [], length, ap, ◌∙◌, sym, subst, All}
use Rattle.longest_walk.specs.Near.{NearRow}
use Rattle.longest_walk.proofs.NearSteps.{level_within, level_more}
use Rattle.longest_walk.proofs.near.add_level.Goals as goal

pub grow-requires-clause-inside : goal.grow-requires-clause-inside
grow-requires-clause-inside c =
    let same : c.row.inside.order.items ≡ c.args.row.now.order = ap (λ (r : NearRow). r.order) c.row.view_is in
    subst (All (λ u. u < length c.args.grid.now)) (sym same) (level_within c.args.grid.now c.cells-positions.ensures.sound c.args.n c.args.a c.args.from c.args.row.now c.requires.position c.requires.level)

pub returns-clause-level : goal.returns-clause-level
returns-clause-level c =
    let same : c.row.inside.order.items ≡ c.args.row.now.order = ap (λ (r : NearRow). r.order) c.row.view_is in
    let counts : c.row.inside.counts.items ≡ c.args.row.now.counts = ap (λ (r : NearRow). r.counts) c.row.view_is in
    let long : c.len.result ≡ length c.grow.new.order.items = c.len.ensures ∙ c.grow.new.order.ok.0 in
    let pushed : c.push.new.self.items ≡ c.args.row.now.counts ++ length c.grow.new.order.items ∷ [] = rw (counts, long) at c.in_ok-push.ensures.items in
    level_more c.args.grid.now c.args.n c.args.a c.args.from c.args.row.now c.grow.new.order.items c.push.new.self.items c.requires.level (rw same at c.in_ok-grow.ensures.grown) pushed
