use Rattle.std.proofs.Common.{ℕ, ◌≡◌, ◌<◌, length, ap, ◌∙◌}
use Rattle.longest_walk.specs.Sums.{entry_at}
use Rattle.longest_walk.specs.Tables.{Tables, HasSumsNear}
use Rattle.longest_walk.proofs.Filling.{filled_near}
use Rattle.longest_walk.proofs.walk.Walk.least_best.Goals as goal

-- tables that are filled for all positions are filled for those that a walk can be on
pub returns-clause-least : goal.returns-clause-least
returns-clause-least c =
    let rows = c.args.grid.now in
    let r : ℕ → ℕ → ℕ = entry_at c.args.self.now.positions c.args._rewards.now in
    let positions : c.self.inside.positions ≡ c.args.self.now.positions = ap (λ (w : Tables). w.positions) c.self.view_is in
    let horizon : c.self.inside.horizon ≡ c.args.self.now.horizon = ap (λ (w : Tables). w.horizon) c.self.view_is in
    let from : c.self.inside.from ≡ c.args.self.now.from = ap (λ (w : Tables). w.from) c.self.view_is in
    let stored : c.deref.result.now ≡ c.args.self.now.sums = c.deref.ensures.value ∙ ap (λ (w : Tables). w.sums) c.self.view_is in
    let inside : c.args.self.now.from < c.args.self.now.positions = rw (from, positions) at c.self.invariant.from in
    let near = filled_near c.args.self.now rows c.args._rewards.now c.args.self.now.from (length c.args.to.now) inside c.requires.filled in
    let sums : HasSumsNear rows (length rows) c.self.inside.horizon r c.self.inside.from (length c.args.to.now) c.deref.result.now = rw (c.requires.filled.positions, horizon, from, stored) near.sums in
    rw (horizon, from) at (c.append_least.ensures.least r sums)
