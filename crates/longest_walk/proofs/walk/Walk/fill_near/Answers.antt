use Rattle.std.proofs.Common.{◌≡◌, ◌*◌, length, sym, ap, ◌∙◌, subst, arith}
use Rattle.std.specs.Vec.{with_items}
use Rattle.std.proofs.lemmas.List.{with_items_is}
use Rattle.search_grid.specs.Moves.{moves_from}
use Rattle.search_model.specs.Bounds.{greatest}
use Rattle.longest_walk.specs.Rows.{sums_at}
use Rattle.longest_walk.specs.Tables.{Tables, HasNear, HasSumsNear}
use Rattle.longest_walk.proofs.Filling.{IsFilledNear-from}
use Rattle.longest_walk.proofs.walk.Walk.fill_near.Goals as goal

pub returns-clause-filled : goal.returns-clause-filled
returns-clause-filled c = λ r agree.
    let w : Tables = record { positions = c.self.inside.positions; horizon = c.self.inside.horizon; from = c.args.from; best = c.greatest_at-self-inside.result; sums = (with_items c.self.inside.sums c.fill_near_rows.new.sums).items } in
    let stored : w.sums ≡ c.fill_near_rows.new.sums = with_items_is c.self.inside.sums c.fill_near_rows.new.sums (c.fill_near_rows.auto.sums ∙ c.deref_mut.ensures.len) in
    let positions : c.self.inside.positions ≡ c.args.self.now.positions = ap (λ (w : Tables). w.positions) c.self.view_is in
    let horizon : c.self.inside.horizon ≡ c.args.self.now.horizon = ap (λ (w : Tables). w.horizon) c.self.view_is in
    let here : HasNear c.args.grid.now (length c.args.grid.now) c.self.inside.horizon r c.args.from c.args.k c.args.rewards.now = rw (c.requires.positions, horizon) agree in
    let filled = subst (λ sums. HasSumsNear c.args.grid.now (length c.args.grid.now) c.self.inside.horizon r c.args.from c.args.k sums) (sym stored) (c.fill_near_rows.ensures r here) in
    let best : w.best ≡ greatest (sums_at w.sums (c.args.k * w.positions) (moves_from c.args.grid.now c.args.from)) =
    rw (c.deref.ensures.value, c.from.ensures, c.moves.ensures.value) at c.greatest_at-self-inside.ensures in
    IsFilledNear-from c.args.grid.now c.moves.ensures.sound w r c.args.k (c.requires.positions ∙ sym positions) filled
    (omega (arith, horizon, c.requires.period)) (omega (arith, positions, c.requires.from)) best
