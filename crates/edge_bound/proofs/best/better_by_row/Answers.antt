use Rattle.std.proofs.Common.{◌≡◌, ◌+◌, ◌-◌, slice_index, arith}
use Rattle.search_model.specs.Bounds.{reward_of}
use Rattle.search_model.specs.Edge.{edge_reward_of}
use Rattle.edge_bound.specs.Moves.{greatest_moves}
use Rattle.edge_bound.proofs.Through.{taken_of_reward}
use Rattle.edge_bound.proofs.Walking.{gain_there}
use Rattle.edge_bound.proofs.best.better_by_row.Goals as goal
use Rattle.edge_bound.proofs.best.better_by_row.Goals.{then-b-top-via-then-b-top, then-b-top-via-else-b-top+then-gains-from}

pub returns-then-b-top : goal.returns-then-b-top
returns-then-b-top c =
    let p = c.args.sc.now in
    let q = c.args.prefix.now in
    let t = c.args.t in
    let a = c.args.a in
    let b = c.args.b in
    elim c.then-b-top.branch [
      | then-b-top-via-then-b-top w ↦ rw w.if-b-top.true (omega (arith, c.requires.top))
      | then-b-top-via-else-b-top+then-gains-from w ↦
          let gain : slice_index c.args.gains.now w.from.result ≡ reward_of p q t b + greatest_moves p.moves (edge_reward_of p q) (p.horizon - t) (t + 1) b =
          rw w.from.ensures (gain_there p q c.args.gains.now t a b c.requires.period.later c.requires.near c.requires.step c.requires.gains) in
          omega (arith, gain, taken_of_reward p q t b c.recall_sound.ensures c.requires.period.later c.requires.period.last a, w.if-gains-from.true)
    ]
