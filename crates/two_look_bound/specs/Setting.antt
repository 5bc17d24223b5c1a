-- What the sums behind pairs of looks go by, and when it is right.
use Rattle.std.specs.Prelude.{ℕ, IsTrue, ◌<◌, ◌+◌}
use Rattle.search_model.specs.Problem.{Problem}
use Rattle.search_model.specs.Legal.{IsLegal}
use Rattle.longest_walk.specs.Near.{AreNear}
use Rattle.belief_update.specs.Flows.{IsOwn}
use Rattle.belief_update.specs.Onward.{IsOnward}
use Rattle.edge_bound.specs.Units.{HasUnits}
use Rattle.two_look_bound.specs.Rooms.{HasTwos}
use Rattle.two_look_bound.specs.declared.setting.Setting.{Setting}

-- the positions in reach, the beliefs after the prefix, and what looks find of units of mass, are those of the scenario
pub record IsSetting (g : Setting) : Type 0 where
  pub near : AreNear g.sc.now.moves g.sc.now.horizon g.near.now
  pub legal : IsLegal g.sc.now g.prefix.now
  pub onward : IsOnward g.sc.now g.prefix.now g.onward.now
  pub units : HasUnits g.sc.now g.units.now
  pub twos : HasTwos g.sc.now g.twos.now
  pub own : IsTrue g.own → (b : ℕ) → b < g.sc.now.positions → IsOwn g.sc.now b

-- room for three rows of cells
abbrev pub three_rows : Problem → ℕ
three_rows p = p.cells + p.cells + p.cells
