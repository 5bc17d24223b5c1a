use Rattle.std.proofs.Common.{◌≡◌, ◌<◌, false, [], length, arith, ◌∙◌, get_or-set_same, length-set}
use Rattle.belief_update.specs.Onward.{IsOnward}
use Rattle.belief_update.proofs.LevelSteps.{rooms_set}
use Rattle.belief_update.proofs.OnwardRows.{made_behind_none}
use Rattle.belief_update.proofs.levels.begin.Goals as goal

pub returns : goal.returns
returns c =
    let p = c.args.sc.now in
    let levels = c.args.levels.now in
    let new = c.go_to.new.self in
    let there : 0 < length levels = omega (arith, c.requires.size, c.recall_sound.ensures.horizon) in
    let onward : IsOnward p [] new = rw c.empty.ensures at c.go_to.ensures.onward in
    record {
      size = length-set levels 0 new ∙ c.requires.size;
      made = rooms_set p levels 0 new there (made_behind_none p new c.go_to.ensures.made) c.requires.made;
      after = λ k few below.
          let none : k ≡ 0 = omega (arith, few) in
          rw (none, get_or-set_same levels 0 new (record { belief = record { period = 0; looked = false; masses = [] }; rows = []; value = 0 }) there) onward;
    }
