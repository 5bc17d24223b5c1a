use Rattle.std.proofs.Common.{◌≡◌, Some, map, take}
use Rattle.std.specs.List.{range_with_len}
use Rattle.belief_update.specs.Belief.{IsBelief}
use Rattle.mission_report.specs.Account.{value_up_to}
use Rattle.mission_report.proofs.course.note_looks.Given as goal

abbrev pub invariant-loop-t : goal.invariant-loop-t
invariant-loop-t l = record {
  belief : IsBelief l.sc (map Some (take l.t l.path)) l.belief;
  values : l.values.items ≡ map (value_up_to l.sc l.path) (range_with_len 1 l.t);
}
