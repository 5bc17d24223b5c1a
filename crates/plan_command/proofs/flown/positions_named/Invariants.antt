use Rattle.std.proofs.Common.{◌≡◌, length, map, take, string_bytes}
use Rattle.plan_command.specs.Flown.{AreNamed}
use Rattle.plan_command.proofs.flown.positions_named.Given as goal

abbrev pub invariant-loop-name : goal.invariant-loop-name
invariant-loop-name l = record {
  named : AreNamed l.sc (map string_bytes (take l.name-index l.names)) l.flown;
  long : length l.flown ≡ l.name-index;
}
