use Rattle.std.proofs.Common.{◌+◌, ◌≤◌, ◌-◌, ◌<◌, length}
use Rattle.byte_ports.proofs.Runs.{HasHandedOn}
use Rattle.byte_ports.proofs.pieces.read_pieces.Given as goal

abbrev pub invariant-reads : goal.invariant-reads
invariant-reads g l =
    record {
      within : l.count ≤ l.limit;
      room : 0 < length l.buffer;
      handed : HasHandedOn g.S.Source.left g.S.Source.read_gives g.T.Receiver.took l.count l.initial.source l.source l.initial.receiver l.receiver;
      faults_kept : g.S.Source.faults l.initial.source ≤ g.S.Source.faults l.source;
    }

abbrev pub decreases-reads : goal.decreases-reads
decreases-reads g l = l.limit + 1 - l.count
