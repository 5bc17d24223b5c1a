use Rattle.std.proofs.Common.{rules, arith, ◌++◌, take, drop, length-append, length-take}
use Rattle.std.proofs.lemmas.List.{take-append-le}
use Rattle.byte_ports.specs.Runs.{Gave}
use Rattle.std.proofs.KnownBytes.{Consumes-nil, Consumes-trans}
use Rattle.byte_ports.proofs.Runs.{gave_more, reads_count, reads_at_most}
use Rattle.byte_ports.proofs.whole.read_all.Goals as goal

pub reads-init : goal.reads-init
reads-init g c =
    rw c.new-bytes.ensures.items record {
      within = search rules;
      consumed = Consumes-nil _;
      faults_kept = search rules;
      gave = (0, search rules, Gave.none);
    }

pub reads-preserved : goal.reads-preserved
reads-preserved g c =
    let before = c.reads.invariant in
    let once = c.in-Ok.ensures in
    let front = take-append-le c.in-Ok.count c.read.new.to (drop c.min-room.result c.reads.piece) once.bound.0 in
    let grown = c.in_ok-extend_from_slice-in-Ok-2.ensures.items in
    record {
      within = grind (arith, length-take);
      consumed = rw (grown, front) (Consumes-trans _ _ _ _ _ before.consumed once.bytes.0);
      faults_kept = grind arith;
      gave = rw (grown, front) (gave_more _ _ _ _ _ _ _ before.gave once.once (omega arith) once.bound.0);
    }

pub returns-in-Ok-clause-too_long : goal.returns-in-Ok-clause-too_long
returns-in-Ok-clause-too_long g c =
    λ _. (
      c.reads.bytes.items ++ take c.in-Ok.count c.read.new.to,
      Consumes-trans _ _ _ _ _ c.reads.invariant.consumed c.in-Ok.ensures.bytes.0,
      grind (arith, length-append, length-take),
    )

pub returns-in-Ok-clause-reads_too_long : goal.returns-in-Ok-clause-reads_too_long
returns-in-Ok-clause-reads_too_long g c =
    λ _. reads_count _ _ _ _ _ _
    (gave_more _ _ _ _ _ _ _ c.reads.invariant.gave c.in-Ok.ensures.once (omega arith) c.in-Ok.ensures.bound.0)
    (grind (arith, length-append, length-take))
    (omega arith)

pub returns-in_err-extend_from_slice-in-Ok-2-clause-taken_no_memory : goal.returns-in_err-extend_from_slice-in-Ok-2-clause-taken_no_memory
returns-in_err-extend_from_slice-in-Ok-2-clause-taken_no_memory g c =
    λ _. (
      c.reads.bytes.items ++ take c.in-Ok.count c.read.new.to,
      Consumes-trans _ _ _ _ _ c.reads.invariant.consumed c.in-Ok.ensures.bytes.0,
      grind (arith, length-append, length-take),
    )

pub returns-in_err-extend_from_slice-in-Ok-2-clause-reads_no_memory : goal.returns-in_err-extend_from_slice-in-Ok-2-clause-reads_no_memory
returns-in_err-extend_from_slice-in-Ok-2-clause-reads_no_memory g c =
    λ _. reads_at_most _ _ _ _ _ _
    (gave_more _ _ _ _ _ _ _ c.reads.invariant.gave c.in-Ok.ensures.once (omega arith) c.in-Ok.ensures.bound.0)
    (grind (arith, length-append, length-take))
    (omega arith)
