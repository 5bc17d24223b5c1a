use Rattle.std.proofs.Common.{rules, [], ◌++◌, ◌∙◌, ℕ, List, arith, ap, append_assoc, subst, take, drop, length-append, length-take}
use Rattle.std.proofs.lemmas.List.{take-append-le}
use Rattle.std.proofs.KnownBytes.{Consumes-nil, Consumes-trans}
use Rattle.byte_ports.specs.Runs.{Gave}
use Rattle.byte_ports.proofs.Runs.{gave_more, reads_count}
use Rattle.byte_ports.proofs.pieces.read_pieces.Goals as goal

pub reads-init : goal.reads-init
reads-init g c =
    record {
      within = search rules;
      room = search rules;
      handed = record {
        bytes = [];
        taken = Consumes-nil _;
        gave = (0, search rules, Gave.none);
        exactly = search rules;
        received = λ purpose b took. search rules;
      };
      faults_kept = search rules;
    }

pub returns-in-Ok-clause-too_long : goal.returns-in-Ok-clause-too_long
returns-in-Ok-clause-too_long g c = λ _.
    let before = c.reads.invariant.handed in (
      before.bytes ++ take c.in-Ok.more c.read.new.to,
      Consumes-trans _ _ _ _ _ before.taken c.in-Ok.ensures.bytes.0,
      grind (arith, length-append, length-take, before.exactly),
    )

pub returns-in-Ok-clause-reads_too_long : goal.returns-in-Ok-clause-reads_too_long
returns-in-Ok-clause-reads_too_long g c = λ _.
    let before = c.reads.invariant.handed in
    let once = c.in-Ok.ensures in
    reads_count _ _ _ _ _ _
    (gave_more _ _ _ _ _ _ _ before.gave once.once (omega arith) once.bound.0)
    (grind (arith, length-append, length-take, before.exactly))
    (omega arith)

pub reads-preserved : goal.reads-preserved
reads-preserved g c =
    let before = c.reads.invariant.handed in
    let once = c.in-Ok.ensures in
    let more = c.in-Ok.more in
    let to = c.read.new.to in
    let front = take-append-le more to (drop c.min-room.result c.reads.buffer) once.bound.0 in
    record {
      within = grind (arith, length-take);
      room = grind (arith, length-append, length-take);
      handed = record {
        bytes = before.bytes ++ take more to;
        taken = Consumes-trans _ _ _ _ _ before.taken once.bytes.0;
        gave = gave_more _ _ _ _ _ _ _ before.gave once.once (omega arith) once.bound.0;
        exactly = grind (arith, length-append, length-take, before.exactly);
        received = λ purpose b took.
            subst (λ (t : List ℕ). g.T.Receiver.took purpose t c.take.new.self) (ap (λ (t : List ℕ). (b ++ before.bytes) ++ t) front ∙ append_assoc b before.bytes (take more to))
            (c.take.ensures.more purpose (b ++ before.bytes) (before.received purpose b took));
      };
      faults_kept = grind arith;
    }

pub take-requires : goal.take-requires
take-requires g c =
    let before = c.requires.begun in
    let handed = c.reads.invariant.handed in
    (before.0, before.1 ++ handed.bytes, handed.received before.0 before.1 before.2)
