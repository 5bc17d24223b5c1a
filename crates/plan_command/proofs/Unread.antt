-- Where nothing was read.
use Rattle.std.proofs.Common.{ℕ, ◌+◌, List, [], Option, Some, Result, inl, arith}
use Rattle.std.proofs.KnownBytes.{Consumes-nil}
use Rattle.byte_ports.specs.declared.ports.Failed.{Failed}
use Rattle.byte_ports.specs.Runs.{ReadsAtMostCount, none}
use Rattle.plan_command.specs.Inputs.{source_view, went, ReadsPart}

pub unread : {S : Type 0} (Left : S → Option (List ℕ)) (Faults : S → ℕ) (Gives : S → List ℕ → Result ℕ Failed → S → Type 0) (limit : ℕ) (source : S) →
    ReadsPart (went Gives source source) (Some limit) (source_view Left Faults source) (source_view Left Faults source)
unread Left Faults Gives limit source =
    let gone : ReadsAtMostCount Gives (limit + 2) limit source source = record { reads = 0; bytes = []; gave = none; few = omega arith; within = omega arith } in
    record { taken = ([], Consumes-nil (Left source), omega arith); kept = omega arith; gone = inl gone }
