-- What a request reads, and why reading it may stop.
use Rattle.std.specs.Prelude.{◌≡◌, ◌⊎◌, ℕ, ◌+◌, ◌≤◌, List, [], length, Result, Ok, Err, Some, None}
use Rattle.std.specs.Io.KnownBytes.{Consumes, IsAtEnd}
use Rattle.std.specs.declared.option.Option.{Option}
use Rattle.byte_ports.specs.declared.ports.Failed.{Failed}
use Rattle.byte_ports.specs.Causes.{Rose}
use Rattle.byte_ports.specs.Runs.{ReadsToEnd, ReadsToFault, ReadsCount, ReadsAtMostCount}
use Rattle.byte_ports.specs.Taken.{TakesCount, TakesAtMost}
use Rattle.plan_command.specs.declared.status.Stop.{Stop}
use Rattle.plan_command.specs.declared.status.Stop.TheVariants as stops

-- What a source shows at one moment: the bytes that are left, where it tells them, and the count of its faults.
pub record Source : Type 0 where
  pub left : Option (List ℕ)
  pub faults : ℕ

-- the same, by the meanings of a source
abbrev pub source_view : {S : Type 0} → (S → Option (List ℕ)) → (S → ℕ) → S → Source
source_view left faults source = record { left = left source; faults = faults source }

-- How reading an input may have gone that may have so many bytes: to its end, over these bytes; up to a fault; one byte too far;
-- or part of the way.
pub data Course : Type 0 where
  to_end : ℕ → List ℕ → Course
  to_fault : ℕ → Course
  too_far : ℕ → Course
  part_way : ℕ → Course

-- so it went by what each read gave, also where the source tells nothing of its bytes: each read but the last gave a byte or more
abbrev pub went : {S : Type 0} → (S → List ℕ → Result ℕ Failed → S → Type 0) → S → S → Course → Type 0
went Gives old new (to_end limit bytes) = ReadsToEnd Gives (limit + 2) bytes old new
went Gives old new (to_fault limit) = ReadsToFault Gives (limit + 2) limit old new
went Gives old new (too_far limit) = ReadsCount Gives (limit + 2) (limit + 1) old new
went Gives old new (part_way limit) = ReadsAtMostCount Gives (limit + 2) limit old new

-- The input was read whole, and it isn't longer than the limit. The count of faults didn't fall.
pub record ReadWhole (Went : Course → Type 0) (limit : ℕ) (before after : Source) (input : List ℕ) : Type 0 where
  pub taken : Consumes before.left after.left input
  pub ended : IsAtEnd after.left
  pub short : length input ≤ limit
  pub kept : before.faults ≤ after.faults
  pub gone : Went (to_end limit input)

-- Nothing was read, so the input is empty.
pub record ReadNone (before after : Source) (input : List ℕ) : Type 0 where
  pub empty : input ≡ []
  pub same : after ≡ before

-- what is read: the whole input, where there is a limit, and else nothing
abbrev pub Reads : (Course → Type 0) → Option ℕ → Source → Source → List ℕ → Type 0
Reads Went (Some limit) before after input = ReadWhole Went limit before after input
Reads Went None before after input = ReadNone before after input

-- No more than the limit was taken, of a part of the input or of all of it. The count of faults didn't fall.
pub record ReadPart (Went : Course → Type 0) (limit : ℕ) (before after : Source) : Type 0 where
  pub taken : TakesAtMost before.left after.left limit
  pub kept : before.faults ≤ after.faults
  pub gone : Went (part_way limit) ⊎ ((input : List ℕ) × Went (to_end limit input))

-- what was read where memory ran out: at most as much as there may be, where there is a limit, and else nothing
abbrev pub ReadsPart : (Course → Type 0) → Option ℕ → Source → Source → Type 0
ReadsPart Went (Some limit) before after = ReadPart Went limit before after
ReadsPart Went None before after = after ≡ before

-- One byte more than the limit was taken.
pub record IsOverLong (Went : Course → Type 0) (limits : Option ℕ) (before after : Source) : Type 0 where
  pub limit : ℕ
  pub is_limit : limits ≡ Some limit
  pub taken : TakesCount before.left after.left (limit + 1)
  pub gone : Went (too_far limit)

-- The source failed, and no more than the limit had been taken.
pub record HasFailed (Went : Course → Type 0) (limits : Option ℕ) (before after : Source) : Type 0 where
  pub limit : ℕ
  pub is_limit : limits ≡ Some limit
  pub taken : TakesAtMost before.left after.left limit
  pub rose : Rose before.faults after.faults
  pub gone : Went (to_fault limit)

-- the input that was read, or why it wasn't
abbrev pub InputOf : {V : Type 0} → (V → List ℕ) → (Course → Type 0) → Option ℕ → Source → Source → Result V Stop → Type 0
InputOf items Went limits before after (Ok input) = Reads Went limits before after (items input)
InputOf items Went limits before after (Err stops.ReadFault) = HasFailed Went limits before after
InputOf items Went limits before after (Err stops.TooLong) = IsOverLong Went limits before after
InputOf items Went limits before after (Err stops.NoMemory) = ReadsPart Went limits before after
InputOf items Went limits before after (Err _) = ⊥

-- what was made of the input that was read, or why it wasn't read; or memory ran out
abbrev pub ReadsAnd : {V : Type 0} → (Course → Type 0) → Option ℕ → Source → Source → (List ℕ → Result V Stop → Type 0) → Result V Stop → Type 0
ReadsAnd Went limits before after Makes (Ok made) = (input : List ℕ) × Reads Went limits before after input × Makes input (Ok made)
ReadsAnd Went limits before after Makes (Err (stops.Refused refusal)) =
    (input : List ℕ) × Reads Went limits before after input × Makes input (Err (stops.Refused refusal))
ReadsAnd Went limits before after Makes (Err stops.ReadFault) = HasFailed Went limits before after
ReadsAnd Went limits before after Makes (Err stops.TooLong) = IsOverLong Went limits before after
ReadsAnd Went limits before after Makes (Err stops.NoMemory) = ReadsPart Went limits before after
ReadsAnd Went limits before after Makes (Err _) = ⊥
