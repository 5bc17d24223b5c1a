-- How a run may end: what source and sinks show before and after it, for each status.
use Rattle.std.specs.Prelude.{◌≡◌, ◌⊎◌, ℕ, List, [], Result, Ok, Err}
use Rattle.std.specs.Io.KnownBytes.{Appends}
use Rattle.std.specs.declared.option.Option.{Option}
use Rattle.byte_ports.specs.declared.ports.Failed.{Failed}
use Rattle.byte_ports.specs.Causes.{Rose}
use Rattle.byte_ports.specs.Taken.{AppendsPrefix}
use Rattle.plan_command.specs.declared.request.Request.{Request}
use Rattle.plan_command.specs.declared.status.Status.{Status}
use Rattle.plan_command.specs.declared.status.Refusal.{Refusal}
use Rattle.plan_command.specs.declared.status.Stop.{Stop}
use Rattle.plan_command.specs.declared.status.Stop.TheVariants as stops
use Rattle.plan_command.specs.Words.{Spells, SpellNone, limit_of}
use Rattle.plan_command.specs.Lines.{status_of, line_of}
use Rattle.plan_command.specs.Inputs.{Source, source_view, Course, went, Reads, ReadsPart, IsOverLong, HasFailed}
use Rattle.plan_command.specs.Commands.{Answers, Refuses}

-- What the source and the sink `out` show at one moment.
pub record Shown : Type 0 where
  pub source : Source
  pub wrote : Option (List ℕ)
  pub write_faults : ℕ

-- A call: its words, and what source and `out` show before it and after it; and how reading went, by what each read gave.
pub record Call (Went : Course → Type 0) : Type 0 where
  pub words : List (List ℕ)
  pub before : Shown
  pub after : Shown

-- the same, by the meanings of a source and a sink
abbrev pub shown : {S K : Type 0} → (S → Option (List ℕ)) → (S → ℕ) → (K → Option (List ℕ)) → (K → ℕ) → S → K → Shown
shown left read_faults wrote write_faults source out =
    record { source = source_view left read_faults source; wrote = wrote out; write_faults = write_faults out }

abbrev pub call : {S K : Type 0} (Gives : S → List ℕ → Result ℕ Failed → S → Type 0) → List (List ℕ) → (S → Option (List ℕ)) → (S → ℕ) → (K → Option (List ℕ)) → (K → ℕ) → (source source' : S) → K → K → Call (went Gives source source')
call Gives words left read_faults wrote write_faults source source' out out' =
    record { words = words; before = shown left read_faults wrote write_faults source out; after = shown left read_faults wrote write_faults source' out' }

-- The whole answer stands in `out`.
pub record Delivered {Went : Course → Type 0} (c : Call Went) (request : Request) (status : Status) : Type 0 where
  pub input : List ℕ
  pub text : List ℕ
  pub read : Reads Went (limit_of request) c.before.source c.after.source input
  pub answers : Answers c.words request input status text
  pub written : Appends c.before.wrote c.after.wrote text

-- A front of an answer stands in `out`, perhaps nothing of it.
pub record CutOff {Went : Course → Type 0} (c : Call Went) (request : Request) : Type 0 where
  pub input : List ℕ
  pub text : List ℕ
  pub status : Status
  pub read : Reads Went (limit_of request) c.before.source c.after.source input
  pub answers : Answers c.words request input status text
  pub written : AppendsPrefix c.before.wrote c.after.wrote text

-- The input was read whole and is refused.
pub record Refused {Went : Course → Type 0} (c : Call Went) (request : Request) (refusal : Refusal) : Type 0 where
  pub input : List ℕ
  pub read : Reads Went (limit_of request) c.before.source c.after.source input
  pub refuses : Refuses c.words request input refusal
  pub unwritten : c.after.wrote ≡ c.before.wrote

-- Words of a request that refuses its input so.
abbrev pub IsRefusal : {Went : Course → Type 0} → Call Went → Refusal → Type 0
IsRefusal c refusal = (request : Request) × Spells c.words request × Refused c request refusal

-- Words of a request whose answer was cut off.
abbrev pub IsCutOff : {Went : Course → Type 0} → Call Went → Type 0
IsCutOff c = (request : Request) × Spells c.words request × CutOff c request

-- What a stop says of a request that was read from the words.
abbrev pub Stopped : {Went : Course → Type 0} → Call Went → Request → Stop → Type 0
Stopped c request stops.Usage = ⊥
Stopped {Went} c request stops.ReadFault = HasFailed Went (limit_of request) c.before.source c.after.source × (c.after.wrote ≡ c.before.wrote)
Stopped {Went} c request stops.TooLong = IsOverLong Went (limit_of request) c.before.source c.after.source × (c.after.wrote ≡ c.before.wrote)
Stopped c request (stops.Refused refusal) = Refused c request refusal
Stopped c request stops.WriteFault = Rose c.before.write_faults c.after.write_faults × CutOff c request
Stopped {Went} c request stops.NoMemory =
    (ReadsPart Went (limit_of request) c.before.source c.after.source × (c.after.wrote ≡ c.before.wrote)) ⊎ CutOff c request

-- How a run ends: it delivers an answer, or it stops. Words that spell no request stop it before it reads.
pub data Ending : Type 0 where
  delivered : Status → Ending
  stopped : Stop → Ending

abbrev pub Ends : {Went : Course → Type 0} → Call Went → Ending → Type 0
Ends c (stopped stops.Usage) = SpellNone c.words × (c.after ≡ c.before)
Ends c (stopped stop) = (r : Request) × Spells c.words r × Stopped c r stop
Ends c (delivered status) = (r : Request) × Spells c.words r × Delivered c r status

abbrev pub status_at : Ending → Status
status_at (delivered status) = status
status_at (stopped stop) = status_of stop

-- what is said of it on `err`
abbrev pub line_at : Ending → List ℕ
line_at (delivered status) = []
line_at (stopped stop) = line_of stop

-- What `err` shows at one moment: the bytes that it took, and the counts of its faults and of the memory that it lacked.
pub record ErrView : Type 0 where
  pub wrote : Option (List ℕ)
  pub faults : ℕ
  pub wants : ℕ

-- the same, by the meanings of a sink
abbrev pub err_view : {E : Type 0} → (E → Option (List ℕ)) → (E → ℕ) → (E → ℕ) → E → ErrView
err_view wrote faults wants err = record { wrote = wrote err; faults = faults err; wants = wants err }

-- A line on `err`: a front of it, and all of it where no count rose.
pub record Says (before after : ErrView) (line : List ℕ) : Type 0 where
  pub front : AppendsPrefix before.wrote after.wrote line
  pub whole : (Rose before.faults after.faults → ⊥) → (Rose before.wants after.wants → ⊥) → Appends before.wrote after.wrote line

-- the ending that a result stands for
abbrev pub ending_of : Result Status Stop → Ending
ending_of (Ok status) = delivered status
ending_of (Err stop) = stopped stop
