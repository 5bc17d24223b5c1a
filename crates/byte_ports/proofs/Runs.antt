-- One more call at the end of a run, and the bytes that two runs in a row take or append.
use Rattle.std.proofs.Common.{◌≡◌, ℕ, ◌+◌, ◌-◌, ◌<◌, ◌≤◌, List, ◌++◌, length, take, drop, Ok, arith, length-append, length-take, length-drop}
use Rattle.std.proofs.Math.Seq.{take-add, take-length}
use Rattle.std.proofs.KnownBytes.{Appends-trans}
use Rattle.std.specs.declared.option.Option.{Option}
use Rattle.std.specs.declared.result.Result.{Result}
use Rattle.std.specs.Io.KnownBytes.{Consumes, Appends}
use Rattle.byte_ports.specs.declared.ports.Failed.{Failed}
use Rattle.byte_ports.specs.declared.ports.SinkStop.{SinkStop}
use Rattle.byte_ports.specs.Runs.{Gave, Took, ReadsCount, ReadsAtMostCount}

-- The range from a place to the end of a text is all that is left of it.
pub rest_whole : (at : ℕ) (text : List ℕ) → take (length text - at) (drop at text) ≡ drop at text
rest_whole at text = rw (← length-drop at text) (take-length (drop at text))

-- One more write of what is left appends the front of the text up to its new end.
pub appends_more : (a b c : Option (List ℕ)) (text : List ℕ) (done n : ℕ) → Appends a b (take done text) → Appends b c (take n (take (length text - done) (drop done text))) → Appends a c (take (done + n) text)
appends_more a b c text done n p q =
    let whole = rest_whole done text in
    rw take-add (Appends-trans a b c (take done text) (take n (drop done text)) p (rw whole at q))

-- One more write of what is left goes on with a run of writes.
pub took_more : {K : Type 0} (Gives : K → List ℕ → Result ℕ SinkStop → K → Type 0) (text : List ℕ) (old mid new : K) (done n : ℕ) → Took Gives text old done mid → Gives mid (take (length text - done) (drop done text)) (Ok n) new → 0 < n → Took Gives text old (done + n) new
took_more Gives text old mid new done n took once some = Took.more done n mid new took (rw (rest_whole done text) at once) some

-- Reads of a byte or more, no more of them than bytes.
abbrev pub GaveBytes : {S : Type 0} → (S → List ℕ → Result ℕ Failed → S → Type 0) → S → List ℕ → S → Type 0
GaveBytes Gives old bytes new = (reads : ℕ) × (reads ≤ length bytes) × Gave Gives old reads bytes new

-- One more read of a byte or more goes on with a run of reads.
pub gave_more : {S : Type 0} (Gives : S → List ℕ → Result ℕ Failed → S → Type 0) (old mid new : S) (bytes to : List ℕ) (n : ℕ) → GaveBytes Gives old bytes mid → Gives mid to (Ok n) new → 0 < n → n ≤ length to → GaveBytes Gives old (bytes ++ take n to) new
gave_more Gives old mid new bytes to n (reads, few, gave) once some fits = (reads + 1, grind (arith, length-append, length-take), Gave.more reads bytes to n mid new gave once some)

-- A run of reads makes no more calls than the bytes that it gave, here counted.
pub reads_count : {S : Type 0} (Gives : S → List ℕ → Result ℕ Failed → S → Type 0) (old new : S) (bytes : List ℕ) (most count : ℕ) → GaveBytes Gives old bytes new → length bytes ≡ count → count ≤ most → ReadsCount Gives most count old new
reads_count Gives old new bytes most count (reads, few, gave) exactly room = record { reads = reads; bytes = bytes; gave = gave; few = omega arith; exactly = exactly }

-- A run of reads makes no more calls than the bytes that it gave, here bounded.
pub reads_at_most : {S : Type 0} (Gives : S → List ℕ → Result ℕ Failed → S → Type 0) (old new : S) (bytes : List ℕ) (most limit : ℕ) → GaveBytes Gives old bytes new → length bytes ≤ limit → limit ≤ most → ReadsAtMostCount Gives most limit old new
reads_at_most Gives old new bytes most limit (reads, few, gave) within room = record { reads = reads; bytes = bytes; gave = gave; few = omega arith; within = within }

-- So many bytes were taken, by reads of a byte or more, and a receiver took them.
pub record HasHandedOn {S T Purpose : Type 0} (Left : S → Option (List ℕ)) (Gives : S → List ℕ → Result ℕ Failed → S → Type 0) (Took : Purpose → List ℕ → T → Type 0) (count : ℕ) (source source' : S) (old new : T) : Type 0 where
  pub bytes : List ℕ
  pub taken : Consumes (Left source) (Left source') bytes
  pub gave : GaveBytes Gives source bytes source'
  pub exactly : length bytes ≡ count
  pub received : (purpose : Purpose) (before : List ℕ) → Took purpose before old → Took purpose (before ++ bytes) new
