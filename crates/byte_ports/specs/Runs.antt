-- Calls one after the other on a source or a sink, told by what one call gives:
-- the value before it, the bytes of its buffer or piece, its answer, and the value after it.
use Rattle.std.specs.Prelude.{◌≡◌, ℕ, ◌+◌, ◌<◌, ◌≤◌, List, [], ◌++◌, length, take, drop, Result, Ok, Err}
use Rattle.byte_ports.specs.declared.ports.Failed.{Failed}
use Rattle.byte_ports.specs.declared.ports.SinkStop.{SinkStop}

-- So many reads, each of which gave a byte or more, gave these bytes in all.
pub data Gave {S : Type 0} (Gives : S → List ℕ → Result ℕ Failed → S → Type 0) (old : S) : ℕ → List ℕ → S → Type 0 where
  none : Gave Gives old 0 [] old
  more : (reads : ℕ) (bytes to : List ℕ) (n : ℕ) (mid new : S) → Gave Gives old reads bytes mid → Gives mid to (Ok n) new → 0 < n → Gave Gives old (reads + 1) (bytes ++ take n to) new

-- At most so many reads gave these bytes, and the last of them gave none.
pub record ReadsToEnd {S : Type 0} (Gives : S → List ℕ → Result ℕ Failed → S → Type 0) (most : ℕ) (bytes : List ℕ) (old new : S) : Type 0 where
  pub reads : ℕ
  pub mid : S
  pub to : List ℕ
  pub gave : Gave Gives old reads bytes mid
  pub last : Gives mid to (Ok 0) new
  pub few : reads < most

-- At most so many reads gave at most so many bytes, and the last of them failed.
pub record ReadsToFault {S : Type 0} (Gives : S → List ℕ → Result ℕ Failed → S → Type 0) (most limit : ℕ) (old new : S) : Type 0 where
  pub reads : ℕ
  pub bytes : List ℕ
  pub mid : S
  pub to : List ℕ
  pub failure : Failed
  pub gave : Gave Gives old reads bytes mid
  pub last : Gives mid to (Err failure) new
  pub few : reads < most
  pub within : length bytes ≤ limit

-- At most so many reads gave that many bytes.
pub record ReadsCount {S : Type 0} (Gives : S → List ℕ → Result ℕ Failed → S → Type 0) (most count : ℕ) (old new : S) : Type 0 where
  pub reads : ℕ
  pub bytes : List ℕ
  pub gave : Gave Gives old reads bytes new
  pub few : reads ≤ most
  pub exactly : length bytes ≡ count

-- At most so many reads gave at most so many bytes.
pub record ReadsAtMostCount {S : Type 0} (Gives : S → List ℕ → Result ℕ Failed → S → Type 0) (most limit : ℕ) (old new : S) : Type 0 where
  pub reads : ℕ
  pub bytes : List ℕ
  pub gave : Gave Gives old reads bytes new
  pub few : reads ≤ most
  pub within : length bytes ≤ limit

-- Writes, each of which was handed all that was left of the text, took so many of its first bytes.
pub data Took {K : Type 0} (Gives : K → List ℕ → Result ℕ SinkStop → K → Type 0) (text : List ℕ) (old : K) : ℕ → K → Type 0 where
  none : Took Gives text old 0 old
  more : (done n : ℕ) (mid new : K) → Took Gives text old done mid → Gives mid (drop done text) (Ok n) new → 0 < n → Took Gives text old (done + n) new

-- Writes of what was left took a part of the text, and one more was refused.
pub record Stopped {K : Type 0} (Gives : K → List ℕ → Result ℕ SinkStop → K → Type 0) (text : List ℕ) (refusal : SinkStop) (old new : K) : Type 0 where
  pub done : ℕ
  pub mid : K
  pub took : Took Gives text old done mid
  pub unfinished : done < length text
  pub last : Gives mid (drop done text) (Err refusal) new
