-- The first kind of fault of a line.
use Rattle.std.specs.Prelude.{Bool, if◌then◌else◌, List, [], ◌∷◌, Option, Some, None, Result, Ok, Err}

-- the first kind whose test holds
abbrev pub first_kind : {K : Type 0} → List (Bool × K) → Option K
first_kind [] = None
first_kind (row ∷ rows) = if row.0 then Some row.1 else first_kind rows

-- the fault of a line that was read
abbrev pub fault_of : {X K : Type 0} → Result X K → Option K
fault_of (Ok read) = None
fault_of (Err kind) = Some kind
