-- A text that is read line by line: each line is taken or has a fault, up to the line that ends the text.
use Rattle.std.specs.Prelude.{ℕ, ◌≡◌, ◌+◌, ◌⊎◌, Bool, true, false, List, [], ◌∷◌, ◌++◌, length, Result, Ok, Err}

-- what a line makes of what was read, or its kind of fault; whether the text ends there; the kind of a text that stops before;
-- and the fault of that kind in the line of that number
pub record LineMachine (S K F : Type 0) : Type 0 where
  pub step : S → List ℕ → Result S K
  pub ended : S → Bool
  pub early : K
  pub fault : ℕ → K → F

-- what was read up to the line that ends the text, and the number of that line
pub record Reached (S : Type 0) : Type 0 where
  pub state : S
  pub line : ℕ

-- a line was taken: the text ends here, or goes on
abbrev pub unless_ended : {S F : Type 0} → Bool → S → ℕ → Result (Reached S) F → Result (Reached S) F
unless_ended true s number more = Ok (record { state = s; line = number })
unless_ended false s number more = more

-- a fault of a line, or what follows the line
abbrev pub go_on : {S K F : Type 0} → LineMachine S K F → ℕ → Result S K → (S → Result (Reached S) F) → Result (Reached S) F
go_on m number (Err kind) more = Err (m.fault number kind)
go_on m number (Ok s) more = unless_ended (m.ended s) s number (more s)

-- what the lines say, the first of them having this number; the first line with a fault decides
unfoldable pub read_from : {S K F : Type 0} → LineMachine S K F → S → ℕ → List (List ℕ) → Result (Reached S) F
read_from m s number [] = Err (m.fault number m.early)
read_from m s number (line ∷ lines) = go_on m number (m.step s line) (λ t. read_from m t (number + 1) lines)

-- The first fault, in other words than those of reading: the lines before it are right.

-- the text hadn't ended before any of these lines, each of them is right behind those before it, and this is what they say
abbrev pub AreTaken : {S K F : Type 0} → LineMachine S K F → S → List (List ℕ) → S → Type 0
AreTaken m s [] reached = s ≡ reached
AreTaken {S} m s (line ∷ lines) reached = (next : S) × (m.step s line ≡ Ok next) × (m.ended s ≡ false) × AreTaken m next lines reached

-- the first of these lines is wrong behind what was read
pub record IsWrongLine {S K F : Type 0} (m : LineMachine S K F) (s : S) (lines : List (List ℕ)) (kind : K) : Type 0 where
  pub line : List ℕ
  pub more : List (List ℕ)
  pub whole : lines ≡ line ∷ more
  pub wrong : m.step s line ≡ Err kind

-- no line is left, or the first that is left is wrong
abbrev pub HasFault : {S K F : Type 0} → LineMachine S K F → S → List (List ℕ) → K → Type 0
HasFault m s lines kind = ((kind ≡ m.early) × (lines ≡ [])) ⊎ IsWrongLine m s lines kind

-- from here on, where the first line has this number: the lines before it are right, and the text hasn't ended
pub record IsFaultFrom {S K F : Type 0} (m : LineMachine S K F) (s : S) (number : ℕ) (lines : List (List ℕ)) (fault : F) : Type 0 where
  pub before : List (List ℕ)
  pub left : List (List ℕ)
  pub reached : S
  pub kind : K
  pub whole : lines ≡ before ++ left
  pub right : AreTaken m s before reached
  pub goes : m.ended reached ≡ false
  pub here : HasFault m reached left kind
  pub is : fault ≡ m.fault (number + length before) kind
