-- What the answer of a reader says of the text.
use Rattle.std.proofs.Common.{◌≡◌, ℕ, Bool, true, false, List, [], ◌∷◌, length, Option, Some, None, Result, Ok, Err, refl, sym, ap, subst, ◌∙◌, arith, ◌⊎◌, inl, inr, true≢false}
use Rattle.std.specs.Prelude.{IfOk}
use Rattle.std.specs.List.{list_any}
use Rattle.std.proofs.lemmas.Bool.{cond_both, or_parts}
use Rattle.search_model.specs.Problem.{Problem}
use Rattle.scenario_text.specs.declared.draft.Draft.{Draft}
use Rattle.scenario_text.specs.declared.kind.TextKind.{TextKind}
use Rattle.scenario_text.specs.declared.kind.TextKind.TheVariants.{NotText, BadLine, BadNumber, OverLimit, UnknownName, DoubleName, MissingRow, DoubleRow, WrongSum, PartOver, NoMove, TooWide, EarlyEnd, Rest}
use Rattle.scenario_text.specs.declared.kind.TextFault.{TextFault}
use Rattle.scenario_text.specs.declared.stop.TextStop.{TextStop}
use Rattle.scenario_text.specs.declared.stop.TextStop.TheVariants.{Fault, NoMemory}
use Rattle.text_rows.specs.Lines.{after_lines}
use Rattle.text_rows.specs.Fields.{fields_of, behind_first}
use Rattle.text_rows.proofs.Results.{err_ok}
use Rattle.scenario_text.specs.Fields.{says_nothing}
use Rattle.scenario_text.specs.State.{State}
use Rattle.scenario_text.specs.Reading.{Front, line_at, alone}
use Rattle.scenario_text.specs.declared.line.Line.{Line}
use Rattle.scenario_text.specs.KindTable.{line_of, tests, tests_of}
use Rattle.scenario_text.specs.Grammar.{added, unless_any}
use Rattle.scenario_text.specs.Faults.{IsFirstFault, IsRest, IsFirstFaultAlone}
use Rattle.scenario_text.specs.Scenarios.{Says, IsFront, IsTextOf, ReadsFront, ReadsAlone}
use Rattle.scenario_text.specs.Gives.{ReadsDraft, Answers, Tells, IfFault}
use Rattle.scenario_text.proofs.Determined.{one_problem}
use Rattle.scenario_text.proofs.FirstFaults.{first_fault_decides, first_fault_decides_alone}

-- No line has the kind that only what follows the end has.
is_rest : TextKind → Bool
is_rest NotText = false
is_rest BadLine = false
is_rest BadNumber = false
is_rest OverLimit = false
is_rest UnknownName = false
is_rest DoubleName = false
is_rest MissingRow = false
is_rest DoubleRow = false
is_rest WrongSum = false
is_rest PartOver = false
is_rest NoMove = false
is_rest TooWide = false
is_rest EarlyEnd = false
is_rest Rest = true

not_rest : (kind : TextKind) → is_rest kind ≡ false → kind ≡ Rest → ⊥
unfolding is_rest
not_rest kind other same = let there : true ≡ false = subst (λ (k : TextKind). is_rest k ≡ false) same other in true≢false there

kind_among : (rows : List (Bool × TextKind)) (t : State) (kind : TextKind) → list_any (λ row. is_rest row.1) rows ≡ false → unless_any rows t ≡ Err kind → is_rest kind ≡ false
kind_among [] t kind none e = absurd (err_ok kind t (sym e))
kind_among (row ∷ rows) t kind none e =
    let parts = or_parts (is_rest row.1) (list_any (λ r. is_rest r.1) rows) none in
    cond_both row.0 (Err row.1) (unless_any rows t) (λ (r : Result State TextKind). r ≡ Err kind → is_rest kind ≡ false)
    (λ _ e'. let same : row.1 ≡ kind = cc in subst (λ (k : TextKind). is_rest k ≡ false) same parts.0)
    (λ _ e'. kind_among rows t kind parts.1 e') e

tests_free : (s : State) (o : Option Line) (fields : List (List ℕ)) → list_any (λ row. is_rest row.1) (tests s o fields) ≡ false
unfolding is_rest
tests_free s None fields = refl
tests_free s (Some line) fields = refl

rows_free : (s : State) (line : List ℕ) → list_any (λ row. is_rest row.1) (tests_of s line) ≡ false
unfolding is_rest
rows_free s line = tests_free s (line_of s (fields_of line)) (behind_first (fields_of line))

kind_free : (s : State) (line : List ℕ) (kind : TextKind) → line_at s line ≡ Err kind → kind ≡ Rest → ⊥
unfolding line_at
kind_free s line kind e =
    not_rest kind
    (cond_both (says_nothing (fields_of line)) (Ok s) (unless_any (tests_of s line) (added (line_of s (fields_of line)) s (behind_first (fields_of line)))) (λ (r : Result State TextKind). r ≡ Err kind → is_rest kind ≡ false)
    (λ _ e'. absurd (err_ok kind s (sym e')))
    (λ _ e'. kind_among (tests_of s line) _ kind (rows_free s line) e') e)

pub first_free : (text : List ℕ) (fault : TextFault) → IsFirstFault text fault → fault.kind ≡ Rest → ⊥
first_free text fault h same =
    let here : h.kind ≡ Rest = ap (λ (f : TextFault). f.kind) (sym h.is) ∙ same in
    elim h.here [
      | inl early ↦ absurd (let bad : EarlyEnd ≡ Rest = sym early.0 ∙ here in let none : ⊥ = cc in none)
      | inr wrong ↦ kind_free h.reached wrong.line h.kind wrong.wrong here
    ]

-- The scenario that a text spells is one.

one_front : (text : List ℕ) (p q : Problem) (n m : ℕ) → IsFront text p n → IsFront text q m → ◌≡◌ {A = Problem × ℕ} (p, n) (q, m)
one_front text p q n m g h =
    let both : Ok g.front ≡ Ok h.front = sym g.read ∙ h.read in
    let front : g.front ≡ h.front = cc in
    let same : p ≡ q = one_problem h.front.state p q (subst (λ (f : Front). Says f.state p) front g.says) h.says in
    let rest : length (after_lines g.front.line text) ≡ length (after_lines h.front.line text) = ap (λ (f : Front). length (after_lines f.line text)) front in
    let long : n ≡ m = omega (arith, g.bytes, h.bytes, rest) in
    rw (same, long) refl

one_text : (text : List ℕ) (p q : Problem) → IsTextOf p text → IsTextOf q text → p ≡ q
one_text text p q g h =
    let both : Ok g.front ≡ Ok h.front = sym g.read ∙ h.read in
    let front : g.front ≡ h.front = cc in
    one_problem h.front.state p q (subst (λ (f : Front). Says f.state p) front g.says) h.says

-- reading stopped
pub stop_front : (text : List ℕ) (draft : Draft) (stop : TextStop) → ReadsDraft text draft (Err stop) → ReadsFront text (Err stop)
stop_front text draft (Fault fault) reads = reads
stop_front text draft NoMemory reads = tt

pub stop_alone : (text : List ℕ) (draft : Draft) (stop : TextStop) → ReadsDraft text draft (Err stop) → ReadsAlone text (Err stop)
stop_alone text draft (Fault fault) reads = ap (alone text) reads
stop_alone text draft NoMemory reads = tt

-- The answer to `read_scenario`.
module _ (text : List ℕ) where
  pub front_text : (result : Result (Problem × ℕ) TextStop) → ReadsFront text result → IfOk result (λ r. IsFront text r.0 r.1)
  front_text (Ok r) reads = reads
  front_text (Err stop) reads = tt

  pub front_spelled : (result : Result (Problem × ℕ) TextStop) → ReadsFront text result → (p : Problem) (n : ℕ) → IsFront text p n → Answers result (p, n)
  front_spelled (Ok r) reads p n h = one_front text r.0 p r.1 n reads h
  front_spelled (Err (Fault fault)) reads p n h = absurd (err_ok fault h.front (sym reads ∙ h.read))
  front_spelled (Err NoMemory) reads p n h = tt

  pub front_first : (result : Result (Problem × ℕ) TextStop) → ReadsFront text result → IfFault result (IsFirstFault text)
  front_first (Ok r) reads = tt
  front_first (Err (Fault fault)) reads = (first_fault_decides text fault).0 reads
  front_first (Err NoMemory) reads = tt

  pub front_faulty : (result : Result (Problem × ℕ) TextStop) → ReadsFront text result → (fault : TextFault) → IsFirstFault text fault → Tells result fault
  front_faulty (Ok r) reads fault h = absurd (err_ok fault reads.front (sym ((first_fault_decides text fault).1 h) ∙ reads.read))
  front_faulty (Err (Fault told)) reads fault h = let both : Err told ≡ Err fault = sym reads ∙ (first_fault_decides text fault).1 h in cc
  front_faulty (Err NoMemory) reads fault h = tt

  pub front_never_rest : (result : Result (Problem × ℕ) TextStop) → ReadsFront text result → IfFault result (λ fault. fault.kind ≡ Rest → ⊥)
  front_never_rest (Ok r) reads = tt
  front_never_rest (Err (Fault fault)) reads = first_free text fault ((first_fault_decides text fault).0 reads)
  front_never_rest (Err NoMemory) reads = tt

  -- The answer to `read_scenario_alone`.
  pub alone_text : (result : Result Problem TextStop) → ReadsAlone text result → IfOk result (λ p. IsTextOf p text)
  alone_text (Ok p) reads = reads
  alone_text (Err stop) reads = tt

  pub alone_spelled : (result : Result Problem TextStop) → ReadsAlone text result → (p : Problem) → IsTextOf p text → Answers result p
  alone_spelled (Ok q) reads p h = one_text text q p reads h
  alone_spelled (Err (Fault fault)) reads p h = absurd (err_ok fault h.front (sym reads ∙ h.read))
  alone_spelled (Err NoMemory) reads p h = tt

  pub alone_first : (result : Result Problem TextStop) → ReadsAlone text result → IfFault result (λ fault. IsFirstFault text fault ⊎ IsRest text fault)
  alone_first (Ok p) reads = tt
  alone_first (Err (Fault fault)) reads = (first_fault_decides_alone text fault).0 reads
  alone_first (Err NoMemory) reads = tt

  told_alone : (result : Result Problem TextStop) → ReadsAlone text result → (fault : TextFault) → IsFirstFaultAlone text fault → Tells result fault
  told_alone (Ok p) reads fault h = absurd (err_ok fault reads.front (sym ((first_fault_decides_alone text fault).1 h) ∙ reads.read))
  told_alone (Err (Fault told)) reads fault h = let both : Err told ≡ Err fault = sym reads ∙ (first_fault_decides_alone text fault).1 h in cc
  told_alone (Err NoMemory) reads fault h = tt

  pub alone_faulty : (result : Result Problem TextStop) → ReadsAlone text result → (fault : TextFault) → IsFirstFault text fault → Tells result fault
  alone_faulty result reads fault h = told_alone result reads fault (inl h)

  pub alone_rest : (result : Result Problem TextStop) → ReadsAlone text result → (fault : TextFault) → IsRest text fault → Tells result fault
  alone_rest result reads fault h = told_alone result reads fault (inr h)

  only_rest : (fault : TextFault) → IsFirstFaultAlone text fault → fault.kind ≡ Rest → IsRest text fault
  only_rest fault h same = elim h [
    | inl first ↦ absurd (first_free text fault first same)
    | inr rest ↦ rest
  ]

  pub alone_no_other_rest : (result : Result Problem TextStop) → ReadsAlone text result → IfFault result (λ fault. fault.kind ≡ Rest → IsRest text fault)
  alone_no_other_rest (Ok p) reads = tt
  alone_no_other_rest (Err (Fault fault)) reads = only_rest fault ((first_fault_decides_alone text fault).0 reads)
  alone_no_other_rest (Err NoMemory) reads = tt
