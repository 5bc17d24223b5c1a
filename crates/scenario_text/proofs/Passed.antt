-- A line that is right passes each test of its row, and what it adds is what is read.
use Rattle.std.proofs.Common.{◌≡◌, ℕ, Bool, true, false, cond, List, [], ◌∷◌, length, Option, Some, None, Result, Ok, Err, refl, sym, ap, ◌∙◌}
use Rattle.std.specs.Prelude.{nat_lt}
use Rattle.scenario_text.specs.declared.kind.TextKind.{TextKind}
use Rattle.scenario_text.specs.declared.kind.TextKind.TheVariants.{BadLine}
use Rattle.scenario_text.specs.declared.line.Line.{Line}
use Rattle.text_rows.proofs.Results.{err_ok, same_ok}
use Rattle.scenario_text.specs.State.{State}
use Rattle.scenario_text.specs.KindTable.{line_due, tests}
use Rattle.scenario_text.specs.Grammar.{added, unless_any, row_at, fields_at}

-- one test
passed_one : (b : Bool) (kind : TextKind) (r r' : Result State TextKind) (P : Type 0) (t other : State) → (r ≡ Ok t → P × (r' ≡ Ok other)) → cond b (Err kind) r ≡ Ok t → P × (cond b (Err kind) r' ≡ Ok other)
passed_one true kind r r' P t other rest e = absurd (err_ok kind t e)
passed_one false kind r r' P t other rest e = rest e

-- whatever else would be added
pub passed : (tests : List (Bool × TextKind)) (made t other : State) → unless_any tests made ≡ Ok t → (made ≡ t) × (unless_any tests other ≡ Ok other)
passed [] made t other e = (same_ok made t e, refl)
passed (test ∷ tests) made t other e = passed_one test.0 test.1 (unless_any tests made) (unless_any tests other) (made ≡ t) t other (passed tests made t other) e

-- the fields begin this line
pub begins : (s : State) (word : List ℕ) (fields : List (List ℕ)) (line : Line) → line_due s.version s.stage (nat_lt 0 (length s.names)) word ≡ Some line → fields_at s (word ∷ fields) ≡ row_at line s fields
begins s word fields line e = ap (λ (o : Option Line). unless_any (tests s o fields) (added o s fields)) e

-- where the fields begin no line, they aren't read
pub not_due : (s t : State) (word : List ℕ) (fields : List (List ℕ)) → line_due s.version s.stage (nat_lt 0 (length s.names)) word ≡ None → fields_at s (word ∷ fields) ≡ Ok t → ⊥
not_due s t word fields none e = err_ok BadLine t (sym (ap (λ (o : Option Line). unless_any (tests s o fields) (added o s fields)) none) ∙ e)

-- the one line that is due was read
pub only_read : (b : Bool) (line : Line) (s t : State) (fields : List (List ℕ)) → unless_any (tests s (cond b (Some line) None) fields) (added (cond b (Some line) None) s fields) ≡ Ok t → (b ≡ true) × (row_at line s fields ≡ Ok t)
only_read true line s t fields e = (refl, e)
only_read false line s t fields e = absurd (err_ok BadLine t e)
