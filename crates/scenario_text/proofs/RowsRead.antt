-- Rows that are taken one after the other.
use Rattle.std.proofs.Common.{◌≡◌, ℕ, zero, suc, ◌+◌, ◌<◌, true, false, List, [], ◌∷◌, ◌++◌, length, map, Ok, refl, sym, ap, ◌∙◌, subst, arith, append_assoc}
use Rattle.std.specs.List.{range_with_len, join_with_byte}
use Rattle.text_rows.specs.Rows.{text_of}
use Rattle.text_rows.specs.Lines.{lines_of, after_lines}
use Rattle.text_rows.proofs.RowTexts.{AreFields, fields_of-join, row_is_text, lines_of-row, after_lines-row}
use Rattle.text_rows.proofs.LineCuts.{after_none}
use Rattle.text_rows.specs.LineMachine.{read_from}
use Rattle.text_rows.proofs.LineMachine.{at_line, at_last}
use Rattle.scenario_text.specs.State.{State}
use Rattle.scenario_text.specs.Fields.{says_nothing}
use Rattle.scenario_text.specs.Reading.{line_at, is_ended, scenario_lines}
use Rattle.scenario_text.specs.Grammar.{fields_at}

-- a state takes a row of fields and becomes another
pub record Takes (s : State) (row : List (List ℕ)) (t : State) : Type 0 where
  pub fields : AreFields row
  pub says : says_nothing row ≡ false
  pub taken : fields_at s row ≡ Ok t

-- from this state on the rows are read up to their end, which is the last line, and cut off, whatever follows them
pub record Reads (s : State) (rows : List (List (List ℕ))) (t : State) : Type 0 where
  pub lines : (number last : ℕ) (rest : List ℕ) → number + length rows ≡ last + 1 → read_from scenario_lines s number (lines_of (text_of rows ++ rest)) ≡ Ok (record { state = t; line = last })
  pub cut : (rest : List ℕ) → after_lines (length rows) (text_of rows ++ rest) ≡ rest

-- a row is read as its fields
pub line_at-fields : (s : State) (row : List (List ℕ)) → AreFields row → says_nothing row ≡ false → line_at s (join_with_byte 32 row) ≡ fields_at s row
unfolding line_at
line_at-fields s row fields says = rw (fields_of-join row fields, says, row_is_text row fields) refl

pub line_at-row : (s t : State) (row : List (List ℕ)) → Takes s row t → line_at s (join_with_byte 32 row) ≡ Ok t
line_at-row s t row h = line_at-fields s row h.fields h.says ∙ h.taken

-- the first row is the first line
lines_of-first : (row : List (List ℕ)) (rows : List (List (List ℕ))) (rest : List ℕ) → AreFields row → lines_of (text_of (row ∷ rows) ++ rest) ≡ join_with_byte 32 row ∷ lines_of (text_of rows ++ rest)
lines_of-first row rows rest h = ap lines_of (append_assoc (join_with_byte 32 row) (10 ∷ text_of rows) rest) ∙ lines_of-row row (text_of rows ++ rest) h

-- and cut off
after_first : (n : ℕ) (row : List (List ℕ)) (rows : List (List (List ℕ))) (rest : List ℕ) → AreFields row → after_lines (suc n) (text_of (row ∷ rows) ++ rest) ≡ after_lines n (text_of rows ++ rest)
after_first n row rows rest h = ap (after_lines (suc n)) (append_assoc (join_with_byte 32 row) (10 ∷ text_of rows) rest) ∙ after_lines-row n row (text_of rows ++ rest) h

-- one row more at the front
pub Reads-row : (s t u : State) (row : List (List ℕ)) (rows : List (List (List ℕ))) → Takes s row t → is_ended t.stage ≡ false → Reads t rows u → Reads s (row ∷ rows) u
Reads-row s t u row rows h unended more = record {
  lines = λ number last rest long. at_line scenario_lines s t number (join_with_byte 32 row) (lines_of (text_of rows ++ rest)) _ (lines_of-first row rows rest h.fields) (line_at-row s t row h) unended ∙ more.lines (number + 1) last rest (omega arith);
  cut = λ rest. after_first (length rows) row rows rest h.fields ∙ more.cut rest;
}

-- the last row
pub Reads-end : (s t : State) (row : List (List ℕ)) → Takes s row t → is_ended t.stage ≡ true → Reads s (row ∷ []) t
Reads-end s t row h ended = record {
  lines = λ number last rest long.
      let here : last ≡ number = omega arith in
      rw here (at_last scenario_lines s t number (join_with_byte 32 row) (lines_of rest) _ (lines_of-first row [] rest h.fields) (line_at-row s t row h) ended);
  cut = λ rest. after_first 0 row [] rest h.fields ∙ sym (after_none rest);
}

-- one row for each number from a up to b
pub Reads-range : (n a b : ℕ) (row : ℕ → List (List ℕ)) (s : ℕ → State) (rows : List (List (List ℕ))) (u : State) → a + n ≡ b → ((k : ℕ) → k < b → Takes (s k) (row k) (s (k + 1))) → ((k : ℕ) → is_ended (s k).stage ≡ false) → Reads (s b) rows u → Reads (s a) (map row (range_with_len a n) ++ rows) u
Reads-range zero a b row s rows u e takes unended rest =
    let here : b ≡ a = omega arith in
    subst (λ (k : ℕ). Reads (s k) rows u) here rest
Reads-range (suc n) a b row s rows u e takes unended rest =
    Reads-row (s a) (s (a + 1)) u (row a) (map row (range_with_len (a + 1) n) ++ rows) (takes a (omega arith)) (unended (a + 1)) (Reads-range n (a + 1) b row s rows u (omega arith) takes unended rest)
