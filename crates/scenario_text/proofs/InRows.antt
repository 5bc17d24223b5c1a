-- The shorthands say what lines of rows say.
use Rattle.std.proofs.Common.{◌≡◌, ℕ, zero, suc, ◌+◌, ◌-◌, ◌*◌, ◌<◌, ◌≤◌, true, false, cond, List, [], ◌∷◌, map, length, get_or, set, replicate, Option, Some, None, Ok, refl, sym, ap, ◌∙◌, subst, arith, inl, inr, ◌⊎◌}
use Rattle.std.specs.Prelude.{All, codes, not, ◌==◌, nat_lt, is_some, count_by}
use Rattle.std.specs.Fmt.{decimal}
use Rattle.std.specs.List.{range_with_len, list_any}
use Rattle.std.proofs.lemmas.Bool.{le-ltb, lt-ltb, ltb-false, not-false, eq-eqb, ne_eqb, cases_eq, false_from_ne_true}
use Rattle.std.proofs.lemmas.List.{length-replicate, get_or-replicate}
use Rattle.std.proofs.lemmas.List.Elements.{All-get_or}
use Rattle.std.proofs.lemmas.List.FromFn.{fill_by_all, get_or-map-range_with_len}
use Rattle.std.proofs.lemmas.List.Sums.{sum_by-cons, get_or-le-sum_by}
use Rattle.period_rows.specs.declared.part.CellPart.{CellPart}
use Rattle.search_grid.specs.Moves.{moves_from}
use Rattle.search_model.specs.Names.{IsName, name_in}
use Rattle.scenario_text.specs.declared.draft.Stage.{Stage}
use Rattle.scenario_text.specs.declared.draft.Stage.TheVariants as due
use Rattle.scenario_text.specs.ByCells.{stands_in, has_double}
use Rattle.search_model.specs.Grids.{spread_row, spread_rows}
use Rattle.scenario_text.specs.State.{State, by_version}
use Rattle.scenario_text.specs.declared.line.Line.{Line}
use Rattle.scenario_text.specs.declared.line.Line.TheVariants.{Drift, Overlook, Spread, Rate}
use Rattle.scenario_text.specs.KindTable.{row_due, period_row_due, line_due}
use Rattle.scenario_text.specs.Grammar.{fields_at}
use Rattle.scenario_text.proofs.Passed.{begins, not_due}
use Rattle.scenario_text.proofs.EntryRows.{drift_said}
use Rattle.scenario_text.specs.declared.draft.TextVersion.{TextVersion}
use Rattle.scenario_text.specs.declared.draft.TextVersion.TheVariants.{One, Two}
use Rattle.scenario_text.specs.Sound.{AreEntries, AreMoves, IsSound}
use Rattle.text_rows.specs.LineMachine.{AreTaken}
use Rattle.scenario_text.specs.Reading.{is_ended, scenario_lines}
use Rattle.scenario_text.specs.InRows.{line_text, for_each, RateInRows, SpreadInRows}
use Rattle.scenario_text.specs.RowFields.{entry_fields, drift_of, overlook_of}
use Rattle.text_rows.proofs.RowTexts.{IsField, AreFields, IsField-decimal, word}
use Rattle.exact_parts.proofs.Decimals.{number_at-decimal}
use Rattle.list_laws.proofs.Sums.{sum_by-map}
use Rattle.scenario_text.proofs.FieldTexts.{IsField-name, AreFields-entries}
use Rattle.scenario_text.proofs.NamesApart.{named_at}
use Rattle.scenario_text.proofs.PairTexts.{AreSaid-named, are_pairs-named}
use Rattle.scenario_text.proofs.Ranges.{map-range-same, set-map-range}
use Rattle.scenario_text.proofs.RowLines.{among_more, overlook-taken}
use Rattle.scenario_text.proofs.RowsRead.{Takes, line_at-fields, line_at-row}
use Rattle.scenario_text.proofs.SoundFields.{not_refused, none_pass}
use Rattle.scenario_text.proofs.SoundHeads.{reached}
use Rattle.scenario_text.proofs.SoundRows.{AreEntries-spread, own_row, moves_at}
use Rattle.scenario_text.proofs.Soundness.{reached_sound}

-- A list that is filled from the front.
module _ {X : Type 0} (f : ℕ → X) (empty : X) (n : ℕ) where
  abbrev pub filled : ℕ → List X
  filled k = map (λ c. cond (nat_lt c k) (f c) empty) (range_with_len 0 n)

  pub filled-none : (xs : List X) → length xs ≡ n → ((k : ℕ) → k < n → get_or xs k empty ≡ empty) → xs ≡ filled 0
  filled-none xs long each = fill_by_all (λ c. cond (nat_lt c 0) (f c) empty) xs n empty long (λ k lt. each k lt ∙ rw (le-ltb k 0 (omega arith)) refl)

  pub filled-open : (k : ℕ) → k < n → get_or (filled k) k empty ≡ empty
  filled-open k lt = get_or-map-range_with_len (λ c. cond (nat_lt c k) (f c) empty) 0 n k k empty lt (omega arith) ∙ rw (le-ltb k k (omega arith)) refl

  pub filled-next : (k : ℕ) → k < n → set (filled k) k (f k) ≡ filled (k + 1)
  filled-next k lt =
      let own : f k ≡ cond (nat_lt k (k + 1)) (f k) empty = rw (lt-ltb k (k + 1) (omega arith)) refl in
      ap (set (filled k) k) own
      ∙ set-map-range n 0 k k (λ c. cond (nat_lt c k) (f c) empty) (λ c. cond (nat_lt c (k + 1)) (f c) empty) lt (omega arith) (λ c other. rw (among_more c k other) refl)

  pub filled-all : filled n ≡ map f (range_with_len 0 n)
  filled-all = map-range-same n 0 (λ c. cond (nat_lt c n) (f c) empty) f (λ c low high. rw (lt-ltb c n (omega arith)) refl)

-- One line for each number.
pub taken_range : (n a b : ℕ) (row : ℕ → List (List ℕ)) (s : ℕ → State) → a + n ≡ b → ((k : ℕ) → k < b → Takes (s k) (row k) (s (k + 1))) → ((k : ℕ) → is_ended (s k).stage ≡ false) → AreTaken scenario_lines (s a) (map (λ c. line_text (row c)) (range_with_len a n)) (s b)
taken_range zero a b row s e takes unended = let here : a ≡ b = omega arith in ap s here
taken_range (suc n) a b row s e takes unended =
    (s (a + 1), line_at-row (s a) (s (a + 1)) (row a) (takes a (omega arith)), unended a, taken_range n (a + 1) b row s (omega arith) takes unended)

pub unended_rows : (stage : Stage) → stage ≡ due.Rows → is_ended stage ≡ false
unended_rows stage at = ap is_ended at

-- what holds of the cells of what was read
field_in : (s : State) → IsSound s → (c : ℕ) → c < length s.names → IsField (name_in s.names c)
field_in s h c lt = IsField-name (name_in s.names c) (All-get_or IsName s.names c [] lt h.names)

-- a row of version 1, by its keyword
pub row_begins : (s : State) (word : List ℕ) (line : Line) → s.version ≡ One → s.stage ≡ due.Rows → row_due word ≡ Some line → line_due s.version s.stage (nat_lt 0 (length s.names)) word ≡ Some line
row_begins s word line one at is = ap (λ (v : TextVersion). line_due v s.stage (nat_lt 0 (length s.names)) word) one ∙ ap (λ (g : Stage). line_due One g (nat_lt 0 (length s.names)) word) at ∙ is

-- a row that version 2 doesn't have stands in version 1
plain_row : (version : TextVersion) (s t : State) (word : List ℕ) (fields : List (List ℕ)) → s.version ≡ version → s.stage ≡ due.Rows → period_row_due word ≡ None → fields_at s (word ∷ fields) ≡ Ok t → s.version ≡ One
plain_row One s t word fields e at none read = e
plain_row Two s t word fields e at none read =
    absurd (not_due s t word fields (ap (λ (v : TextVersion). line_due v s.stage (nat_lt 0 (length s.names)) word) e ∙ ap (λ (g : Stage). line_due Two g (nat_lt 0 (length s.names)) word) at ∙ none) read)

-- in version 1 each cell has its row of moves, and its overlook part
pub cell_moves : (s : State) → IsSound s → s.version ≡ One → length s.moves ≡ length s.names
cell_moves s h one = h.moves_length ∙ ap (λ (v : TextVersion). length (by_version v s.names s.positions)) one

pub cell_overlook : (s : State) → IsSound s → s.version ≡ One → length s.overlook ≡ length s.names
cell_overlook s h one = h.overlook_length ∙ ap (λ (v : TextVersion). length (by_version v s.names [])) one

-- `rate PART`
none_some : (os : List (Option ℕ)) → list_any (λ o. is_some o) os ≡ false → (k : ℕ) → k < length os → get_or os k None ≡ None
none_some os none k lt = empty_of (get_or os k None) (none_pass (λ o. is_some o) os none k None lt)
  where
    empty_of : (o : Option ℕ) → is_some o ≡ false → o ≡ None
    empty_of None e = refl
    empty_of (Some n) e = absurd (let bad : ⊥ = cc in bad)

pub rate_in_rows : RateInRows
rate_in_rows s t part came at few e =
    let h = reached_sound s came in
    let n = length s.names in
    let number = number_at-decimal 1000000 part few (omega arith) in
    let least = le-ltb part 0 (omega arith) in
    let fields : AreFields (codes "rate" ∷ decimal part ∷ []) = (word (codes "rate") (omega arith) refl, (IsField-decimal part (omega (arith, few)), tt)) in
    let one = plain_row s.version s t (codes "rate") (decimal part ∷ []) refl at refl (sym (line_at-fields s (codes "rate" ∷ decimal part ∷ []) fields refl) ∙ e) in
    let read = sym (begins s (codes "rate") (decimal part ∷ []) Rate (row_begins s (codes "rate") Rate one at refl)) ∙ sym (line_at-fields s (codes "rate" ∷ decimal part ∷ []) fields refl) ∙ e in
    let told = rw (number, least) at read in
    let new = not_refused (list_any (λ o. is_some o) s.overlook) _ _ t told in
    let within = not_refused (nat_lt s.look part) _ _ t new.1 in
    let le = ltb-false s.look part within.0 in
    let after : ℕ → State = λ k. record s { overlook = filled (λ c. Some part) None n k } in
    let row : ℕ → List (List ℕ) = λ c. overlook_of s.names c part in
    let first : s ≡ after 0 = ap (λ (xs : List (Option ℕ)). record s { overlook = xs }) (filled-none (λ c. Some part) None n s.overlook (cell_overlook s h one) (λ k lt. none_some s.overlook new.0 k (omega (arith, lt, cell_overlook s h one)))) in
    let full : replicate n (Some part) ≡ filled (λ c. Some part) None n n = fill_by_all (λ c. Some part) (replicate n (Some part)) n None (length-replicate n (Some part)) (λ k lt. get_or-replicate n k (Some part) None lt) ∙ sym (filled-all (λ c. Some part) None n) in
    let made : record s { overlook = replicate n (Some part) } ≡ t = cc in
    let last : after n ≡ t = ap (λ (xs : List (Option ℕ)). record s { overlook = xs }) (sym full) ∙ made in
    let takes : (k : ℕ) → k < n → Takes (after k) (row k) (after (k + 1)) = λ k lt.
    let found = named_at s.names h.differ k lt in
    record {
      fields = (word (codes "overlook") (omega arith) refl, (field_in s h k lt, (IsField-decimal part (omega (arith, few)), tt)));
      says = refl;
      taken = begins (after k) (codes "overlook") _ Overlook (row_begins (after k) (codes "overlook") Overlook one at refl)
          ∙ overlook-taken (after k) (name_in s.names k) k part found few le (filled-open (λ c. Some part) None n k lt)
          ∙ ap (λ (xs : List (Option ℕ)). Ok (record s { overlook = xs })) (filled-next (λ c. Some part) None n k lt);
    } in (
      subst (λ (u : State). AreTaken scenario_lines u (for_each n row) t) (sym first)
          (subst (AreTaken scenario_lines (after 0) (for_each n row)) last (taken_range n 0 n row after (omega arith) takes (λ k. unended_rows s.stage at))),
      ap (λ (u : State). u.stage) (sym last) ∙ at,
    )

-- `spread PART`

-- cells of which each is counted once at most don't stand twice
stands_counted : (c : ℕ) (cs : List ℕ) → stands_in (Some c) (map Some cs) ≡ true → 1 ≤ count_by (λ d. d == c) cs
stands_counted c [] e = absurd (let bad : ⊥ = cc in bad)
stands_counted c (d ∷ cs) e =
    let step = sum_by-cons (λ m. cond (m == c) 1 0) d cs in
    elim (cases_eq d c) [
      | inl same ↦ let one = eq-eqb d c same in rw (step, one) (omega arith)
      | inr apart ↦
          let zero_here = ne_eqb d c apart in
          let more : stands_in (Some c) (map Some cs) ≡ true = rw zero_here at e in
          omega (arith, step, stands_counted c cs more)
    ]

pub once_differ : (cs : List ℕ) → ((d : ℕ) → count_by (λ m. m == d) cs ≤ 1) → has_double (map Some cs) ≡ false
unfolding has_double
once_differ [] once = refl
once_differ (c ∷ cs) once =
    let step = sum_by-cons (λ m. cond (m == c) 1 0) c cs in
    let own = eq-eqb c c refl in
    let counted : count_by (λ m. m == c) (c ∷ cs) ≡ 1 + count_by (λ m. m == c) cs = step ∙ rw own refl in
    let alone : stands_in (Some c) (map Some cs) ≡ false = false_from_ne_true _ (λ e. let some = stands_counted c cs e in let most = once c in omega (arith, some, most, counted)) in
    let fewer : (d : ℕ) → count_by (λ m. m == d) cs ≤ 1 = λ d. let next = sum_by-cons (λ m. cond (m == d) 1 0) c cs in let most = once d in omega (arith, next, most) in
    rw alone (once_differ cs fewer)

some_of : (cells denominator : ℕ) (es : List CellPart) → AreEntries cells denominator es → 1 ≤ denominator → 0 < length es
some_of cells denominator [] are low = absurd (omega (arith, are.total))
some_of cells denominator (e ∷ es) are low = omega arith

small_of : (cells denominator most : ℕ) (es : List CellPart) → AreEntries cells denominator es → denominator ≤ most → All (λ e. e.part ≤ most) es
small_of cells denominator most es are le = λ i d lt. omega (arith, get_or-le-sum_by (λ e. e.part) es i d lt, are.total)

none_there : (rows : List (List CellPart)) → list_any (λ row. nat_lt 0 (length row)) rows ≡ false → (k : ℕ) → k < length rows → get_or rows k [] ≡ []
none_there rows none k lt = empty_of (get_or rows k []) (none_pass (λ row. nat_lt 0 (length row)) rows none k [] lt)
  where
    empty_of : (row : List CellPart) → nat_lt 0 (length row) ≡ false → row ≡ []
    empty_of [] e = refl
    empty_of (x ∷ xs) e = absurd (let le = ltb-false 0 (length (x ∷ xs)) e in omega (arith, le))

-- the row of a cell of a grid, where its side neighbours don't take more than all
spread_entries : (s : State) (part : ℕ) → IsSound s → s.version ≡ One → s.gridded ≡ true → list_any (λ row. nat_lt s.drift (part * (length row - 1))) s.moves ≡ false → (c : ℕ) → c < length s.names → AreEntries (length s.names) s.drift (spread_row s.drift part c (moves_from s.moves c))
spread_entries s part h one gridded narrow c lt =
    let rows = subst (λ (v : TextVersion). All (λ row. (length row ≡ 0) ⊎ AreMoves (length (by_version v s.names s.positions)) row) s.moves) one h.moves in
    let within : c < length s.moves = omega (arith, lt, cell_moves s h one) in
    let own = h.own gridded c within in
    let same = moves_at s.moves c in
    let P : List ℕ → Type 0 = λ row. (length row ≡ 0) ⊎ AreMoves (length s.names) row in
    let moves = own_row (length s.names) c (moves_from s.moves c) (subst P (sym same) (rows c [] within)) own in
    let fails : nat_lt s.drift (part * (length (moves_from s.moves c) - 1)) ≡ false = rw same (none_pass (λ row. nat_lt s.drift (part * (length row - 1))) s.moves narrow c [] within) in
    AreEntries-spread (length s.names) s.drift part c (moves_from s.moves c) moves own (ltb-false _ _ fails)

pub spread_in_rows : SpreadInRows
spread_in_rows s t part came at few e =
    let h = reached_sound s came in
    let n = length s.names in
    let number = number_at-decimal 1000000 part few (omega arith) in
    let least = le-ltb part 0 (omega arith) in
    let limits = h.settled.drift (reached s.stage due.Rows 3 at (omega arith)) in
    let fields : AreFields (codes "spread" ∷ decimal part ∷ []) = (word (codes "spread") (omega arith) refl, (IsField-decimal part (omega (arith, few)), tt)) in
    let one = plain_row s.version s t (codes "spread") (decimal part ∷ []) refl at refl (sym (line_at-fields s (codes "spread" ∷ decimal part ∷ []) fields refl) ∙ e) in
    let read = sym (begins s (codes "spread") (decimal part ∷ []) Spread (row_begins s (codes "spread") Spread one at refl)) ∙ sym (line_at-fields s (codes "spread" ∷ decimal part ∷ []) fields refl) ∙ e in
    let told = rw (number, least) at read in
    let gridded = not_refused (not s.gridded) _ _ t told in
    let new = not_refused (list_any (λ row. nat_lt 0 (length row)) s.parts) _ _ t gridded.1 in
    let narrow = not_refused (list_any (λ row. nat_lt s.drift (part * (length row - 1))) s.moves) _ _ t new.1 in
    let of : ℕ → List CellPart = λ c. spread_row s.drift part c (moves_from s.moves c) in
    let after : ℕ → State = λ k. record s { parts = filled of [] n k } in
    let row : ℕ → List (List ℕ) = λ c. drift_of s.names c (of c) in
    let first : s ≡ after 0 = ap (λ (xs : List (List CellPart)). record s { parts = xs }) (filled-none of [] n s.parts h.parts_length (λ k lt. none_there s.parts new.0 k (omega (arith, lt, h.parts_length)))) in
    let long : map of (range_with_len 0 (length s.moves)) ≡ filled of [] n n = ap (λ (m : ℕ). map of (range_with_len 0 m)) (cell_moves s h one) ∙ sym (filled-all of [] n) in
    let made : record s { parts = spread_rows s.drift part s.moves } ≡ t = cc in
    let last : after n ≡ t = ap (λ (xs : List (List CellPart)). record s { parts = xs }) (sym long) ∙ made in
    let takes : (k : ℕ) → k < n → Takes (after k) (row k) (after (k + 1)) = λ k lt.
    let found = named_at s.names h.differ k lt in
    let are = spread_entries s part h one (not-false _ gridded.0) narrow.0 k lt in
    let small = small_of n s.drift 1000000 (of k) are limits.1 in
    let differ = once_differ (map (λ e. e.cell) (of k)) (λ d. let same = sum_by-map (λ m. cond (m == d) 1 0) (λ e. e.cell) (of k) in let most = are.once d in omega (arith, same, most)) in
    let even = are_pairs-named s.names (of k) (some_of n s.drift (of k) are limits.0) in
    record {
      fields = (word (codes "drift") (omega arith) refl, (field_in s h k lt, AreFields-entries s.names n (field_in s h) (of k) are.within small));
      says = refl;
      taken = begins (after k) (codes "drift") _ Drift (row_begins (after k) (codes "drift") Drift one at refl)
          ∙ drift_said (after k) (name_in s.names k) k (entry_fields s.names (of k)) (of k) found even (AreSaid-named s.names n (named_at s.names h.differ) 1 (of k) are.within small are.positive differ) are.total (filled-open of [] n k lt)
          ∙ ap (λ (xs : List (List CellPart)). Ok (record s { parts = xs })) (filled-next of [] n k lt);
    } in (
      subst (λ (u : State). AreTaken scenario_lines u (for_each n row) t) (sym first)
          (subst (AreTaken scenario_lines (after 0) (for_each n row)) last (taken_range n 0 n row after (omega arith) takes (λ k. unended_rows s.stage at))),
      ap (λ (u : State). u.stage) (sym last) ∙ at,
    )
