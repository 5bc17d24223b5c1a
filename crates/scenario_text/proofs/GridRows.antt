-- A grid says what lines of cells and of moves say.
use Rattle.std.proofs.Common.{◌≡◌, ℕ, ◌+◌, ◌*◌, ◌<◌, ◌≤◌, Bool, true, false, cond, List, [], ◌∷◌, map, length, set, replicate, Option, Some, None, Result, Ok, Err, refl, sym, ap, ◌∙◌, subst, arith, inl, inr, ◌⊎◌}
use Rattle.std.specs.Prelude.{codes, not, ◌||◌, nat_lt}
use Rattle.std.specs.Fmt.{decimal}
use Rattle.std.specs.List.{range_with_len, list_all}
use Rattle.std.proofs.lemmas.Slice.Eq.{bytes_eq-Decides}
use Rattle.std.proofs.lemmas.Bool.{not-false, le-ltb, lt-ltb, ltb-false, or_parts, cond_both}
use Rattle.std.proofs.lemmas.Nat.{mul-le}
use Rattle.std.proofs.lemmas.List.{length-map, length-replicate, get_or-replicate}
use Rattle.std.proofs.lemmas.List.Elements.{All-get_or}
use Rattle.std.proofs.lemmas.List.FromFn.{fill_by_all, length-map-range_with_len}
use Rattle.period_rows.specs.declared.part.CellPart.{CellPart}
use Rattle.search_grid.specs.Moves.{IsMoveRow}
use Rattle.search_grid.specs.Sides.{moves_beside, side_moves}
use Rattle.search_grid.proofs.Beside.{IsGrid-from_sides, side_moves_from, length-side_moves}
use Rattle.search_model.specs.Names.{IsName, name_in}
use Rattle.scenario_text.specs.declared.draft.Stage.{Stage}
use Rattle.scenario_text.specs.declared.draft.Stage.TheVariants as due
use Rattle.scenario_text.specs.declared.kind.TextKind.{TextKind}
use Rattle.scenario_text.specs.declared.kind.TextKind.TheVariants.{NotText, BadLine}
use Rattle.text_rows.specs.Fields.{fields_of, is_text_byte, is_word}
use Rattle.text_rows.proofs.RowTexts.{IsField, AreFields, IsField-decimal, word}
use Rattle.exact_parts.proofs.Decimals.{number_at-decimal}
use Rattle.text_rows.proofs.Results.{err_ok, same_ok}
use Rattle.scenario_text.specs.Fields.{entries_in, says_nothing, cell_named}
use Rattle.search_model.specs.Grids.{grid_name, grid_names}
use Rattle.scenario_text.specs.State.{State, by_version}
use Rattle.scenario_text.specs.Reading.{line_at, scenario_lines}
use Rattle.scenario_text.specs.KindTable.{line_due, tests}
use Rattle.scenario_text.specs.Grammar.{position_of, with_name, with_cells, adds, added, unless_any, row_at, fields_at}
use Rattle.scenario_text.specs.declared.line.Line.{Line}
use Rattle.scenario_text.specs.declared.line.Line.TheVariants.{Scenario, Horizon, Parts, Cell, Position, Grid, Start, First, Moves, Drift, DriftIn, Overlook, Spread, Rate, Look, LookIn, End}
use Rattle.scenario_text.proofs.ByCellNames.{moves_by_cells}
use Rattle.scenario_text.proofs.Passed.{passed, begins, not_due, only_read}
use Rattle.scenario_text.proofs.Due.{place_due}
use Rattle.scenario_text.specs.Order.{IsPlace}
use Rattle.scenario_text.specs.declared.draft.TextVersion.{TextVersion}
use Rattle.scenario_text.specs.declared.draft.TextVersion.TheVariants.{One, Two}
use Rattle.scenario_text.specs.Sound.{IsSound}
use Rattle.text_rows.specs.LineMachine.{AreTaken}
use Rattle.text_rows.proofs.LineMachine.{taken_behind}
use Rattle.scenario_text.specs.InRows.{line_text, for_each, GridInRows, GridReadsOn}
use Rattle.scenario_text.specs.RowFields.{cell_row, moves_of}
use Rattle.scenario_text.proofs.FieldTexts.{IsField-name, AreFields-named}
use Rattle.scenario_text.proofs.GridNames.{grid_name-new}
use Rattle.scenario_text.proofs.HeadLines.{cell_line-taken, next_of}
use Rattle.scenario_text.proofs.InRows.{cell_moves, cell_overlook, filled, filled-none, filled-open, filled-next, filled-all, taken_range, unended_rows}
use Rattle.scenario_text.proofs.NamesApart.{named_at}
use Rattle.scenario_text.proofs.RowLines.{names_found, with_moves-taken}
use Rattle.scenario_text.proofs.RowsRead.{Takes, line_at-fields}
use Rattle.scenario_text.proofs.SoundFields.{not_refused}
use Rattle.scenario_text.proofs.SoundHeads.{no_grid}
use Rattle.scenario_text.proofs.SoundNames.{IsName-grid, grid_count, All-grid_names, grid_differ}
use Rattle.scenario_text.proofs.Soundness.{reached_sound}
use Rattle.scenario_text.proofs.RowsBack.{moves_begins}

no_elements : {X : Type 0} (xs : List X) (n : ℕ) → length xs ≡ n → n ≡ 0 → xs ≡ []
no_elements [] n long none = refl
no_elements (x ∷ xs) n long none = absurd (omega (arith, long, none))

-- The cells.

-- a state with these cells, none of which has a row
abbrev with_names : State → Stage → Bool → List (List ℕ) → List (List ℕ) → List (List CellPart) → List (Option ℕ) → State
with_names s stage gridded names moves parts overlook = record s { stage = stage; gridded = gridded; names = names; moves = moves; parts = parts; overlook = overlook }

-- the first k cells of a grid were named
abbrev after_names : State → ℕ → ℕ → State
after_names s cols k =
    with_names s due.Cells false (map (grid_name cols) (range_with_len 0 k)) (map (λ c. []) (range_with_len 0 k)) (map (λ c. []) (range_with_len 0 k)) (map (λ c. None) (range_with_len 0 k))

-- all of them, as the grid names them
abbrev plain : State → List (List ℕ) → State
plain a moves = record a { stage = due.Cells; gridded = false; moves = moves }

same_to : {X : Type 0} (x : X) (n : ℕ) → map (λ c. x) (range_with_len 0 n) ≡ replicate n x
same_to x n = sym (fill_by_all (λ c. x) (replicate n x) n x (length-replicate n x) (λ k lt. get_or-replicate n k x x lt))

none_yet : (s : State) (cols : ℕ) → IsSound s → s.version ≡ One → s.stage ≡ due.Cells → s.names ≡ [] → s ≡ after_names s cols 0
none_yet s cols h one at none =
    let long : length s.names ≡ 0 = ap (λ (ns : List (List ℕ)). length ns) none in
    let ungridded : s.gridded ≡ false = unset s.gridded (no_grid s.stage due.Cells s.gridded at (λ e. let bad : ⊥ = cc in bad) (omega arith) (λ g. (h.cells g).1)) in
    let moves = no_elements s.moves _ (cell_moves s h one) long in
    let parts = no_elements s.parts _ h.parts_length long in
    let overlook = no_elements s.overlook _ (cell_overlook s h one) long in
    let same : with_names s s.stage s.gridded s.names s.moves s.parts s.overlook ≡ after_names s cols 0 = rw (at, ungridded, none, moves, parts, overlook) refl in
    same
  where
    unset : (b : Bool) → (b ≡ true → ⊥) → b ≡ false
    unset true h = absurd (h refl)
    unset false h = refl

next_name : (s : State) (cols k : ℕ) → s.version ≡ One → with_name (after_names s cols k) (grid_name cols k) ≡ after_names s cols (k + 1)
next_name s cols k one = rw (one, next_of (grid_name cols) k (grid_name cols k) refl, next_of {X = List ℕ} (λ c. []) k [] refl, next_of {X = List CellPart} (λ c. []) k [] refl, next_of {X = Option ℕ} (λ c. None) k None refl) refl

cell_begins : (version : TextVersion) (named : Bool) → line_due version due.Cells named (codes "cell") ≡ Some Cell
cell_begins One named = refl
cell_begins Two named = refl

Takes-grid_name : (s : State) (cols k : ℕ) → s.version ≡ One → 1 ≤ cols → k < 200 → Takes (after_names s cols k) (cell_row (grid_name cols k)) (after_names s cols (k + 1))
Takes-grid_name s cols k one some few =
    let long : length (map (grid_name cols) (range_with_len 0 k)) ≡ k = length-map-range_with_len (grid_name cols) 0 k in
    let name = IsName-grid cols k some few in
    record {
      fields = (word (codes "cell") (omega arith) refl, (IsField-name (grid_name cols k) name, tt));
      says = refl;
      taken = begins (after_names s cols k) (codes "cell") (grid_name cols k ∷ []) Cell (cell_begins s.version (nat_lt 0 (length (map (grid_name cols) (range_with_len 0 k)))))
          ∙ cell_line-taken (after_names s cols k) (grid_name cols k) name (omega (arith, long)) (grid_name-new cols k some (omega arith)) ∙ ap Ok (next_name s cols k one);
    }

all_named : (s : State) (rows cols : ℕ) → after_names s cols (rows * cols) ≡ plain (with_cells s rows cols) (replicate (rows * cols) [])
all_named s rows cols =
    rw (same_to {X = List ℕ} [] (rows * cols), same_to {X = List CellPart} [] (rows * cols), same_to {X = Option ℕ} None (rows * cols)) refl

cells_read : (s : State) (rows cols : ℕ) → IsSound s → s.version ≡ One → s.stage ≡ due.Cells → s.names ≡ [] → 1 ≤ cols → rows * cols ≤ 200 → AreTaken scenario_lines s (for_each (rows * cols) (λ c. cell_row (grid_name cols c))) (plain (with_cells s rows cols) (replicate (rows * cols) []))
cells_read s rows cols h one at none some few =
    let lines = for_each (rows * cols) (λ c. cell_row (grid_name cols c)) in
    subst (λ (u : State). AreTaken scenario_lines u lines (plain (with_cells s rows cols) (replicate (rows * cols) []))) (sym (none_yet s cols h one at none))
    (subst (AreTaken scenario_lines (after_names s cols 0) lines) (all_named s rows cols)
    (taken_range (rows * cols) 0 (rows * cols) (λ c. cell_row (grid_name cols c)) (after_names s cols) (omega arith) (λ k lt. Takes-grid_name s cols k one some (omega (arith, lt, few))) (λ k. refl)))

-- The lines of the start and of the first parts.

-- two words aren't one
apart : (word a b : List ℕ) → is_word a b ≡ false → is_word word a ≡ true → is_word word b ≡ false
apart word a b differ is = subst (λ (w : List ℕ). is_word w b ≡ false) (sym ((bytes_eq-Decides word a).0 is)) differ

-- a test that passes, and one that fails
passing : {X : Type 0} (b : Bool) (x y : X) → b ≡ true → cond b x y ≡ x
passing true x y e = refl
passing false x y e = absurd (let bad : ⊥ = cc in bad)

failing : {X : Type 0} (b : Bool) (x y : X) → b ≡ false → cond b x y ≡ y
failing true x y e = absurd (let bad : ⊥ = cc in bad)
failing false x y e = refl

-- a line that says something is read by its fields
line_of_fields : (a : State) (line : List ℕ) → says_nothing (fields_of line) ≡ false → list_all is_text_byte line ≡ true → line_at a line ≡ fields_at a (fields_of line)
unfolding line_at
line_of_fields a line speaks text = rw (speaks, text) refl

read_fields : (a a' : State) (line : List ℕ) → line_at a line ≡ Ok a' → (a' ≡ a) ⊎ ((says_nothing (fields_of line) ≡ false) × (list_all is_text_byte line ≡ true) × (fields_at a (fields_of line) ≡ Ok a'))
unfolding line_at
read_fields a a' line e =
    let G : Result State TextKind → Type 0 = λ r. r ≡ Ok a' → (a' ≡ a) ⊎ ((says_nothing (fields_of line) ≡ false) × (list_all is_text_byte line ≡ true) × (fields_at a (fields_of line) ≡ Ok a')) in
    cond_both (says_nothing (fields_of line)) (Ok a) _ G
    (λ _ e'. inl (sym (same_ok a a' e')))
    (λ speaks e'. let text = not_refused (not (list_all is_text_byte line)) NotText (fields_at a (fields_of line)) a' e' in inr (speaks, not-false (list_all is_text_byte line) text.0, text.1)) e

-- fields that are read begin a line
begun : (g : Stage) (a a' : State) (key : List ℕ) (fields : List (List ℕ)) → a.stage ≡ g → fields_at a (key ∷ fields) ≡ Ok a' → unless_any (tests a (line_due a.version g (nat_lt 0 (length a.names)) key) fields) (added (line_due a.version g (nat_lt 0 (length a.names)) key) a fields) ≡ Ok a'
begun g a a' key fields at e = ap (λ (x : Stage). unless_any (tests a (line_due a.version x (nat_lt 0 (length a.names)) key) fields) (added (line_due a.version x (nat_lt 0 (length a.names)) key) a fields)) (sym at) ∙ e

-- the start of a grid and that behind cells
start_row : (a a' : State) (moves : List (List ℕ)) (fields : List (List ℕ)) → row_at Start a fields ≡ Ok a' → (n : ℕ) × (a' ≡ record a { stage = due.First; start = n }) × (row_at Start (plain a moves) fields ≡ Ok (record (plain a moves) { stage = due.First; start = n }))
start_row a a' moves [] e = absurd (err_ok BadLine a' e)
start_row a a' moves (name ∷ []) e =
    let made = passed (tests a (Some Start) (name ∷ [])) (adds Start a (name ∷ [])) a' (adds Start (plain a moves) (name ∷ [])) e in
    (position_of a name, sym made.0, made.1)
start_row a a' moves (name ∷ more ∷ rest) e = absurd (err_ok BadLine a' e)

start_fields : (a a' : State) (moves : List (List ℕ)) (fields : List (List ℕ)) → a.version ≡ One → a.stage ≡ due.Start → 0 < length a.names → fields_at a fields ≡ Ok a' → (n : ℕ) × (a' ≡ record a { stage = due.First; start = n }) × (fields_at (plain a moves) fields ≡ Ok (record (plain a moves) { stage = due.First; start = n }))
start_fields a a' moves [] one at some e = absurd (err_ok BadLine a' e)
start_fields a a' moves (key ∷ fields) one at some e =
    let is = only_read (is_word key (codes "start")) Start a a' fields (begun due.Start a a' key fields at e) in
    let set = start_row a a' moves fields is.1 in
    let no_cell = apart key (codes "start") (codes "cell") refl is.0 in
    let named = lt-ltb 0 (length a.names) some in
    let here : line_due a.version due.Cells (nat_lt 0 (length a.names)) key ≡ Some Start = ap (λ (v : TextVersion). line_due v due.Cells (nat_lt 0 (length a.names)) key) one ∙ failing _ _ _ no_cell ∙ passing _ _ _ named ∙ passing _ _ _ is.0 in
    (set.0, set.1, begins (plain a moves) key fields Start here ∙ set.2)

start_alike : (a a' : State) (moves : List (List ℕ)) (line : List ℕ) → a.version ≡ One → a.stage ≡ due.Start → 0 < length a.names → line_at a line ≡ Ok a' → (a' ≡ a) ⊎ ((n : ℕ) × (a' ≡ record a { stage = due.First; start = n }) × (line_at (plain a moves) line ≡ Ok (record (plain a moves) { stage = due.First; start = n })))
start_alike a a' moves line one at some e = elim (read_fields a a' line e) [
  | inl silent ↦ inl silent
  | inr said ↦
      let set = start_fields a a' moves (fields_of line) one at some said.2 in
      inr (set.0, set.1, line_of_fields (plain a moves) line said.0 said.1 ∙ set.2)
]

-- the first parts behind either
first_fields : (a a' : State) (moves : List (List ℕ)) (fields : List (List ℕ)) → a.stage ≡ due.First → fields_at a fields ≡ Ok a' → (es : List CellPart) × (a' ≡ record a { stage = due.Rows; first = es }) × (fields_at (record a { gridded = false; moves = moves }) fields ≡ Ok (record a { gridded = false; moves = moves; stage = due.Rows; first = es }))
first_fields a a' moves [] at e = absurd (err_ok BadLine a' e)
first_fields a a' moves (key ∷ fields) at e =
    let b = record a { gridded = false; moves = moves } in
    let is = only_read (is_word key (codes "first")) First a a' fields (begun due.First a a' key fields at e) in
    let made = passed (tests a (Some First) fields) (adds First a fields) a' (adds First b fields) is.1 in
    let here : line_due a.version a.stage (nat_lt 0 (length a.names)) key ≡ Some First = ap (λ (g : Stage). line_due a.version g (nat_lt 0 (length a.names)) key) at ∙ passing _ _ _ is.0 in
    (entries_in a.names fields, sym made.0, begins b key fields First here ∙ made.1)

first_alike : (a a' : State) (moves : List (List ℕ)) (line : List ℕ) → a.stage ≡ due.First → line_at a line ≡ Ok a' → (a' ≡ a) ⊎ ((es : List CellPart) × (a' ≡ record a { stage = due.Rows; first = es }) × (line_at (record a { gridded = false; moves = moves }) line ≡ Ok (record a { gridded = false; moves = moves; stage = due.Rows; first = es })))
first_alike a a' moves line at e = elim (read_fields a a' line e) [
  | inl silent ↦ inl silent
  | inr said ↦
      let set = first_fields a a' moves (fields_of line) at said.2 in
      inr (set.0, set.1, line_of_fields (record a { gridded = false; moves = moves }) line said.0 said.1 ∙ set.2)
]

-- The moves.

-- the rows of a grid are due
abbrev rows_due : State → ℕ → ℕ → List (List ℕ) → State
rows_due s rows cols moves = record s { stage = due.Rows; names = grid_names rows cols; moves = moves }

-- the moves of all its cells, one line each
abbrev move_lines : ℕ → ℕ → List (List ℕ)
move_lines rows cols = for_each (rows * cols) (λ c. moves_of (grid_names rows cols) c (moves_beside rows cols c))

moves_read : (s : State) (rows cols : ℕ) → s.version ≡ One → 1 ≤ rows → 1 ≤ cols → rows * cols ≤ 200 → AreTaken scenario_lines (rows_due s rows cols (replicate (rows * cols) [])) (move_lines rows cols) (rows_due s rows cols (side_moves rows cols))
unfolding side_moves
moves_read s rows cols one some_row some_col few =
    let n = rows * cols in
    let names = grid_names rows cols in
    let of : ℕ → List ℕ = moves_beside rows cols in
    let count : length names ≡ n = grid_count rows cols in
    let found : (c : ℕ) → c < n → cell_named names (name_in names c) ≡ Some c = λ c lt. named_at names (grid_differ rows cols some_col few) c (omega (arith, lt, count)) in
    let field : (c : ℕ) → c < n → IsField (name_in names c) = λ c lt. IsField-name (name_in names c) (All-get_or IsName names c [] (omega (arith, lt, count)) (All-grid_names rows cols some_col few)) in
    let places : by_version s.version names s.positions ≡ names = ap (λ (v : TextVersion). by_version v names s.positions) one in
    let grid = IsGrid-from_sides rows cols some_row some_col few in
    let long = length-side_moves rows cols in
    let after : ℕ → State = λ k. rows_due s rows cols (filled of [] n k) in
    let row : ℕ → List (List ℕ) = λ c. moves_of names c (of c) in
    let first : rows_due s rows cols (replicate n []) ≡ after 0 = ap (rows_due s rows cols) (filled-none of [] n (replicate n []) (length-replicate n []) (λ k lt. get_or-replicate n k [] [] lt)) in
    let last : after n ≡ rows_due s rows cols (side_moves rows cols) = ap (rows_due s rows cols) (filled-all of [] n) in
    let takes : (k : ℕ) → k < n → Takes (after k) (row k) (after (k + 1)) = λ k lt.
    let moves : IsMoveRow n (of k) = subst (λ (m : ℕ). IsMoveRow m (of k)) long (subst (IsMoveRow (length (side_moves rows cols))) (side_moves_from rows cols k lt) (grid.each k (omega (arith, lt, long)))) in
    let short : length (map (name_in names) (of k)) ≡ length (of k) = length-map (of k) (name_in names) in
    let room = le-ltb 64 (length (map (name_in names) (of k))) (omega (arith, moves.few)) in
    let known = names_found names n found (of k) moves.within in
    let own = found k lt in
    record {
      fields = (word (codes "moves") (omega arith) refl, (field k lt, AreFields-named names n field (of k) moves.within));
      says = refl;
      taken = begins (after k) (codes "moves") _ Moves (moves_begins s.version (nat_lt 0 (length names)))
          ∙ sym (moves_by_cells (after k) (name_in names k) (map (name_in names) (of k))) ∙ rw (room, places, own, known) (with_moves-taken (after k) k n (of k) moves (filled-open of [] n k lt)
          ∙ ap (λ (xs : List (List ℕ)). Ok (rows_due s rows cols xs)) (filled-next of [] n k lt));
    } in
    subst (λ (u : State). AreTaken scenario_lines u (move_lines rows cols) (rows_due s rows cols (side_moves rows cols))) (sym first)
    (subst (AreTaken scenario_lines (after 0) (move_lines rows cols)) last (taken_range n 0 n row after (omega arith) takes (λ k. unended_rows due.Rows refl)))

-- The grid.

record IsGridOf (s t : State) (rows cols : ℕ) : Type 0 where
  some_row : 1 ≤ rows
  some_col : 1 ≤ cols
  few : rows * cols ≤ 200
  made : t ≡ with_cells s rows cols

grid_read : (s t : State) (rows cols : ℕ) → s.version ≡ One → s.stage ≡ due.Cells → s.names ≡ [] → rows ≤ 200 → cols ≤ 200 → line_at s (line_text (codes "grid" ∷ decimal rows ∷ decimal cols ∷ [])) ≡ Ok t → IsGridOf s t rows cols
grid_read s t rows cols one at none few_rows few_cols e =
    let fields : AreFields (codes "grid" ∷ decimal rows ∷ decimal cols ∷ []) = (word (codes "grid") (omega arith) refl, (IsField-decimal rows (omega (arith, few_rows)), (IsField-decimal cols (omega (arith, few_cols)), tt))) in
    let here : line_due s.version s.stage (nat_lt 0 (length s.names)) (codes "grid") ≡ Some Grid =
    ap (λ (v : TextVersion). line_due v s.stage (nat_lt 0 (length s.names)) (codes "grid")) one ∙ ap (λ (g : Stage). line_due One g (nat_lt 0 (length s.names)) (codes "grid")) at ∙ ap (λ (ns : List (List ℕ)). line_due One due.Cells (nat_lt 0 (length ns)) (codes "grid")) none in
    let read = sym (begins s (codes "grid") (decimal rows ∷ decimal cols ∷ []) Grid here) ∙ sym (line_at-fields s (codes "grid" ∷ decimal rows ∷ decimal cols ∷ []) fields refl) ∙ e in
    let number = number_at-decimal 200 rows few_rows (omega arith) in
    let number' = number_at-decimal 200 cols few_cols (omega arith) in
    let told = rw (number, number') at read in
    let good = not_refused (nat_lt rows 1 || (nat_lt cols 1 || false)) _ _ t told in
    let parts = or_parts (nat_lt rows 1) (nat_lt cols 1 || false) good.0 in
    let small = not_refused (nat_lt 200 (rows * cols)) _ _ t good.1 in
    record {
      some_row = ltb-false rows 1 parts.0;
      some_col = ltb-false cols 1 (or_parts (nat_lt cols 1) false parts.1).0;
      few = ltb-false 200 (rows * cols) small.0;
      made = sym (same_ok _ t small.1);
    }

-- the first parts and the moves, behind the start
behind_start : (s t : State) (rows cols n : ℕ) (first : List ℕ) → s.version ≡ One → 1 ≤ rows → 1 ≤ cols → rows * cols ≤ 200 → AreTaken scenario_lines (record (with_cells s rows cols) { stage = due.First; start = n }) (first ∷ []) t → t.stage ≡ due.Rows →
    AreTaken scenario_lines (record (plain (with_cells s rows cols) (replicate (rows * cols) [])) { stage = due.First; start = n }) (first ∷ move_lines rows cols) (record t { gridded = false })
behind_start s t rows cols n first one some_row some_col few taken done =
    let b = record (with_cells s rows cols) { stage = due.First; start = n } in
    let none : List (List ℕ) = replicate (rows * cols) [] in
    elim (first_alike b taken.0 none first refl taken.1) [
      | inl silent ↦ absurd (let bad : due.First ≡ due.Rows = ap (λ (x : State). x.stage) (sym silent ∙ taken.3) ∙ done in let false_end : ⊥ = cc in false_end)
      | inr said ↦
          let reached : record b { stage = due.Rows; first = said.0 } ≡ t = sym said.1 ∙ taken.3 in
          let plain_end = record b { gridded = false; stage = due.Rows; first = said.0 } in
          let moves = moves_read plain_end rows cols one some_row some_col few in (
            record plain_end { moves = none },
            said.2,
            refl,
            subst (λ (x : State). AreTaken scenario_lines (record plain_end { moves = none }) (move_lines rows cols) (record x { gridded = false })) reached moves,
          )
    ]

behind_cells : (s t : State) (rows cols : ℕ) (start first : List ℕ) → s.version ≡ One → 1 ≤ rows → 1 ≤ cols → rows * cols ≤ 200 → AreTaken scenario_lines (with_cells s rows cols) (start ∷ first ∷ []) t → t.stage ≡ due.Rows →
    AreTaken scenario_lines (plain (with_cells s rows cols) (replicate (rows * cols) [])) (start ∷ first ∷ move_lines rows cols) (record t { gridded = false })
behind_cells s t rows cols start first one some_row some_col few taken done =
    let a = with_cells s rows cols in
    let none : List (List ℕ) = replicate (rows * cols) [] in
    let count = grid_count rows cols in
    let all : 1 * 1 ≤ rows * cols = mul-le 1 1 rows cols some_row some_col in
    let some : 0 < length a.names = omega (arith, count, all) in
    elim (start_alike a taken.0 none start one refl some taken.1) [
      | inl silent ↦
          let again : line_at a first ≡ Ok taken.3.0 = ap (λ (x : State). line_at x first) (sym silent) ∙ taken.3.1 in
          elim (start_alike a taken.3.0 none first one refl some again) [
            | inl more ↦ absurd (let bad : due.Start ≡ due.Rows = ap (λ (x : State). x.stage) (sym more ∙ taken.3.3) ∙ done in let false_end : ⊥ = cc in false_end)
            | inr set ↦ absurd (let bad : due.First ≡ due.Rows = ap (λ (x : State). x.stage) (sym set.1 ∙ taken.3.3) ∙ done in let false_end : ⊥ = cc in false_end)
          ]
      | inr set ↦
          let rest : AreTaken scenario_lines (record a { stage = due.First; start = set.0 }) (first ∷ []) t = subst (λ (x : State). AreTaken scenario_lines x (first ∷ []) t) set.1 taken.3 in (
            record (plain a none) { stage = due.First; start = set.0 },
            set.2,
            refl,
            behind_start s t rows cols set.0 first one some_row some_col few rest done,
          )
    ]

-- a grid stands in version 1
plain_grid : (version : TextVersion) (s t : State) (rows cols : ℕ) → s.version ≡ version → s.stage ≡ due.Cells → s.names ≡ [] → rows ≤ 200 → cols ≤ 200 → line_at s (line_text (codes "grid" ∷ decimal rows ∷ decimal cols ∷ [])) ≡ Ok t → s.version ≡ One
plain_grid One s t rows cols e at none few_rows few_cols read = e
plain_grid Two s t rows cols e at none few_rows few_cols read =
    let fields : AreFields (codes "grid" ∷ decimal rows ∷ decimal cols ∷ []) = (word (codes "grid") (omega arith) refl, (IsField-decimal rows (omega (arith, few_rows)), (IsField-decimal cols (omega (arith, few_cols)), tt))) in
    let gone : line_due s.version s.stage (nat_lt 0 (length s.names)) (codes "grid") ≡ None =
    ap (λ (v : TextVersion). line_due v s.stage (nat_lt 0 (length s.names)) (codes "grid")) e ∙ ap (λ (g : Stage). line_due Two g (nat_lt 0 (length s.names)) (codes "grid")) at ∙ ap (λ (ns : List (List ℕ)). line_due Two due.Cells (nat_lt 0 (length ns)) (codes "grid")) none in
    absurd (not_due s t (codes "grid") (decimal rows ∷ decimal cols ∷ []) gone (sym (line_at-fields s (codes "grid" ∷ decimal rows ∷ decimal cols ∷ []) fields refl) ∙ read))

pub grid_in_rows : GridInRows
grid_in_rows s t rows cols start first came at none few_rows few_cols taken done =
    let h = reached_sound s came in
    let one = plain_grid s.version s taken.0 rows cols refl at none few_rows few_cols taken.1 in
    let g = grid_read s taken.0 rows cols one at none few_rows few_cols taken.1 in
    let n = rows * cols in
    let behind : AreTaken scenario_lines (with_cells s rows cols) (start ∷ first ∷ []) t = subst (λ (x : State). AreTaken scenario_lines x (start ∷ first ∷ []) t) g.made taken.3 in
    taken_behind scenario_lines (for_each n (λ c. cell_row (grid_name cols c))) (start ∷ first ∷ move_lines rows cols) s (plain (with_cells s rows cols) (replicate n [])) (record t { gridded = false })
    (cells_read s rows cols h one at none g.some_col g.few) (behind_cells s t rows cols start first one g.some_row g.some_col g.few behind done)

-- Behind the moves the mark of a grid only lets `spread` in.

module _ (s : State) where
  abbrev marked : State
  marked = record s { gridded = true }

  -- what is right without the mark is right with it
  kept : (tests : List (Bool × TextKind)) (u t : State) → unless_any tests u ≡ Ok t → unless_any tests (record u { gridded = true }) ≡ Ok (record t { gridded = true })
  kept tests u t e =
      let made = passed tests u t (record u { gridded = true }) e in
      made.1 ∙ ap (λ (x : State). Ok (record x { gridded = true })) made.0

  kept_row : (line : Line) (fields : List (List ℕ)) (t : State) → IsPlace line s.version due.Rows → s.gridded ≡ false → row_at line s fields ≡ Ok t → row_at line marked fields ≡ Ok (record t { gridded = true })
  kept_row Scenario fields t at without e = absurd (let bad : ⊥ = cc in bad)
  kept_row Horizon fields t at without e = absurd (let bad : ⊥ = cc in bad)
  kept_row Parts fields t at without e = absurd (let bad : ⊥ = cc in bad)
  kept_row Cell fields t at without e = absurd (let bad : ⊥ = cc in bad)
  kept_row Position fields t at without e = absurd (omega (arith, at.1))
  kept_row Grid fields t at without e = absurd (let wrong : due.Rows ≡ due.Cells = at.1 in let bad : ⊥ = cc in bad)
  kept_row Start fields t at without e = absurd (omega (arith, at))
  kept_row First fields t at without e = absurd (let bad : ⊥ = cc in bad)
  kept_row Moves [] t at without e = absurd (err_ok BadLine t e)
  kept_row Moves (name ∷ moves) t at without e = kept (tests s (Some Moves) (name ∷ moves)) (adds Moves s (name ∷ moves)) t e
  kept_row Drift [] t at without e = absurd (err_ok BadLine t e)
  kept_row Drift (name ∷ pairs) t at without e = kept (tests s (Some Drift) (name ∷ pairs)) (adds Drift s (name ∷ pairs)) t e
  kept_row DriftIn [] t at without e = absurd (err_ok BadLine t e)
  kept_row DriftIn (period ∷ []) t at without e = absurd (err_ok BadLine t e)
  kept_row DriftIn (period ∷ name ∷ pairs) t at without e = kept (tests s (Some DriftIn) (period ∷ name ∷ pairs)) (adds DriftIn s (period ∷ name ∷ pairs)) t e
  kept_row Overlook [] t at without e = absurd (err_ok BadLine t e)
  kept_row Overlook (name ∷ []) t at without e = absurd (err_ok BadLine t e)
  kept_row Overlook (name ∷ part ∷ []) t at without e = kept (tests s (Some Overlook) (name ∷ part ∷ [])) (adds Overlook s (name ∷ part ∷ [])) t e
  kept_row Overlook (name ∷ part ∷ more ∷ rest) t at without e = absurd (err_ok BadLine t e)
  kept_row Spread [] t at without e = absurd (err_ok BadLine t e)
  kept_row Spread (part ∷ []) t at without e = absurd (let bad : true ≡ false = sym (not-false s.gridded (not_refused (not s.gridded) _ _ t e).0) ∙ without in let none : ⊥ = cc in none)
  kept_row Spread (part ∷ more ∷ rest) t at without e = absurd (err_ok BadLine t e)
  kept_row Rate [] t at without e = absurd (err_ok BadLine t e)
  kept_row Rate (part ∷ []) t at without e = kept (tests s (Some Rate) (part ∷ [])) (adds Rate s (part ∷ [])) t e
  kept_row Rate (part ∷ more ∷ rest) t at without e = absurd (err_ok BadLine t e)
  kept_row Look [] t at without e = absurd (err_ok BadLine t e)
  kept_row Look (name ∷ pairs) t at without e = kept (tests s (Some Look) (name ∷ pairs)) (adds Look s (name ∷ pairs)) t e
  kept_row LookIn [] t at without e = absurd (err_ok BadLine t e)
  kept_row LookIn (period ∷ []) t at without e = absurd (err_ok BadLine t e)
  kept_row LookIn (period ∷ name ∷ pairs) t at without e = kept (tests s (Some LookIn) (period ∷ name ∷ pairs)) (adds LookIn s (period ∷ name ∷ pairs)) t e
  kept_row End fields t at without e = kept (tests s (Some End) fields) (adds End s fields) t e

  kept_due : (o : Option Line) (named : Bool) (word : List ℕ) (fields : List (List ℕ)) (t : State) → line_due s.version due.Rows named word ≡ o → s.gridded ≡ false → unless_any (tests s o fields) (added o s fields) ≡ Ok t → unless_any (tests marked o fields) (added o marked fields) ≡ Ok (record t { gridded = true })
  kept_due None named word fields t is without e = absurd (err_ok BadLine t e)
  kept_due (Some line) named word fields t is without e = kept_row line fields t (place_due s.version due.Rows named word line is) without e

  kept_fields : (fields : List (List ℕ)) (t : State) → s.stage ≡ due.Rows → s.gridded ≡ false → fields_at s fields ≡ Ok t → fields_at marked fields ≡ Ok (record t { gridded = true })
  kept_fields [] t at without e = absurd (err_ok BadLine t e)
  kept_fields (key ∷ fields) t at without e =
      let named = nat_lt 0 (length s.names) in
      let o = line_due s.version due.Rows named key in
      let there : fields_at marked (key ∷ fields) ≡ unless_any (tests marked o fields) (added o marked fields) =
      ap (λ (g : Stage). unless_any (tests marked (line_due s.version g named key) fields) (added (line_due s.version g named key) marked fields)) at in
      there ∙ kept_due o named key fields t refl without (begun due.Rows s t key fields at e)

pub grid_reads_on : GridReadsOn
unfolding line_at
grid_reads_on s t line at without e =
    both (says_nothing (fields_of line)) (not (list_all is_text_byte line)) e
  where
    both : (nothing bytes : Bool) → cond nothing (Ok s) (cond bytes (Err NotText) (fields_at s (fields_of line))) ≡ Ok t → cond nothing (Ok (record s { gridded = true })) (cond bytes (Err NotText) (fields_at (record s { gridded = true }) (fields_of line))) ≡ Ok (record t { gridded = true })
    both true bytes e = ap (λ (x : State). Ok (record x { gridded = true })) (same_ok s t e)
    both false true e = absurd (err_ok NotText t e)
    both false false e = kept_fields s (fields_of line) t at without e
