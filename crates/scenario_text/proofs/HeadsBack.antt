-- The lines before the rows of what was read are taken one after the other.
use Rattle.std.proofs.Common.{◌≡◌, ℕ, ◌+◌, ◌<◌, ◌≤◌, Bool, true, false, cond, List, [], ◌∷◌, ◌++◌, map, length, take, Option, Some, None, Ok, refl, sym, ap, ◌∙◌, subst, arith}
use Rattle.std.specs.Prelude.{codes, ◌==◌, nat_lt}
use Rattle.std.specs.Fmt.{decimal}
use Rattle.std.specs.Str.{bytes_eq}
use Rattle.std.specs.List.{range_with_len, list_all}
use Rattle.std.proofs.lemmas.Bool.{le-ltb, lt-ltb, lt-leb, ne_eqb}
use Rattle.std.proofs.lemmas.List.{take_more, take_all, get_or-take, length-take-le}
use Rattle.std.proofs.lemmas.List.Elements.{All-get_or}
use Rattle.std.proofs.lemmas.List.Sums.{get_or-le-sum_by}
use Rattle.exact_parts.proofs.Decimals.{number_at-decimal}
use Rattle.period_rows.specs.declared.part.CellPart.{CellPart}
use Rattle.list_laws.proofs.Firsts.{position-none}
use Rattle.search_grid.specs.Moves.{moves_from}
use Rattle.search_model.specs.Names.{IsName, IsRepeated, is_name_byte, name_in}
use Rattle.text_rows.proofs.RowTexts.{IsField-decimal, word}
use Rattle.scenario_text.specs.declared.draft.Stage.{Stage}
use Rattle.scenario_text.specs.declared.draft.Stage.TheVariants as due
use Rattle.scenario_text.specs.declared.draft.TextVersion.{TextVersion}
use Rattle.scenario_text.specs.declared.draft.TextVersion.TheVariants.{One, Two}
use Rattle.scenario_text.specs.declared.line.Line.TheVariants.{Cell, Position, Start, First}
use Rattle.scenario_text.specs.Fields.{cell_named}
use Rattle.scenario_text.specs.State.{State, blank_state, by_version, positions_in}
use Rattle.scenario_text.specs.Reading.{is_ended}
use Rattle.scenario_text.specs.KindTable.{line_due}
use Rattle.scenario_text.specs.Grammar.{with_name, with_position, row_at}
use Rattle.scenario_text.specs.Sound.{AreEntries, IsSound}
use Rattle.scenario_text.specs.RowFields.{entry_fields, cell_row}
use Rattle.scenario_text.specs.StateRows.{position_row, start_rows, name_rows}
use Rattle.scenario_text.proofs.EntryRows.{first_said}
use Rattle.scenario_text.proofs.FieldTexts.{IsField-name, AreFields-entries}
use Rattle.scenario_text.proofs.HeadLines.{cell_line-taken, next_of}
use Rattle.scenario_text.proofs.InRows.{filled}
use Rattle.scenario_text.proofs.NamesApart.{named_before}
use Rattle.scenario_text.proofs.PairTexts.{AreSaid-named, are_pairs-named}
use Rattle.scenario_text.proofs.Passed.{begins}
use Rattle.scenario_text.proofs.Ranges.{map-range-same}
use Rattle.scenario_text.proofs.RowsBack.{by_places, entry_once, found_cell, found_position, field_cell, field_position, before_rows, Reads-moves}
use Rattle.scenario_text.proofs.RowsRead.{Takes, Reads, Reads-row, Reads-range}
use Rattle.scenario_text.proofs.SoundHeads.{reached}

-- the next name isn't among those before it
next_new : (names : List (List ℕ)) → ((c : ℕ) → ¬ IsRepeated names c) → (k : ℕ) → k < length names → cell_named (take k names) (name_in names k) ≡ None
next_new names differ k lt =
    let long : length (take k names) ≡ k = length-take-le k names (omega (arith, lt)) in
    position-none (bytes_eq (name_in names k)) (take k names) [] (λ j below.
    ap (bytes_eq (name_in names k)) (get_or-take k names j [] (omega (arith, below, long))) ∙ named_before names differ j k (omega (arith, below, long)) lt)

-- a position more
position_line-taken : (s : State) (name : List ℕ) → IsName name → length s.positions < 200 → cell_named s.positions name ≡ None → row_at Position s (name ∷ []) ≡ Ok (with_position s name)
position_line-taken s name h few new =
    let short = le-ltb 24 (length name) h.short in
    let room = lt-leb 200 (length s.positions) few in
    let bytes : list_all is_name_byte name ≡ true = h.bytes in
    rw (bytes, short, room, new) refl

-- so many empty rows
abbrev blanks : {X : Type 0} → X → ℕ → List X
blanks x k = map (λ c. x) (range_with_len 0 k)

none_filled : {X : Type 0} (f : ℕ → X) (empty : X) (n : ℕ) → filled f empty n 0 ≡ blanks empty n
none_filled f empty n = map-range-same n 0 (λ c. cond (nat_lt c 0) (f c) empty) (λ c. empty) (λ c low high. rw (le-ltb c 0 (omega arith)) refl)

-- no elements
empty_list : {X : Type 0} (xs : List X) → length xs ≡ 0 → xs ≡ []
empty_list [] none = refl
empty_list (x ∷ xs) none = absurd (omega (arith, none))

-- the stage behind so many positions
abbrev stage_after : ℕ → Stage
stage_after j = cond (j == 0) due.Cells due.Positions

position_begins : (first : Bool) → line_due Two (cond first due.Cells due.Positions) true (codes "position") ≡ Some Position
position_begins true = refl
position_begins false = refl

module _ (s : State) (h : IsSound s) (ended : s.stage ≡ due.Ended) (ungridded : s.gridded ≡ false) where
  total_limits : (1 ≤ s.total) × (s.total ≤ 1000000)
  total_limits = h.settled.total (reached s.stage due.Ended 3 ended (omega arith))

  -- the lines of the start and of the first parts
  abbrev before_first : State
  before_first = record (before_rows s h ended) { stage = due.First; first = [] }

  first_entries : AreEntries (length s.names) s.total s.first
  first_entries = h.first (reached s.stage due.Ended 5 ended (omega arith))

  some_first : (es : List CellPart) → AreEntries (length s.names) s.total es → 0 < length es
  some_first [] are = absurd (let total = are.total in omega (arith, total, total_limits.0))
  some_first (e ∷ es) are = omega arith

  Takes-first : Takes before_first (codes "first" ∷ entry_fields s.names s.first) (before_rows s h ended)
  Takes-first =
      let are = first_entries in
      let found = found_cell s h ended in
      record {
        fields = (word (codes "first") (omega arith) refl, AreFields-entries s.names (length s.names) (field_cell s h ended) s.first are.within (λ i d lt. omega (arith, get_or-le-sum_by (λ e. e.part) s.first i d lt, are.total, total_limits.1)));
        says = refl;
        taken = begins before_first (codes "first") (entry_fields s.names s.first) First refl
            ∙ first_said before_first (entry_fields s.names s.first) s.first (are_pairs-named s.names s.first (some_first s.first are))
            (AreSaid-named s.names (length s.names) found 1 s.first are.within (λ i d lt. omega (arith, get_or-le-sum_by (λ e. e.part) s.first i d lt, are.total, total_limits.1)) are.positive (entry_once s.first are.once)) are.total;
      }

  abbrev before_start : Stage → State
  before_start stage = record before_first { stage = stage; start = 0 }

  start_within : s.start < length (positions_in s)
  start_within = h.start (reached s.stage due.Ended 4 ended (omega arith))

  Takes-start : (stage : Stage) → line_due s.version stage (nat_lt 0 (length s.names)) (codes "start") ≡ Some Start → Takes (before_start stage) (codes "start" ∷ name_in (positions_in s) s.start ∷ []) before_first
  Takes-start stage here =
      let found = found_position s h ended s.start start_within in
      let row : row_at Start (before_start stage) (name_in (positions_in s) s.start ∷ []) ≡ Ok before_first = rw found refl in
      record {
        fields = (word (codes "start") (omega arith) refl, (field_position s h ended s.start start_within, tt));
        says = refl;
        taken = begins (before_start stage) (codes "start") (name_in (positions_in s) s.start ∷ []) Start here ∙ row;
      }

  Reads-start : (stage : Stage) → line_due s.version stage (nat_lt 0 (length s.names)) (codes "start") ≡ Some Start → Reads (before_start stage) (start_rows s) s
  Reads-start stage here =
      Reads-row (before_start stage) before_first s _ _ (Takes-start stage here) refl (Reads-row before_first (before_rows s h ended) s _ _ Takes-first refl (Reads-moves s h ended))

  -- The names.
  abbrev head_at : Stage → TextVersion → List (List ℕ) → List (List ℕ) → List (List ℕ) → List (List CellPart) → List (Option ℕ) → List (Option (List CellPart)) → State
  head_at stage version names positions moves parts overlook looks =
      record blank_state { stage = stage; version = version; horizon = s.horizon; total = s.total; drift = s.drift; look = s.look; names = names; positions = positions; moves = moves; parts = parts; overlook = overlook; looks = looks }

  -- before the start
  head_is : (stage : Stage) → before_start stage ≡ head_at stage s.version s.names s.positions (blanks [] (length s.moves)) (blanks [] (length s.parts)) (blanks None (length s.overlook)) (blanks None (length s.looks))
  head_is stage =
      let moves = none_filled (moves_from s.moves) [] (length s.moves) in
      rw (ungridded, moves, none_filled {X = List CellPart} _ [] (length s.parts), none_filled {X = Option ℕ} _ None (length s.overlook), none_filled {X = Option (List CellPart)} _ None (length s.looks)) refl

  some_cells : (version : TextVersion) → s.version ≡ version → 0 < length s.names
  some_cells One e = let start = start_within in let here : length (positions_in s) ≡ length s.names = ap (λ (v : TextVersion). length (by_version v s.names s.positions)) e in omega (arith, start, here)
  some_cells Two e = some_of s.first first_entries
    where
      some_of : (es : List CellPart) → AreEntries (length s.names) s.total es → 0 < length s.names
      some_of [] are = absurd (let total = are.total in omega (arith, total, total_limits.0))
      some_of (e ∷ es) are = let lt = are.within 0 e (omega arith) in omega (arith, lt)

  named_all : take (length s.names) s.names ≡ s.names
  named_all = take_all (length s.names) s.names (omega arith)

  IsName-at : (k : ℕ) → k < length s.names → IsName (name_in s.names k)
  IsName-at k lt = All-get_or IsName s.names k [] lt h.names

  -- in version 1
  abbrev cells_one : ℕ → State
  cells_one k = head_at due.Cells One (take k s.names) [] (blanks [] k) (blanks [] k) (blanks None k) []

  Takes-cell_one : (k : ℕ) → k < length s.names → Takes (cells_one k) (cell_row (name_in s.names k)) (cells_one (k + 1))
  Takes-cell_one k lt =
      let long : length (take k s.names) ≡ k = length-take-le k s.names (omega (arith, lt)) in
      let next : with_name (cells_one k) (name_in s.names k) ≡ cells_one (k + 1) = rw (sym (take_more s.names k [] lt), next_of {X = List ℕ} (λ c. []) k [] refl, next_of {X = List CellPart} (λ c. []) k [] refl, next_of {X = Option ℕ} (λ c. None) k None refl) refl in
      record {
        fields = (word (codes "cell") (omega arith) refl, (IsField-name (name_in s.names k) (IsName-at k lt), tt));
        says = refl;
        taken = begins (cells_one k) (codes "cell") (name_in s.names k ∷ []) Cell refl ∙ cell_line-taken (cells_one k) (name_in s.names k) (IsName-at k lt) (omega (arith, long, lt, h.few)) (next_new s.names h.differ k lt) ∙ ap Ok next;
      }

  Reads-one : s.version ≡ One → Reads (cells_one 0) (name_rows s) s
  Reads-one one =
      let n = length s.names in
      let unplaced : s.positions ≡ [] = empty_list s.positions (h.positions.cells_alone one) in
      let moves : length s.moves ≡ n = h.moves_length ∙ ap (λ (v : TextVersion). length (by_version v s.names s.positions)) one in
      let overlook : length s.overlook ≡ n = h.overlook_length ∙ ap (λ (v : TextVersion). length (by_version v s.names [])) one in
      let looks : length s.looks ≡ 0 = h.positions.looks_length ∙ h.positions.cells_alone one in
      let whole : before_start due.Cells ≡ cells_one n = head_is due.Cells ∙ rw (one, unplaced, moves, h.parts_length, overlook, looks, named_all) refl in
      let some = lt-ltb 0 n (some_cells One one) in
      let here : line_due s.version due.Cells (nat_lt 0 n) (codes "start") ≡ Some Start = rw (one, some) refl in
      let last : Reads (cells_one n) (start_rows s) s = subst (λ (t : State). Reads t (start_rows s) s) whole (Reads-start due.Cells here) in
      let behind : Reads (cells_one n) (map position_row s.positions ++ start_rows s) s = subst (λ (ps : List (List ℕ)). Reads (cells_one n) (map position_row ps ++ start_rows s) s) (sym unplaced) last in
      subst (λ (rows : List (List (List ℕ))). Reads (cells_one 0) (rows ++ (map position_row s.positions ++ start_rows s)) s) (sym (by_places cell_row s.names []))
      (Reads-range n 0 n (λ k. cell_row (name_in s.names k)) cells_one (map position_row s.positions ++ start_rows s) s (omega arith) Takes-cell_one (λ k. refl) behind)

  -- in version 2
  abbrev cells_two : ℕ → State
  cells_two k = head_at due.Cells Two (take k s.names) [] [] (blanks [] k) [] []

  Takes-cell_two : (k : ℕ) → k < length s.names → Takes (cells_two k) (cell_row (name_in s.names k)) (cells_two (k + 1))
  Takes-cell_two k lt =
      let long : length (take k s.names) ≡ k = length-take-le k s.names (omega (arith, lt)) in
      let next : with_name (cells_two k) (name_in s.names k) ≡ cells_two (k + 1) = rw (sym (take_more s.names k [] lt), next_of {X = List CellPart} (λ c. []) k [] refl) refl in
      record {
        fields = (word (codes "cell") (omega arith) refl, (IsField-name (name_in s.names k) (IsName-at k lt), tt));
        says = refl;
        taken = begins (cells_two k) (codes "cell") (name_in s.names k ∷ []) Cell refl ∙ cell_line-taken (cells_two k) (name_in s.names k) (IsName-at k lt) (omega (arith, long, lt, h.few)) (next_new s.names h.differ k lt) ∙ ap Ok next;
      }

  abbrev placed : ℕ → State
  placed j = head_at (stage_after j) Two s.names (take j s.positions) (blanks [] j) (blanks [] (length s.names)) [] (blanks None j)

  Takes-position : s.version ≡ Two → (j : ℕ) → j < length s.positions → Takes (placed j) (position_row (name_in s.positions j)) (placed (j + 1))
  Takes-position two j lt =
      let long : length (take j s.positions) ≡ j = length-take-le j s.positions (omega (arith, lt)) in
      let name : IsName (name_in s.positions j) = All-get_or IsName s.positions j [] lt h.positions.names in
      let behind = ne_eqb (j + 1) 0 (λ e. omega (arith, e)) in
      let next : with_position (placed j) (name_in s.positions j) ≡ placed (j + 1) = rw (sym (take_more s.positions j [] lt), next_of {X = List ℕ} (λ c. []) j [] refl, next_of {X = Option (List CellPart)} (λ c. None) j None refl, behind) refl in
      let some = lt-ltb 0 (length s.names) (some_cells Two two) in
      let here : line_due Two (stage_after j) (nat_lt 0 (length s.names)) (codes "position") ≡ Some Position = rw some (position_begins (j == 0)) in
      record {
        fields = (word (codes "position") (omega arith) refl, (IsField-name (name_in s.positions j) name, tt));
        says = refl;
        taken = begins (placed j) (codes "position") (name_in s.positions j ∷ []) Position here ∙ position_line-taken (placed j) (name_in s.positions j) name (omega (arith, long, lt, h.positions.few)) (next_new s.positions h.positions.differ j lt) ∙ ap Ok next;
      }

  goes_on : (first : Bool) → is_ended (cond first due.Cells due.Positions) ≡ false
  goes_on true = refl
  goes_on false = refl

  Reads-two : s.version ≡ Two → Reads (cells_two 0) (name_rows s) s
  Reads-two two =
      let n = length s.names in
      let m = length s.positions in
      let start = start_within in
      let places : length (positions_in s) ≡ m = ap (λ (v : TextVersion). length (by_version v s.names s.positions)) two in
      let some_place : 0 < m = omega (arith, start, places) in
      let moves : length s.moves ≡ m = h.moves_length ∙ places in
      let overlook : length s.overlook ≡ 0 = h.overlook_length ∙ ap (λ (v : TextVersion). length (by_version v s.names [])) two in
      let behind = ne_eqb m 0 (λ e. omega (arith, e, some_place)) in
      let all_places : take m s.positions ≡ s.positions = take_all m s.positions (omega arith) in
      let whole : before_start due.Positions ≡ placed m = head_is due.Positions ∙ rw (two, moves, h.parts_length, overlook, h.positions.looks_length, all_places, behind) refl in
      let here : line_due s.version due.Positions (nat_lt 0 n) (codes "start") ≡ Some Start = rw two refl in
      let last : Reads (placed m) (start_rows s) s = subst (λ (t : State). Reads t (start_rows s) s) whole (Reads-start due.Positions here) in
      let positions : Reads (placed 0) (map position_row s.positions ++ start_rows s) s =
      subst (λ (rows : List (List (List ℕ))). Reads (placed 0) (rows ++ start_rows s) s) (sym (by_places position_row s.positions []))
      (Reads-range m 0 m (λ j. position_row (name_in s.positions j)) placed (start_rows s) s (omega arith) (Takes-position two) (λ j. goes_on (j == 0)) last) in
      let named : cells_two n ≡ placed 0 = rw named_all refl in
      subst (λ (rows : List (List (List ℕ))). Reads (cells_two 0) (rows ++ (map position_row s.positions ++ start_rows s)) s) (sym (by_places cell_row s.names []))
      (Reads-range n 0 n (λ k. cell_row (name_in s.names k)) cells_two (map position_row s.positions ++ start_rows s) s (omega arith) Takes-cell_two (λ k. refl) (subst (λ (t : State). Reads t (map position_row s.positions ++ start_rows s) s) (sym named) positions))

  -- The first three lines.
  abbrev begun_at : TextVersion → State
  begun_at version = record blank_state { stage = due.Horizon; version = version }

  abbrev dated_at : TextVersion → State
  dated_at version = record blank_state { stage = due.Parts; version = version; horizon = s.horizon }

  horizon_limits : (1 ≤ s.horizon) × (s.horizon ≤ 32)
  horizon_limits = h.settled.horizon (reached s.stage due.Ended 2 ended (omega arith))

  Takes-horizon : (version : TextVersion) → Takes (begun_at version) (codes "horizon" ∷ decimal s.horizon ∷ []) (dated_at version)
  Takes-horizon version =
      let limits = horizon_limits in
      let number = number_at-decimal 32 s.horizon limits.1 (omega arith) in
      let least = le-ltb s.horizon 1 limits.0 in
      record {
        fields = (word (codes "horizon") (omega arith) refl, (IsField-decimal s.horizon (omega (arith, limits.1)), tt));
        says = refl;
        taken = rw (number, least) refl;
      }

  Takes-parts : (version : TextVersion) → Takes (dated_at version) (codes "parts" ∷ decimal s.total ∷ decimal s.drift ∷ decimal s.look ∷ []) (head_at due.Cells version [] [] [] [] [] [])
  Takes-parts version =
      let drifts = h.settled.drift (reached s.stage due.Ended 3 ended (omega arith)) in
      let looks = h.settled.look (reached s.stage due.Ended 3 ended (omega arith)) in
      let limits = total_limits in
      let total = number_at-decimal 1000000 s.total limits.1 (omega arith) in
      let drift = number_at-decimal 1000000 s.drift drifts.1 (omega arith) in
      let look = number_at-decimal 1000000 s.look looks.1 (omega arith) in
      let least_total = le-ltb s.total 1 limits.0 in
      let least_drift = le-ltb s.drift 1 drifts.0 in
      let least_look = le-ltb s.look 1 looks.0 in
      record {
        fields = (word (codes "parts") (omega arith) refl, (IsField-decimal s.total (omega (arith, limits.1)), (IsField-decimal s.drift (omega (arith, drifts.1)), (IsField-decimal s.look (omega (arith, looks.1)), tt))));
        says = refl;
        taken = rw (total, drift, look, least_total, least_drift, least_look) refl;
      }

  Reads-names : (version : TextVersion) → s.version ≡ version → Reads (head_at due.Cells version [] [] [] [] [] []) (name_rows s) s
  Reads-names One e = Reads-one e
  Reads-names Two e = Reads-two e

  -- all lines behind that of the version
  pub Reads-begun : Reads (begun_at s.version) ((codes "horizon" ∷ decimal s.horizon ∷ []) ∷ (codes "parts" ∷ decimal s.total ∷ decimal s.drift ∷ decimal s.look ∷ []) ∷ name_rows s) s
  Reads-begun =
      Reads-row (begun_at s.version) (dated_at s.version) s _ _ (Takes-horizon s.version) refl
      (Reads-row (dated_at s.version) (head_at due.Cells s.version [] [] [] [] [] []) s _ _ (Takes-parts s.version) refl (Reads-names s.version refl))
