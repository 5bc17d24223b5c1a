-- A text that reads spells one scenario.
use Rattle.std.proofs.Common.{◌≡◌, ℕ, zero, suc, add-one, ◌<◌, ◌≤◌, List, [], map, length, get_or, set, replicate, Ok, refl, sym, ap, ◌∙◌, subst, arith}
use Rattle.std.specs.Prelude.{◌-◌, sum_by, unwrap_or}
use Rattle.std.specs.List.{range_with_len, AllZip}
use Rattle.std.specs.List.Sorted.{IsPermutation}
use Rattle.std.proofs.lemmas.List.{get_or_default, take_all}
use Rattle.std.proofs.lemmas.List.FromFn.{length-map-range_with_len, get_or-map-range_with_len}
use Rattle.period_rows.specs.declared.part.CellPart.{CellPart}
use Rattle.list_laws.proofs.Matched.{AllZip-from_places}
use Rattle.period_rows.specs.Changes.{RowChange, IsSameChange, AreChanges, HaveRows}
use Rattle.drift_chain.specs.DriftRows.{drift_over, drift_with, part_in, IsDriftRow, IsDrift}
use Rattle.period_rows.specs.Rows.{row_at}
use Rattle.drift_chain.proofs.Drifts.{IsDrift-from_rows}
use Rattle.drift_chain.proofs.DriftChanges.{IsDrift-from_changes}
use Rattle.search_grid.specs.Moves.{moves_from, IsMoveRow, IsGrid}
use Rattle.search_grid.specs.Faults.{HasSameMoves}
use Rattle.sweep_table.specs.LookParts.{LookParts, looks_over, parts_over, IsSweep, IsLookRow}
use Rattle.sweep_table.specs.Changes.{with_changes}
use Rattle.sweep_table.proofs.Changed.{IsSweep-with_changes, ascending_from_right}
use Rattle.search_model.specs.Problem.{Problem}
use Rattle.scenario_text.specs.declared.draft.Stage.TheVariants as due
use Rattle.scenario_text.specs.declared.draft.TextVersion.{TextVersion}
use Rattle.scenario_text.specs.declared.draft.TextVersion.TheVariants.{One, Two}
use Rattle.text_rows.specs.Lines.{lines_of}
use Rattle.text_rows.proofs.LineMachine.{read_told}
use Rattle.scenario_text.specs.State.{State, blank_state, positions_in}
use Rattle.scenario_text.specs.Reading.{Front, scenario_lines, front_of}
use Rattle.scenario_text.specs.Scenarios.{Says, SaysLooks, AreLooksOf, drift_change_of}
use Rattle.scenario_text.specs.Sound.{AreEntries, AreMoves, IsSound}
use Rattle.scenario_text.specs.Laws.{EveryTextSpellsOne}
use Rattle.scenario_text.proofs.Assembled.{moves_of, parts_at, horizon_limits, some_cell, some_position, few_positions, few_steps, drift_limits, look_limits, looks_long, overlook_right, first_entries, Made, problem_says}
use Rattle.scenario_text.proofs.Determined.{one_problem}
use Rattle.scenario_text.proofs.FrontLines.{front_ended}
use Rattle.scenario_text.proofs.Ordered.{in_order, in_order_same}
use Rattle.scenario_text.proofs.PeriodDrifts as drifts
use Rattle.scenario_text.proofs.PeriodLooks as looks
use Rattle.scenario_text.proofs.Places.{Placed, Placed-none, Placed-more}
use Rattle.scenario_text.proofs.RowsInOrder.{cells_in_order, moves_in_order, entries_in_order}
use Rattle.scenario_text.proofs.Soundness.{blank_sound, taken_sound}

-- what is read up to the end is sound
front_sound : (text : List ℕ) (front : Front) → front_of text ≡ Ok front → IsSound front.state
front_sound text front reads =
    let read = read_told scenario_lines blank_state 1 (lines_of text) front refl reads in
    taken_sound read.read blank_state front.state blank_sound read.right

-- The rows in ascending order.
module _ (s : State) (h : IsSound s) (ended : s.stage ≡ due.Ended) where
  cells : ℕ
  cells = length s.names

  positions : ℕ
  positions = length (positions_in s)

  moves_row : ℕ → List ℕ
  moves_row q = in_order (λ m. m) (moves_from s.moves q)

  drift_row : ℕ → List CellPart
  drift_row c = cells_in_order (row_at s.parts c)

  all_moves : List (List ℕ)
  all_moves = map moves_row (range_with_len 0 positions)

  all_parts : List (List CellPart)
  all_parts = map drift_row (range_with_len 0 cells)

  long_moves : length all_moves ≡ positions
  unfolding all_moves
  long_moves = length-map-range_with_len moves_row 0 positions

  long_parts : length all_parts ≡ cells
  unfolding all_parts
  long_parts = length-map-range_with_len drift_row 0 cells

  moves_in : (q : ℕ) → q < positions → moves_from all_moves q ≡ moves_row q
  unfolding all_moves moves_from
  moves_in q lt = get_or-map-range_with_len moves_row 0 positions q q [] lt (omega arith)

  parts_in : (c : ℕ) → c < cells → row_at all_parts c ≡ drift_row c
  unfolding all_parts row_at
  parts_in c lt = get_or-map-range_with_len drift_row 0 cells c c [] lt (omega arith)

  moves_given : (q : ℕ) → q < positions → AreMoves positions (moves_from s.moves q)
  unfolding positions
  moves_given q lt = moves_of s h ended q (omega (arith, lt, h.moves_length))

  parts_given : (c : ℕ) → c < cells → AreEntries cells s.drift (row_at s.parts c)
  unfolding cells
  parts_given c lt = parts_at s h ended c (omega (arith, lt, h.parts_length))

  same_moves : HasSameMoves s.moves all_moves
  unfolding positions moves_row
  same_moves = record {
    cells = long_moves ∙ sym h.moves_length;
    moves = λ q lt. subst (IsPermutation (moves_from s.moves q)) (sym (moves_in q (omega (arith, lt, h.moves_length)))) (in_order_same (λ m. m) (moves_from s.moves q));
  }

  same_parts : AllZip IsPermutation s.parts all_parts
  unfolding all_parts row_at cells drift_row
  same_parts = AllZip-from_places IsPermutation s.parts all_parts (long_parts ∙ sym h.parts_length) (λ c d lt.
      let there : c < length all_parts = omega (arith, lt, h.parts_length, long_parts) in
      rw (get_or_default s.parts c d [] lt, get_or_default all_parts c d [] there)
      (subst (IsPermutation (row_at s.parts c)) (sym (parts_in c (omega (arith, lt, h.parts_length)))) (in_order_same (λ e. e.cell) (row_at s.parts c))))

  right_moves : (q : ℕ) → q < positions → IsMoveRow positions (moves_row q)
  unfolding moves_row
  right_moves q lt = moves_in_order positions (moves_from s.moves q) (moves_given q lt)

  right_parts : (c : ℕ) → c < cells → IsDriftRow s.drift cells (drift_row c)
  unfolding drift_row
  right_parts c lt = entries_in_order cells s.drift (row_at s.parts c) (parts_given c lt)

  grid : IsGrid all_moves
  unfolding positions
  grid = record {
    size = (omega (arith, long_moves, some_position s h ended), omega (arith, long_moves, few_positions s h ended));
    each = λ q lt. let inside : q < positions = omega (arith, lt, long_moves) in subst (λ (n : ℕ). IsMoveRow n (moves_from all_moves q)) (sym long_moves) (subst (IsMoveRow positions) (sym (moves_in q inside)) (right_moves q inside));
  }

  base : IsDrift (drift_over s.drift all_parts)
  unfolding cells
  base =
      IsDrift-from_rows s.drift all_parts cells (sym long_parts) (drift_limits s h ended) (some_cell s h ended, h.few) (λ c lt. subst (IsDriftRow s.drift cells) (sym (parts_in c lt)) (right_parts c lt))

  all_steps : List RowChange
  all_steps = map drifts.change_in_order s.drift_rows

  right_steps : AreChanges 31 (length all_parts) all_steps
  unfolding all_steps cells
  right_steps = subst (λ (n : ℕ). AreChanges 31 n (map drifts.change_in_order s.drift_rows)) (sym long_parts) (drifts.changes_right s.drift (length s.names) (s.horizon - 1) s.drift_rows h.changes.drifts (few_steps s h ended))

  right_step_rows : HaveRows (IsDriftRow s.drift (length all_parts)) all_steps
  unfolding all_steps cells
  right_step_rows =
      subst (λ (n : ℕ). HaveRows (IsDriftRow s.drift n) (map drifts.change_in_order s.drift_rows)) (sym long_parts) (drifts.rows_right s.drift (length s.names) (s.horizon - 1) s.drift_rows h.changes.drifts (few_steps s h ended))

  same_steps : AllZip IsSameChange (map drift_change_of s.drift_rows) all_steps
  unfolding all_steps
  same_steps = drifts.same_in_order s.drift (length s.names) (s.horizon - 1) s.drift_rows h.changes.drifts (few_steps s h ended)

  drift : IsDrift (drift_with (drift_over s.drift all_parts) all_steps)
  drift = IsDrift-from_changes (drift_over s.drift all_parts) all_steps base refl right_steps right_step_rows

  -- The looks.
  prints : LookParts
  prints = with_changes (looks_over s.look cells (map looks.row_in_order s.looks)) (map looks.change_in_order s.look_rows)

  changes_right_here : HaveRows (IsLookRow s.look (length s.names)) (map looks.change_in_order s.look_rows)
  changes_right_here = looks.changes_right s.look (length s.names) (length (positions_in s)) s.horizon s.look_rows h.changes.looks (omega (arith, horizon_limits s h ended))

  prints_right : s.version ≡ Two → IsSweep prints
  unfolding prints cells
  prints_right two =
      let long = looks_long s h ended two in
      let rows = looks.rows_right (length s.names) s.look s.looks h.positions.covered (omega (arith, long, some_position s h ended)) (omega (arith, long, few_positions s h ended)) (some_cell s h ended) h.few (look_limits s h ended) in
      IsSweep-with_changes (looks_over s.look (length s.names) (map looks.row_in_order s.looks)) refl rows (map looks.change_in_order s.look_rows) changes_right_here

  prints_said : s.version ≡ Two → AreLooksOf s prints
  unfolding prints cells
  prints_said two =
      let long = looks_long s h ended two in
      record {
        denominator = refl;
        cells = refl;
        rows = looks.rows_same (length s.names) s.look s.looks h.positions.covered (omega (arith, long, some_position s h ended)) (omega (arith, long, few_positions s h ended)) (some_cell s h ended) h.few;
        changes = looks.changes_same s.look (length s.names) (length (positions_in s)) s.horizon s.look_rows h.changes.looks (omega (arith, horizon_limits s h ended));
        ascending = ascending_from_right s.look (length s.names) (map looks.change_in_order s.look_rows) changes_right_here;
      }

  sweep_in : (v : TextVersion) → s.version ≡ v → (sweep : LookParts) × IsSweep sweep × SaysLooks v s sweep
  sweep_in One one = (parts_over s.look (map (λ o. unwrap_or o 0) s.overlook), overlook_right s h ended one, refl)
  sweep_in Two two = (prints, prints_right two, prints_said two)

  -- The first parts, cell by cell.
  placed : (i : ℕ) → i ≤ length s.first → (parts : List ℕ) × Placed cells s.first i parts
  unfolding cells
  placed zero le = (replicate cells 0, Placed-none cells s.first)
  placed (suc i) le =
      let nothing : CellPart = record { cell = 0; part = 0 } in
      let so_far = placed i (omega arith) in
      let entry = get_or s.first i nothing in
      let more = Placed-more cells (first_entries s h ended).0 s.first (first_entries s h ended).1 i nothing (omega arith) so_far.0 so_far.1 in
      (set so_far.0 entry.cell entry.part, rw (← add-one i) more)

  pub said_once : (p : Problem) × Says s p
  unfolding cells
  said_once =
      let first = placed (length s.first) (omega arith) in
      let whole = take_all (length s.first) s.first (omega arith) in
      let sweep = sweep_in s.version refl in
      let p : Problem = record {
        names = s.names;
        position_names = positions_in s;
        cells = length all_parts;
        positions = length all_moves;
        horizon = s.horizon;
        start = s.start;
        total = s.total;
        first = first.0;
        moves = all_moves;
        drift = drift_with (drift_over s.drift all_parts) all_steps;
        sweep = sweep.0;
      } in
      let made : Made s h ended p = record {
        names = refl;
        position_names = refl;
        cells = refl;
        positions = refl;
        horizon = refl;
        start = refl;
        total = refl;
        first_cells = first.1.cells_are;
        first = λ c lt. first.1.each c lt ∙ ap (λ (es : List CellPart). part_in es c) whole;
        first_total = first.1.total_is ∙ ap (λ (es : List CellPart). sum_by (λ e. e.part) es) whole;
        moves = same_moves;
        grid = grid;
        denominator = refl;
        parts = same_parts;
        changes = same_steps;
        drift = drift;
        looks = sweep.2;
        sweep = sweep.1;
      } in
      (p, problem_says s h ended p made)

pub every_text_spells_one : EveryTextSpellsOne
every_text_spells_one text front reads =
    let sound = front_sound text front reads in
    let said = said_once front.state sound (front_ended text front reads) in
    (said.0, said.1, λ q says. one_problem front.state q said.0 says said.1)
