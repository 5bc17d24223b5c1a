-- What the canonical text says is sound.
use Rattle.std.proofs.Common.{◌≡◌, ◌≢◌, ℕ, ◌-◌, ◌<◌, ◌≤◌, Bool, false, cond, List, [], ◌∷◌, map, length, get_or, Option, Some, refl, sym, ap, ◌∙◌, subst, arith, inr, All, ◌⊎◌}
use Rattle.std.specs.Prelude.{◌==◌, is_none, count_by}
use Rattle.std.specs.List.{list_any, range_with_len}
use Rattle.std.proofs.lemmas.Bool.{ne_eqb}
use Rattle.std.proofs.lemmas.List.Elements.{All-map, All-nil, All-weaker, All-filter, All-from_get_or, All-head, All-tail}
use Rattle.std.proofs.lemmas.List.FromFn.{length-map-range_with_len, get_or-map-range_with_len}
use Rattle.list_laws.proofs.Ascending.{Ascends-from_keys, count_at-le}
use Rattle.list_laws.proofs.Sums.{sum_by-map}
use Rattle.period_rows.specs.declared.part.CellPart.{CellPart}
use Rattle.drift_chain.specs.DriftRows.{row_of, IsDriftRow}
use Rattle.search_grid.specs.Moves.{moves_from}
use Rattle.sweep_table.specs.LookParts.{look_row, factor_of}
use Rattle.sweep_table.proofs.Factors.{factor_of-le}
use Rattle.search_model.specs.Problem.{Problem, IsProblem}
use Rattle.scenario_text.specs.Canonical.{first_entries, covered, drift_changes, look_changes, plain_state, full_state}
use Rattle.scenario_text.specs.Sound.{AreEntries, AreLooks, AreMoves, IsPart, IsLook, ArePeriodRows, IsSound}
use Rattle.scenario_text.proofs.FirstParts.{IsDriftRow-first}
use Rattle.scenario_text.proofs.LaterRows.{are_period_rows}
use Rattle.scenario_text.proofs.SameRows.{kept, kept_rises}
use Rattle.scenario_text.proofs.SoundRows.{AreMoves-from_row, moves_at}

-- what holds of what a function makes of each number of a range
all_made : {X : Type 0} (Q : X → Type 0) (f : ℕ → X) (n : ℕ) → ((k : ℕ) → k < n → Q (f k)) → All Q (map f (range_with_len 0 n))
all_made Q f n each k d inside =
    let lt : k < n = omega (arith, inside, length-map-range_with_len f 0 n) in
    subst Q (sym (get_or-map-range_with_len f 0 n k k d lt (omega arith))) (each k lt)

-- no element passes a test that each fails
none_passes : {X : Type 0} (test : X → Bool) (xs : List X) → All (λ x. test x ≡ false) xs → list_any test xs ≡ false
none_passes test [] each = refl
none_passes test (x ∷ xs) each =
    let head = All-head (λ x. test x ≡ false) x xs each in
    rw head (none_passes test xs (All-tail (λ x. test x ≡ false) x xs each))

-- a row in order, as entries
entries_from : (denominator cells : ℕ) (es : List CellPart) → IsDriftRow denominator cells es → AreEntries cells denominator es
entries_from denominator cells es row = record {
  within = row.within;
  positive = row.positive;
  once = λ d. count_at-le (λ e. e.cell) d es (Ascends-from_keys (λ e. e.cell) es row.ascending);
  total = row.total;
}

-- such a row isn't empty
some_entry : (denominator cells : ℕ) (es : List CellPart) → AreEntries cells denominator es → 1 ≤ denominator → length es ≢ 0
some_entry denominator cells [] row low e = absurd (let total = row.total in omega (arith, total, low))
some_entry denominator cells (x ∷ es) row low e = omega (arith, e)

module _ (p : Problem) (h : IsProblem p) where
  pub drift_row : (t c : ℕ) → c < p.cells → AreEntries p.cells p.drift.denominator (row_of p.drift t c)
  drift_row t c inside =
      subst (λ (n : ℕ). AreEntries n p.drift.denominator (row_of p.drift t c)) h.drift_cells
      (entries_from p.drift.denominator _ (row_of p.drift t c) (h.drift.each t c (omega (arith, inside, h.drift_cells))))

  pub look_of_row : (t a : ℕ) → AreLooks p.cells p.sweep.denominator (covered p t a)
  look_of_row t a =
      let row = kept p.sweep.denominator (look_row p.sweep t a) in
      let right = h.sweep.each t a in
      record {
        within = All-map (λ (e : CellPart). e.cell < p.cells) (λ (e : CellPart). record { cell = e.cell; part = e.part }) row (All-filter _ (λ (e : CellPart). e.cell < p.cells) (look_row p.sweep t a) (subst (λ (n : ℕ). All (λ (e : CellPart). e.cell < n) (look_row p.sweep t a)) h.sweep_cells right.within));
        parts = All-map (λ (e : CellPart). e.part ≤ p.sweep.denominator) (λ (e : CellPart). record { cell = e.cell; part = e.part }) row (All-filter _ (λ (e : CellPart). e.part ≤ p.sweep.denominator) (look_row p.sweep t a) right.parts);
        once = λ d. let few = count_at-le (λ (e : CellPart). e.cell) d row (kept_rises p h t a) in omega (arith, few, counted d row);
      }
    where
      counted : (d : ℕ) (row : List CellPart) → count_by (λ (e : CellPart). e.cell == d) (map (λ (e : CellPart). record { cell = e.cell; part = e.part }) row) ≡ count_by (λ (e : CellPart). e.cell == d) row
      counted d row = sum_by-map (λ (e : CellPart). cond (e.cell == d) 1 0) (λ (e : CellPart). record { cell = e.cell; part = e.part }) row

  move_row : (q : ℕ) → q < length p.moves → AreMoves (length p.position_names) (get_or p.moves q [])
  move_row q inside =
      subst (λ (n : ℕ). AreMoves n (get_or p.moves q [])) (h.grid_positions ∙ sym h.position_names.count) (subst (AreMoves (length p.moves)) (moves_at p.moves q) (AreMoves-from_row (length p.moves) (moves_from p.moves q) (h.grid.each q inside)))

  all_moves : All (AreMoves (length p.position_names)) p.moves
  all_moves = All-from_get_or (AreMoves (length p.position_names)) p.moves [] move_row

  all_parts : All (AreEntries (length p.names) p.drift.denominator) (map (row_of p.drift 1) (range_with_len 0 p.cells))
  all_parts =
      all_made (AreEntries (length p.names) p.drift.denominator) (row_of p.drift 1) p.cells (λ c inside. subst (λ (n : ℕ). AreEntries n p.drift.denominator (row_of p.drift 1 c)) (sym h.names.count) (drift_row 1 c inside))

  some_moves : list_any (λ (row : List ℕ). length row == 0) p.moves ≡ false
  some_moves = none_passes (λ (row : List ℕ). length row == 0) p.moves (All-weaker (AreMoves (length p.position_names)) (λ row. (length row == 0) ≡ false) (λ row are. ne_eqb (length row) 0 (λ e. omega (arith, e, are.some))) p.moves all_moves)

  some_parts : list_any (λ (row : List CellPart). length row == 0) (map (row_of p.drift 1) (range_with_len 0 p.cells)) ≡ false
  some_parts =
      none_passes (λ (row : List CellPart). length row == 0) (map (row_of p.drift 1) (range_with_len 0 p.cells))
      (All-weaker (AreEntries (length p.names) p.drift.denominator) (λ row. (length row == 0) ≡ false) (λ row are. ne_eqb (length row) 0 (some_entry p.drift.denominator (length p.names) row are h.drift.denominator.0)) (map (row_of p.drift 1) (range_with_len 0 p.cells)) all_parts)

  first_right : AreEntries (length p.names) p.total (first_entries p)
  first_right = subst (λ (n : ℕ). AreEntries n p.total (first_entries p)) (sym h.names.count) (entries_from p.total p.cells (first_entries p) (IsDriftRow-first p h))

  pub full_sound : IsSound (full_state p)
  full_sound =
      let looks = map (λ a. Some (covered p 1 a)) (range_with_len 0 p.positions) in
      let some_looks = none_passes (λ (o : Option (List CellPart)). is_none o) looks (all_made (λ o. is_none o ≡ false) (λ a. Some (covered p 1 a)) p.positions (λ a inside. refl)) in
      record {
        settled = record { horizon = λ place. h.horizon; total = λ place. h.total; drift = λ place. h.drift.denominator; look = λ place. h.sweep.denominator };
        few = omega (arith, h.names.count, h.cells.1);
        names = h.names.each;
        differ = h.names.differ;
        positions = record {
          few = omega (arith, h.position_names.count, h.positions.1);
          names = h.position_names.each;
          differ = h.position_names.differ;
          looks_length = omega (arith, length-map-range_with_len (λ a. Some (covered p 1 a)) 0 p.positions, h.position_names.count);
          covered = all_made (IsLook (length p.names) p.sweep.denominator) (λ a. Some (covered p 1 a)) p.positions (λ a inside. subst (λ (n : ℕ). AreLooks n p.sweep.denominator (covered p 1 a)) (sym h.names.count) (look_of_row 1 a));
          empty = λ place. absurd (omega (arith, place));
          cells_alone = λ one. absurd (let bad : ⊥ = cc in bad);
        };
        moves_length = omega (arith, h.grid_positions, h.position_names.count);
        parts_length = omega (arith, length-map-range_with_len (row_of p.drift 1) 0 p.cells, h.names.count);
        overlook_length = refl;
        start = λ place. omega (arith, h.start, h.position_names.count);
        first = λ place. first_right;
        moves = All-weaker (AreMoves (length p.position_names)) (λ row. (length row ≡ 0) ⊎ AreMoves (length p.position_names) row) (λ row are. inr are) p.moves all_moves;
        empty = λ place. absurd (omega (arith, place));
        cells = λ gridded. absurd (let bad : ⊥ = cc in bad);
        own = λ gridded. absurd (let bad : ⊥ = cc in bad);
        parts = All-weaker (AreEntries (length p.names) p.drift.denominator) (λ row. (length row ≡ 0) ⊎ AreEntries (length p.names) p.drift.denominator row) (λ row are. inr are) (map (row_of p.drift 1) (range_with_len 0 p.cells)) all_parts;
        overlook = All-nil (IsPart p.sweep.denominator);
        changes = record {
          early = λ place. absurd (omega (arith, place));
          every_period = λ one. absurd (let bad : ⊥ = cc in bad);
          drifts = subst (λ (n : ℕ). ArePeriodRows (p.horizon - 1) n (AreEntries n p.drift.denominator) (drift_changes p)) (sym h.names.count) (are_period_rows (row_of p.drift) p.cells (p.horizon - 1) (AreEntries p.cells p.drift.denominator) drift_row);
          looks = subst (λ (n : ℕ). ArePeriodRows p.horizon (length p.position_names) (AreLooks n p.sweep.denominator) (look_changes p)) (sym h.names.count) (subst (λ (n : ℕ). ArePeriodRows p.horizon n (AreLooks p.cells p.sweep.denominator) (look_changes p)) (sym h.position_names.count) (are_period_rows (covered p) p.positions p.horizon (AreLooks p.cells p.sweep.denominator) (λ t a inside. look_of_row t a)));
        };
        whole = λ ended. rw (some_moves, some_parts, some_looks) refl;
        fits = λ ended. h.fits;
      }

  pub plain_sound : p.position_names ≡ p.names → IsSound (plain_state p)
  plain_sound same =
      let overlook = map (λ c. Some (factor_of p.sweep 1 c c)) (range_with_len 0 p.positions) in
      let as_many : length p.position_names ≡ length p.names = ap (λ (ns : List (List ℕ)). length ns) same in
      let some_overlook = none_passes (λ (o : Option ℕ). is_none o) overlook (all_made (λ o. is_none o ≡ false) (λ c. Some (factor_of p.sweep 1 c c)) p.positions (λ c inside. refl)) in
      let moves : All (AreMoves (length p.names)) p.moves = subst (λ (n : ℕ). All (AreMoves n) p.moves) as_many all_moves in
      record {
        settled = record { horizon = λ place. h.horizon; total = λ place. h.total; drift = λ place. h.drift.denominator; look = λ place. h.sweep.denominator };
        few = omega (arith, h.names.count, h.cells.1);
        names = h.names.each;
        differ = h.names.differ;
        positions = record {
          few = omega arith;
          names = All-nil _;
          differ = λ q repeated. omega (arith, repeated.0);
          looks_length = refl;
          covered = All-nil _;
          empty = λ place. refl;
          cells_alone = λ one. refl;
        };
        moves_length = omega (arith, h.grid_positions, h.position_names.count, as_many);
        parts_length = omega (arith, length-map-range_with_len (row_of p.drift 1) 0 p.cells, h.names.count);
        overlook_length = omega (arith, length-map-range_with_len (λ c. Some (factor_of p.sweep 1 c c)) 0 p.positions, h.position_names.count, as_many);
        start = λ place. omega (arith, h.start, h.position_names.count, as_many);
        first = λ place. first_right;
        moves = All-weaker (AreMoves (length p.names)) (λ row. (length row ≡ 0) ⊎ AreMoves (length p.names) row) (λ row are. inr are) p.moves moves;
        empty = λ place. absurd (omega (arith, place));
        cells = λ gridded. absurd (let bad : ⊥ = cc in bad);
        own = λ gridded. absurd (let bad : ⊥ = cc in bad);
        parts = All-weaker (AreEntries (length p.names) p.drift.denominator) (λ row. (length row ≡ 0) ⊎ AreEntries (length p.names) p.drift.denominator row) (λ row are. inr are) (map (row_of p.drift 1) (range_with_len 0 p.cells)) all_parts;
        overlook = all_made (IsPart p.sweep.denominator) (λ c. Some (factor_of p.sweep 1 c c)) p.positions (λ c inside. factor_of-le p.sweep h.sweep 1 c c);
        changes = record {
          early = λ place. absurd (omega (arith, place));
          every_period = λ one. (refl, refl);
          drifts = record { periods = All-nil _; within = All-nil _; right = All-nil _; once = λ t c. omega arith };
          looks = record { periods = All-nil _; within = All-nil _; right = All-nil _; once = λ t c. omega arith };
        };
        whole = λ ended. rw (some_moves, some_parts, some_overlook) refl;
        fits = λ ended. h.fits;
      }
