-- The scenario of what was read whole.
use Rattle.std.proofs.Common.{◌≡◌, ℕ, ◌<◌, ◌≤◌, false, List, [], ◌∷◌, map, length, Option, Some, None, refl, sym, ap, ◌∙◌, arith, subst, inl, inr, ◌⊎◌}
use Rattle.std.specs.Prelude.{◌==◌, ◌||◌, ◌-◌, All, sum_by, sum, slice_index, unwrap_or, is_none}
use Rattle.std.specs.List.{list_any, AllZip}
use Rattle.std.specs.List.Sorted.{IsPermutation}
use Rattle.std.proofs.lemmas.Bool.{eqb-false, or_parts}
use Rattle.std.proofs.lemmas.List.{length-map}
use Rattle.std.proofs.lemmas.List.Elements.{All-head, All-map, All-weaker, length_all_zip}
use Rattle.search_grid.specs.declared.faults.GridFault.{GridFault}
use Rattle.search_grid.specs.declared.faults.GridFault.TheVariants as grid
use Rattle.search_grid.specs.Moves.{moves_from, IsGrid}
use Rattle.search_grid.specs.Faults.{HasSameMoves, HasFault as HasGridFault}
use Rattle.period_rows.specs.declared.part.CellPart.{CellPart}
use Rattle.drift_chain.specs.declared.changes.ChangeFault.{ChangeFault}
use Rattle.drift_chain.specs.declared.faults.DriftFault.{DriftFault}
use Rattle.drift_chain.specs.declared.faults.DriftFault.TheVariants as drift
use Rattle.drift_chain.specs.DriftRows.{IsDrift, part_in}
use Rattle.period_rows.specs.Rows.{row_at}
use Rattle.drift_chain.specs.Faults.{HasFault as HasDriftFault}
use Rattle.period_rows.specs.Changes.{IsSameChange}
use Rattle.drift_chain.specs.ChangeFaults.{HasChangeFault}
use Rattle.sweep_table.specs.declared.changes.LookChangeFault.{LookChangeFault}
use Rattle.sweep_table.specs.declared.faults.LookFault.{LookFault}
use Rattle.sweep_table.specs.Faults.{HasFault as HasLookFault}
use Rattle.sweep_table.specs.Changes.{HasChangeFault as HasLookChangeFault}
use Rattle.sweep_table.specs.LookParts.{LookParts, parts_over, positions_of, cells_of, IsSweep}
use Rattle.sweep_table.proofs.Factors.{IsSweep-from_parts, length-own_rows}
use Rattle.search_model.specs.Names.{AreNames}
use Rattle.search_model.specs.Problem.{Problem, IsProblem}
use Rattle.scenario_text.specs.declared.draft.Stage.TheVariants.{Ended}
use Rattle.scenario_text.specs.State.{State, by_version, positions_in}
use Rattle.scenario_text.specs.declared.draft.TextVersion.{TextVersion}
use Rattle.scenario_text.specs.declared.draft.TextVersion.TheVariants.{One, Two}
use Rattle.scenario_text.specs.Scenarios.{Says, SaysLooks, drift_change_of, look_change_of, look_parts}
use Rattle.scenario_text.specs.Sound.{AreEntries, AreMoves, IsPart, IsSound}
use Rattle.scenario_text.proofs.PeriodDrifts as drifts
use Rattle.scenario_text.proofs.PeriodLooks as looks
use Rattle.scenario_text.proofs.SoundFields.{none_pass}
use Rattle.scenario_text.proofs.SoundHeads.{reached}

-- no row is missing
not_empty : {X : Type 0} (P : List X → Type 0) (row : List X) → (length row == 0) ≡ false → (length row ≡ 0) ⊎ P row → P row
not_empty P row some (inl none) = absurd (eqb-false (length row) 0 some none)
not_empty P row some (inr h) = h

-- where the first parts sum to something, there is a cell
some_within : (cells total : ℕ) (entries : List CellPart) → 1 ≤ total → AreEntries cells total entries → 1 ≤ cells
some_within cells total [] some h = let none : 0 ≡ total = h.total in omega (arith, some, none)
some_within cells total (e ∷ entries) some h = let lt = All-head (λ x. x.cell < cells) e entries h.within in omega (arith, lt)

module _ (s : State) (h : IsSound s) (ended : s.stage ≡ Ended) where
  lacks_none : (list_any (λ row. length row == 0) s.moves || (list_any (λ row. length row == 0) s.parts || (list_any (λ o. is_none o) s.overlook || list_any (λ o. is_none o) s.looks))) ≡ false
  lacks_none = h.whole ended

  pub horizon_limits : (1 ≤ s.horizon) × (s.horizon ≤ 32)
  horizon_limits = h.settled.horizon (reached s.stage Ended 2 ended (omega arith))

  total_limits : (1 ≤ s.total) × (s.total ≤ 1000000)
  total_limits = h.settled.total (reached s.stage Ended 3 ended (omega arith))

  pub drift_limits : (1 ≤ s.drift) × (s.drift ≤ 1000000)
  drift_limits = h.settled.drift (reached s.stage Ended 3 ended (omega arith))

  pub look_limits : (1 ≤ s.look) × (s.look ≤ 1000000)
  look_limits = h.settled.look (reached s.stage Ended 3 ended (omega arith))

  pub first_entries : (total : ℕ) × AreEntries (length s.names) total s.first
  first_entries = (s.total, h.first (reached s.stage Ended 5 ended (omega arith)))

  pub some_cell : 1 ≤ length s.names
  some_cell = some_within (length s.names) s.total s.first total_limits.0 (h.first (reached s.stage Ended 5 ended (omega arith)))

  -- the positions
  start_within : s.start < length (positions_in s)
  start_within = h.start (reached s.stage Ended 4 ended (omega arith))

  pub some_position : 1 ≤ length (positions_in s)
  some_position = omega (arith, start_within)

  named_in : (v : TextVersion) → AreNames (length (by_version v s.names s.positions)) (by_version v s.names s.positions)
  named_in One = record { count = refl; each = h.names; differ = h.differ }
  named_in Two = record { count = refl; each = h.positions.names; differ = h.positions.differ }

  few_in : (v : TextVersion) → length (by_version v s.names s.positions) ≤ 200
  few_in One = h.few
  few_in Two = h.positions.few

  pub few_positions : length (positions_in s) ≤ 200
  few_positions = few_in s.version

  all_moves : All (AreMoves (length (positions_in s))) s.moves
  all_moves k row lt =
      let some = none_pass (λ (r : List ℕ). length r == 0) s.moves (or_parts (list_any (λ (r : List ℕ). length r == 0) s.moves) _ lacks_none).0 k row lt in
      not_empty (AreMoves (length (positions_in s))) _ some (h.moves k row lt)

  all_parts : All (AreEntries (length s.names) s.drift) s.parts
  all_parts k row lt =
      let rest = (or_parts (list_any (λ (r : List ℕ). length r == 0) s.moves) _ lacks_none).1 in
      let some = none_pass (λ (r : List CellPart). length r == 0) s.parts (or_parts (list_any (λ (r : List CellPart). length r == 0) s.parts) _ rest).0 k row lt in
      not_empty (AreEntries (length s.names) s.drift) _ some (h.parts k row lt)

  pub moves_of : (q : ℕ) → q < length s.moves → AreMoves (length (positions_in s)) (moves_from s.moves q)
  unfolding moves_from
  moves_of q lt = all_moves q [] lt

  pub parts_at : (c : ℕ) → c < length s.parts → AreEntries (length s.names) s.drift (row_at s.parts c)
  unfolding row_at
  parts_at c lt = all_parts c [] lt

  -- the moves make a grid
  pub no_grid_fault : (fault : GridFault) → HasGridFault s.moves fault → ⊥
  no_grid_fault grid.CellCount (inl none) = omega (arith, none, h.moves_length, some_position)
  no_grid_fault grid.CellCount (inr many) = omega (arith, many, h.moves_length, few_positions)
  no_grid_fault (grid.NoMove c) bad = let row = moves_of c bad.0 in omega (arith, bad.1, row.some)
  no_grid_fault (grid.TooManyMoves c) bad = let row = moves_of c bad.0 in omega (arith, bad.1, row.few)
  no_grid_fault (grid.OutOfRange c) bad =
      let row = moves_of c bad.0 in
      let lt = row.within bad.1.0 bad.1.1 bad.1.2 in
      omega (arith, lt, bad.1.3, bad.1.4, h.moves_length)
  no_grid_fault (grid.DoubleMove c) bad = let row = moves_of c bad.0 in omega (arith, bad.1.1, row.once bad.1.0)
  no_grid_fault grid.NoMemory bad = bad

  -- the parts make a drift
  pub no_drift_fault : (fault : DriftFault) → HasDriftFault s.drift s.parts fault → ⊥
  no_drift_fault (drift.OutOfRange c) bad =
      let row = parts_at c bad.0 in
      let lt = row.within bad.1.0 bad.1.1 bad.1.2 in
      let same = ap (λ (e : CellPart). e.cell) bad.1.3 in
      omega (arith, lt, same, bad.1.4, h.parts_length)
  no_drift_fault (drift.ZeroPart c) bad =
      let row = parts_at c bad.0 in
      let some = row.positive bad.1.0 bad.1.1 bad.1.2 in
      let same = ap (λ (e : CellPart). e.part) bad.1.3 in
      omega (arith, some, same, bad.1.4)
  no_drift_fault (drift.DoubleEntry c) bad = let row = parts_at c bad.0 in omega (arith, bad.1.1, row.once bad.1.0)
  no_drift_fault (drift.WrongSum c) bad = let row = parts_at c bad.0 in bad.1 row.total
  no_drift_fault drift.NoMemory bad = bad

  pub some_row : 1 ≤ length s.parts
  some_row = omega (arith, h.parts_length, some_cell)

  pub few_rows : length s.parts ≤ 200
  few_rows = omega (arith, h.parts_length, h.few)

  -- and its rows of single periods are right changes
  pub few_steps : s.horizon - 1 ≤ 31
  few_steps = omega (arith, horizon_limits)

  pub no_drift_change_fault : (fault : ChangeFault) → HasChangeFault s.drift (length s.names) (map drift_change_of s.drift_rows) fault → ⊥
  no_drift_change_fault = drifts.no_change_fault s.drift (length s.names) (s.horizon - 1) s.drift_rows h.changes.drifts few_steps

  -- the overlook parts make a sweep
  overlook_within : (g : ℕ) (o : Option ℕ) → IsPart g o → unwrap_or o 0 ≤ g
  overlook_within g None part = omega arith
  overlook_within g (Some n) part = part

  places : List ℕ
  places = map (λ o. unwrap_or o 0) s.overlook

  places_long : s.version ≡ One → length places ≡ length s.names
  unfolding places
  places_long one = length-map s.overlook (λ o. unwrap_or o 0) ∙ h.overlook_length ∙ ap (λ (v : TextVersion). length (by_version v s.names [])) one

  place_within : (p : ℕ) → p < length places → slice_index places p ≤ s.look
  unfolding places
  place_within p lt = All-map (λ n. n ≤ s.look) (λ o. unwrap_or o 0) s.overlook (All-weaker (IsPart s.look) (λ o. unwrap_or o 0 ≤ s.look) (overlook_within s.look) s.overlook h.overlook) p 0 lt

  pub overlook_right : s.version ≡ One → IsSweep (parts_over s.look (map (λ o. unwrap_or o 0) s.overlook))
  unfolding places
  overlook_right one =
      let long = places_long one in
      IsSweep-from_parts s.look (map (λ o. unwrap_or o 0) s.overlook) look_limits (omega (arith, long, some_cell), omega (arith, long, h.few)) place_within

  -- and so do the rows of looks, with those of single periods
  pub looks_long : s.version ≡ Two → length s.looks ≡ length (positions_in s)
  looks_long two = h.positions.looks_length ∙ sym (ap (λ (v : TextVersion). length (by_version v s.names s.positions)) two)

  pub no_look_fault : s.version ≡ Two → (fault : LookFault) → HasLookFault s.look (length s.names) (map (λ o. look_parts (unwrap_or o [])) s.looks) fault → ⊥
  no_look_fault two =
      let long = looks_long two in
      looks.no_look_fault (length s.names) s.look s.looks h.positions.covered (omega (arith, long, some_position)) (omega (arith, long, few_positions)) some_cell h.few

  pub no_look_change_fault : (fault : LookChangeFault) → HasLookChangeFault s.look (length s.names) (length (positions_in s)) (map look_change_of s.look_rows) fault → ⊥
  no_look_change_fault = looks.no_change_fault s.look (length s.names) (length (positions_in s)) s.horizon s.look_rows h.changes.looks horizon_limits.1

  -- A problem that was made of what was read is a right one, and is what was read.
  pub record Made (p : Problem) : Type 0 where
    pub names : p.names ≡ s.names
    pub position_names : p.position_names ≡ positions_in s
    pub cells : p.cells ≡ length p.drift.rows
    pub positions : p.positions ≡ length p.moves
    pub horizon : p.horizon ≡ s.horizon
    pub start : p.start ≡ s.start
    pub total : p.total ≡ s.total
    pub first_cells : length p.first ≡ length s.names
    pub first : (c : ℕ) → c < length s.names → slice_index p.first c ≡ part_in s.first c
    pub first_total : sum p.first ≡ sum_by (λ e. e.part) s.first
    pub moves : HasSameMoves s.moves p.moves
    pub grid : IsGrid p.moves
    pub denominator : p.drift.denominator ≡ s.drift
    pub parts : AllZip IsPermutation s.parts p.drift.rows
    pub changes : AllZip IsSameChange (map drift_change_of s.drift_rows) p.drift.changes
    pub drift : IsDrift p.drift
    pub looks : SaysLooks s.version s p.sweep
    pub sweep : IsSweep p.sweep

  rows_long : (p : Problem) → Made p → length p.drift.rows ≡ length s.names
  rows_long p m = sym (length_all_zip IsPermutation _ _ m.parts) ∙ h.parts_length

  moves_long : (p : Problem) → Made p → length p.moves ≡ length (positions_in s)
  moves_long p m = m.moves.cells ∙ h.moves_length

  -- the sizes of the looks
  sizes_in : (v : TextVersion) (sweep : LookParts) → s.version ≡ v → SaysLooks v s sweep → (sweep.denominator ≡ s.look) × (positions_of sweep ≡ length (by_version v s.names s.positions)) × (cells_of sweep ≡ length s.names)
  unfolding places
  sizes_in One sweep is says =
      let long = places_long is in (
        ap (λ (x : LookParts). x.denominator) says,
        ap (λ (x : LookParts). positions_of x) says ∙ length-own_rows (map (λ o. unwrap_or o 0) s.overlook) ∙ long,
        ap (λ (x : LookParts). cells_of x) says ∙ long,
      )
  sizes_in Two sweep is says = (
    says.denominator,
    sym (length_all_zip IsPermutation _ _ says.rows) ∙ length-map s.looks (λ o. look_parts (unwrap_or o [])) ∙ h.positions.looks_length,
    says.cells,
  )

  pub problem_right : (p : Problem) → Made p → IsProblem p
  problem_right p m =
      let rows = rows_long p m in
      let moves = moves_long p m in
      let sizes = sizes_in s.version p.sweep refl m.looks in
      let N : List (List ℕ) → Type 0 = λ names. AreNames (length s.names) names in
      let Q : List (List ℕ) → Type 0 = λ names. AreNames (length (positions_in s)) names in
      let cells : p.cells ≡ length s.names = m.cells ∙ rows in
      let stands : p.positions ≡ length (positions_in s) = m.positions ∙ moves in
      record {
        horizon = (omega (arith, m.horizon, horizon_limits), omega (arith, m.horizon, horizon_limits));
        total = (omega (arith, m.total, total_limits), omega (arith, m.total, total_limits));
        cells = (omega (arith, cells, some_cell), omega (arith, cells, h.few));
        positions = (omega (arith, stands, some_position), omega (arith, stands, few_positions));
        names = subst (λ (n : ℕ). AreNames n p.names) (sym cells) (subst N (sym m.names) (record { count = refl; each = h.names; differ = h.differ }));
        position_names = subst (λ (n : ℕ). AreNames n p.position_names) (sym stands) (subst Q (sym m.position_names) (named_in s.version));
        start = omega (arith, m.start, start_within, stands);
        first_length = omega (arith, m.first_cells, cells);
        first_total = m.first_total ∙ (h.first (reached s.stage Ended 5 ended (omega arith))).total ∙ sym m.total;
        grid = m.grid;
        grid_positions = sym m.positions;
        drift = m.drift;
        drift_cells = sym m.cells;
        sweep = m.sweep;
        sweep_positions = sizes.1 ∙ sym stands;
        sweep_cells = sizes.2 ∙ sym cells;
        fits = rw (m.horizon, m.total, m.denominator, sizes.0) (h.fits ended);
      }

  pub problem_says : (p : Problem) → Made p → Says s p
  problem_says p m =
      let rows = rows_long p m in
      record {
        sound = problem_right p m;
        names = m.names;
        position_names = m.position_names;
        horizon = m.horizon;
        start = m.start;
        total = m.total;
        first = λ c lt. m.first c (omega (arith, lt, m.cells, rows));
        moves = m.moves;
        denominator = m.denominator;
        parts = m.parts;
        changes = m.changes;
        sweep = m.looks;
      }
