-- What the canonical text says is the same search.
use Rattle.std.proofs.Common.{◌≡◌, ℕ, ◌-◌, ◌<◌, ◌≤◌, List, [], ◌∷◌, map, length, Option, Some, None, refl, sym, ap, ◌∙◌, subst, arith, inl, inr, All, ◌⊎◌}
use Rattle.std.specs.Prelude.{unwrap_or, slice_index_or, slice_index, max}
use Rattle.std.specs.List.{AllZip, find, range_with_len}
use Rattle.std.specs.List.Sorted.{IsPermutation, IsStrictlyIncreasing}
use Rattle.std.specs.Option.{option_map_or}
use Rattle.std.proofs.lemmas.Bool.{cases_Bool, cases_eq, cases_lt}
use Rattle.std.proofs.lemmas.List.{length-map, get_or-map, get_or_past}
use Rattle.std.proofs.lemmas.List.Elements.{All-map, All-filter}
use Rattle.std.proofs.lemmas.List.FromFn.{length-map-range_with_len, get_or-map-range_with_len}
use Rattle.std.proofs.lemmas.List.Sorted.{IsPermutation-refl}
use Rattle.list_laws.proofs.Rising.{increasing_from_ascends}
use Rattle.period_rows.specs.declared.part.CellPart.{CellPart}
use Rattle.period_rows.specs.Changes.{RowChange, is_for, IsSameChange}
use Rattle.drift_chain.specs.DriftRows.{DriftRows, row_of, IsDriftRow, IsDrift}
use Rattle.drift_chain.proofs.DriftChanges.{row_of-base}
use Rattle.drift_chain.proofs.Drifts.{IsDrift-from_rows}
use Rattle.period_rows.specs.Rows.{row_at}
use Rattle.search_grid.specs.Faults.{HasSameMoves}
use Rattle.search_grid.specs.Moves.{moves_from}
use Rattle.sweep_table.specs.LookParts.{LookParts, look_row, factor_in, factor_of, parts_over, IsLookRow, IsSweep}
use Rattle.sweep_table.proofs.Factors.{factor_of-le, factor_of-own, factor_of-apart, empty_row, length-own_rows, IsSweep-from_parts}
use Rattle.search_model.specs.Problem.{Problem, IsProblem}
use Rattle.search_model.specs.Same.{AreSame}
use Rattle.scenario_text.specs.State.{State, PeriodRow}
use Rattle.scenario_text.specs.Canonical.{covered, drift_changes, look_changes, is_plain, plain_state, full_state, state_of_problem}
use Rattle.scenario_text.specs.Laws.{IsPlain}
use Rattle.scenario_text.specs.Scenarios.{drift_change_of, look_parts, look_change_of, AreLooksOf, Says}
use Rattle.scenario_text.specs.Sound.{AreEntries, ArePeriodRows}
use Rattle.scenario_text.proofs.CanonicalState.{drift_row}
use Rattle.scenario_text.proofs.FirstParts.{part_in-first}
use Rattle.scenario_text.proofs.LaterRows.{is_row_of, in_force, some_row, none_owner, all_later, are_period_rows}
use Rattle.scenario_text.proofs.Periods.{nothing, alone}
use Rattle.scenario_text.proofs.Plain.{plain_is, state_plain, state_full}
use Rattle.scenario_text.proofs.SameRows.{kept, kept_rises, covered_parts, covered_factor}

-- What is the same as it is.

moves_kept : (rows : List (List ℕ)) → HasSameMoves rows rows
moves_kept rows = record { cells = refl; moves = λ c inside. IsPermutation-refl (moves_from rows c) }

each_kept : {X : Type 0} (R : X → X → Type 0) → ((x : X) → R x x) → (xs : List X) → AllZip R xs xs
each_kept R own [] = tt
each_kept R own (x ∷ xs) = (own x, each_kept R own xs)

-- The change of a period and an owner, among rows.

drift_told : (t c : ℕ) (rows : List PeriodRow) (base : List CellPart) → option_map_or (λ (change : RowChange). change.row) (find (is_for t c) (map drift_change_of rows)) base ≡ option_map_or (λ (r : PeriodRow). r.row) (find (is_row_of t c) rows) base
drift_told t c [] base = refl
drift_told t c (r ∷ rows) base =
    elim (cases_Bool (is_row_of t c r)) [
      | inl is ↦ rw is refl
      | inr isnt ↦ rw isnt (drift_told t c rows base)
    ]

look_told : (t a : ℕ) (rows : List PeriodRow) (base : List CellPart) → option_map_or (λ (change : RowChange). change.row) (find (is_for t a) (map look_change_of rows)) (look_parts base) ≡ look_parts (option_map_or (λ (r : PeriodRow). r.row) (find (is_row_of t a) rows) base)
look_told t a [] base = refl
look_told t a (r ∷ rows) base =
    elim (cases_Bool (is_row_of t a r)) [
      | inl is ↦ rw is refl
      | inr isnt ↦ rw isnt (look_told t a rows base)
    ]

row_is : (drift : DriftRows) (t c : ℕ) → row_of drift t c ≡ option_map_or (λ (change : RowChange). change.row) (find (is_for t c) drift.changes) (slice_index_or drift.rows c [])
unfolding row_of
row_is drift t c = refl

look_factor : (sweep : LookParts) (t a c : ℕ) (row : List CellPart) → look_row sweep t a ≡ row → factor_of sweep t a c ≡ factor_in sweep.denominator row c
unfolding factor_of
look_factor sweep t a c row is = ap (λ (r : List CellPart). factor_in sweep.denominator r c) is

-- a period up to the last but one is one of the later ones, or the first
before_last : (t n : ℕ) → 1 ≤ t → t < max 2 n → (t ≤ n - 1) ⊎ (t ≡ 1)
before_last t n low high =
    elim (cases_lt n 2) [
      | inl short ↦ inr (omega (arith, low, high, short))
      | inr long ↦ inl (omega (arith, low, high, long))
    ]

module _ (p : Problem) (h : IsProblem p) where
  abbrev base_rows : List (List CellPart)
  base_rows = map (row_of p.drift 1) (range_with_len 0 p.cells)

  base_long : length base_rows ≡ p.cells
  base_long = length-map-range_with_len (row_of p.drift 1) 0 p.cells

  base_at : (c : ℕ) → c < p.cells → slice_index_or base_rows c [] ≡ row_of p.drift 1 c
  base_at c inside = get_or-map-range_with_len (row_of p.drift 1) 0 p.cells c c [] inside (omega arith)

  right_row : (t c : ℕ) → c < length base_rows → IsDriftRow p.drift.denominator (length base_rows) (row_of p.drift t c)
  right_row t c inside =
      subst (λ (n : ℕ). IsDriftRow p.drift.denominator n (row_of p.drift t c)) (h.drift_cells ∙ sym base_long) (h.drift.each t c (omega (arith, inside, base_long, h.drift_cells)))

  -- The drift of version 2: the rows of period 1, and the others that differ.
  abbrev full_drift : DriftRows
  full_drift = record { denominator = p.drift.denominator; rows = base_rows; changes = map drift_change_of (drift_changes p) }

  full_row : (t c : ℕ) → c < p.cells → row_of full_drift t c ≡ option_map_or (λ (r : PeriodRow). r.row) (find (is_row_of t c) (drift_changes p)) (row_of p.drift 1 c)
  full_row t c inside =
      row_is full_drift t c
      ∙ drift_told t c (drift_changes p) (slice_index_or base_rows c [])
      ∙ ap (λ (base : List CellPart). option_map_or (λ (r : PeriodRow). r.row) (find (is_row_of t c) (drift_changes p)) base) (base_at c inside)

  drift_periods : ArePeriodRows (p.horizon - 1) p.cells (AreEntries p.cells p.drift.denominator) (drift_changes p)
  drift_periods = are_period_rows (row_of p.drift) p.cells (p.horizon - 1) (AreEntries p.cells p.drift.denominator) (drift_row p h)

  full_drift_right : IsDrift full_drift
  full_drift_right = record {
    denominator = h.drift.denominator;
    size = (omega (arith, base_long, h.cells.0), omega (arith, base_long, h.cells.1));
    each = λ t c inside.
        let some = some_row (row_of p.drift) p.cells (p.horizon - 1) t c (omega (arith, inside, base_long)) in
        subst (IsDriftRow p.drift.denominator (length base_rows)) (sym (full_row t c (omega (arith, inside, base_long)) ∙ some.1)) (right_row some.0 c inside);
    changes = record {
      within = All-map (λ (change : RowChange). (1 ≤ change.period) × (change.period ≤ 31) × (change.owner < length base_rows)) drift_change_of (drift_changes p)
          (all_later (row_of p.drift) p.cells (p.horizon - 1) (λ r. (1 ≤ r.period) × (r.period ≤ 31) × (r.own < length base_rows)) (λ t c low high inside. (omega (arith, low), omega (arith, high, h.horizon.1), omega (arith, inside, base_long))));
      differ = λ i j d before inside same.
          let long = length-map (drift_changes p) drift_change_of in
          let there : j < length (drift_changes p) = omega (arith, inside, long) in
          let one = get_or-map drift_change_of (drift_changes p) i nothing d (omega (arith, before, there)) in
          let other = get_or-map drift_change_of (drift_changes p) j nothing d there in
          alone (p.horizon - 1) p.cells (AreEntries p.cells p.drift.denominator) (drift_changes p) drift_periods i j before there
          (sym (ap (λ (c : RowChange). c.period) one) ∙ same.0 ∙ ap (λ (c : RowChange). c.period) other)
          (sym (ap (λ (c : RowChange). c.owner) one) ∙ same.1 ∙ ap (λ (c : RowChange). c.owner) other);
    };
  }

  -- Its looks.
  abbrev full_looks : LookParts
  full_looks = record {
    denominator = p.sweep.denominator;
    cells = length p.names;
    rows = map (λ row. look_parts (unwrap_or row [])) (map (λ a. Some (covered p 1 a)) (range_with_len 0 p.positions));
    changes = map look_change_of (look_changes p);
  }

  looks_long : length full_looks.rows ≡ p.positions
  looks_long = length-map (map (λ a. Some (covered p 1 a)) (range_with_len 0 p.positions)) (λ row. look_parts (unwrap_or row [])) ∙ length-map-range_with_len (λ a. Some (covered p 1 a)) 0 p.positions

  look_at : (a : ℕ) → a < p.positions → slice_index_or full_looks.rows a [] ≡ look_parts (covered p 1 a)
  look_at a inside =
      get_or-map (λ row. look_parts (unwrap_or row [])) (map (λ a. Some (covered p 1 a)) (range_with_len 0 p.positions)) a None [] (omega (arith, inside, length-map-range_with_len (λ a. Some (covered p 1 a)) 0 p.positions))
      ∙ ap (λ (o : Option (List CellPart)). look_parts (unwrap_or o [])) (get_or-map-range_with_len (λ a. Some (covered p 1 a)) 0 p.positions a a None inside (omega arith))

  full_look : (t a : ℕ) → a < p.positions → look_row full_looks t a ≡ look_parts (option_map_or (λ (r : PeriodRow). r.row) (find (is_row_of t a) (look_changes p)) (covered p 1 a))
  unfolding look_row
  full_look t a inside =
      ap (λ (base : List CellPart). option_map_or (λ (change : RowChange). change.row) (find (is_for t a) (map look_change_of (look_changes p))) base) (look_at a inside)
      ∙ look_told t a (look_changes p) (covered p 1 a)

  no_look : (t a : ℕ) → p.positions ≤ a → look_row full_looks t a ≡ []
  unfolding look_row
  no_look t a past =
      ap (λ (base : List CellPart). option_map_or (λ (change : RowChange). change.row) (find (is_for t a) (map look_change_of (look_changes p))) base) (get_or_past full_looks.rows a [] (omega (arith, past, looks_long)))
      ∙ look_told t a (look_changes p) []
      ∙ ap (λ (o : Option PeriodRow). look_parts (option_map_or (λ (r : PeriodRow). r.row) o [])) (none_owner (covered p) p.positions p.horizon t a past)

  kept_right : (t a : ℕ) → IsLookRow p.sweep.denominator (length p.names) (look_parts (covered p t a))
  kept_right t a =
      let right = h.sweep.each t a in
      let row = kept p.sweep.denominator (look_row p.sweep t a) in
      let made : IsLookRow p.sweep.denominator p.cells row = record {
        within = All-filter _ (λ (e : CellPart). e.cell < p.cells) (look_row p.sweep t a) (subst (λ (n : ℕ). All (λ (e : CellPart). e.cell < n) (look_row p.sweep t a)) h.sweep_cells right.within);
        ascending = increasing_from_ascends (λ (e : CellPart). e.cell) row (kept_rises p h t a);
        parts = All-filter _ (λ (e : CellPart). e.part ≤ p.sweep.denominator) (look_row p.sweep t a) right.parts;
      } in
      subst (IsLookRow p.sweep.denominator (length p.names)) (sym (covered_parts p h t a)) (subst (λ (n : ℕ). IsLookRow p.sweep.denominator n row) (sym h.names.count) made)

  full_looks_right : IsSweep full_looks
  full_looks_right = record {
    denominator = h.sweep.denominator;
    positions = (omega (arith, looks_long, h.positions.0), omega (arith, looks_long, h.positions.1));
    cells = (omega (arith, h.names.count, h.cells.0), omega (arith, h.names.count, h.cells.1));
    each = λ t a.
        elim (cases_lt a p.positions) [
          | inl inside ↦
              let some = some_row (covered p) p.positions p.horizon t a inside in
              subst (IsLookRow p.sweep.denominator (length p.names)) (sym (full_look t a inside ∙ ap look_parts some.1)) (kept_right some.0 a)
          | inr past ↦ subst (IsLookRow p.sweep.denominator (length p.names)) (sym (no_look t a past)) (empty_row p.sweep.denominator (length p.names))
        ];
  }

  full_looks_said : AreLooksOf (full_state p) full_looks
  full_looks_said = record {
    denominator = refl;
    cells = refl;
    rows = each_kept IsPermutation IsPermutation-refl full_looks.rows;
    changes = each_kept IsSameChange (λ change. (refl, refl, IsPermutation-refl change.row)) full_looks.changes;
    ascending = All-map (λ (change : RowChange). IsStrictlyIncreasing (map (λ (e : CellPart). e.cell) change.row)) look_change_of (look_changes p)
        (all_later (covered p) p.positions p.horizon (λ r. IsStrictlyIncreasing (map (λ (e : CellPart). e.cell) (look_parts r.row))) (λ t a low high inside. let right = kept_right t a in right.ascending));
  }

  -- the problem of version 2
  abbrev full : Problem
  full = record p { drift = full_drift; sweep = full_looks }

  full_says : Says (full_state p) full
  full_says = record {
    sound = record {
      horizon = h.horizon;
      total = h.total;
      cells = h.cells;
      positions = h.positions;
      names = h.names;
      position_names = h.position_names;
      start = h.start;
      first_length = h.first_length;
      first_total = h.first_total;
      grid = h.grid;
      grid_positions = h.grid_positions;
      drift = full_drift_right;
      drift_cells = base_long;
      sweep = full_looks_right;
      sweep_positions = looks_long;
      sweep_cells = h.names.count;
      fits = h.fits;
    };
    names = refl;
    position_names = refl;
    horizon = refl;
    start = refl;
    total = refl;
    first = part_in-first p;
    moves = moves_kept p.moves;
    denominator = refl;
    parts = each_kept IsPermutation IsPermutation-refl base_rows;
    changes = each_kept IsSameChange (λ change. (refl, refl, IsPermutation-refl change.row)) full_drift.changes;
    sweep = full_looks_said;
  }

  full_same : AreSame p full
  full_same = record {
    names = refl;
    position_names = refl;
    cells = refl;
    positions = refl;
    horizon = refl;
    start = refl;
    total = refl;
    first = refl;
    moves = refl;
    drift_denominator = refl;
    rows = λ t c low high inside. sym (full_row t c inside ∙ in_force (row_of p.drift) p.cells (p.horizon - 1) t c low (before_last t p.horizon low high) inside);
    look_denominator = refl;
    factors = λ t a c low high position cell. sym (look_factor full_looks t a c _ (full_look t a position ∙ ap look_parts (in_force (covered p) p.positions p.horizon t a low (inl high) position)) ∙ covered_factor p h t a c);
  }

  -- Version 1: one drift and one part for each look.
  abbrev plain_drift : DriftRows
  plain_drift = record { denominator = p.drift.denominator; rows = base_rows; changes = [] }

  abbrev plain_parts : List ℕ
  plain_parts = map (λ o. unwrap_or o 0) (map (λ c. Some (factor_of p.sweep 1 c c)) (range_with_len 0 p.positions))

  plain_long : length plain_parts ≡ p.positions
  plain_long = length-map (map (λ c. Some (factor_of p.sweep 1 c c)) (range_with_len 0 p.positions)) (λ o. unwrap_or o 0) ∙ length-map-range_with_len (λ c. Some (factor_of p.sweep 1 c c)) 0 p.positions

  plain_at : (a : ℕ) → a < p.positions → slice_index plain_parts a ≡ factor_of p.sweep 1 a a
  plain_at a inside =
      get_or-map (λ o. unwrap_or o 0) (map (λ c. Some (factor_of p.sweep 1 c c)) (range_with_len 0 p.positions)) a None 0 (omega (arith, inside, length-map-range_with_len (λ c. Some (factor_of p.sweep 1 c c)) 0 p.positions))
      ∙ ap (λ (o : Option ℕ). unwrap_or o 0) (get_or-map-range_with_len (λ c. Some (factor_of p.sweep 1 c c)) 0 p.positions a a None inside (omega arith))

  plain_row : (t c : ℕ) → c < p.cells → row_of plain_drift t c ≡ row_of p.drift 1 c
  plain_row t c inside = row_of-base plain_drift t c refl ∙ base_at c inside

  base_right : (c : ℕ) → c < p.cells → IsDriftRow p.drift.denominator p.cells (row_at base_rows c)
  unfolding row_at
  base_right c inside =
      rw (base_at c inside) (subst (λ (n : ℕ). IsDriftRow p.drift.denominator n (row_of p.drift 1 c)) h.drift_cells (h.drift.each 1 c (omega (arith, inside, h.drift_cells))))

  module _ (plain : IsPlain p) where
    as_many : p.positions ≡ p.cells
    as_many = sym h.position_names.count ∙ ap (λ (ns : List (List ℕ)). length ns) plain.positions ∙ h.names.count

    abbrev plain_looks : LookParts
    plain_looks = parts_over p.sweep.denominator plain_parts

    plain_factor : (t a c : ℕ) → 1 ≤ t → t ≤ p.horizon → a < p.positions → c < p.cells → factor_of plain_looks t a c ≡ factor_of p.sweep t a c
    plain_factor t a c low high position cell =
        elim (cases_eq a c) [
          | inl own ↦
              subst (λ (d : ℕ). factor_of plain_looks t a d ≡ factor_of p.sweep t a d) own
              (factor_of-own p.sweep.denominator plain_parts t a (omega (arith, position, plain_long)) ∙ plain_at a position ∙ sym (plain.looks t a a low high position (omega (arith, position, as_many))))
          | inr apart ↦ factor_of-apart p.sweep.denominator plain_parts t a c (omega (arith, position, plain_long)) apart ∙ sym (plain.looks t a c low high position cell ∙ plain.own a c position cell apart)
        ]

    steady_at : (t c : ℕ) → 1 ≤ t → (t ≤ p.horizon - 1) ⊎ (t ≡ 1) → c < p.cells → row_of p.drift t c ≡ row_of p.drift 1 c
    steady_at t c low (inl high) inside = plain.drift t c low (omega (arith, low, high)) inside
    steady_at t c low (inr first) inside = ap (λ (k : ℕ). row_of p.drift k c) first

    abbrev one : Problem
    one = record p { drift = plain_drift; sweep = plain_looks }

    plain_says : Says (plain_state p) one
    plain_says = record {
      sound = record {
        horizon = h.horizon;
        total = h.total;
        cells = h.cells;
        positions = h.positions;
        names = h.names;
        position_names = h.position_names;
        start = h.start;
        first_length = h.first_length;
        first_total = h.first_total;
        grid = h.grid;
        grid_positions = h.grid_positions;
        drift = IsDrift-from_rows p.drift.denominator base_rows p.cells (sym base_long) h.drift.denominator h.cells (λ c inside. base_right c inside);
        drift_cells = base_long;
        sweep = IsSweep-from_parts p.sweep.denominator plain_parts h.sweep.denominator (omega (arith, plain_long, h.positions.0), omega (arith, plain_long, h.positions.1)) (λ a inside. let there : a < p.positions = omega (arith, inside, plain_long) in rw (plain_at a there) (factor_of-le p.sweep h.sweep 1 a a));
        sweep_positions = length-own_rows plain_parts ∙ plain_long;
        sweep_cells = plain_long ∙ as_many;
        fits = h.fits;
      };
      names = refl;
      position_names = plain.positions;
      horizon = refl;
      start = refl;
      total = refl;
      first = part_in-first p;
      moves = moves_kept p.moves;
      denominator = refl;
      parts = each_kept IsPermutation IsPermutation-refl base_rows;
      changes = tt;
      sweep = refl;
    }

    plain_same : AreSame p one
    plain_same = record {
      names = refl;
      position_names = refl;
      cells = refl;
      positions = refl;
      horizon = refl;
      start = refl;
      total = refl;
      first = refl;
      moves = refl;
      drift_denominator = refl;
      rows = λ t c low high inside. steady_at t c low (before_last t p.horizon low high) inside ∙ sym (plain_row t c inside);
      look_denominator = refl;
      factors = λ t a c low high position cell. sym (plain_factor t a c low high position cell);
    }

-- what is said of a problem is the same search
pub same_said : (p : Problem) → IsProblem p → (q : Problem) × AreSame p q × Says (state_of_problem p) q
same_said p h =
    elim (cases_Bool (is_plain p)) [
      | inl plain ↦
          let is = plain_is p h plain in
          (one p h is, plain_same p h is, subst (λ (s : State). Says s (one p h is)) (sym (state_plain p plain)) (plain_says p h is))
      | inr isnt ↦ (full p h, full_same p h, subst (λ (s : State). Says s (full p h)) (sym (state_full p isnt)) (full_says p h))
    ]
