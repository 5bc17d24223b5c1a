-- The rows of the canonical text, as they are printed.
use Rattle.std.proofs.Common.{◌≡◌, ◌≢◌, ◌≤◌, ◌<◌, ℕ, Bool, true, false, cond, List, [], ◌∷◌, ◌++◌, map, filter, length, Some, None, refl, sym, ap, ◌∙◌, append_assoc, arith, subst, All}
use Rattle.std.specs.Prelude.{codes, ◌==◌, not, slice_index_or, unwrap_or}
use Rattle.std.specs.Fmt.{decimal}
use Rattle.std.specs.List.{flat_map, range_with_len}
use Rattle.std.proofs.lemmas.List.{length-map, get_or-map}
use Rattle.std.proofs.lemmas.List.Elements.{All-weaker}
use Rattle.std.proofs.lemmas.List.FromFn.{fill_by_all, length-map-range_with_len, get_or-map-range_with_len}
use Rattle.std.proofs.lemmas.List.Concat.{flat_map-append}
use Rattle.text_rows.specs.Rows.{spaced}
use Rattle.drift_chain.specs.DriftRows.{row_of}
use Rattle.period_rows.specs.declared.part.CellPart.{CellPart}
use Rattle.search_grid.specs.Moves.{moves_from}
use Rattle.sweep_table.specs.LookParts.{LookParts, cells_of, look_row, factor_of, IsSweep}
use Rattle.sweep_table.proofs.Factors.{factor_in-none}
use Rattle.search_model.specs.Names.{name_in}
use Rattle.search_model.specs.Problem.{Problem, IsProblem}
use Rattle.scenario_text.specs.declared.draft.TextVersion.TheVariants.{One, Two}
use Rattle.scenario_text.specs.declared.row_sorts.RowSort.TheVariants.{Cells, Positions, Moves, Drift, Overlook, Looks}
use Rattle.scenario_text.specs.declared.row_sorts.ChangeSort.TheVariants.{DriftIn, LookIn}
use Rattle.scenario_text.specs.Canonical.{first_entries, covered, plain_state, full_state}
use Rattle.scenario_text.specs.RowFields.{entry_fields, cell_row, first_row, moves_of, drift_of, overlook_of}
use Rattle.scenario_text.specs.StateRows.{position_row, look_of, state_rows}
use Rattle.scenario_text.specs.Printing.{sort_row, sort_rows, change_rows, covered_entry, first_entry, head_rows, start_rows, plain_rows, full_rows}
use Rattle.scenario_text.proofs.Ranges.{map-range-same}

-- of a cell that there isn't a look misses all
pub factor_of-beyond : (sweep : LookParts) → IsSweep sweep → (t q c : ℕ) → cells_of sweep ≤ c → factor_of sweep t q c ≡ sweep.denominator
unfolding factor_of
factor_of-beyond sweep sound t q c past =
    factor_in-none sweep.denominator (look_row sweep t q) c (All-weaker (λ entry. entry.cell < cells_of sweep) (λ entry. entry.cell ≢ c) (λ entry lt same. omega (arith, past)) (look_row sweep t q) (sound.each t q).within)

-- a look covers cells
pub covered_cells : (p : Problem) → IsProblem p → (t q : ℕ) → All (λ entry. entry.cell < p.cells) (look_row p.sweep t q)
covered_cells p h t q = subst (λ (n : ℕ). All (λ entry. entry.cell < n) (look_row p.sweep t q)) h.sweep_cells (h.sweep.each t q).within

-- The fields of entries, cell by cell.

joined : {X Y Z : Type 0} (f : Y → List Z) (g : X → List Y) (xs : List X) → flat_map f (flat_map g xs) ≡ flat_map (λ x. flat_map f (g x)) xs
joined f g [] = refl
joined {Z = Z} f g (x ∷ xs) = flat_map-append f (g x) (flat_map g xs) ∙ ap (λ (zs : List Z). flat_map f (g x) ++ zs) (joined f g xs)

kept : (p : Problem) (es : List CellPart) → map {B = CellPart} (λ e. record { cell = e.cell; part = e.part }) (filter (λ e. not (e.part == p.sweep.denominator)) es) ≡ flat_map (covered_entry p) es
kept p [] = refl
kept p (e ∷ es) = by_part (e.part == p.sweep.denominator) (filter (λ e. not (e.part == p.sweep.denominator)) es) ∙ ap (λ (rest : List CellPart). covered_entry p e ++ rest) (kept p es)
  where
    by_part : (whole : Bool) (rest : List CellPart) → map {B = CellPart} (λ (e : CellPart). record { cell = e.cell; part = e.part }) (cond (not whole) (e ∷ rest) rest) ≡ cond whole [] (record { cell = e.cell; part = e.part } ∷ []) ++ map {B = CellPart} (λ (e : CellPart). record { cell = e.cell; part = e.part }) rest
    by_part true rest = refl
    by_part false rest = refl

abbrev entry_of : Problem → CellPart → List (List ℕ)
entry_of p e = name_in p.names e.cell ∷ decimal e.part ∷ []

pub covered_fields : (p : Problem) (t q : ℕ) → spaced (flat_map (λ e. entry_fields p.names (covered_entry p e)) (look_row p.sweep t q)) ≡ spaced (entry_fields p.names (covered p t q))
covered_fields p t q = ap spaced (sym (ap (entry_fields p.names) (kept p (look_row p.sweep t q)) ∙ joined (entry_of p) (covered_entry p) (look_row p.sweep t q)))

pub first_fields : (p : Problem) → spaced (flat_map (λ c. entry_fields p.names (first_entry p c)) (range_with_len 0 p.cells)) ≡ spaced (entry_fields p.names (first_entries p))
first_fields p = ap spaced (sym (joined (entry_of p) (first_entry p) (range_with_len 0 p.cells)))

-- The rows of a state, by their numbers.

-- one row for each name
name_rows : (row : List ℕ → List (List ℕ)) (names : List (List ℕ)) (n : ℕ) → length names ≡ n → map row names ≡ map (λ c. row (name_in names c)) (range_with_len 0 n)
name_rows row names n long = fill_by_all (λ c. row (name_in names c)) (map row names) n [] (length-map names row ∙ long) (λ k lt. get_or-map row names k [] [] (omega (arith, long)))

-- one row for each row of a table that a function makes
table_rows : {X : Type 0} (line : ℕ → X → List (List ℕ)) (f : ℕ → X) (n : ℕ) (d : X) → map (λ c. line c (slice_index_or (map f (range_with_len 0 n)) c d)) (range_with_len 0 (length (map f (range_with_len 0 n)))) ≡ map (λ c. line c (f c)) (range_with_len 0 n)
table_rows {X} line f n d =
    let rows : List X = map f (range_with_len 0 n) in
    ap (λ (k : ℕ). map (λ c. line c (slice_index_or rows c d)) (range_with_len 0 k)) (length-map-range_with_len f 0 n)
    ∙ map-range-same n 0 (λ c. line c (slice_index_or rows c d)) (λ c. line c (f c)) (λ c low high. ap (line c) (get_or-map-range_with_len f 0 n c c d (omega (arith, high)) (omega arith)))

-- the rows of version 1, with these names for the positions
abbrev plain_by : Problem → List (List ℕ) → List (List (List ℕ))
plain_by p names =
    head_rows One p ++ (map cell_row p.names ++ ((codes "start" ∷ name_in names p.start ∷ []) ∷ first_row p.names (first_entries p)
    ∷ (map (λ q. moves_of names q (moves_from p.moves q)) (range_with_len 0 (length p.moves))
    ++ (map (λ c. drift_of p.names c (slice_index_or (map (row_of p.drift 1) (range_with_len 0 p.cells)) c [])) (range_with_len 0 (length (map (row_of p.drift 1) (range_with_len 0 p.cells))))
    ++ (map (λ c. overlook_of names c (unwrap_or (slice_index_or (map (λ c. Some (factor_of p.sweep 1 c c)) (range_with_len 0 p.positions)) c None) 0)) (range_with_len 0 (length (map (λ c. Some (factor_of p.sweep 1 c c)) (range_with_len 0 p.positions))))
    ++ (codes "end" ∷ []) ∷ [])))))

-- the parts as they are printed
grouped_plain : {X : Type 0} (head cells start moves drift overlook end : List X) → head ++ (cells ++ (start ++ (moves ++ (drift ++ (overlook ++ end))))) ≡ ((head ++ cells) ++ ((start ++ (moves ++ drift)) ++ overlook)) ++ end
grouped_plain head cells start moves drift overlook end = sym (simp append_assoc)

grouped_full : {X : Type 0} (head cells positions start moves drift drifts looks lookins end : List X) → head ++ (cells ++ (positions ++ (start ++ (moves ++ (drift ++ (drifts ++ (looks ++ (lookins ++ end)))))))) ≡ ((head ++ cells) ++ (positions ++ ((start ++ (moves ++ drift)) ++ (drifts ++ (looks ++ lookins))))) ++ end
grouped_full head cells positions start moves drift drifts looks lookins end = sym (simp append_assoc)

module _ (p : Problem) (h : IsProblem p) where
  cell_rows : map cell_row p.names ≡ sort_rows p Cells
  cell_rows = name_rows cell_row p.names p.cells h.names.count

  position_rows : map position_row p.position_names ≡ sort_rows p Positions
  position_rows = name_rows position_row p.position_names p.positions h.position_names.count

  moves_rows : map (λ q. moves_of p.position_names q (moves_from p.moves q)) (range_with_len 0 (length p.moves)) ≡ sort_rows p Moves
  moves_rows = ap (λ (k : ℕ). map (sort_row p Moves) (range_with_len 0 k)) h.grid_positions

  drift_rows : map (λ c. drift_of p.names c (slice_index_or (map (row_of p.drift 1) (range_with_len 0 p.cells)) c [])) (range_with_len 0 (length (map (row_of p.drift 1) (range_with_len 0 p.cells)))) ≡ sort_rows p Drift
  drift_rows = table_rows (drift_of p.names) (row_of p.drift 1) p.cells []

  overlook_rows : map (λ c. overlook_of p.position_names c (unwrap_or (slice_index_or (map (λ c. Some (factor_of p.sweep 1 c c)) (range_with_len 0 p.positions)) c None) 0)) (range_with_len 0 (length (map (λ c. Some (factor_of p.sweep 1 c c)) (range_with_len 0 p.positions)))) ≡ sort_rows p Overlook
  overlook_rows = table_rows (λ c part. overlook_of p.position_names c (unwrap_or part 0)) (λ c. Some (factor_of p.sweep 1 c c)) p.positions None

  look_rows : map (λ q. look_of p.names p.position_names q (unwrap_or (slice_index_or (map (λ a. Some (covered p 1 a)) (range_with_len 0 p.positions)) q None) [])) (range_with_len 0 (length (map (λ a. Some (covered p 1 a)) (range_with_len 0 p.positions)))) ≡ sort_rows p Looks
  look_rows = table_rows (λ q row. look_of p.names p.position_names q (unwrap_or row [])) (λ a. Some (covered p 1 a)) p.positions None

  -- where the positions are the cells, version 1 names them as the cells
  pub plain_state_rows : p.position_names ≡ p.names → state_rows (plain_state p) ≡ plain_rows p ++ (codes "end" ∷ []) ∷ []
  plain_state_rows same =
      ap (plain_by p) (sym same)
      ∙ rw (cell_rows, moves_rows, drift_rows, overlook_rows) (grouped_plain (head_rows One p) (sort_rows p Cells) (start_rows p) (sort_rows p Moves) (sort_rows p Drift) (sort_rows p Overlook) ((codes "end" ∷ []) ∷ []))

  pub full_state_rows : state_rows (full_state p) ≡ full_rows p ++ (codes "end" ∷ []) ∷ []
  full_state_rows =
      rw (cell_rows, position_rows, moves_rows, drift_rows, look_rows) (grouped_full (head_rows Two p) (sort_rows p Cells) (sort_rows p Positions) (start_rows p) (sort_rows p Moves) (sort_rows p Drift) (change_rows p DriftIn) (sort_rows p Looks) (change_rows p LookIn) ((codes "end" ∷ []) ∷ []))
