-- What was read is one problem.
use Rattle.std.proofs.Common.{◌≡◌, ℕ, ◌+◌, ◌<◌, Option, None, List, [], ◌∷◌, length, map, refl, sym, ap, ◌∙◌, subst, arith}
use Rattle.std.specs.Prelude.{◌≤◌, All, sum_by, slice_index_or}
use Rattle.std.specs.List.{AllZip, find}
use Rattle.std.specs.List.Sorted.{IsPermutation, IsStrictlyIncreasing}
use Rattle.std.specs.Option.{option_map_or}
use Rattle.std.proofs.lemmas.Bool.{ne_eqb}
use Rattle.std.proofs.lemmas.Grind.{same_number_lists}
use Rattle.std.proofs.lemmas.List.Elements.{All-head, All-tail}
use Rattle.std.proofs.lemmas.List.Sorted.{IsPermutation-sym, IsPermutation-trans}
use Rattle.std.proofs.lemmas.List.Sums.{sum_by-cons}
use Rattle.period_rows.specs.declared.part.CellPart.{CellPart}
use Rattle.period_rows.specs.Changes.{RowChange, is_for, IsSameChange}
use Rattle.drift_chain.specs.DriftRows.{DriftRows, drift_cells, IsDrift, IsDriftRow}
use Rattle.period_rows.specs.Rows.{row_at}
use Rattle.drift_chain.proofs.DriftChanges.{row_of-base, changes_right, ascending_rows}
use Rattle.search_grid.specs.Faults.{HasSameMoves}
use Rattle.search_grid.specs.Moves.{moves_from}
use Rattle.search_grid.proofs.Grids.{same_grid}
use Rattle.sweep_table.specs.LookParts.{LookParts, look_row, IsSweep}
use Rattle.period_rows.proofs.SameRows.{same_changes, same_rows}
use Rattle.scenario_text.specs.declared.draft.TextVersion.{TextVersion}
use Rattle.scenario_text.specs.declared.draft.TextVersion.TheVariants.{One, Two}
use Rattle.scenario_text.specs.State.{State}
use Rattle.scenario_text.specs.Scenarios.{SaysLooks}
use Rattle.scenario_text.specs.Laws.{OneProblem}
use Rattle.search_model.proofs.SameParts.{same_problem}

-- rows with the moves of the same rows have the same moves
moves_shared : (given xs ys : List (List ℕ)) → HasSameMoves given xs → HasSameMoves given ys → HasSameMoves xs ys
moves_shared given xs ys g h = record {
  cells = h.cells ∙ sym g.cells;
  moves = λ c inside.
      let there : c < length given = omega (arith, g.cells) in
      IsPermutation-trans (moves_from xs c) (moves_from given c) (moves_from ys c) (IsPermutation-sym (moves_from given c) (moves_from xs c) (g.moves c there)) (h.moves c there);
}

-- what has the elements of one list, row by row
shared : {X : Type 0} (R : X → X → Type 0) → ((x y z : X) → R x y → R x z → R y z) → (given xs ys : List X) → AllZip R given xs → AllZip R given ys → AllZip R xs ys
shared R both [] [] [] g h = tt
shared R both [] [] (y ∷ ys) g h = absurd h
shared R both [] (x ∷ xs) ys g h = absurd g
shared R both (z ∷ given) [] ys g h = absurd g
shared R both (z ∷ given) (x ∷ xs) [] g h = absurd h
shared R both (z ∷ given) (x ∷ xs) (y ∷ ys) g h = (both z x y g.0 h.0, shared R both given xs ys g.1 h.1)

same_entries : {X : Type 0} (given xs ys : List X) → IsPermutation given xs → IsPermutation given ys → IsPermutation xs ys
same_entries given xs ys g h = IsPermutation-trans xs given ys (IsPermutation-sym given xs g) h

same_change : (given x y : RowChange) → IsSameChange given x → IsSameChange given y → IsSameChange x y
same_change given x y g h = (h.0 ∙ sym g.0, h.1 ∙ sym g.1, same_entries given.row x.row y.row g.2 h.2)

-- The drift: no change is for period 0, so that the base rows are in force there.
none_at_0 : (cells c : ℕ) (changes : List RowChange) → All (λ change. (1 ≤ change.period) × (change.period ≤ 31) × (change.owner < cells)) changes → find (is_for 0 c) changes ≡ None
none_at_0 cells c [] within = refl
none_at_0 cells c (change ∷ changes) within =
    let first = All-head (λ change. (1 ≤ change.period) × (change.period ≤ 31) × (change.owner < cells)) change changes within in
    let rest = All-tail (λ change. (1 ≤ change.period) × (change.period ≤ 31) × (change.owner < cells)) change changes within in
    rw (ne_eqb change.period 0 (λ e. omega (arith, e, first.0))) (none_at_0 cells c changes rest)

base_right : (drift : DriftRows) → IsDrift drift → (c : ℕ) → c < length drift.rows → IsDriftRow drift.denominator (length drift.rows) (row_at drift.rows c)
unfolding row_at
base_right drift h c inside = subst (IsDriftRow drift.denominator (length drift.rows)) (row_of-base drift 0 c (none_at_0 (length drift.rows) c drift.changes h.changes.within)) (h.each 0 c inside)

same_base : (x y : DriftRows) → IsDrift x → IsDrift y → AllZip IsPermutation x.rows y.rows → x.rows ≡ y.rows
same_base x y g h same = sym (same_rows x.rows y.rows same (λ c inside. (base_right x g c inside).ascending) (λ c inside. (base_right y h c inside).ascending))

same_drifts : (given : List RowChange) (rows : List (List CellPart)) (x y : DriftRows) → IsDrift x → IsDrift y → x.denominator ≡ y.denominator → AllZip IsPermutation rows x.rows → AllZip IsPermutation rows y.rows →
    AllZip IsSameChange given x.changes → AllZip IsSameChange given y.changes → x ≡ y
same_drifts given rows x y g h over parts parts' changes changes' =
    let base = same_base x y g h (shared IsPermutation same_entries rows x.rows y.rows parts parts') in
    let steps = same_changes x.changes y.changes (shared IsSameChange same_change given x.changes y.changes changes changes')
    (ascending_rows x.denominator (drift_cells x) x.changes (changes_right x g)) (ascending_rows y.denominator (drift_cells y) y.changes (changes_right y h)) in
    λ i. record { denominator = over i; rows = base i; changes = (sym steps) i }

-- The looks: no change is for a period above all of theirs, and there the base rows are in force.
none_above : (t p : ℕ) (changes : List RowChange) → sum_by (λ c. c.period) changes < t → find (is_for t p) changes ≡ None
none_above t p [] above = refl
none_above t p (change ∷ changes) above =
    let step = sum_by-cons (λ (c : RowChange). c.period) change changes in
    rw (ne_eqb change.period t (λ e. omega (arith, e, step, above))) (none_above t p changes (omega (arith, step, above)))

look_base : (sweep : LookParts) (t p : ℕ) → find (is_for t p) sweep.changes ≡ None → look_row sweep t p ≡ slice_index_or sweep.rows p []
unfolding look_row
look_base sweep t p found = ap (λ (told : Option RowChange). option_map_or (λ change. change.row) told (slice_index_or sweep.rows p [])) found

base_ascends : (sweep : LookParts) → IsSweep sweep → (p : ℕ) → IsStrictlyIncreasing (map (λ entry. entry.cell) (row_at sweep.rows p))
unfolding row_at
base_ascends sweep h p =
    let t = 1 + sum_by (λ (c : RowChange). c.period) sweep.changes in
    let row = h.each t p in
    subst (λ (r : List CellPart). IsStrictlyIncreasing (map (λ entry. entry.cell) r)) (look_base sweep t p (none_above t p sweep.changes (omega arith))) row.ascending

same_looks : (v : TextVersion) (s : State) (x y : LookParts) → IsSweep x → IsSweep y → SaysLooks v s x → SaysLooks v s y → x ≡ y
same_looks One s x y right right' g h = g ∙ sym h
same_looks Two s x y right right' g h =
    let rows = same_rows x.rows y.rows (shared IsPermutation same_entries _ x.rows y.rows g.rows h.rows) (λ p inside. base_ascends x right p) (λ p inside. base_ascends y right' p) in
    let changes = same_changes x.changes y.changes (shared IsSameChange same_change _ x.changes y.changes g.changes h.changes) g.ascending h.ascending in
    let over = g.denominator ∙ sym h.denominator in
    let cells = g.cells ∙ sym h.cells in
    λ i. record { denominator = over i; cells = cells i; rows = (sym rows) i; changes = (sym changes) i }

pub one_problem : OneProblem
one_problem s p q g h =
    let names : p.names ≡ q.names = g.names ∙ sym h.names in
    let position_names : p.position_names ≡ q.position_names = g.position_names ∙ sym h.position_names in
    let cells : p.cells ≡ q.cells = sym g.sound.names.count ∙ ap length names ∙ h.sound.names.count in
    let positions : p.positions ≡ q.positions = sym g.sound.position_names.count ∙ ap length position_names ∙ h.sound.position_names.count in
    let firsts : p.first ≡ q.first = same_number_lists p.first q.first (g.sound.first_length ∙ cells ∙ sym h.sound.first_length) (λ c inside.
    let here : c < p.cells = omega (arith, g.sound.first_length) in
    g.first c here ∙ sym (h.first c (omega (arith, cells)))) in
    let moves : q.moves ≡ p.moves = same_grid p.moves q.moves g.sound.grid h.sound.grid (moves_shared s.moves p.moves q.moves g.moves h.moves) in
    let drift : p.drift ≡ q.drift = same_drifts _ s.parts p.drift q.drift g.sound.drift h.sound.drift (g.denominator ∙ sym h.denominator) g.parts h.parts g.changes h.changes in
    let sweep : p.sweep ≡ q.sweep = same_looks s.version s p.sweep q.sweep g.sound.sweep h.sound.sweep g.sweep h.sweep in
    same_problem p q names position_names cells positions (g.horizon ∙ sym h.horizon) (g.start ∙ sym h.start) (g.total ∙ sym h.total) firsts (sym moves) drift sweep
