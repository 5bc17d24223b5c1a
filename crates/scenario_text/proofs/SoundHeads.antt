-- The lines before the rows keep what holds of all that lines give.
use Rattle.std.proofs.Common.{◌≡◌, ℕ, ◌<◌, ◌≤◌, ◌+◌, ◌-◌, ◌*◌, Bool, true, false, List, [], ◌∷◌, ◌++◌, length, Option, Some, None, Result, Ok, refl, sym, ap, ◌∙◌, arith, subst, inl, inr, ◌⊎◌}
use Rattle.std.specs.Prelude.{if◌then◌else◌, not, ◌&&◌, ◌||◌, ◌==◌, nat_lt, nat_le, is_none, is_some, unwrap_or, All, Contains, codes, sum_by}
use Rattle.std.specs.List.{list_all, list_any}
use Rattle.std.proofs.lemmas.Bool.{ltb-false, leb-false, or_parts, not-false, eqb-true}
use Rattle.std.proofs.lemmas.List.{length-replicate, length_push}
use Rattle.std.proofs.lemmas.List.Elements.{All-nil, All-head, All-push, All-weaker, All-replicate}
use Rattle.period_rows.specs.declared.part.CellPart.{CellPart}
use Rattle.search_grid.specs.Sides.{side_moves}
use Rattle.search_model.specs.Names.{IsName, is_name_byte}
use Rattle.scenario_text.specs.declared.draft.Stage.{Stage}
use Rattle.scenario_text.specs.declared.draft.Stage.TheVariants as due
use Rattle.scenario_text.specs.declared.line.Line.TheVariants.{Scenario, Horizon, Parts, Cell, Position, Grid, Start, First}
use Rattle.scenario_text.specs.declared.draft.TextVersion.{TextVersion}
use Rattle.scenario_text.specs.declared.draft.TextVersion.TheVariants.{One, Two}
use Rattle.scenario_text.specs.KindTable.{part, pair_names, pair_parts, stands_twice, within}
use Rattle.scenario_text.specs.declared.kind.TextKind.{TextKind}
use Rattle.scenario_text.specs.declared.kind.TextKind.TheVariants.{BadLine}
use Rattle.scenario_text.specs.Fields.{is_bad, is_over, number_in, cell_named, are_pairs, entries_in}
use Rattle.scenario_text.proofs.EntryRows.{AreSaid}
use Rattle.exact_parts.specs.Decimal.{number_at}
use Rattle.text_rows.specs.Fields.{is_word}
use Rattle.text_rows.proofs.Results.{err_ok}
use Rattle.search_model.specs.Grids.{grid_names}
use Rattle.scenario_text.specs.State.{State, PeriodRow, by_version, positions_in}
use Rattle.scenario_text.specs.Grammar.{with_name, with_position, with_cells, row_at}
use Rattle.scenario_text.specs.Sound.{place_of, IsSettled, AreEntries, AreLooks, AreMoves, IsPart, IsLook, ArePositions, ArePeriodRows, AreChanges, IsSound}
use Rattle.scenario_text.proofs.SoundFields.{not_refused, in_limits, named_within, found_within, not_there, AreEntries-said}
use Rattle.scenario_text.proofs.SoundNames.{differ_more, grid_count, All-grid_names, grid_differ}
use Rattle.scenario_text.proofs.SoundRows.{All-side_moves, own_once}
use Rattle.search_grid.proofs.Beside.{length-side_moves}

pub sound_ok : (x t : State) → ◌≡◌ {A = Result State TextKind} (Ok x) (Ok t) → IsSound x → IsSound t
sound_ok x t e h = let same : x ≡ t = cc in subst IsSound same h

-- a stage that was reached
pub reached : (a b : Stage) (n : ℕ) → a ≡ b → n ≤ place_of b → n ≤ place_of a
reached a b n e le = subst (λ st. n ≤ place_of st) (sym e) le

pub not_reached : {P : Type 0} (a b : Stage) (n : ℕ) → a ≡ b → place_of b < n → n ≤ place_of a → P
not_reached a b n e lt le = let at = subst (λ st. n ≤ place_of st) e le in absurd (omega (arith, lt, at))

early : (a b : Stage) → a ≡ b → place_of b ≤ 2 → place_of a ≤ 2
early a b e le = subst (λ st. place_of st ≤ 2) (sym e) le

pub settled_on : (a b : Stage) (t total d g : ℕ) → 3 ≤ place_of a → IsSettled a t total d g → IsSettled b t total d g
settled_on a b t total d g past h = record {
  horizon = λ _. h.horizon (omega (arith, past));
  total = λ _. h.total past;
  drift = λ _. h.drift past;
  look = λ _. h.look past;
}

pub no_grid : (a b : Stage) (g : Bool) → a ≡ b → (b ≡ due.Start → ⊥) → place_of b < 4 → (g ≡ true → (a ≡ due.Start) ⊎ (4 ≤ place_of a)) → g ≡ true → ⊥
no_grid a b g e other early h is = elim (h is) [
  | inl start ↦ other (sym e ∙ start)
  | inr past ↦ not_reached a b 4 e early past
]

-- the positions as the stage goes on
pub positions_on : (v : TextVersion) (a b : Stage) (cells g : ℕ) (positions : List (List ℕ)) (looks : List (Option (List CellPart))) → (place_of b ≤ 2 → place_of a ≤ 2) → ArePositions v a cells g positions looks → ArePositions v b cells g positions looks
positions_on v a b cells g positions looks before h = record {
  few = h.few;
  names = h.names;
  differ = h.differ;
  looks_length = h.looks_length;
  covered = h.covered;
  empty = λ le. h.empty (before le);
  cells_alone = h.cells_alone;
}

-- no row of one period
pub none_period : (last owners : ℕ) (IsRow : List CellPart → Type 0) → ArePeriodRows last owners IsRow []
none_period last owners IsRow = record {
  periods = All-nil (λ r. (1 ≤ r.period) × (r.period ≤ last));
  within = All-nil (λ r. r.own < owners);
  right = All-nil (λ r. IsRow r.row);
  once = λ t c. omega arith;
}

-- none was read yet, whatever the limits
pub none_changed : (v w : TextVersion) (a b : Stage) (t c p d g t' c' p' d' g' : ℕ) (drift_rows look_rows : List PeriodRow) → place_of a ≤ 4 → AreChanges v a t c p d g drift_rows look_rows → AreChanges w b t' c' p' d' g' drift_rows look_rows
none_changed v w a b t c p d g t' c' p' d' g' drift_rows look_rows early h = record {
  early = λ le. h.early early;
  every_period = λ one. h.early early;
  drifts = subst (ArePeriodRows (t' - 1) c' (AreEntries c' d')) (sym (h.early early).0) (none_period (t' - 1) c' (AreEntries c' d'));
  looks = subst (ArePeriodRows t' p' (AreLooks c' g')) (sym (h.early early).1) (none_period t' p' (AreLooks c' g'));
}

-- those that were read stay, behind the first parts
pub changed_on : (v : TextVersion) (a b : Stage) (t c p d g : ℕ) (drift_rows look_rows : List PeriodRow) → (place_of b ≤ 4 → place_of a ≤ 4) → AreChanges v a t c p d g drift_rows look_rows → AreChanges v b t c p d g drift_rows look_rows
changed_on v a b t c p d g drift_rows look_rows before h = record { early = λ le. h.early (before le); every_period = h.every_period; drifts = h.drifts; looks = h.looks }

below : (a b : Stage) (n : ℕ) → a ≡ b → place_of b ≤ n → place_of a ≤ n
below a b n e le = subst (λ st. place_of st ≤ n) (sym e) le

-- `scenario 1`, or `scenario 2`: nothing else was read
none_by_version : (v : TextVersion) (xs ys : List (List ℕ)) → length xs ≡ 0 → length ys ≡ 0 → length (by_version v xs ys) ≡ 0
none_by_version One xs ys none none' = none
none_by_version Two xs ys none none' = none'

version_taken : (s : State) (v : TextVersion) → s.stage ≡ due.Version → IsSound s → IsSound (record s { stage = due.Horizon; version = v })
version_taken s v at h =
    let unnamed = h.empty (early s.stage due.Version at (omega arith)) in
    let unplaced = h.positions.empty (early s.stage due.Version at (omega arith)) in
    let were = none_by_version s.version s.names s.positions unnamed unplaced in
    let are = none_by_version v s.names s.positions unnamed unplaced in
    let nowhere = none_by_version s.version s.names [] unnamed refl in
    let still = none_by_version v s.names [] unnamed refl in
    record {
      settled = record { horizon = λ le. absurd (omega arith); total = λ le. absurd (omega arith); drift = λ le. absurd (omega arith); look = λ le. absurd (omega arith) };
      few = h.few;
      names = h.names;
      differ = h.differ;
      positions = record {
        few = h.positions.few;
        names = h.positions.names;
        differ = h.positions.differ;
        looks_length = h.positions.looks_length;
        covered = h.positions.covered;
        empty = λ le. unplaced;
        cells_alone = λ one. unplaced;
      };
      moves_length = h.moves_length ∙ were ∙ sym are;
      parts_length = h.parts_length;
      overlook_length = h.overlook_length ∙ nowhere ∙ sym still;
      start = λ le. absurd (omega arith);
      first = λ le. absurd (omega arith);
      moves = subst (λ (n : ℕ). All (λ row. (length row ≡ 0) ⊎ AreMoves n row) s.moves) (were ∙ sym are) h.moves;
      empty = λ le. unnamed;
      changes = none_changed s.version _ s.stage due.Horizon _ _ _ _ _ _ _ _ _ _ _ _ (below s.stage due.Version 4 at (omega arith)) h.changes;
      cells = λ is. absurd (no_grid s.stage due.Version s.gridded at (λ e. let bad : ⊥ = cc in bad) (omega arith) (λ g. (h.cells g).1) is);
      own = h.own;
      parts = h.parts;
      overlook = h.overlook;
      whole = λ e. absurd (let bad : ⊥ = cc in bad);
      fits = λ e. absurd (let bad : ⊥ = cc in bad);
    }

pub version_sound : (s : State) (fields : List (List ℕ)) (t : State) → s.stage ≡ due.Version → IsSound s → row_at Scenario s fields ≡ Ok t → IsSound t
version_sound s [] t at h e = absurd (err_ok BadLine t e)
version_sound s (version ∷ []) t at h e =
    let v = if is_word version (codes "1") then One else Two in
    sound_ok _ t (not_refused (not ((is_word version (codes "1") || is_word version (codes "2")) && true)) BadLine (Ok (record s { stage = due.Horizon; version = v })) t e).1 (version_taken s v at h)
version_sound s (version ∷ more ∷ fields) t at h e = absurd (err_ok BadLine t e)

-- `horizon T`
horizon_taken : (s : State) (n : ℕ) → s.stage ≡ due.Horizon → (1 ≤ n) × (n ≤ 32) → IsSound s → IsSound (record s { stage = due.Parts; horizon = n })
horizon_taken s n at within h = record {
  settled = record { horizon = λ le. within; total = λ le. absurd (omega arith); drift = λ le. absurd (omega arith); look = λ le. absurd (omega arith) };
  few = h.few;
  names = h.names;
  differ = h.differ;
  positions = positions_on s.version s.stage due.Parts _ _ _ _ (λ le. below s.stage due.Horizon 2 at (omega arith)) h.positions;
  moves_length = h.moves_length;
  parts_length = h.parts_length;
  overlook_length = h.overlook_length;
  start = λ le. absurd (omega arith);
  first = λ le. absurd (omega arith);
  moves = h.moves;
  empty = λ le. h.empty (early s.stage due.Horizon at (omega arith));
  changes = none_changed s.version _ s.stage due.Parts _ _ _ _ _ _ _ _ _ _ _ _ (below s.stage due.Horizon 4 at (omega arith)) h.changes;
  cells = λ is. absurd (no_grid s.stage due.Horizon s.gridded at (λ e. let bad : ⊥ = cc in bad) (omega arith) (λ g. (h.cells g).1) is);
  own = h.own;
  parts = h.parts;
  overlook = h.overlook;
  whole = λ e. absurd (let bad : ⊥ = cc in bad);
  fits = λ e. absurd (let bad : ⊥ = cc in bad);
}

pub horizon_sound : (s : State) (fields : List (List ℕ)) (t : State) → s.stage ≡ due.Horizon → IsSound s → row_at Horizon s fields ≡ Ok t → IsSound t
horizon_sound s [] t at h e = absurd (err_ok BadLine t e)
horizon_sound s (n ∷ []) t at h e =
    let good = not_refused (is_bad 1 (number_at 32 n) || false) _ _ t e in
    let small = not_refused ((is_over (number_at 32 n) || false) || false) _ _ t good.1 in
    sound_ok _ t small.1 (horizon_taken s (number_in (number_at 32 n)) at (in_limits 32 n (or_parts _ _ good.0).0 (or_parts _ _ (or_parts _ _ small.0).0).0) h)
horizon_sound s (n ∷ more ∷ fields) t at h e = absurd (err_ok BadLine t e)

none_either : (version : TextVersion) (names : List (List ℕ)) → length names ≡ 0 → length (by_version version names []) ≡ 0
none_either One names none = none
none_either Two names none = refl

-- `parts A D G`: no row of parts was read before
parts_taken : (s : State) (a d g : ℕ) → s.stage ≡ due.Parts → (1 ≤ a) × (a ≤ 1000000) → (1 ≤ d) × (d ≤ 1000000) → (1 ≤ g) × (g ≤ 1000000) → length s.names ≡ 0 → IsSound s →
    IsSound (record s { stage = due.Cells; total = a; drift = d; look = g })
parts_taken s a d g at first drift look none h = record {
  settled = record { horizon = λ le. h.settled.horizon (reached s.stage due.Parts 2 at (omega arith)); total = λ le. first; drift = λ le. drift; look = λ le. look };
  few = h.few;
  names = h.names;
  differ = h.differ;
  positions = record {
    few = h.positions.few;
    names = h.positions.names;
    differ = h.positions.differ;
    looks_length = h.positions.looks_length;
    covered = λ k o lt. absurd (omega (arith, lt, h.positions.looks_length, h.positions.empty (below s.stage due.Parts 2 at (omega arith))));
    empty = λ le. h.positions.empty (below s.stage due.Parts 2 at (omega arith));
    cells_alone = h.positions.cells_alone;
  };
  moves_length = h.moves_length;
  parts_length = h.parts_length;
  overlook_length = h.overlook_length;
  start = λ le. absurd (omega arith);
  first = λ le. absurd (omega arith);
  moves = h.moves;
  empty = λ le. absurd (omega arith);
  changes = none_changed s.version _ s.stage due.Cells _ _ _ _ _ _ _ _ _ _ _ _ (below s.stage due.Parts 4 at (omega arith)) h.changes;
  cells = λ is. absurd (no_grid s.stage due.Parts s.gridded at (λ e. let bad : ⊥ = cc in bad) (omega arith) (λ g. (h.cells g).1) is);
  own = h.own;
  parts = λ k row lt. absurd (omega (arith, lt, h.parts_length, none));
  overlook = λ k o lt. absurd (omega (arith, lt, h.overlook_length, none_either s.version s.names none));
  whole = λ e. absurd (let bad : ⊥ = cc in bad);
  fits = λ e. absurd (let bad : ⊥ = cc in bad);
}

pub parts_sound : (s : State) (fields : List (List ℕ)) (t : State) → s.stage ≡ due.Parts → IsSound s → row_at Parts s fields ≡ Ok t → IsSound t
parts_sound s [] t at h e = absurd (err_ok BadLine t e)
parts_sound s (a ∷ []) t at h e = absurd (err_ok BadLine t e)
parts_sound s (a ∷ d ∷ []) t at h e = absurd (err_ok BadLine t e)
parts_sound s (a ∷ d ∷ g ∷ []) t at h e =
    let first = number_at 1000000 a in
    let drift = number_at 1000000 d in
    let look = number_at 1000000 g in
    let good = not_refused (is_bad 1 first || (is_bad 1 drift || (is_bad 1 look || false))) _ _ t e in
    let small = not_refused ((is_over first || (is_over drift || (is_over look || false))) || false) _ _ t good.1 in
    let goods = or_parts (is_bad 1 first) _ good.0 in
    let goods' = or_parts (is_bad 1 drift) _ goods.1 in
    let smalls = or_parts (is_over first) _ (or_parts _ false small.0).0 in
    let smalls' = or_parts (is_over drift) _ smalls.1 in
    sound_ok _ t small.1 (parts_taken s (number_in first) (number_in drift) (number_in look) at
    (in_limits 1000000 a goods.0 smalls.0) (in_limits 1000000 d goods'.0 smalls'.0) (in_limits 1000000 g (or_parts _ false goods'.1).0 (or_parts _ false smalls'.1).0) (h.empty (early s.stage due.Parts at (omega arith))) h)
parts_sound s (a ∷ d ∷ g ∷ more ∷ fields) t at h e = absurd (err_ok BadLine t e)

-- More cells only widen what was read.
wider_moves : (m n : ℕ) → m ≤ n → (row : List ℕ) → (length row ≡ 0) ⊎ AreMoves m row → (length row ≡ 0) ⊎ AreMoves n row
wider_moves m n le row (inl none) = inl none
wider_moves m n le row (inr h) =
    inr (record { some = h.some; few = h.few; within = All-weaker (λ d. d < m) (λ d. d < n) (λ d lt. omega arith) row h.within; once = h.once })

wider_entries : (m n d : ℕ) → m ≤ n → (row : List CellPart) → (length row ≡ 0) ⊎ AreEntries m d row → (length row ≡ 0) ⊎ AreEntries n d row
wider_entries m n d le row (inl none) = inl none
wider_entries m n d le row (inr h) =
    inr (record { within = All-weaker (λ e. e.cell < m) (λ e. e.cell < n) (λ e lt. omega arith) row h.within; positive = h.positive; once = h.once; total = h.total })

wider_look : (m n g : ℕ) → m ≤ n → (o : Option (List CellPart)) → IsLook m g o → IsLook n g o
wider_look m n g le None h = h
wider_look m n g le (Some row) h = record { within = All-weaker (λ e. e.cell < m) (λ e. e.cell < n) (λ e lt. omega arith) row h.within; parts = h.parts; once = h.once }

-- `cell NAME`
cell_as : TextVersion → State → List ℕ → State
cell_as version s name =
    record s {
      version = version;
      names = s.names ++ name ∷ [];
      moves = by_version version (s.moves ++ [] ∷ []) s.moves;
      parts = s.parts ++ [] ∷ [];
      overlook = by_version version (s.overlook ++ None ∷ []) s.overlook;
    }

module _ (s : State) (name : List ℕ) (at : s.stage ≡ due.Cells) (is_name : IsName name) (few : length s.names < 200) (new : ¬ Contains s.names name) (h : IsSound s) where
  long : length (s.names ++ name ∷ []) ≡ length s.names + 1
  long = length_push s.names name

  wider_positions : ArePositions s.version s.stage (length (s.names ++ name ∷ [])) s.look s.positions s.looks
  wider_positions = record {
    few = h.positions.few;
    names = h.positions.names;
    differ = h.positions.differ;
    looks_length = h.positions.looks_length;
    covered = All-weaker (IsLook (length s.names) s.look) (IsLook (length (s.names ++ name ∷ [])) s.look) (wider_look (length s.names) (length (s.names ++ name ∷ [])) s.look (omega (arith, long))) s.looks h.positions.covered;
    empty = h.positions.empty;
    cells_alone = h.positions.cells_alone;
  }

  wider_parts : All (λ row. (length row ≡ 0) ⊎ AreEntries (length (s.names ++ name ∷ [])) s.drift row) (s.parts ++ [] ∷ [])
  wider_parts =
      let Q : List CellPart → Type 0 = λ row. (length row ≡ 0) ⊎ AreEntries (length (s.names ++ name ∷ [])) s.drift row in
      All-push Q s.parts [] (All-weaker _ Q (wider_entries (length s.names) (length (s.names ++ name ∷ [])) s.drift (omega (arith, long))) s.parts h.parts) (inl refl)

  cell_in : (version : TextVersion) → s.version ≡ version → IsSound (cell_as version s name)
  unfolding cell_as long
  cell_in One one =
      let n = length s.names in
      let m = length (s.names ++ name ∷ []) in
      let P : List ℕ → Type 0 = λ row. (length row ≡ 0) ⊎ AreMoves m row in
      let rows : length s.moves ≡ n = h.moves_length ∙ ap (λ (v : TextVersion). length (by_version v s.names s.positions)) one in
      let overlooks : length s.overlook ≡ n = h.overlook_length ∙ ap (λ (v : TextVersion). length (by_version v s.names [])) one in
      let moves : All (λ row. (length row ≡ 0) ⊎ AreMoves n row) s.moves = subst (λ (v : TextVersion). All (λ row. (length row ≡ 0) ⊎ AreMoves (length (by_version v s.names s.positions)) row) s.moves) one h.moves in
      record {
        settled = h.settled;
        few = omega (arith, long, few);
        names = All-push IsName s.names name h.names is_name;
        differ = differ_more s.names name h.differ new;
        positions = subst (λ (v : TextVersion). ArePositions v s.stage (length (s.names ++ name ∷ [])) s.look s.positions s.looks) one wider_positions;
        moves_length = omega (arith, long, length_push s.moves [], rows);
        parts_length = omega (arith, long, length_push s.parts [], h.parts_length);
        overlook_length = omega (arith, long, length_push s.overlook None, overlooks);
        start = λ le. not_reached s.stage due.Cells 4 at (omega arith) le;
        first = λ le. not_reached s.stage due.Cells 5 at (omega arith) le;
        moves = All-push P s.moves [] (All-weaker _ P (wider_moves n m (omega (arith, long))) s.moves moves) (inl refl);
        empty = λ le. absurd (let here = subst (λ st. place_of st ≤ 2) at le in omega (arith, here));
        cells = λ is. (refl, (h.cells is).1);
        own = λ is c lt. absurd (no_grid s.stage due.Cells s.gridded at (λ e. let bad : ⊥ = cc in bad) (omega arith) (λ g. (h.cells g).1) is);
        parts = wider_parts;
        overlook = All-push (IsPart s.look) s.overlook None h.overlook tt;
        changes = none_changed s.version _ s.stage s.stage _ _ _ _ _ _ _ _ _ _ _ _ (below s.stage due.Cells 4 at (omega arith)) h.changes;
        whole = λ e. absurd (let bad : due.Cells ≡ due.Ended = sym at ∙ e in let none : ⊥ = cc in none);
        fits = λ e. absurd (let bad : due.Cells ≡ due.Ended = sym at ∙ e in let none : ⊥ = cc in none);
      }
  cell_in Two two =
      record {
        settled = h.settled;
        few = omega (arith, long, few);
        names = All-push IsName s.names name h.names is_name;
        differ = differ_more s.names name h.differ new;
        positions = subst (λ (v : TextVersion). ArePositions v s.stage (length (s.names ++ name ∷ [])) s.look s.positions s.looks) two wider_positions;
        moves_length = h.moves_length ∙ ap (λ (v : TextVersion). length (by_version v s.names s.positions)) two;
        parts_length = omega (arith, long, length_push s.parts [], h.parts_length);
        overlook_length = h.overlook_length ∙ ap (λ (v : TextVersion). length (by_version v s.names [])) two;
        start = λ le. not_reached s.stage due.Cells 4 at (omega arith) le;
        first = λ le. not_reached s.stage due.Cells 5 at (omega arith) le;
        moves = subst (λ (v : TextVersion). All (λ row. (length row ≡ 0) ⊎ AreMoves (length (by_version v s.names s.positions)) row) s.moves) two h.moves;
        empty = λ le. absurd (let here = subst (λ st. place_of st ≤ 2) at le in omega (arith, here));
        cells = λ is. absurd (no_grid s.stage due.Cells s.gridded at (λ e. let bad : ⊥ = cc in bad) (omega arith) (λ g. (h.cells g).1) is);
        own = λ is c lt. absurd (no_grid s.stage due.Cells s.gridded at (λ e. let bad : ⊥ = cc in bad) (omega arith) (λ g. (h.cells g).1) is);
        parts = wider_parts;
        overlook = h.overlook;
        changes = none_changed s.version _ s.stage s.stage _ _ _ _ _ _ _ _ _ _ _ _ (below s.stage due.Cells 4 at (omega arith)) h.changes;
        whole = λ e. absurd (let bad : due.Cells ≡ due.Ended = sym at ∙ e in let none : ⊥ = cc in none);
        fits = λ e. absurd (let bad : due.Cells ≡ due.Ended = sym at ∙ e in let none : ⊥ = cc in none);
      }

  cell_taken : IsSound (with_name s name)
  unfolding cell_as
  cell_taken = cell_in s.version refl

-- the bytes of a name
all_bytes : (b : Bool) → (b && true) ≡ true → b ≡ true
all_bytes true e = refl
all_bytes false e = e

pub cell_sound : (s : State) (fields : List (List ℕ)) (t : State) → s.stage ≡ due.Cells → IsSound s → All (λ f. 1 ≤ length f) fields → row_at Cell s fields ≡ Ok t → IsSound t
cell_sound s [] t at h some e = absurd (err_ok BadLine t e)
cell_sound s (name ∷ []) t at h some e =
    let bytes = not_refused (not (list_all is_name_byte name && true)) _ _ t e in
    let small = not_refused ((nat_lt 24 (length name) || false) || nat_le 200 (length s.names)) _ _ t bytes.1 in
    let new = not_refused (is_some (cell_named s.names name) || false) _ _ t small.1 in
    let limits = or_parts (nat_lt 24 (length name) || false) _ small.0 in
    let is_name : IsName name = record { some = All-head (λ f. 1 ≤ length f) name [] some; short = ltb-false 24 (length name) (or_parts _ false limits.0).0; bytes = all_bytes _ (not-false _ bytes.0) } in
    sound_ok _ t new.1 (cell_taken s name at is_name (leb-false 200 (length s.names) limits.1) (not_there s.names name (or_parts _ false new.0).0) h)
cell_sound s (name ∷ more ∷ fields) t at h some e = absurd (err_ok BadLine t e)

-- `position NAME`
position_taken : (s : State) (name : List ℕ) → s.version ≡ Two → place_of s.stage ≡ 3 → IsName name → length s.positions < 200 → ¬ Contains s.positions name → IsSound s → IsSound (with_position s name)
position_taken s name two at is_name few new h =
    let n = length s.positions in
    let m = length (s.positions ++ name ∷ []) in
    let long : m ≡ n + 1 = length_push s.positions name in
    let names : by_version s.version s.names (s.positions ++ name ∷ []) ≡ s.positions ++ name ∷ [] = ap (λ (v : TextVersion). by_version v s.names (s.positions ++ name ∷ [])) two in
    let now : length (by_version s.version s.names (s.positions ++ name ∷ [])) ≡ m = ap (λ (x : List (List ℕ)). length x) names in
    let rows : length s.moves ≡ n = h.moves_length ∙ ap (λ (v : TextVersion). length (by_version v s.names s.positions)) two in
    let P : List ℕ → Type 0 = λ row. (length row ≡ 0) ⊎ AreMoves (length (by_version s.version s.names (s.positions ++ name ∷ []))) row in
    let moves : All (λ row. (length row ≡ 0) ⊎ AreMoves n row) s.moves = subst (λ (v : TextVersion). All (λ row. (length row ≡ 0) ⊎ AreMoves (length (by_version v s.names s.positions)) row) s.moves) two h.moves in
    let ungridded : s.gridded ≡ true → ⊥ = λ is. let bad : One ≡ Two = sym (h.cells is).0 ∙ two in let none : ⊥ = cc in none in
    record {
      settled = settled_on s.stage due.Positions _ _ _ _ (omega (arith, at)) h.settled;
      few = h.few;
      names = h.names;
      differ = h.differ;
      positions = record {
        few = omega (arith, long, few);
        names = All-push IsName s.positions name h.positions.names is_name;
        differ = differ_more s.positions name h.positions.differ new;
        looks_length = omega (arith, long, length_push s.looks None, h.positions.looks_length);
        covered = All-push (IsLook (length s.names) s.look) s.looks None h.positions.covered tt;
        empty = λ le. absurd (omega arith);
        cells_alone = λ one. absurd (let bad : One ≡ Two = sym one ∙ two in let none : ⊥ = cc in none);
      };
      moves_length = omega (arith, now, long, length_push s.moves [], rows);
      parts_length = h.parts_length;
      overlook_length = h.overlook_length;
      start = λ le. absurd (omega arith);
      first = λ le. absurd (omega arith);
      moves = All-push P s.moves [] (All-weaker _ P (wider_moves n _ (omega (arith, long, now))) s.moves moves) (inl refl);
      empty = λ le. absurd (omega arith);
      cells = λ is. absurd (ungridded is);
      own = λ is c lt. absurd (ungridded is);
      parts = h.parts;
      overlook = h.overlook;
      changes = none_changed s.version _ s.stage due.Positions _ _ _ _ _ _ _ _ _ _ _ _ (omega (arith, at)) h.changes;
      whole = λ e. absurd (let bad : ⊥ = cc in bad);
      fits = λ e. absurd (let bad : ⊥ = cc in bad);
    }

pub position_sound : (s : State) (fields : List (List ℕ)) (t : State) → (s.version ≡ Two) × (place_of s.stage ≡ 3) → IsSound s → All (λ f. 1 ≤ length f) fields → row_at Position s fields ≡ Ok t → IsSound t
position_sound s [] t at h some e = absurd (err_ok BadLine t e)
position_sound s (name ∷ []) t at h some e =
    let bytes = not_refused (not (list_all is_name_byte name && true)) _ _ t e in
    let small = not_refused ((nat_lt 24 (length name) || false) || nat_le 200 (length s.positions)) _ _ t bytes.1 in
    let new = not_refused (is_some (cell_named s.positions name) || false) _ _ t small.1 in
    let limits = or_parts (nat_lt 24 (length name) || false) _ small.0 in
    let is_name : IsName name = record { some = All-head (λ f. 1 ≤ length f) name [] some; short = ltb-false 24 (length name) (or_parts _ false limits.0).0; bytes = all_bytes _ (not-false _ bytes.0) } in
    sound_ok _ t new.1 (position_taken s name at.0 at.1 is_name (leb-false 200 (length s.positions) limits.1) (not_there s.positions name (or_parts _ false new.0).0) h)
position_sound s (name ∷ more ∷ fields) t at h some e = absurd (err_ok BadLine t e)

-- `grid R C`
grid_taken : (s : State) (rows cols : ℕ) → s.version ≡ One → s.stage ≡ due.Cells → 1 ≤ rows → 1 ≤ cols → rows * cols ≤ 200 → IsSound s → IsSound (with_cells s rows cols)
grid_taken s rows cols one at some_row some_col few h =
    let n = length (grid_names rows cols) in
    let now : by_version s.version (grid_names rows cols) s.positions ≡ grid_names rows cols = ap (λ (v : TextVersion). by_version v (grid_names rows cols) s.positions) one in
    let places : length (by_version s.version (grid_names rows cols) s.positions) ≡ n = ap (λ (x : List (List ℕ)). length x) now in
    let targets : length (by_version s.version (grid_names rows cols) []) ≡ n = ap (λ (v : TextVersion). length (by_version v (grid_names rows cols) [])) one in
    let long : n ≡ rows * cols = grid_count rows cols in
    let P : ℕ → Type 0 = λ m. All (AreMoves m) (side_moves rows cols) in
    let Q : List ℕ → Type 0 = λ row. (length row ≡ 0) ⊎ AreMoves (length (by_version s.version (grid_names rows cols) s.positions)) row in
    let moves : All (AreMoves (length (by_version s.version (grid_names rows cols) s.positions))) (side_moves rows cols) = subst P (sym (places ∙ long)) (All-side_moves rows cols some_row some_col few) in
    let unplaced : length s.positions ≡ 0 = h.positions.cells_alone one in
    record {
      settled = settled_on s.stage due.Start _ _ _ _ (reached s.stage due.Cells 3 at (omega arith)) h.settled;
      few = omega (arith, long, few);
      names = All-grid_names rows cols some_col few;
      differ = grid_differ rows cols some_col few;
      positions = record {
        few = h.positions.few;
        names = h.positions.names;
        differ = h.positions.differ;
        looks_length = h.positions.looks_length;
        covered = λ k o lt. absurd (omega (arith, lt, h.positions.looks_length, unplaced));
        empty = λ le. absurd (omega arith);
        cells_alone = h.positions.cells_alone;
      };
      moves_length = length-side_moves rows cols ∙ sym long ∙ sym places;
      parts_length = length-replicate (rows * cols) [] ∙ sym long;
      overlook_length = length-replicate (rows * cols) None ∙ sym long ∙ sym targets;
      start = λ le. absurd (omega arith);
      first = λ le. absurd (omega arith);
      moves = All-weaker (AreMoves (length (by_version s.version (grid_names rows cols) s.positions))) Q (λ row m. inr m) (side_moves rows cols) moves;
      empty = λ le. absurd (omega arith);
      cells = λ is. (one, inl refl);
      changes = none_changed s.version _ s.stage due.Start _ _ _ _ _ _ _ _ _ _ _ _ (below s.stage due.Cells 4 at (omega arith)) h.changes;
      own = λ is c lt. own_once rows cols c lt;
      parts = All-replicate (λ row. (length row ≡ 0) ⊎ AreEntries n s.drift row) (rows * cols) [] (inl refl);
      overlook = All-replicate (IsPart s.look) (rows * cols) None tt;
      whole = λ e. absurd (let bad : ⊥ = cc in bad);
      fits = λ e. absurd (let bad : ⊥ = cc in bad);
    }

pub grid_sound : (s : State) (fields : List (List ℕ)) (t : State) → (s.version ≡ One) × (s.stage ≡ due.Cells) → IsSound s → row_at Grid s fields ≡ Ok t → IsSound t
grid_sound s [] t at h e = absurd (err_ok BadLine t e)
grid_sound s (rows ∷ []) t at h e = absurd (err_ok BadLine t e)
grid_sound s (rows ∷ cols ∷ []) t at h e =
    let r = number_at 200 rows in
    let c = number_at 200 cols in
    let good = not_refused (is_bad 1 r || (is_bad 1 c || false)) _ _ t e in
    let small = not_refused ((is_over r || (is_over c || false)) || nat_lt 200 (number_in r * number_in c)) _ _ t good.1 in
    let goods = or_parts (is_bad 1 r) _ good.0 in
    let few = or_parts (is_over r || (is_over c || false)) _ small.0 in
    let smalls = or_parts (is_over r) _ few.0 in
    let row = in_limits 200 rows goods.0 smalls.0 in
    let col = in_limits 200 cols (or_parts _ false goods.1).0 (or_parts _ false smalls.1).0 in
    sound_ok _ t small.1 (grid_taken s (number_in r) (number_in c) at.0 at.1 row.0 col.0 (ltb-false 200 (number_in r * number_in c) few.1) h)
grid_sound s (rows ∷ cols ∷ more ∷ fields) t at h e = absurd (err_ok BadLine t e)

-- `start NAME`
start_taken : (s : State) (c : ℕ) → place_of s.stage ≡ 3 → c < length (positions_in s) → IsSound s → IsSound (record s { stage = due.First; start = c })
start_taken s c past within h = record {
  settled = settled_on s.stage due.First _ _ _ _ (omega (arith, past)) h.settled;
  few = h.few;
  names = h.names;
  differ = h.differ;
  positions = positions_on s.version s.stage due.First _ _ _ _ (λ le. absurd (omega arith)) h.positions;
  moves_length = h.moves_length;
  parts_length = h.parts_length;
  overlook_length = h.overlook_length;
  start = λ le. within;
  first = λ le. absurd (omega arith);
  moves = h.moves;
  empty = λ le. absurd (omega arith);
  cells = λ is. ((h.cells is).0, inr (omega arith));
  own = h.own;
  parts = h.parts;
  overlook = h.overlook;
  changes = none_changed s.version _ s.stage due.First _ _ _ _ _ _ _ _ _ _ _ _ (omega (arith, past)) h.changes;
  whole = λ e. absurd (let bad : ⊥ = cc in bad);
  fits = λ e. absurd (let bad : ⊥ = cc in bad);
}

-- a name that is one of these
pub named_one : (names : List (List ℕ)) (name : List ℕ) → is_none (cell_named names name) ≡ false → unwrap_or (cell_named names name) 0 < length names
named_one names name e = found_within (cell_named names name) (length names) (named_within names name) e

pub start_sound : (s : State) (fields : List (List ℕ)) (t : State) → place_of s.stage ≡ 3 → IsSound s → row_at Start s fields ≡ Ok t → IsSound t
start_sound s [] t past h e = absurd (err_ok BadLine t e)
start_sound s (name ∷ []) t past h e =
    let found = not_refused ((is_none (cell_named (positions_in s) name) || false) || false) _ _ t e in
    sound_ok _ t found.1 (start_taken s _ past (named_one (positions_in s) name (or_parts _ false (or_parts _ false found.0).0).0) h)
start_sound s (name ∷ more ∷ fields) t past h e = absurd (err_ok BadLine t e)

-- `first NAME PART NAME PART ..`
first_taken : (s : State) (entries : List CellPart) → s.stage ≡ due.First → AreEntries (length s.names) s.total entries → IsSound s → IsSound (record s { stage = due.Rows; first = entries })
first_taken s entries at are h = record {
  settled = settled_on s.stage due.Rows _ _ _ _ (reached s.stage due.First 3 at (omega arith)) h.settled;
  few = h.few;
  names = h.names;
  differ = h.differ;
  positions = positions_on s.version s.stage due.Rows _ _ _ _ (λ le. absurd (omega arith)) h.positions;
  moves_length = h.moves_length;
  parts_length = h.parts_length;
  overlook_length = h.overlook_length;
  start = λ le. h.start (reached s.stage due.First 4 at (omega arith));
  first = λ le. are;
  moves = h.moves;
  empty = λ le. absurd (omega arith);
  cells = λ is. ((h.cells is).0, inr (omega arith));
  changes = none_changed s.version _ s.stage due.Rows _ _ _ _ _ _ _ _ _ _ _ _ (below s.stage due.First 4 at (omega arith)) h.changes;
  own = h.own;
  parts = h.parts;
  overlook = h.overlook;
  whole = λ e. absurd (let bad : ⊥ = cc in bad);
  fits = λ e. absurd (let bad : ⊥ = cc in bad);
}

pub first_sound : (s : State) (fields : List (List ℕ)) (t : State) → s.stage ≡ due.First → IsSound s → row_at First s fields ≡ Ok t → IsSound t
first_sound s fields t at h e =
    let numbers = within 1 1000000 (pair_parts fields) in
    let form = not_refused (not (are_pairs fields) || false) _ _ t e in
    let good = not_refused (list_any (λ n. is_bad n.least (number_at n.most n.field)) numbers) _ _ t form.1 in
    let small = not_refused (list_any (λ n. is_over (number_at n.most n.field)) numbers || false) _ _ t good.1 in
    let found = not_refused (list_any (λ f. is_none (cell_named s.names f)) (pair_names fields)) _ _ t small.1 in
    let single = not_refused (stands_twice (pair_names fields)) _ _ t found.1 in
    let right = not_refused (not (sum_by part (pair_parts fields) == s.total)) _ _ t single.1 in
    let said : AreSaid s.names 1 fields (entries_in s.names fields) = record { bad = good.0; over = (or_parts _ false small.0).0; known = found.0; once = single.0; entries = refl } in
    sound_ok _ t right.1 (first_taken s _ at (AreEntries-said s.names fields _ s.total said (eqb-true _ _ (not-false _ right.0))) h)
