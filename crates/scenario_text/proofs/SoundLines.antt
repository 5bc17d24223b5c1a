-- The rows and the end keep what holds of all that lines give.
use Rattle.std.proofs.Common.{◌≡◌, ℕ, zero, suc, ◌<◌, ◌≤◌, ◌*◌, ◌-◌, Bool, true, false, cond, List, [], ◌∷◌, ◌++◌, map, length, set, replicate, Option, Some, None, Ok, refl, sym, ap, subst, ◌∙◌, arith, inl, inr, ◌⊎◌}
use Rattle.std.specs.Prelude.{not, ◌&&◌, ◌||◌, ◌==◌, nat_lt, is_none, is_some, unwrap_or, All, count_by, sum_by}
use Rattle.std.specs.List.{list_any}
use Rattle.std.proofs.lemmas.Bool.{ltb-true, ltb-false, eqb-true, eqb-false, not-false, or_parts, cases_Bool}
use Rattle.std.proofs.lemmas.List.{length-set, length-map, length-replicate}
use Rattle.std.proofs.lemmas.List.Elements.{All-set, All-push, All-replicate}
use Rattle.std.proofs.lemmas.List.Sums.{count_by-le-length, sum_by-cons, sum_by_push}
use Rattle.period_rows.specs.declared.part.CellPart.{CellPart}
use Rattle.exact_parts.specs.Width.{Fits}
use Rattle.search_grid.specs.Moves.{moves_from}
use Rattle.scenario_text.specs.declared.draft.Stage.{Stage}
use Rattle.scenario_text.specs.declared.draft.Stage.TheVariants as due
use Rattle.scenario_text.specs.declared.line.Line.TheVariants.{Moves, Drift, DriftIn, Overlook, Spread, Rate, Look, LookIn, End}
use Rattle.scenario_text.specs.declared.kind.TextKind.TheVariants.{BadLine, OverLimit}
use Rattle.scenario_text.specs.Fields.{is_bad, is_over, number_in, cell_named, are_even, are_pairs, entries_in}
use Rattle.scenario_text.specs.ByCells.{has_double}
use Rattle.scenario_text.proofs.ByCellNames.{with_moves, moves_by_cells}
use Rattle.scenario_text.proofs.EntryRows.{AreSaid}
use Rattle.exact_parts.specs.Decimal.{number_at}
use Rattle.text_rows.proofs.Results.{err_ok}
use Rattle.search_model.specs.Grids.{spread_rows}
use Rattle.scenario_text.specs.State.{State, PeriodRow, by_version, positions_in}
use Rattle.scenario_text.specs.declared.draft.TextVersion.{TextVersion}
use Rattle.scenario_text.specs.declared.draft.TextVersion.TheVariants.{One, Two}
use Rattle.scenario_text.specs.KindTable.{holds_of, has_moves, has_parts, has_overlook, has_look, has_period_row, lacks_row, is_narrow, part, pair_names, pair_parts, stands_twice, within}
use Rattle.scenario_text.specs.Grammar.{row_at}
use Rattle.scenario_text.specs.Sound.{place_of, AreEntries, AreLooks, AreMoves, IsPart, IsLook, ArePeriodRows, IsSound}
use Rattle.scenario_text.proofs.SoundFields.{not_refused, in_limits, named_within, AreMoves-from_named, AreEntries-said, AreLooks-said}
use Rattle.scenario_text.proofs.SoundRows.{length-spread_rows, All-spread_rows}
use Rattle.scenario_text.proofs.SoundHeads.{sound_ok, reached, settled_on, positions_on, changed_on, named_one}

not_ended : {P : Type 0} (a : Stage) → a ≡ due.Rows → a ≡ due.Ended → P
not_ended a e e' = absurd (let bad : ⊥ = cc in bad)

-- `moves NAME NAME NAME ..`
set_own : (moves : List (List ℕ)) (b : ℕ) (row : List ℕ) → nat_lt 0 (length (moves_from moves b)) ≡ false → ((c : ℕ) → c < length moves → count_by (λ m. m == c) (moves_from moves c) ≡ 1) → b < length moves → ⊥
set_own moves b row none own lt = omega (arith, own b lt, count_by-le-length (λ m. m == b) (moves_from moves b), ltb-false 0 (length (moves_from moves b)) none)

moves_taken : (s : State) (c : ℕ) (row : List ℕ) → s.stage ≡ due.Rows → c < length (positions_in s) → has_moves s c ≡ false → AreMoves (length (positions_in s)) row → IsSound s → IsSound (record s { moves = set s.moves c row })
moves_taken s c row at within none are h = record {
  settled = h.settled;
  few = h.few;
  names = h.names;
  differ = h.differ;
  positions = h.positions;
  moves_length = length-set s.moves c row ∙ h.moves_length;
  parts_length = h.parts_length;
  overlook_length = h.overlook_length;
  start = h.start;
  first = h.first;
  moves = All-set (λ row. (length row ≡ 0) ⊎ AreMoves (length (positions_in s)) row) s.moves c row (inr are) h.moves;
  empty = h.empty;
  cells = h.cells;
  own = λ is b lt. absurd (set_own s.moves c row none (h.own is) (omega (arith, within, h.moves_length)));
  parts = h.parts;
  overlook = h.overlook;
  changes = h.changes;
  whole = λ e. not_ended s.stage at e;
  fits = λ e. not_ended s.stage at e;
}

found_moves : (s : State) (o : Option ℕ) (fields : List (List ℕ)) (t : State) → s.stage ≡ due.Rows → ((c : ℕ) → o ≡ Some c → c < length (positions_in s)) → length fields ≤ 64 → IsSound s → with_moves s o (map (cell_named (positions_in s)) fields) ≡ Ok t → IsSound t
found_moves s None fields t at within few h e = absurd (let bad : ⊥ = cc in bad)
found_moves s (Some c) fields t at within few h e =
    let cells = map (cell_named (positions_in s)) fields in
    let found = not_refused (list_any (λ m. is_none m) cells) _ _ t e in
    let single = not_refused (has_double cells) _ _ t found.1 in
    let new = not_refused (has_moves s c) _ _ t single.1 in
    let some = not_refused (length cells == 0) _ _ t new.1 in
    let long = length-map fields (cell_named (positions_in s)) in
    let more : 1 ≤ length fields = some_of (length cells) (length fields) long some.0 in
    sound_ok _ t some.1 (moves_taken s c _ at (within c refl) new.0 (AreMoves-from_named (positions_in s) fields few more found.0 single.0) h)
  where
    some_of : (m n : ℕ) → m ≡ n → (m == 0) ≡ false → 1 ≤ n
    some_of m zero e h = absurd (eqb-false m 0 h e)
    some_of m (suc n) e h = omega arith

pub moves_sound : (s : State) (fields : List (List ℕ)) (t : State) → s.stage ≡ due.Rows → IsSound s → row_at Moves s fields ≡ Ok t → IsSound t
moves_sound s [] t at h e = absurd (err_ok BadLine t e)
moves_sound s (name ∷ moves) t at h e =
    let few = not_refused (nat_lt 64 (length moves)) OverLimit (with_moves s (cell_named (positions_in s) name) (map (cell_named (positions_in s)) moves)) t (moves_by_cells s name moves ∙ e) in
    found_moves s (cell_named (positions_in s) name) moves t at (named_within (positions_in s) name) (ltb-false 64 (length moves) few.0) h few.1

-- `drift NAME NAME PART NAME PART ..`
parts_set : (s : State) (c : ℕ) (row : List CellPart) → s.stage ≡ due.Rows → AreEntries (length s.names) s.drift row → IsSound s → IsSound (record s { parts = set s.parts c row })
parts_set s c row at are h = record {
  settled = h.settled;
  few = h.few;
  names = h.names;
  differ = h.differ;
  positions = h.positions;
  moves_length = h.moves_length;
  parts_length = length-set s.parts c row ∙ h.parts_length;
  overlook_length = h.overlook_length;
  start = h.start;
  first = h.first;
  moves = h.moves;
  empty = h.empty;
  cells = h.cells;
  own = h.own;
  parts = All-set (λ row. (length row ≡ 0) ⊎ AreEntries (length s.names) s.drift row) s.parts c row (inr are) h.parts;
  overlook = h.overlook;
  changes = h.changes;
  whole = λ e. not_ended s.stage at e;
  fits = λ e. not_ended s.stage at e;
}

pub drift_sound : (s : State) (fields : List (List ℕ)) (t : State) → s.stage ≡ due.Rows → IsSound s → row_at Drift s fields ≡ Ok t → IsSound t
drift_sound s [] t at h e = absurd (err_ok BadLine t e)
drift_sound s (name ∷ fields) t at h e =
    let own = cell_named s.names name in
    let numbers = within 1 1000000 (pair_parts fields) in
    let form = not_refused (not (are_pairs fields) || false) _ _ t e in
    let good = not_refused (list_any (λ n. is_bad n.least (number_at n.most n.field)) numbers) _ _ t form.1 in
    let small = not_refused (list_any (λ n. is_over (number_at n.most n.field)) numbers || false) _ _ t good.1 in
    let found = not_refused (is_none own || list_any (λ f. is_none (cell_named s.names f)) (pair_names fields)) _ _ t small.1 in
    let single = not_refused (stands_twice (pair_names fields)) _ _ t found.1 in
    let new = not_refused (holds_of own (has_parts s)) _ _ t single.1 in
    let right = not_refused (not (sum_by part (pair_parts fields) == s.drift)) _ _ t new.1 in
    let said : AreSaid s.names 1 fields (entries_in s.names fields) = record { bad = good.0; over = (or_parts _ false small.0).0; known = (or_parts (is_none own) _ found.0).1; once = single.0; entries = refl } in
    sound_ok _ t right.1 (parts_set s _ _ at (AreEntries-said s.names fields _ s.drift said (eqb-true _ _ (not-false _ right.0))) h)

-- One row more for a period.

none_counts : {X : Type 0} (p : X → Bool) (xs : List X) → list_any p xs ≡ false → count_by p xs ≡ 0
none_counts p [] none = refl
none_counts p (x ∷ xs) none =
    let parts = or_parts (p x) (list_any p xs) none in
    sum_by-cons (λ y. cond (p y) 1 0) x xs ∙ rw parts.0 (omega (arith, none_counts p xs parts.1))

period_row_more : (last owners : ℕ) (IsRow : List CellPart → Type 0) (rows : List PeriodRow) (r : PeriodRow) → (1 ≤ r.period) × (r.period ≤ last) → r.own < owners → IsRow r.row → has_period_row rows r.period r.own ≡ false → ArePeriodRows last owners IsRow rows → ArePeriodRows last owners IsRow (rows ++ r ∷ [])
period_row_more last owners IsRow rows r when whose right new h = record {
  periods = All-push (λ x. (1 ≤ x.period) × (x.period ≤ last)) rows r h.periods when;
  within = All-push (λ x. x.own < owners) rows r h.within whose;
  right = All-push (λ x. IsRow x.row) rows r h.right right;
  once = λ t c.
      let p : PeriodRow → Bool = λ x. x.period == t && x.own == c in
      let step = sum_by_push (λ x. cond (p x) 1 0) rows r in
      elim (cases_Bool (p r)) [
        | inl is ↦
            let both = and_true (r.period == t) (r.own == c) is in
            let at_t : r.period ≡ t = eqb-true r.period t both.0 in
            let at_c : r.own ≡ c = eqb-true r.own c both.1 in
            let Q : ℕ → Type 0 = λ k. has_period_row rows k r.own ≡ false in
            let R : ℕ → Type 0 = λ k. has_period_row rows t k ≡ false in
            let none = none_counts p rows (subst R at_c (subst Q at_t new)) in
            let one : ◌≡◌ {A = ℕ} (cond (p r) 1 0) 1 = ap (λ (b : Bool). cond b 1 0) is in
            omega (arith, step, none, one)
        | inr isnt ↦
            let zero_here : ◌≡◌ {A = ℕ} (cond (p r) 1 0) 0 = ap (λ (b : Bool). cond b 1 0) isnt in
            let most = h.once t c in
            omega (arith, step, most, zero_here)
      ];
}
  where
    and_true : (a b : Bool) → (a && b) ≡ true → (a ≡ true) × (b ≡ true)
    and_true true true e = (refl, refl)
    and_true true false e = absurd (let bad : ⊥ = cc in bad)
    and_true false b e = absurd (let bad : ⊥ = cc in bad)

-- the owner of a row that has none of that sort
none_found : (o : Option ℕ) (test : ℕ → Bool) → is_none o ≡ false → holds_of o test ≡ false → test (unwrap_or o 0) ≡ false
none_found None test known none = absurd (let bad : ⊥ = cc in bad)
none_found (Some c) test known none = none

rows_only : (s : State) → s.stage ≡ due.Rows → place_of s.stage ≤ 4 → ⊥
rows_only s at le = let here = subst (λ st. place_of st ≤ 4) at le in omega (arith, here)

-- `driftin T NAME NAME PART NAME PART ..`
drift_row_added : (s : State) (r : PeriodRow) → s.version ≡ Two → s.stage ≡ due.Rows → ArePeriodRows (s.horizon - 1) (length s.names) (AreEntries (length s.names) s.drift) (s.drift_rows ++ r ∷ []) → IsSound s → IsSound (record s { drift_rows = s.drift_rows ++ r ∷ [] })
drift_row_added s r two at rows h = record {
  settled = h.settled;
  few = h.few;
  names = h.names;
  differ = h.differ;
  positions = h.positions;
  moves_length = h.moves_length;
  parts_length = h.parts_length;
  overlook_length = h.overlook_length;
  start = h.start;
  first = h.first;
  moves = h.moves;
  empty = h.empty;
  cells = h.cells;
  own = h.own;
  parts = h.parts;
  overlook = h.overlook;
  changes = record { early = λ le. absurd (rows_only s at le); every_period = λ one. absurd (let bad : One ≡ Two = sym one ∙ two in let none : ⊥ = cc in none); drifts = rows; looks = h.changes.looks };
  whole = λ e. not_ended s.stage at e;
  fits = λ e. not_ended s.stage at e;
}

pub drift_in_sound : (s : State) (fields : List (List ℕ)) (t : State) → (s.version ≡ Two) × (s.stage ≡ due.Rows) → IsSound s → row_at DriftIn s fields ≡ Ok t → IsSound t
drift_in_sound s [] t at h e = absurd (err_ok BadLine t e)
drift_in_sound s (period ∷ []) t at h e = absurd (err_ok BadLine t e)
drift_in_sound s (period ∷ name ∷ fields) t at h e =
    let own = cell_named s.names name in
    let n = number_at (s.horizon - 1) period in
    let numbers = within 1 1000000 (pair_parts fields) in
    let form = not_refused (not (are_pairs fields) || false) _ _ t e in
    let good = not_refused (is_bad 1 n || list_any (λ n. is_bad n.least (number_at n.most n.field)) numbers) _ _ t form.1 in
    let small = not_refused ((is_over n || list_any (λ n. is_over (number_at n.most n.field)) numbers) || false) _ _ t good.1 in
    let found = not_refused (is_none own || list_any (λ f. is_none (cell_named s.names f)) (pair_names fields)) _ _ t small.1 in
    let single = not_refused (stands_twice (pair_names fields)) _ _ t found.1 in
    let new = not_refused (holds_of own (has_period_row s.drift_rows (number_in n))) _ _ t single.1 in
    let right = not_refused (not (sum_by part (pair_parts fields) == s.drift)) _ _ t new.1 in
    let goods = or_parts (is_bad 1 n) _ good.0 in
    let smalls = or_parts (is_over n) _ (or_parts _ false small.0).0 in
    let known = or_parts (is_none own) _ found.0 in
    let said : AreSaid s.names 1 fields (entries_in s.names fields) = record { bad = goods.1; over = smalls.1; known = known.1; once = single.0; entries = refl } in
    let entries = AreEntries-said s.names fields _ s.drift said (eqb-true _ _ (not-false _ right.0)) in
    let rows = period_row_more (s.horizon - 1) (length s.names) (AreEntries (length s.names) s.drift) s.drift_rows (record { period = number_in n; own = unwrap_or own 0; row = entries_in s.names fields })
    (in_limits (s.horizon - 1) period goods.0 smalls.0) (named_one s.names name known.0) entries (none_found own (has_period_row s.drift_rows (number_in n)) known.0 new.0) h.changes.drifts in
    sound_ok _ t right.1 (drift_row_added s _ at.0 at.1 rows h)

-- `look NAME NAME PART NAME PART ..`
look_set : (s : State) (q : ℕ) (row : List CellPart) → s.stage ≡ due.Rows → AreLooks (length s.names) s.look row → IsSound s → IsSound (record s { looks = set s.looks q (Some row) })
look_set s q row at are h = record {
  settled = h.settled;
  few = h.few;
  names = h.names;
  differ = h.differ;
  positions = record {
    few = h.positions.few;
    names = h.positions.names;
    differ = h.positions.differ;
    looks_length = length-set s.looks q (Some row) ∙ h.positions.looks_length;
    covered = All-set (IsLook (length s.names) s.look) s.looks q (Some row) are h.positions.covered;
    empty = h.positions.empty;
    cells_alone = h.positions.cells_alone;
  };
  moves_length = h.moves_length;
  parts_length = h.parts_length;
  overlook_length = h.overlook_length;
  start = h.start;
  first = h.first;
  moves = h.moves;
  empty = h.empty;
  cells = h.cells;
  own = h.own;
  parts = h.parts;
  overlook = h.overlook;
  changes = h.changes;
  whole = λ e. not_ended s.stage at e;
  fits = λ e. not_ended s.stage at e;
}

pub look_sound : (s : State) (fields : List (List ℕ)) (t : State) → s.stage ≡ due.Rows → IsSound s → row_at Look s fields ≡ Ok t → IsSound t
look_sound s [] t at h e = absurd (err_ok BadLine t e)
look_sound s (name ∷ fields) t at h e =
    let own = cell_named (positions_in s) name in
    let numbers = within 0 1000000 (pair_parts fields) in
    let form = not_refused (not (are_even fields) || false) _ _ t e in
    let good = not_refused (list_any (λ n. is_bad n.least (number_at n.most n.field)) numbers) _ _ t form.1 in
    let small = not_refused (list_any (λ n. is_over (number_at n.most n.field)) numbers || false) _ _ t good.1 in
    let found = not_refused ((is_none own || false) || list_any (λ f. is_none (cell_named s.names f)) (pair_names fields)) _ _ t small.1 in
    let single = not_refused (stands_twice (pair_names fields)) _ _ t found.1 in
    let new = not_refused (holds_of own (has_look s)) _ _ t single.1 in
    let right = not_refused (list_any (λ f. nat_lt s.look (part f)) (pair_parts fields)) _ _ t new.1 in
    let known = or_parts (is_none own || false) _ found.0 in
    let said : AreSaid s.names 0 fields (entries_in s.names fields) = record { bad = good.0; over = (or_parts _ false small.0).0; known = known.1; once = single.0; entries = refl } in
    sound_ok _ t right.1 (look_set s _ _ at (AreLooks-said s.names fields _ s.look said right.0) h)

-- `lookin T NAME NAME PART NAME PART ..`
look_row_added : (s : State) (r : PeriodRow) → s.version ≡ Two → s.stage ≡ due.Rows → ArePeriodRows s.horizon (length (positions_in s)) (AreLooks (length s.names) s.look) (s.look_rows ++ r ∷ []) → IsSound s → IsSound (record s { look_rows = s.look_rows ++ r ∷ [] })
look_row_added s r two at rows h = record {
  settled = h.settled;
  few = h.few;
  names = h.names;
  differ = h.differ;
  positions = h.positions;
  moves_length = h.moves_length;
  parts_length = h.parts_length;
  overlook_length = h.overlook_length;
  start = h.start;
  first = h.first;
  moves = h.moves;
  empty = h.empty;
  cells = h.cells;
  own = h.own;
  parts = h.parts;
  overlook = h.overlook;
  changes = record { early = λ le. absurd (rows_only s at le); every_period = λ one. absurd (let bad : One ≡ Two = sym one ∙ two in let none : ⊥ = cc in none); drifts = h.changes.drifts; looks = rows };
  whole = λ e. not_ended s.stage at e;
  fits = λ e. not_ended s.stage at e;
}

pub look_in_sound : (s : State) (fields : List (List ℕ)) (t : State) → (s.version ≡ Two) × (s.stage ≡ due.Rows) → IsSound s → row_at LookIn s fields ≡ Ok t → IsSound t
look_in_sound s [] t at h e = absurd (err_ok BadLine t e)
look_in_sound s (period ∷ []) t at h e = absurd (err_ok BadLine t e)
look_in_sound s (period ∷ name ∷ fields) t at h e =
    let own = cell_named (positions_in s) name in
    let n = number_at s.horizon period in
    let numbers = within 0 1000000 (pair_parts fields) in
    let form = not_refused (not (are_even fields) || false) _ _ t e in
    let good = not_refused (is_bad 1 n || list_any (λ n. is_bad n.least (number_at n.most n.field)) numbers) _ _ t form.1 in
    let small = not_refused ((is_over n || list_any (λ n. is_over (number_at n.most n.field)) numbers) || false) _ _ t good.1 in
    let found = not_refused ((is_none own || false) || list_any (λ f. is_none (cell_named s.names f)) (pair_names fields)) _ _ t small.1 in
    let single = not_refused (stands_twice (pair_names fields)) _ _ t found.1 in
    let new = not_refused (holds_of own (has_period_row s.look_rows (number_in n))) _ _ t single.1 in
    let right = not_refused (list_any (λ f. nat_lt s.look (part f)) (pair_parts fields)) _ _ t new.1 in
    let goods = or_parts (is_bad 1 n) _ good.0 in
    let smalls = or_parts (is_over n) _ (or_parts _ false small.0).0 in
    let known = or_parts (is_none own || false) _ found.0 in
    let owner = (or_parts (is_none own) false known.0).0 in
    let said : AreSaid s.names 0 fields (entries_in s.names fields) = record { bad = goods.1; over = smalls.1; known = known.1; once = single.0; entries = refl } in
    let rows = period_row_more s.horizon (length (positions_in s)) (AreLooks (length s.names) s.look) s.look_rows (record { period = number_in n; own = unwrap_or own 0; row = entries_in s.names fields })
    (in_limits s.horizon period goods.0 smalls.0) (named_one (positions_in s) name owner) (AreLooks-said s.names fields _ s.look said right.0) (none_found own (has_period_row s.look_rows (number_in n)) owner new.0) h.changes.looks in
    sound_ok _ t right.1 (look_row_added s _ at.0 at.1 rows h)

-- `overlook NAME PART`
overlook_set : (s : State) (c part : ℕ) → s.stage ≡ due.Rows → part ≤ s.look → IsSound s → IsSound (record s { overlook = set s.overlook c (Some part) })
overlook_set s c part at le h = record {
  settled = h.settled;
  few = h.few;
  names = h.names;
  differ = h.differ;
  positions = h.positions;
  moves_length = h.moves_length;
  parts_length = h.parts_length;
  overlook_length = length-set s.overlook c (Some part) ∙ h.overlook_length;
  start = h.start;
  first = h.first;
  moves = h.moves;
  empty = h.empty;
  cells = h.cells;
  own = h.own;
  parts = h.parts;
  overlook = All-set (IsPart s.look) s.overlook c (Some part) le h.overlook;
  changes = h.changes;
  whole = λ e. not_ended s.stage at e;
  fits = λ e. not_ended s.stage at e;
}

pub overlook_sound : (s : State) (fields : List (List ℕ)) (t : State) → (s.version ≡ One) × (s.stage ≡ due.Rows) → IsSound s → row_at Overlook s fields ≡ Ok t → IsSound t
overlook_sound s [] t at h e = absurd (err_ok BadLine t e)
overlook_sound s (name ∷ []) t at h e = absurd (err_ok BadLine t e)
overlook_sound s (name ∷ part ∷ []) t at h e =
    let n = number_at 1000000 part in
    let good = not_refused (is_bad 0 n || false) _ _ t e in
    let small = not_refused ((is_over n || false) || false) _ _ t good.1 in
    let found = not_refused (is_none (cell_named s.names name) || false) _ _ t small.1 in
    let new = not_refused (holds_of (cell_named s.names name) (has_overlook s)) _ _ t found.1 in
    let within = not_refused (nat_lt s.look (number_in n)) _ _ t new.1 in
    sound_ok _ t within.1 (overlook_set s _ (number_in n) at.1 (ltb-false s.look (number_in n) within.0) h)
overlook_sound s (name ∷ part ∷ more ∷ fields) t at h e = absurd (err_ok BadLine t e)

-- `spread PART`
spread_taken : (s : State) (part : ℕ) → s.version ≡ One → s.stage ≡ due.Rows → s.gridded ≡ true → list_any (λ row. nat_lt s.drift (part * (length row - 1))) s.moves ≡ false → IsSound s → IsSound (record s { parts = spread_rows s.drift part s.moves })
spread_taken s part one at gridded narrow h =
    let cells : length (positions_in s) ≡ length s.names = ap (λ (v : TextVersion). length (by_version v s.names s.positions)) one in
    let moves : All (λ row. (length row ≡ 0) ⊎ AreMoves (length s.names) row) s.moves = subst (λ (v : TextVersion). All (λ row. (length row ≡ 0) ⊎ AreMoves (length (by_version v s.names s.positions)) row) s.moves) one h.moves in
    record {
      settled = h.settled;
      few = h.few;
      names = h.names;
      differ = h.differ;
      positions = h.positions;
      moves_length = h.moves_length;
      parts_length = length-spread_rows s.drift part s.moves ∙ h.moves_length ∙ cells;
      overlook_length = h.overlook_length;
      start = h.start;
      first = h.first;
      moves = h.moves;
      empty = h.empty;
      cells = h.cells;
      own = h.own;
      parts = All-spread_rows (length s.names) s.drift part s.moves moves (h.own gridded) narrow;
      overlook = h.overlook;
      changes = h.changes;
      whole = λ e. not_ended s.stage at e;
      fits = λ e. not_ended s.stage at e;
    }

pub spread_sound : (s : State) (fields : List (List ℕ)) (t : State) → (s.version ≡ One) × (s.stage ≡ due.Rows) → IsSound s → row_at Spread s fields ≡ Ok t → IsSound t
spread_sound s [] t at h e = absurd (err_ok BadLine t e)
spread_sound s (part ∷ []) t at h e =
    let n = number_at 1000000 part in
    let gridded = not_refused (not s.gridded) _ _ t e in
    let good = not_refused (is_bad 0 n || false) _ _ t gridded.1 in
    let small = not_refused ((is_over n || false) || false) _ _ t good.1 in
    let new = not_refused (list_any (λ row. nat_lt 0 (length row)) s.parts) _ _ t small.1 in
    let narrow = not_refused (list_any (λ row. nat_lt s.drift (number_in n * (length row - 1))) s.moves) _ _ t new.1 in
    sound_ok _ t narrow.1 (spread_taken s (number_in n) at.0 at.1 (not-false _ gridded.0) narrow.0 h)
spread_sound s (part ∷ more ∷ fields) t at h e = absurd (err_ok BadLine t e)

-- `rate PART`
rate_taken : (s : State) (part : ℕ) → s.version ≡ One → s.stage ≡ due.Rows → part ≤ s.look → IsSound s → IsSound (record s { overlook = replicate (length s.names) (Some part) })
rate_taken s part one at le h = record {
  settled = h.settled;
  few = h.few;
  names = h.names;
  differ = h.differ;
  positions = h.positions;
  moves_length = h.moves_length;
  parts_length = h.parts_length;
  overlook_length = length-replicate (length s.names) (Some part) ∙ sym (ap (λ (v : TextVersion). length (by_version v s.names [])) one);
  start = h.start;
  first = h.first;
  moves = h.moves;
  empty = h.empty;
  cells = h.cells;
  own = h.own;
  parts = h.parts;
  overlook = All-replicate (IsPart s.look) (length s.names) (Some part) le;
  changes = h.changes;
  whole = λ e. not_ended s.stage at e;
  fits = λ e. not_ended s.stage at e;
}

pub rate_sound : (s : State) (fields : List (List ℕ)) (t : State) → (s.version ≡ One) × (s.stage ≡ due.Rows) → IsSound s → row_at Rate s fields ≡ Ok t → IsSound t
rate_sound s [] t at h e = absurd (err_ok BadLine t e)
rate_sound s (part ∷ []) t at h e =
    let n = number_at 1000000 part in
    let good = not_refused (is_bad 0 n || false) _ _ t e in
    let small = not_refused ((is_over n || false) || false) _ _ t good.1 in
    let new = not_refused (list_any (λ o. is_some o) s.overlook) _ _ t small.1 in
    let within = not_refused (nat_lt s.look (number_in n)) _ _ t new.1 in
    sound_ok _ t within.1 (rate_taken s (number_in n) at.0 at.1 (ltb-false s.look (number_in n) within.0) h)
rate_sound s (part ∷ more ∷ fields) t at h e = absurd (err_ok BadLine t e)

-- `end`
end_taken : (s : State) → s.stage ≡ due.Rows → lacks_row s ≡ false → Fits s.total s.drift s.look s.horizon → IsSound s → IsSound (record s { stage = due.Ended })
end_taken s at whole fits h = record {
  settled = settled_on s.stage due.Ended _ _ _ _ (reached s.stage due.Rows 3 at (omega arith)) h.settled;
  few = h.few;
  names = h.names;
  differ = h.differ;
  positions = positions_on s.version s.stage due.Ended _ _ _ _ (λ le. absurd (omega arith)) h.positions;
  moves_length = h.moves_length;
  parts_length = h.parts_length;
  overlook_length = h.overlook_length;
  start = λ le. h.start (reached s.stage due.Rows 4 at (omega arith));
  first = λ le. h.first (reached s.stage due.Rows 5 at (omega arith));
  moves = h.moves;
  empty = λ le. absurd (omega arith);
  cells = λ is. ((h.cells is).0, inr (omega arith));
  own = h.own;
  parts = h.parts;
  overlook = h.overlook;
  changes = changed_on s.version s.stage due.Ended _ _ _ _ _ _ _ (λ le. absurd (omega arith)) h.changes;
  whole = λ e. whole;
  fits = λ e. fits;
}

pub end_sound : (s : State) (fields : List (List ℕ)) (t : State) → s.stage ≡ due.Rows → IsSound s → row_at End s fields ≡ Ok t → IsSound t
end_sound s [] t at h e =
    let whole = not_refused (lacks_row s) _ _ t e in
    let narrow = not_refused (not (is_narrow s)) _ _ t whole.1 in
    sound_ok _ t narrow.1 (end_taken s at whole.0 (ltb-true _ _ (not-false _ narrow.0)) h)
end_sound s (field ∷ fields) t at h e = absurd (err_ok BadLine t e)
