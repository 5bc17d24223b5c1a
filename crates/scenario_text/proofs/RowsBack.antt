-- The rows that say what was read are taken one after the other.
use Rattle.std.proofs.Common.{◌≡◌, ℕ, ◌+◌, ◌-◌, ◌<◌, ◌≤◌, Bool, true, false, cond, List, [], ◌∷◌, ◌++◌, map, length, get_or, set, take, Option, Some, None, Ok, refl, sym, ap, ◌∙◌, subst, arith, inl, inr}
use Rattle.std.specs.Prelude.{All, codes, ◌&&◌, ◌||◌, ◌==◌, nat_lt, is_none, unwrap_or, slice_index_or, count_by}
use Rattle.std.specs.Fmt.{decimal}
use Rattle.std.specs.List.{range_with_len, list_any}
use Rattle.std.proofs.lemmas.Bool.{le-ltb, lt-ltb, eq-eqb, ne_eqb, or_parts, cases_Bool}
use Rattle.std.proofs.lemmas.List.{length-map, take_more, take_all, get_or-map}
use Rattle.std.proofs.lemmas.List.Elements.{All-get_or, All-head, All-tail, All-weaker}
use Rattle.std.proofs.lemmas.List.FromFn.{fill_by_all}
use Rattle.std.proofs.lemmas.List.Sums.{sum_by-cons, sum_by_more, sum_by-take-le, get_or-le-sum_by}
use Rattle.exact_parts.proofs.Decimals.{number_at-decimal}
use Rattle.period_rows.specs.declared.part.CellPart.{CellPart}
use Rattle.search_grid.specs.Moves.{moves_from}
use Rattle.search_model.specs.Names.{IsName, IsRepeated, name_in}
use Rattle.text_rows.proofs.RowTexts.{IsField, AreFields, IsField-decimal, word}
use Rattle.list_laws.proofs.Sums.{sum_by-map}
use Rattle.scenario_text.specs.declared.draft.Stage.TheVariants as due
use Rattle.scenario_text.specs.declared.draft.TextVersion.{TextVersion}
use Rattle.scenario_text.specs.declared.draft.TextVersion.TheVariants.{One, Two}
use Rattle.scenario_text.specs.declared.line.Line.TheVariants.{Moves, Drift, DriftIn, Overlook, Look, LookIn, End}
use Rattle.scenario_text.specs.ByCells.{has_double}
use Rattle.scenario_text.specs.Fields.{cell_named, are_even}
use Rattle.scenario_text.specs.State.{State, PeriodRow, by_version, positions_in}
use Rattle.scenario_text.specs.Reading.{is_ended}
use Rattle.scenario_text.specs.KindTable.{line_due, has_period_row, is_narrow}
use Rattle.scenario_text.specs.Grammar.{row_at}
use Rattle.scenario_text.specs.Sound.{AreEntries, AreLooks, AreMoves, IsPart, IsLook, IsSound}
use Rattle.scenario_text.specs.RowFields.{entry_fields, moves_of, drift_of, overlook_of}
use Rattle.scenario_text.specs.StateRows.{drift_in_of, look_of, look_in_of, moves_rows, drift_rows, drift_in_rows, overlook_rows, look_rows, look_in_rows}
use Rattle.scenario_text.proofs.ByCellNames.{moves_by_cells, with_moves}
use Rattle.scenario_text.proofs.EntryRows.{AreSaid, drift_said, drift_in_said, look_said, look_in_said}
use Rattle.scenario_text.proofs.FieldTexts.{IsField-name, AreFields-named, AreFields-entries}
use Rattle.scenario_text.proofs.InRows.{filled, filled-open, filled-next, filled-all, once_differ}
use Rattle.scenario_text.proofs.NamesApart.{named_at}
use Rattle.scenario_text.proofs.PairTexts.{AreSaid-named, are_pairs-named, length-entry_fields}
use Rattle.scenario_text.proofs.Passed.{begins}
use Rattle.scenario_text.proofs.RowLines.{names_found, none_unknown, numbers_of, overlook-taken}
use Rattle.scenario_text.proofs.RowsRead.{Takes, Reads, Reads-end, Reads-range}
use Rattle.scenario_text.proofs.SoundFields.{none_pass}
use Rattle.scenario_text.proofs.SoundHeads.{reached}

-- what holds in both versions
by_both : {X : Type 0} (P : X → Type 0) (version : TextVersion) (x y : X) → P x → P y → P (by_version version x y)
by_both P One x y a b = a
by_both P Two x y a b = b

-- rows that stand in both versions
pub moves_begins : (version : TextVersion) (named : Bool) → line_due version due.Rows named (codes "moves") ≡ Some Moves
moves_begins One named = refl
moves_begins Two named = refl

drift_begins : (version : TextVersion) (named : Bool) → line_due version due.Rows named (codes "drift") ≡ Some Drift
drift_begins One named = refl
drift_begins Two named = refl

end_begins : (version : TextVersion) (named : Bool) → line_due version due.Rows named (codes "end") ≡ Some End
end_begins One named = refl
end_begins Two named = refl

-- a list that is filled is whole
full : {X : Type 0} (f : ℕ → X) (empty : X) (xs : List X) (n : ℕ) → length xs ≡ n → ((k : ℕ) → k < n → get_or xs k empty ≡ f k) → filled f empty n n ≡ xs
full f empty xs n long each = filled-all f empty n ∙ sym (fill_by_all f xs n empty long each)

-- a list by its places
pub by_places : {X Y : Type 0} (f : X → Y) (xs : List X) (d : X) → map f xs ≡ map (λ k. f (get_or xs k d)) (range_with_len 0 (length xs))
by_places f xs d = fill_by_all (λ k. f (get_or xs k d)) (map f xs) (length xs) (f d) (length-map xs f) (λ k lt. get_or-map f xs k d (f d) lt)

-- what isn't counted doesn't stand
uncounted : {X : Type 0} (p : X → Bool) (xs : List X) → count_by p xs ≡ 0 → list_any p xs ≡ false
uncounted p [] none = refl
uncounted p (x ∷ xs) none =
    let step = sum_by-cons (λ y. cond (p y) 1 0) x xs in
    elim (cases_Bool (p x)) [
      | inl is ↦ let one : ◌≡◌ {A = ℕ} (cond (p x) 1 0) 1 = ap (λ (b : Bool). cond b 1 0) is in absurd (omega (arith, step, one, none))
      | inr isnt ↦ let zero_here : ◌≡◌ {A = ℕ} (cond (p x) 1 0) 0 = ap (λ (b : Bool). cond b 1 0) isnt in rw isnt (uncounted p xs (omega (arith, step, zero_here, none)))
    ]

-- no earlier row is for the same period and owner
first_for : (rows : List PeriodRow) (k : ℕ) (d : PeriodRow) → k < length rows → ((t c : ℕ) → count_by (λ r. r.period == t && r.own == c) rows ≤ 1) → has_period_row (take k rows) (get_or rows k d).period (get_or rows k d).own ≡ false
first_for rows k d lt once =
    let r = get_or rows k d in
    let p : PeriodRow → Bool = λ x. x.period == r.period && x.own == r.own in
    let own : p r ≡ true = rw (eq-eqb r.period r.period refl, eq-eqb r.own r.own refl) refl in
    let more : count_by p (take (k + 1) rows) ≡ count_by p (take k rows) + cond (p r) 1 0 = sum_by_more (λ x. cond (p x) 1 0) rows k d lt in
    let one : ◌≡◌ {A = ℕ} (cond (p r) 1 0) 1 = ap (λ (b : Bool). cond b 1 0) own in
    let all = sum_by-take-le (λ x. cond (p x) 1 0) rows (k + 1) in
    let most = once r.period r.own in
    uncounted p (take k rows) (omega (arith, more, one, all, most))

-- moves that are positions, none of them twice
with_moves-once : (s : State) (q positions : ℕ) (row : List ℕ) → AreMoves positions row → slice_index_or s.moves q [] ≡ [] → with_moves s (Some q) (map Some row) ≡ Ok (record s { moves = set s.moves q row })
unfolding moves_from
with_moves-once s q positions row h before =
    let unknown = none_unknown row in
    let double = once_differ row h.once in
    let long = length-map row Some in
    let some = ne_eqb (length (map Some row)) 0 (λ e. omega (arith, long, h.some)) in
    let numbers = numbers_of row in
    rw (unknown, double, before, some, numbers) refl

-- entries and looks, as pairs
pub entry_once : (es : List CellPart) → ((d : ℕ) → count_by (λ e. e.cell == d) es ≤ 1) → has_double (map Some (map (λ e. e.cell) es)) ≡ false
entry_once es once = once_differ (map (λ e. e.cell) es) (λ d. let same = sum_by-map (λ m. cond (m == d) 1 0) (λ e. e.cell) es in let most = once d in omega (arith, same, most))

none_above : (g : ℕ) (es : List CellPart) → All (λ e. e.part ≤ g) es → list_any (λ e. nat_lt g e.part) es ≡ false
none_above g [] within = refl
none_above g (e ∷ es) within =
    let head = le-ltb g e.part (All-head (λ e. e.part ≤ g) e es within) in
    rw (head, none_above g es (All-tail (λ e. e.part ≤ g) e es within)) refl

even_entries : (names : List (List ℕ)) (es : List CellPart) → are_even (entry_fields names es) ≡ true
even_entries names es = let long = length-entry_fields names es in eq-eqb _ 0 (omega (arith, long))

module _ (s : State) (h : IsSound s) (ended : s.stage ≡ due.Ended) where
  differ_in : (q : ℕ) → ¬ IsRepeated (positions_in s) q
  differ_in = by_both (λ names. (q : ℕ) → ¬ IsRepeated names q) s.version s.names s.positions h.differ h.positions.differ

  names_in : All IsName (positions_in s)
  names_in = by_both (λ names. All IsName names) s.version s.names s.positions h.names h.positions.names

  pub found_cell : (c : ℕ) → c < length s.names → cell_named s.names (name_in s.names c) ≡ Some c
  found_cell = named_at s.names h.differ

  pub found_position : (q : ℕ) → q < length (positions_in s) → cell_named (positions_in s) (name_in (positions_in s) q) ≡ Some q
  found_position = named_at (positions_in s) differ_in

  pub field_cell : (c : ℕ) → c < length s.names → IsField (name_in s.names c)
  field_cell c lt = IsField-name (name_in s.names c) (All-get_or IsName s.names c [] lt h.names)

  pub field_position : (q : ℕ) → q < length (positions_in s) → IsField (name_in (positions_in s) q)
  field_position q lt = IsField-name (name_in (positions_in s) q) (All-get_or IsName (positions_in s) q [] lt names_in)

  -- no row is missing
  has_moves_row : (q : ℕ) → q < length s.moves → AreMoves (length (positions_in s)) (moves_from s.moves q)
  unfolding moves_from
  has_moves_row q lt =
      let some = none_pass (λ (r : List ℕ). length r == 0) s.moves (or_parts (list_any (λ (r : List ℕ). length r == 0) s.moves) _ (h.whole ended)).0 q [] lt in
      elim (h.moves q [] lt) [ inl none ↦ absurd (let bad : true ≡ false = sym (eq-eqb _ 0 none) ∙ some in let end : ⊥ = cc in end) | inr row ↦ row ]

  has_parts_row : (c : ℕ) → c < length s.parts → AreEntries (length s.names) s.drift (slice_index_or s.parts c [])
  has_parts_row c lt =
      let rest = (or_parts (list_any (λ (r : List ℕ). length r == 0) s.moves) _ (h.whole ended)).1 in
      let some = none_pass (λ (r : List CellPart). length r == 0) s.parts (or_parts (list_any (λ (r : List CellPart). length r == 0) s.parts) _ rest).0 c [] lt in
      elim (h.parts c [] lt) [ inl none ↦ absurd (let bad : true ≡ false = sym (eq-eqb _ 0 none) ∙ some in let end : ⊥ = cc in end) | inr row ↦ row ]

  last_two : (list_any (λ o. is_none o) s.overlook || list_any (λ o. is_none o) s.looks) ≡ false
  last_two =
      let rest = (or_parts (list_any (λ (r : List ℕ). length r == 0) s.moves) _ (h.whole ended)).1 in
      (or_parts (list_any (λ (r : List CellPart). length r == 0) s.parts) _ rest).1

  some_is : {X : Type 0} (o : Option X) (d : X) → is_none o ≡ false → o ≡ Some (unwrap_or o d)
  some_is None d e = absurd (let bad : ⊥ = cc in bad)
  some_is (Some x) d e = refl

  has_overlook_part : (c : ℕ) → c < length s.overlook → slice_index_or s.overlook c None ≡ Some (unwrap_or (slice_index_or s.overlook c None) 0)
  has_overlook_part c lt = some_is (slice_index_or s.overlook c None) 0 (none_pass (λ (o : Option ℕ). is_none o) s.overlook (or_parts (list_any (λ (o : Option ℕ). is_none o) s.overlook) _ last_two).0 c None lt)

  has_look_row : (q : ℕ) → q < length s.looks → slice_index_or s.looks q None ≡ Some (unwrap_or (slice_index_or s.looks q None) [])
  has_look_row q lt = some_is (slice_index_or s.looks q None) [] (none_pass (λ (o : Option (List CellPart)). is_none o) s.looks (or_parts (list_any (λ (o : Option ℕ). is_none o) s.overlook) _ last_two).1 q None lt)

  look_right : (q : ℕ) → q < length s.looks → AreLooks (length s.names) s.look (unwrap_or (slice_index_or s.looks q None) [])
  look_right q lt = subst (λ (o : Option (List CellPart)). IsLook (length s.names) s.look o) (has_look_row q lt) (h.positions.covered q None lt)

  overlook_right : (c : ℕ) → c < length s.overlook → unwrap_or (slice_index_or s.overlook c None) 0 ≤ s.look
  overlook_right c lt = subst (λ (o : Option ℕ). IsPart s.look o) (has_overlook_part c lt) (h.overlook c None lt)

  drift_limits : (1 ≤ s.drift) × (s.drift ≤ 1000000)
  drift_limits = h.settled.drift (reached s.stage due.Ended 3 ended (omega arith))

  look_limits : (1 ≤ s.look) × (s.look ≤ 1000000)
  look_limits = h.settled.look (reached s.stage due.Ended 3 ended (omega arith))

  horizon_limits : (1 ≤ s.horizon) × (s.horizon ≤ 32)
  horizon_limits = h.settled.horizon (reached s.stage due.Ended 2 ended (omega arith))

  -- what stands in one version alone
  version_of_overlook : (version : TextVersion) → s.version ≡ version → 0 < length s.overlook → s.version ≡ One
  version_of_overlook One e some = e
  version_of_overlook Two e some = absurd (let none : length s.overlook ≡ 0 = h.overlook_length ∙ ap (λ (v : TextVersion). length (by_version v s.names [])) e in omega (arith, some, none))

  version_of_looks : (version : TextVersion) → s.version ≡ version → 0 < length s.looks → s.version ≡ Two
  version_of_looks Two e some = e
  version_of_looks One e some = absurd (omega (arith, some, h.positions.looks_length, h.positions.cells_alone e))

  version_of_drifts : (version : TextVersion) → s.version ≡ version → 0 < length s.drift_rows → s.version ≡ Two
  version_of_drifts Two e some = e
  version_of_drifts One e some = absurd (let none : length s.drift_rows ≡ 0 = ap (λ (rs : List PeriodRow). length rs) (h.changes.every_period e).0 in omega (arith, some, none))

  version_of_look_rows : (version : TextVersion) → s.version ≡ version → 0 < length s.look_rows → s.version ≡ Two
  version_of_look_rows Two e some = e
  version_of_look_rows One e some = absurd (let none : length s.look_rows ≡ 0 = ap (λ (rs : List PeriodRow). length rs) (h.changes.every_period e).1 in omega (arith, some, none))

  -- entries, as pairs
  said_entries : (es : List CellPart) → AreEntries (length s.names) s.drift es → AreSaid s.names 1 (entry_fields s.names es) es
  said_entries es are =
      AreSaid-named s.names (length s.names) found_cell 1 es are.within (λ i d lt. omega (arith, get_or-le-sum_by (λ e. e.part) es i d lt, are.total, drift_limits.1)) are.positive (entry_once es are.once)

  said_looks : (es : List CellPart) → AreLooks (length s.names) s.look es → AreSaid s.names 0 (entry_fields s.names es) es
  said_looks es are =
      AreSaid-named s.names (length s.names) found_cell 0 es are.within (All-weaker (λ e. e.part ≤ s.look) (λ e. e.part ≤ 1000000) (λ e le. omega (arith, le, look_limits.1)) es are.parts) (All-weaker (λ e. e.part ≤ s.look) (λ e. 0 ≤ e.part) (λ e le. omega arith) es are.parts) (entry_once es are.once)

  fields_entries : (es : List CellPart) → AreEntries (length s.names) s.drift es → AreFields (entry_fields s.names es)
  fields_entries es are = AreFields-entries s.names (length s.names) field_cell es are.within (λ i d lt. omega (arith, get_or-le-sum_by (λ e. e.part) es i d lt, are.total, drift_limits.1))

  fields_looks : (es : List CellPart) → AreLooks (length s.names) s.look es → AreFields (entry_fields s.names es)
  fields_looks es are = AreFields-entries s.names (length s.names) field_cell es are.within (All-weaker (λ e. e.part ≤ s.look) (λ e. e.part ≤ 1000000) (λ e le. omega (arith, le, look_limits.1)) es are.parts)

  some_entries : (es : List CellPart) → AreEntries (length s.names) s.drift es → 0 < length es
  some_entries [] are = absurd (let total = are.total in omega (arith, total, drift_limits.0))
  some_entries (e ∷ es) are = omega arith

  -- Some of the rows were read.
  abbrev rows_at : List (List ℕ) → List (List CellPart) → List PeriodRow → List (Option ℕ) → List (Option (List CellPart)) → List PeriodRow → State
  rows_at moves parts drifts overlook looks more = record s { stage = due.Rows; moves = moves; parts = parts; drift_rows = drifts; overlook = overlook; looks = looks; look_rows = more }

  abbrev moves_so_far : ℕ → List (List ℕ)
  moves_so_far k = filled (moves_from s.moves) [] (length s.moves) k

  abbrev parts_so_far : ℕ → List (List CellPart)
  parts_so_far k = filled (λ c. slice_index_or s.parts c []) [] (length s.parts) k

  abbrev overlook_so_far : ℕ → List (Option ℕ)
  overlook_so_far k = filled (λ c. Some (unwrap_or (slice_index_or s.overlook c None) 0)) None (length s.overlook) k

  abbrev looks_so_far : ℕ → List (Option (List CellPart))
  looks_so_far k = filled (λ q. Some (unwrap_or (slice_index_or s.looks q None) [])) None (length s.looks) k

  abbrev nothing : PeriodRow
  nothing = record { period = 0; own = 0; row = [] }

  Takes-end : Takes (record s { stage = due.Rows }) (codes "end" ∷ []) s
  Takes-end =
      let lacks = h.whole ended in
      let narrow : is_narrow s ≡ true = lt-ltb _ _ (h.fits ended) in
      let row : row_at End (record s { stage = due.Rows }) [] ≡ Ok (record s { stage = due.Ended }) = rw (lacks, narrow) refl in
      record {
        fields = (word (codes "end") (omega arith) refl, tt);
        says = refl;
        taken = begins (record s { stage = due.Rows }) (codes "end") [] End (end_begins s.version (nat_lt 0 (length s.names))) ∙ row ∙ ap (λ st. Ok (record s { stage = st })) (sym ended);
      }

  Takes-look_in : (k : ℕ) → k < length s.look_rows → Takes (rows_at s.moves s.parts s.drift_rows s.overlook s.looks (take k s.look_rows)) (look_in_of s.names (positions_in s) (get_or s.look_rows k nothing)) (rows_at s.moves s.parts s.drift_rows s.overlook s.looks (take (k + 1) s.look_rows))
  Takes-look_in k lt =
      let t = rows_at s.moves s.parts s.drift_rows s.overlook s.looks (take k s.look_rows) in
      let r = get_or s.look_rows k nothing in
      let two = version_of_look_rows s.version refl (omega (arith, lt)) in
      let within = h.changes.looks.periods k nothing lt in
      let own = h.changes.looks.within k nothing lt in
      let are = h.changes.looks.right k nothing lt in
      let when = number_at-decimal s.horizon r.period within.1 (omega (arith, horizon_limits.1)) in
      record {
        fields = (word (codes "lookin") (omega arith) refl, (IsField-decimal r.period (omega (arith, within.1, horizon_limits.1)), (field_position r.own own, fields_looks r.row are)));
        says = refl;
        taken = begins t (codes "lookin") _ LookIn (ap (λ (v : TextVersion). line_due v due.Rows (nat_lt 0 (length s.names)) (codes "lookin")) two)
            ∙ look_in_said t (decimal r.period) (name_in (positions_in s) r.own) r.period r.own (entry_fields s.names r.row) r.row when within.0 (found_position r.own own) (even_entries s.names r.row) (said_looks r.row are) (none_above s.look r.row are.parts) (first_for s.look_rows k nothing lt h.changes.looks.once)
            ∙ ap (λ (rs : List PeriodRow). Ok (record t { look_rows = rs })) (sym (take_more s.look_rows k nothing lt));
      }

  look_owner : (q : ℕ) → q < length s.looks → q < length (positions_in s)
  look_owner q lt =
      let two = version_of_looks s.version refl (omega (arith, lt)) in
      let here : length (positions_in s) ≡ length s.positions = ap (λ (v : TextVersion). length (by_version v s.names s.positions)) two in
      omega (arith, lt, h.positions.looks_length, here)

  Takes-look : (k : ℕ) → k < length s.looks → Takes (rows_at s.moves s.parts s.drift_rows s.overlook (looks_so_far k) []) (look_of s.names (positions_in s) k (unwrap_or (slice_index_or s.looks k None) [])) (rows_at s.moves s.parts s.drift_rows s.overlook (looks_so_far (k + 1)) [])
  Takes-look k lt =
      let t = rows_at s.moves s.parts s.drift_rows s.overlook (looks_so_far k) [] in
      let row = unwrap_or (slice_index_or s.looks k None) [] in
      let two = version_of_looks s.version refl (omega (arith, lt)) in
      let own = look_owner k lt in
      let are = look_right k lt in
      record {
        fields = (word (codes "look") (omega arith) refl, (field_position k own, fields_looks row are));
        says = refl;
        taken = begins t (codes "look") _ Look (ap (λ (v : TextVersion). line_due v due.Rows (nat_lt 0 (length s.names)) (codes "look")) two)
            ∙ look_said t (name_in (positions_in s) k) k (entry_fields s.names row) row (found_position k own) (even_entries s.names row) (said_looks row are) (none_above s.look row are.parts) (filled-open (λ q. Some (unwrap_or (slice_index_or s.looks q None) [])) None (length s.looks) k lt)
            ∙ ap (λ (ls : List (Option (List CellPart))). Ok (record t { looks = ls })) (filled-next (λ q. Some (unwrap_or (slice_index_or s.looks q None) [])) None (length s.looks) k lt);
      }

  Takes-overlook : (k : ℕ) → k < length s.overlook → Takes (rows_at s.moves s.parts s.drift_rows (overlook_so_far k) (looks_so_far 0) []) (overlook_of s.names k (unwrap_or (slice_index_or s.overlook k None) 0)) (rows_at s.moves s.parts s.drift_rows (overlook_so_far (k + 1)) (looks_so_far 0) [])
  Takes-overlook k lt =
      let t = rows_at s.moves s.parts s.drift_rows (overlook_so_far k) (looks_so_far 0) [] in
      let n = unwrap_or (slice_index_or s.overlook k None) 0 in
      let one = version_of_overlook s.version refl (omega (arith, lt)) in
      let long : length s.overlook ≡ length s.names = h.overlook_length ∙ ap (λ (v : TextVersion). length (by_version v s.names [])) one in
      let own : k < length s.names = omega (arith, lt, long) in
      let le = overlook_right k lt in
      record {
        fields = (word (codes "overlook") (omega arith) refl, (field_cell k own, (IsField-decimal n (omega (arith, le, look_limits.1)), tt)));
        says = refl;
        taken = begins t (codes "overlook") _ Overlook (ap (λ (v : TextVersion). line_due v due.Rows (nat_lt 0 (length s.names)) (codes "overlook")) one)
            ∙ overlook-taken t (name_in s.names k) k n (found_cell k own) (omega (arith, le, look_limits.1)) le (filled-open (λ c. Some (unwrap_or (slice_index_or s.overlook c None) 0)) None (length s.overlook) k lt)
            ∙ ap (λ (os : List (Option ℕ)). Ok (record t { overlook = os })) (filled-next (λ c. Some (unwrap_or (slice_index_or s.overlook c None) 0)) None (length s.overlook) k lt);
      }

  Takes-drift_in : (k : ℕ) → k < length s.drift_rows → Takes (rows_at s.moves s.parts (take k s.drift_rows) (overlook_so_far 0) (looks_so_far 0) []) (drift_in_of s.names (get_or s.drift_rows k nothing)) (rows_at s.moves s.parts (take (k + 1) s.drift_rows) (overlook_so_far 0) (looks_so_far 0) [])
  Takes-drift_in k lt =
      let t = rows_at s.moves s.parts (take k s.drift_rows) (overlook_so_far 0) (looks_so_far 0) [] in
      let r = get_or s.drift_rows k nothing in
      let two = version_of_drifts s.version refl (omega (arith, lt)) in
      let within = h.changes.drifts.periods k nothing lt in
      let own = h.changes.drifts.within k nothing lt in
      let are = h.changes.drifts.right k nothing lt in
      let when = number_at-decimal (s.horizon - 1) r.period within.1 (omega (arith, horizon_limits.1)) in
      record {
        fields = (word (codes "driftin") (omega arith) refl, (IsField-decimal r.period (omega (arith, within.1, horizon_limits.1)), (field_cell r.own own, fields_entries r.row are)));
        says = refl;
        taken = begins t (codes "driftin") _ DriftIn (ap (λ (v : TextVersion). line_due v due.Rows (nat_lt 0 (length s.names)) (codes "driftin")) two)
            ∙ drift_in_said t (decimal r.period) (name_in s.names r.own) r.period r.own (entry_fields s.names r.row) r.row when within.0 (found_cell r.own own) (are_pairs-named s.names r.row (some_entries r.row are)) (said_entries r.row are) are.total (first_for s.drift_rows k nothing lt h.changes.drifts.once)
            ∙ ap (λ (rs : List PeriodRow). Ok (record t { drift_rows = rs })) (sym (take_more s.drift_rows k nothing lt));
      }

  Takes-drift : (k : ℕ) → k < length s.parts → Takes (rows_at s.moves (parts_so_far k) [] (overlook_so_far 0) (looks_so_far 0) []) (drift_of s.names k (slice_index_or s.parts k [])) (rows_at s.moves (parts_so_far (k + 1)) [] (overlook_so_far 0) (looks_so_far 0) [])
  Takes-drift k lt =
      let t = rows_at s.moves (parts_so_far k) [] (overlook_so_far 0) (looks_so_far 0) [] in
      let row = slice_index_or s.parts k [] in
      let own : k < length s.names = omega (arith, lt, h.parts_length) in
      let are = has_parts_row k lt in
      record {
        fields = (word (codes "drift") (omega arith) refl, (field_cell k own, fields_entries row are));
        says = refl;
        taken = begins t (codes "drift") _ Drift (drift_begins s.version (nat_lt 0 (length s.names)))
            ∙ drift_said t (name_in s.names k) k (entry_fields s.names row) row (found_cell k own) (are_pairs-named s.names row (some_entries row are)) (said_entries row are) are.total (filled-open (λ c. slice_index_or s.parts c []) [] (length s.parts) k lt)
            ∙ ap (λ (xs : List (List CellPart)). Ok (record t { parts = xs })) (filled-next (λ c. slice_index_or s.parts c []) [] (length s.parts) k lt);
      }

  Takes-moves : (k : ℕ) → k < length s.moves → Takes (rows_at (moves_so_far k) (parts_so_far 0) [] (overlook_so_far 0) (looks_so_far 0) []) (moves_of (positions_in s) k (moves_from s.moves k)) (rows_at (moves_so_far (k + 1)) (parts_so_far 0) [] (overlook_so_far 0) (looks_so_far 0) [])
  Takes-moves k lt =
      let t = rows_at (moves_so_far k) (parts_so_far 0) [] (overlook_so_far 0) (looks_so_far 0) [] in
      let positions = positions_in s in
      let row = moves_from s.moves k in
      let own : k < length positions = omega (arith, lt, h.moves_length) in
      let are = has_moves_row k lt in
      let long : length (map (name_in positions) row) ≡ length row = length-map row (name_in positions) in
      let few = le-ltb 64 (length (map (name_in positions) row)) (omega (arith, are.few)) in
      let found = found_position k own in
      let known = names_found positions (length positions) found_position row are.within in
      record {
        fields = (word (codes "moves") (omega arith) refl, (field_position k own, AreFields-named positions (length positions) field_position row are.within));
        says = refl;
        taken = begins t (codes "moves") _ Moves (moves_begins s.version (nat_lt 0 (length s.names)))
            ∙ sym (moves_by_cells t (name_in positions k) (map (name_in positions) row)) ∙ rw (few, found, known) (with_moves-once t k (length positions) row are (filled-open (moves_from s.moves) [] (length s.moves) k lt)
            ∙ ap (λ (xs : List (List ℕ)). Ok (record t { moves = xs })) (filled-next (moves_from s.moves) [] (length s.moves) k lt));
      }

  -- From some rows on all others are read.
  Reads-look_in : Reads (rows_at s.moves s.parts s.drift_rows s.overlook s.looks []) (look_in_rows s) s
  Reads-look_in =
      let n = length s.look_rows in
      let whole : take n s.look_rows ≡ s.look_rows = take_all n s.look_rows (omega arith) in
      let last : Reads (rows_at s.moves s.parts s.drift_rows s.overlook s.looks (take n s.look_rows)) ((codes "end" ∷ []) ∷ []) s =
      subst (λ (rs : List PeriodRow). Reads (rows_at s.moves s.parts s.drift_rows s.overlook s.looks rs) ((codes "end" ∷ []) ∷ []) s) (sym whole) (Reads-end (record s { stage = due.Rows }) s (codes "end" ∷ []) Takes-end (ap is_ended ended)) in
      subst (λ (rows : List (List (List ℕ))). Reads (rows_at s.moves s.parts s.drift_rows s.overlook s.looks []) (rows ++ ((codes "end" ∷ []) ∷ [])) s) (sym (by_places (look_in_of s.names (positions_in s)) s.look_rows nothing))
      (Reads-range n 0 n (λ k. look_in_of s.names (positions_in s) (get_or s.look_rows k nothing)) (λ k. rows_at s.moves s.parts s.drift_rows s.overlook s.looks (take k s.look_rows)) ((codes "end" ∷ []) ∷ []) s (omega arith) Takes-look_in (λ k. refl) last)

  Reads-look : Reads (rows_at s.moves s.parts s.drift_rows s.overlook (looks_so_far 0) []) (look_rows s) s
  Reads-look =
      let n = length s.looks in
      let whole = full (λ q. Some (unwrap_or (slice_index_or s.looks q None) [])) None s.looks n refl has_look_row in
      Reads-range n 0 n (λ q. look_of s.names (positions_in s) q (unwrap_or (slice_index_or s.looks q None) [])) (λ k. rows_at s.moves s.parts s.drift_rows s.overlook (looks_so_far k) []) (look_in_rows s) s (omega arith) Takes-look (λ k. refl)
      (subst (λ (ls : List (Option (List CellPart))). Reads (rows_at s.moves s.parts s.drift_rows s.overlook ls []) (look_in_rows s) s) (sym whole) Reads-look_in)

  Reads-overlook : Reads (rows_at s.moves s.parts s.drift_rows (overlook_so_far 0) (looks_so_far 0) []) (overlook_rows s) s
  Reads-overlook =
      let n = length s.overlook in
      let whole = full (λ c. Some (unwrap_or (slice_index_or s.overlook c None) 0)) None s.overlook n refl has_overlook_part in
      Reads-range n 0 n (λ c. overlook_of s.names c (unwrap_or (slice_index_or s.overlook c None) 0)) (λ k. rows_at s.moves s.parts s.drift_rows (overlook_so_far k) (looks_so_far 0) []) (look_rows s) s (omega arith) Takes-overlook (λ k. refl)
      (subst (λ (os : List (Option ℕ)). Reads (rows_at s.moves s.parts s.drift_rows os (looks_so_far 0) []) (look_rows s) s) (sym whole) Reads-look)

  Reads-drift_in : Reads (rows_at s.moves s.parts [] (overlook_so_far 0) (looks_so_far 0) []) (drift_in_rows s) s
  Reads-drift_in =
      let n = length s.drift_rows in
      let whole : take n s.drift_rows ≡ s.drift_rows = take_all n s.drift_rows (omega arith) in
      let last : Reads (rows_at s.moves s.parts (take n s.drift_rows) (overlook_so_far 0) (looks_so_far 0) []) (overlook_rows s) s =
      subst (λ (rs : List PeriodRow). Reads (rows_at s.moves s.parts rs (overlook_so_far 0) (looks_so_far 0) []) (overlook_rows s) s) (sym whole) Reads-overlook in
      subst (λ (rows : List (List (List ℕ))). Reads (rows_at s.moves s.parts [] (overlook_so_far 0) (looks_so_far 0) []) (rows ++ overlook_rows s) s) (sym (by_places (drift_in_of s.names) s.drift_rows nothing))
      (Reads-range n 0 n (λ k. drift_in_of s.names (get_or s.drift_rows k nothing)) (λ k. rows_at s.moves s.parts (take k s.drift_rows) (overlook_so_far 0) (looks_so_far 0) []) (overlook_rows s) s (omega arith) Takes-drift_in (λ k. refl) last)

  Reads-drift : Reads (rows_at s.moves (parts_so_far 0) [] (overlook_so_far 0) (looks_so_far 0) []) (drift_rows s) s
  Reads-drift =
      let n = length s.parts in
      let whole = full (λ c. slice_index_or s.parts c []) [] s.parts n refl (λ k lt. refl) in
      Reads-range n 0 n (λ c. drift_of s.names c (slice_index_or s.parts c [])) (λ k. rows_at s.moves (parts_so_far k) [] (overlook_so_far 0) (looks_so_far 0) []) (drift_in_rows s) s (omega arith) Takes-drift (λ k. refl)
      (subst (λ (xs : List (List CellPart)). Reads (rows_at s.moves xs [] (overlook_so_far 0) (looks_so_far 0) []) (drift_in_rows s) s) (sym whole) Reads-drift_in)

  -- no row was read yet
  abbrev pub before_rows : State
  before_rows = rows_at (moves_so_far 0) (parts_so_far 0) [] (overlook_so_far 0) (looks_so_far 0) []

  pub Reads-moves : Reads before_rows (moves_rows s) s
  unfolding moves_from
  Reads-moves =
      let n = length s.moves in
      let whole = full (moves_from s.moves) [] s.moves n refl (λ k lt. refl) in
      Reads-range n 0 n (λ q. moves_of (positions_in s) q (moves_from s.moves q)) (λ k. rows_at (moves_so_far k) (parts_so_far 0) [] (overlook_so_far 0) (looks_so_far 0) []) (drift_rows s) s (omega arith) Takes-moves (λ k. refl)
      (subst (λ (xs : List (List ℕ)). Reads (rows_at xs (parts_so_far 0) [] (overlook_so_far 0) (looks_so_far 0) []) (drift_rows s) s) (sym whole) Reads-drift)
