-- How long the canonical text of a scenario can be: at most 13,406 lines of at most 403 fields of at most 24 bytes.
use Rattle.std.proofs.Common.{ℕ, ◌+◌, ◌*◌, ◌-◌, ◌<◌, ◌≤◌, List, [], ◌∷◌, ◌++◌, map, length, codes, cond, Bool, true, false, Some, None, sym, subst, arith, inl, inr, All, length-append, mul-le-mul}
use Rattle.std.specs.Prelude.{unwrap_or, slice_index_or}
use Rattle.std.specs.List.{range_with_len}
use Rattle.std.specs.Fmt.{decimal}
use Rattle.std.proofs.lemmas.Bool.{cases_Bool, cases_lt}
use Rattle.std.proofs.lemmas.Fmt.{length-decimal-le_wide}
use Rattle.std.proofs.lemmas.List.{length-map, get_or_past}
use Rattle.std.proofs.lemmas.List.Elements.{All-nil, All-cons, All-head, All-tail, All-append, All-map, All-weaker, All-get_or}
use Rattle.std.proofs.lemmas.List.FromFn.{length-range_with_len, length-map-range_with_len}
use Rattle.std.proofs.lemmas.List.Sums.{get_or-le-sum_by}
use Rattle.std.specs.List.Sorted.{IsStrictlyIncreasing}
use Rattle.list_laws.proofs.Mapped.{map-map}
use Rattle.list_laws.proofs.Ranges.{All-range}
use Rattle.list_laws.proofs.Rising.{increasing_from_ascends}
use Rattle.search_grid.specs.Moves.{moves_from}
use Rattle.period_rows.specs.declared.part.CellPart.{CellPart}
use Rattle.period_rows.specs.Rows.{is_same_row}
use Rattle.drift_chain.specs.DriftRows.{row_of, IsDriftRow}
use Rattle.drift_chain.proofs.Parts.{length-le_cells}
use Rattle.sweep_table.specs.LookParts.{look_row, factor_of}
use Rattle.sweep_table.proofs.Factors.{factor_of-le}
use Rattle.search_model.specs.Names.{IsName, name_in}
use Rattle.search_model.specs.Problem.{Problem, IsProblem}
use Rattle.scenario_maker.proofs.Listed.{length-flat_map-le}
use Rattle.scenario_text.specs.declared.draft.TextVersion.{TextVersion}
use Rattle.scenario_text.specs.declared.draft.TextVersion.TheVariants.{One, Two}
use Rattle.scenario_text.specs.State.{State, PeriodRow, by_version, positions_in}
use Rattle.scenario_text.specs.RowFields.{entry_fields, cell_row, moves_of, drift_of, overlook_of}
use Rattle.scenario_text.specs.StateRows.{version_row, position_row, drift_in_of, look_of, look_in_of, look_in_rows, look_rows, overlook_rows, drift_in_rows, drift_rows, moves_rows, start_rows, name_rows, state_rows}
use Rattle.scenario_text.specs.Canonical.{covered, first_entries, other_rows, later_rows, drift_changes, look_changes, is_plain, plain_state, full_state, state_of_problem, canonical_text}
use Rattle.scenario_text.proofs.CanonicalState.{look_of_row}
use Rattle.scenario_text.proofs.FirstParts.{IsDriftRow-first}
use Rattle.scenario_text.proofs.LaterRows.{all_later}
use Rattle.scenario_text.proofs.PairTexts.{length-entry_fields}
use Rattle.scenario_text.proofs.Plain.{state_plain, state_full}
use Rattle.scenario_text.proofs.SameRows.{kept, kept_rises}
use Rattle.plan_command.proofs.TextSizes.{IsShortRow, rows_fit}

-- a field of at most 24 bytes
abbrev IsShortField : List ℕ → Type 0
IsShortField f = length f ≤ 24

-- at most 403 of them: three words, and the names and the parts of at most 200 entries
abbrev IsShort : List (List ℕ) → Type 0
IsShort row = IsShortRow 403 24 row

-- at most so many such rows
abbrev AreShort : ℕ → List (List (List ℕ)) → Type 0
AreShort n rows = (length rows ≤ n) × All IsShort rows

-- at most 200 entries with parts up to 1,000,000
abbrev AreFew : List CellPart → Type 0
AreFew es = (length es ≤ 200) × All (λ e. e.part ≤ 1000000) es

-- such a row of one period
abbrev IsFewIn : PeriodRow → Type 0
IsFewIn r = (r.period ≤ 32) × AreFew r.row

-- what is written of a scenario is within its limits
record IsSmall (s : State) : Type 0 where
  horizon : s.horizon ≤ 1000000
  total : s.total ≤ 1000000
  drift : s.drift ≤ 1000000
  look : s.look ≤ 1000000
  names : (length s.names ≤ 200) × All IsName s.names
  positions : (length s.positions ≤ 200) × All IsName s.positions
  first : AreFew s.first
  moves : (length s.moves ≤ 200) × ((q : ℕ) → q < length s.moves → length (moves_from s.moves q) ≤ 64)
  parts : (length s.parts ≤ 200) × All AreFew s.parts
  overlook : (length s.overlook ≤ 200) × All (λ o. unwrap_or o 0 ≤ 1000000) s.overlook
  looks : (length s.looks ≤ 200) × All (λ o. AreFew (unwrap_or o [])) s.looks
  drift_rows : (length s.drift_rows ≤ 6000) × All IsFewIn s.drift_rows
  look_rows : (length s.look_rows ≤ 6200) × All IsFewIn s.look_rows

-- Fields.

number_short : (n : ℕ) → n ≤ 1000000 → IsShortField (decimal n)
number_short n low = length-decimal-le_wide 24 n (omega arith) (omega (arith, low)) (omega (arith, low))

name_short : (names : List (List ℕ)) (c : ℕ) → All IsName names → IsShortField (name_in names c)
name_short names c each =
    elim (cases_lt c (length names)) [
      | inl inside ↦ (All-get_or IsName names c [] inside each).short
      | inr past ↦ subst IsShortField (sym (get_or_past names c [] past)) (omega arith)
    ]

one_field : (a : List ℕ) → IsShortField a → All IsShortField (a ∷ [])
one_field a short = All-cons IsShortField a [] short (All-nil IsShortField)

two_fields : (a b : List ℕ) → IsShortField a → IsShortField b → All IsShortField (a ∷ b ∷ [])
two_fields a b short short' = All-cons IsShortField a (b ∷ []) short (one_field b short')

three_fields : (a b c : List ℕ) → IsShortField a → IsShortField b → IsShortField c → All IsShortField (a ∷ b ∷ c ∷ [])
three_fields a b c short short' short'' = All-cons IsShortField a (b ∷ c ∷ []) short (two_fields b c short' short'')

entries_short : (names : List (List ℕ)) (es : List CellPart) → All IsName names → All (λ e. e.part ≤ 1000000) es → All IsShortField (entry_fields names es)
entries_short names [] each small = All-nil IsShortField
entries_short names (e ∷ es) each small =
    let part = number_short e.part (All-head (λ e. e.part ≤ 1000000) e es small) in
    let rest = entries_short names es each (All-tail (λ e. e.part ≤ 1000000) e es small) in
    All-cons IsShortField (name_in names e.cell) (decimal e.part ∷ entry_fields names es) (name_short names e.cell each) (All-cons IsShortField (decimal e.part) (entry_fields names es) part rest)

-- Rows.

-- at most three fields, and entries behind them
row_short : (names : List (List ℕ)) (fs : List (List ℕ)) (es : List CellPart) → All IsName names → length fs ≤ 3 → All IsShortField fs → AreFew es → IsShort (fs ++ entry_fields names es)
row_short names fs es each three short few = (
  omega (arith, length-append fs (entry_fields names es), length-entry_fields names es, three, few.0),
  All-append IsShortField fs (entry_fields names es) short (entries_short names es each few.1),
)

-- a position's moves
moves_short : (names : List (List ℕ)) (q : ℕ) (moves : List ℕ) → All IsName names → length moves ≤ 64 → IsShort (moves_of names q moves)
moves_short names q moves each few =
    let others = All-map IsShortField (name_in names) moves (λ k d inside. name_short names (slice_index_or moves k d) each) in
    let named = All-cons IsShortField (name_in names q) (map (name_in names) moves) (name_short names q each) others in
    (omega (arith, length-map moves (name_in names), few), All-cons IsShortField (codes "moves") (name_in names q ∷ map (name_in names) moves) (omega arith) named)

version_short : (v : TextVersion) → IsShort (version_row v)
version_short One = (omega arith, two_fields (codes "scenario") (codes "1") (omega arith) (omega arith))
version_short Two = (omega arith, two_fields (codes "scenario") (codes "2") (omega arith) (omega arith))

one_more : (n : ℕ) (row : List (List ℕ)) (rows : List (List (List ℕ))) → IsShort row → AreShort n rows → AreShort (n + 1) (row ∷ rows)
one_more n row rows short rest = (omega (arith, rest.0), All-cons IsShort row rows short rest.1)

both_short : (m n : ℕ) (rows more : List (List (List ℕ))) → AreShort m rows → AreShort n more → AreShort (m + n) (rows ++ more)
both_short m n rows more some rest = (omega (arith, length-append rows more, some.0, rest.0), All-append IsShort rows more some.1 rest.1)

-- a row for each of at most so many, and for each number below at most so many
each_short : {X : Type 0} (n : ℕ) (f : X → List (List ℕ)) (xs : List X) → length xs ≤ n → All (λ x. IsShort (f x)) xs → AreShort n (map f xs)
each_short n f xs few short = (omega (arith, length-map xs f, few), All-map IsShort f xs short)

range_short : (n m : ℕ) (f : ℕ → List (List ℕ)) → m ≤ n → ((k : ℕ) → k < m → IsShort (f k)) → AreShort n (map f (range_with_len 0 m))
range_short n m f few short = each_short n f (range_with_len 0 m) (omega (arith, length-range_with_len 0 m, few)) (All-range (λ k. IsShort (f k)) 0 m (λ k low high. short k (omega (arith, high))))

-- a word and a name for each of some names
named_short : (word : List ℕ) → IsShortField word → (names : List (List ℕ)) → length names ≤ 200 → All IsName names → AreShort 200 (map (λ name. word ∷ name ∷ []) names)
named_short word short names few each =
    let row : (name : List ℕ) → IsName name → IsShort (word ∷ name ∷ []) = λ name is. (omega arith, two_fields word name short is.short) in
    each_short 200 (λ name. word ∷ name ∷ []) names few (All-weaker IsName (λ name. IsShort (word ∷ name ∷ [])) row names each)

by_either : (v : TextVersion) (xs ys : List (List ℕ)) → All IsName xs → All IsName ys → All IsName (by_version v xs ys)
by_either One xs ys each each' = each
by_either Two xs ys each each' = each'

-- Lines of a state, the last ones first.
module _ (s : State) (h : IsSmall s) where
  placed : All IsName (positions_in s)
  placed = by_either s.version s.names s.positions h.names.1 h.positions.1

  period_short : (word name : List ℕ) (r : PeriodRow) → IsShortField word → IsShortField name → IsFewIn r → IsShort (word ∷ decimal r.period ∷ name ∷ entry_fields s.names r.row)
  period_short word name r short short' few =
      row_short s.names (word ∷ decimal r.period ∷ name ∷ []) r.row h.names.1 (omega arith) (three_fields word (decimal r.period) name short (number_short r.period (omega (arith, few.0))) short') few.1

  look_in_short : AreShort 6201 (look_in_rows s)
  look_in_short =
      let look : (r : PeriodRow) → IsFewIn r → IsShort (look_in_of s.names (positions_in s) r) = λ r few. period_short (codes "lookin") (name_in (positions_in s) r.own) r (omega arith) (name_short (positions_in s) r.own placed) few in
      let rows = each_short 6200 (look_in_of s.names (positions_in s)) s.look_rows h.look_rows.0 (All-weaker IsFewIn (λ r. IsShort (look_in_of s.names (positions_in s) r)) look s.look_rows h.look_rows.1) in
      let ending = one_more 0 (codes "end" ∷ []) [] (omega arith, one_field (codes "end") (omega arith)) (omega arith, All-nil IsShort) in
      both_short 6200 1 (map (look_in_of s.names (positions_in s)) s.look_rows) ((codes "end" ∷ []) ∷ []) rows ending

  look_short : AreShort 6401 (look_rows s)
  look_short =
      let look : ℕ → List (List ℕ) = λ q. look_of s.names (positions_in s) q (unwrap_or (slice_index_or s.looks q None) []) in
      let short : (q : ℕ) → q < length s.looks → IsShort (look q) = λ q inside.
      row_short s.names (codes "look" ∷ name_in (positions_in s) q ∷ []) (unwrap_or (slice_index_or s.looks q None) []) h.names.1 (omega arith) (two_fields (codes "look") (name_in (positions_in s) q) (omega arith) (name_short (positions_in s) q placed)) (All-get_or (λ o. AreFew (unwrap_or o [])) s.looks q None inside h.looks.1) in
      both_short 200 6201 (map look (range_with_len 0 (length s.looks))) (look_in_rows s) (range_short 200 (length s.looks) look h.looks.0 short) look_in_short

  overlook_short : AreShort 6601 (overlook_rows s)
  overlook_short =
      let row : ℕ → List (List ℕ) = λ c. overlook_of s.names c (unwrap_or (slice_index_or s.overlook c None) 0) in
      let short : (c : ℕ) → c < length s.overlook → IsShort (row c) = λ c inside.
      (omega arith, three_fields (codes "overlook") (name_in s.names c) (decimal (unwrap_or (slice_index_or s.overlook c None) 0)) (omega arith) (name_short s.names c h.names.1) (number_short _ (All-get_or (λ o. unwrap_or o 0 ≤ 1000000) s.overlook c None inside h.overlook.1))) in
      both_short 200 6401 (map row (range_with_len 0 (length s.overlook))) (look_rows s) (range_short 200 (length s.overlook) row h.overlook.0 short) look_short

  drift_in_short : AreShort 12601 (drift_in_rows s)
  drift_in_short =
      let drift : (r : PeriodRow) → IsFewIn r → IsShort (drift_in_of s.names r) = λ r few. period_short (codes "driftin") (name_in s.names r.own) r (omega arith) (name_short s.names r.own h.names.1) few in
      let rows = each_short 6000 (drift_in_of s.names) s.drift_rows h.drift_rows.0 (All-weaker IsFewIn (λ r. IsShort (drift_in_of s.names r)) drift s.drift_rows h.drift_rows.1) in
      both_short 6000 6601 (map (drift_in_of s.names) s.drift_rows) (overlook_rows s) rows overlook_short

  drift_short : AreShort 12801 (drift_rows s)
  drift_short =
      let row : ℕ → List (List ℕ) = λ c. drift_of s.names c (slice_index_or s.parts c []) in
      let short : (c : ℕ) → c < length s.parts → IsShort (row c) = λ c inside.
      row_short s.names (codes "drift" ∷ name_in s.names c ∷ []) (slice_index_or s.parts c []) h.names.1 (omega arith) (two_fields (codes "drift") (name_in s.names c) (omega arith) (name_short s.names c h.names.1)) (All-get_or AreFew s.parts c [] inside h.parts.1) in
      both_short 200 12601 (map row (range_with_len 0 (length s.parts))) (drift_in_rows s) (range_short 200 (length s.parts) row h.parts.0 short) drift_in_short

  move_short : AreShort 13001 (moves_rows s)
  move_short =
      let row : ℕ → List (List ℕ) = λ q. moves_of (positions_in s) q (moves_from s.moves q) in
      let short : (q : ℕ) → q < length s.moves → IsShort (row q) = λ q inside. moves_short (positions_in s) q (moves_from s.moves q) placed (h.moves.1 q inside) in
      both_short 200 12801 (map row (range_with_len 0 (length s.moves))) (drift_rows s) (range_short 200 (length s.moves) row h.moves.0 short) drift_short

  start_short : AreShort 13003 (start_rows s)
  start_short =
      let name = name_in (positions_in s) s.start in
      let start : List (List ℕ) = codes "start" ∷ name ∷ [] in
      let first : List (List ℕ) = codes "first" ∷ entry_fields s.names s.first in
      let named : IsShort start = (omega arith, two_fields (codes "start") name (omega arith) (name_short (positions_in s) s.start placed)) in
      let entered : IsShort first = row_short s.names (codes "first" ∷ []) s.first h.names.1 (omega arith) (one_field (codes "first") (omega arith)) h.first in
      one_more 13002 start (first ∷ moves_rows s) named (one_more 13001 first (moves_rows s) entered move_short)

  names_short : AreShort 13403 (name_rows s)
  names_short =
      let cells = named_short (codes "cell") (omega arith) s.names h.names.0 h.names.1 in
      let places = named_short (codes "position") (omega arith) s.positions h.positions.0 h.positions.1 in
      both_short 200 13203 (map cell_row s.names) (map position_row s.positions ++ start_rows s) cells (both_short 200 13003 (map position_row s.positions) (start_rows s) places start_short)

  state_short : AreShort 13406 (state_rows s)
  state_short =
      let horizon : List (List ℕ) = codes "horizon" ∷ decimal s.horizon ∷ [] in
      let parts : List (List ℕ) = codes "parts" ∷ decimal s.total ∷ decimal s.drift ∷ decimal s.look ∷ [] in
      let periods : IsShort horizon = (omega arith, two_fields (codes "horizon") (decimal s.horizon) (omega arith) (number_short s.horizon h.horizon)) in
      let numbers = three_fields (decimal s.total) (decimal s.drift) (decimal s.look) (number_short s.total h.total) (number_short s.drift h.drift) (number_short s.look h.look) in
      let wholes : IsShort parts = (omega arith, All-cons IsShortField (codes "parts") (decimal s.total ∷ decimal s.drift ∷ decimal s.look ∷ []) (omega arith) numbers) in
      let settled = one_more 13404 horizon (parts ∷ name_rows s) periods (one_more 13403 parts (name_rows s) wholes names_short) in
      one_more 13405 (version_row s.version) (horizon ∷ parts ∷ name_rows s) (version_short s.version) settled

-- Rows of a problem.

-- a row in order
drift_few : (denominator cells : ℕ) (es : List CellPart) → denominator ≤ 1000000 → cells ≤ 200 → IsDriftRow denominator cells es → AreFew es
drift_few denominator cells es low few row =
    let long = length-le_cells cells es row.within row.ascending in
    (omega (arith, long, few), λ k d inside. let part = get_or-le-sum_by (λ e. e.part) es k d inside in omega (arith, part, row.total, low))

-- at most one row for each period from the second on, and each owner
later_few : (row : ℕ → ℕ → List CellPart) (owners last : ℕ) → length (later_rows row owners last) ≤ owners * (last - 1)
later_few row owners last =
    let one : (t : ℕ) → length (other_rows row owners t) ≤ owners = λ t.
    let each = length-flat_map-le (λ c. cond (is_same_row (row t c) (row 1 c)) [] (record { period = t; own = c; row = row t c } ∷ [])) 1 (λ c. one_or_none (is_same_row (row t c) (row 1 c)) (record { period = t; own = c; row = row t c })) (range_with_len 0 owners) in
    omega (arith, each, length-range_with_len 0 owners) in
    let all = length-flat_map-le (other_rows row owners) owners one (range_with_len 2 (last - 1)) in
    rw length-range_with_len at all
  where
    one_or_none : (same : Bool) (r : PeriodRow) → length (cond same [] (r ∷ [])) ≤ 1
    one_or_none true r = omega arith
    one_or_none false r = omega arith

module _ (p : Problem) (h : IsProblem p) where
  drift_at : (t c : ℕ) → c < p.cells → AreFew (row_of p.drift t c)
  drift_at t c inside = drift_few p.drift.denominator _ (row_of p.drift t c) h.drift.denominator.1 (omega (arith, h.drift_cells, h.cells)) (h.drift.each t c (omega (arith, inside, h.drift_cells)))

  covered_at : (t a : ℕ) → AreFew (covered p t a)
  covered_at t a =
      let looks = look_of_row p h t a in
      let cell : CellPart → ℕ = λ e. e.cell in
      let row = kept p.sweep.denominator (look_row p.sweep t a) in
      let up : IsStrictlyIncreasing (map (λ (e : CellPart). e.cell) (covered p t a)) = subst IsStrictlyIncreasing (sym (map-map (λ (e : CellPart). e.cell) (λ (e : CellPart). record { cell = e.cell; part = e.part }) row)) (increasing_from_ascends cell row (kept_rises p h t a)) in
      let long = length-le_cells p.cells (covered p t a) looks.within up in
      (omega (arith, long, h.cells), All-weaker (λ e. e.part ≤ p.sweep.denominator) (λ e. e.part ≤ 1000000) (λ e le. omega (arith, le, h.sweep.denominator)) (covered p t a) looks.parts)

  first_few : AreFew (first_entries p)
  first_few = drift_few p.total p.cells (first_entries p) h.total.1 h.cells.1 (IsDriftRow-first p h)

  base_few : All AreFew (map (row_of p.drift 1) (range_with_len 0 p.cells))
  base_few = All-map AreFew (row_of p.drift 1) (range_with_len 0 p.cells) (All-range (λ c. AreFew (row_of p.drift 1 c)) 0 p.cells (λ c low high. drift_at 1 c (omega (arith, high))))

  overlook_few : All (λ o. unwrap_or o 0 ≤ 1000000) (map (λ c. Some (factor_of p.sweep 1 c c)) (range_with_len 0 p.positions))
  overlook_few =
      let factor : (c : ℕ) → factor_of p.sweep 1 c c ≤ 1000000 = λ c. omega (arith, factor_of-le p.sweep h.sweep 1 c c, h.sweep.denominator) in
      All-map (λ o. unwrap_or o 0 ≤ 1000000) (λ c. Some (factor_of p.sweep 1 c c)) (range_with_len 0 p.positions) (All-range (λ c. factor_of p.sweep 1 c c ≤ 1000000) 0 p.positions (λ c low high. factor c))

  looks_few : All (λ o. AreFew (unwrap_or o [])) (map (λ a. Some (covered p 1 a)) (range_with_len 0 p.positions))
  looks_few = All-map (λ o. AreFew (unwrap_or o [])) (λ a. Some (covered p 1 a)) (range_with_len 0 p.positions) (All-range (λ a. AreFew (covered p 1 a)) 0 p.positions (λ a low high. covered_at 1 a))

  -- the drift changes after at most 30 of the periods from the second on, the looks in at most 31
  changes_few : (length (drift_changes p) ≤ 6000) × All IsFewIn (drift_changes p)
  changes_few =
      let periods : p.horizon - 1 - 1 ≤ 30 = omega (arith, h.horizon) in
      let most = mul-le-mul h.cells.1 periods in
      (omega (arith, later_few (row_of p.drift) p.cells (p.horizon - 1), most), all_later (row_of p.drift) p.cells (p.horizon - 1) IsFewIn (λ t c low high inside. (omega (arith, high, h.horizon), drift_at t c inside)))

  look_changes_few : (length (look_changes p) ≤ 6200) × All IsFewIn (look_changes p)
  look_changes_few =
      let periods : p.horizon - 1 ≤ 31 = omega (arith, h.horizon) in
      let most = mul-le-mul h.positions.1 periods in
      (omega (arith, later_few (covered p) p.positions p.horizon, most), all_later (covered p) p.positions p.horizon IsFewIn (λ t a low high inside. (omega (arith, high, h.horizon), covered_at t a)))

  plain_small : IsSmall (plain_state p)
  plain_small = record {
    horizon = omega (arith, h.horizon);
    total = h.total.1;
    drift = h.drift.denominator.1;
    look = h.sweep.denominator.1;
    names = (omega (arith, h.names.count, h.cells), h.names.each);
    positions = (omega arith, All-nil IsName);
    first = first_few;
    moves = (h.grid.size.1, λ q inside. (h.grid.each q inside).few);
    parts = (omega (arith, length-map (range_with_len 0 p.cells) (row_of p.drift 1), length-range_with_len 0 p.cells, h.cells), base_few);
    overlook = (omega (arith, length-map-range_with_len (λ c. Some (factor_of p.sweep 1 c c)) 0 p.positions, h.positions), overlook_few);
    looks = (omega arith, All-nil _);
    drift_rows = (omega arith, All-nil IsFewIn);
    look_rows = (omega arith, All-nil IsFewIn);
  }

  full_small : IsSmall (full_state p)
  full_small = record {
    horizon = omega (arith, h.horizon);
    total = h.total.1;
    drift = h.drift.denominator.1;
    look = h.sweep.denominator.1;
    names = (omega (arith, h.names.count, h.cells), h.names.each);
    positions = (omega (arith, h.position_names.count, h.positions), h.position_names.each);
    first = first_few;
    moves = (h.grid.size.1, λ q inside. (h.grid.each q inside).few);
    parts = (omega (arith, length-map (range_with_len 0 p.cells) (row_of p.drift 1), length-range_with_len 0 p.cells, h.cells), base_few);
    overlook = (omega arith, All-nil _);
    looks = (omega (arith, length-map-range_with_len (λ a. Some (covered p 1 a)) 0 p.positions, h.positions), looks_few);
    drift_rows = changes_few;
    look_rows = look_changes_few;
  }

  problem_small : IsSmall (state_of_problem p)
  problem_small = elim (cases_Bool (is_plain p)) [
    | inl plain ↦ subst IsSmall (sym (state_plain p plain)) plain_small
    | inr full ↦ subst IsSmall (sym (state_full p full)) full_small
  ]

  pub canonical_text_fits : length (canonical_text p) ≤ 135078856
  unfolding canonical_text
  canonical_text_fits =
      let lines = state_short (state_of_problem p) problem_small in
      omega (arith, rows_fit 403 24 (state_rows (state_of_problem p)) lines.1, lines.0)
