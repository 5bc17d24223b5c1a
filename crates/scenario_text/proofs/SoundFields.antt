-- What tests that a line has passed say of its numbers, names and pairs.
use Rattle.std.proofs.Common.{◌≡◌, ℕ, ◌<◌, ◌≤◌, Bool, true, false, cond, List, [], ◌∷◌, map, length, get_or, Option, Some, None, Result, Ok, Err, refl, sym, ap, subst, ◌∙◌, arith, inl, inr}
use Rattle.std.specs.Prelude.{◌==◌, nat_lt, sum_by, is_none, is_some, unwrap_or, All, Contains, count_by}
use Rattle.std.specs.List.{list_any, position_or_len}
use Rattle.std.specs.Str.{bytes_eq}
use Rattle.std.proofs.lemmas.Bool.{eq-eqb, ne_eqb, cases_eq, or_parts, lt-ltb, true≢false, cases_lt, ltb-false}
use Rattle.std.proofs.lemmas.List.{length-map}
use Rattle.std.proofs.lemmas.List.Elements.{All-nil, All-cons, All-map, All-weaker}
use Rattle.std.proofs.lemmas.List.Sums.{sum_by-cons, fails_before_first}
use Rattle.std.proofs.lemmas.Slice.Eq.{bytes_eq-Decides}
use Rattle.period_rows.specs.declared.part.CellPart.{CellPart}
use Rattle.scenario_text.specs.declared.pair.Pair.{Pair}
use Rattle.scenario_text.specs.Fields.{is_bad, is_over, number_in, cell_named}
use Rattle.scenario_text.specs.ByCells.{stands_in, has_double, pairs_of, entries_of}
use Rattle.exact_parts.specs.Decimal.{number_at}
use Rattle.scenario_text.specs.Sound.{AreEntries, AreLooks, AreMoves}
use Rattle.scenario_text.specs.KindTable.{part, pair_parts}
use Rattle.scenario_text.proofs.EntryRows.{AreSaid, parts_any, any_unknown, twice, entries_alike, sum_said, any_said}
use Rattle.scenario_text.proofs.Numbers.{number_at_within, least_met}
use Rattle.scenario_text.proofs.Positions.{position_within}
use Rattle.list_laws.proofs.Mapped.{list_any-map}
use Rattle.list_laws.proofs.Sums.{sum_by-map}
use Rattle.text_rows.proofs.Results.{err_ok}

-- a test that would have refused
pub not_refused : {X E : Type 0} (b : Bool) (k : E) (r : Result X E) (t : X) → cond b (Err k) r ≡ Ok t → (b ≡ false) × (r ≡ Ok t)
not_refused true k r t e = absurd (err_ok k t e)
not_refused false k r t e = (refl, e)

-- a number within its limits
pub in_limits : (most : ℕ) (field : List ℕ) → is_bad 1 (number_at most field) ≡ false → is_over (number_at most field) ≡ false →
    (1 ≤ number_in (number_at most field)) × (number_in (number_at most field) ≤ most)
in_limits most field good within = (least_met 1 (number_at most field) good within, number_at_within most field)

-- no element passes the test
pub none_pass : {X : Type 0} (p : X → Bool) (xs : List X) → list_any p xs ≡ false → All (λ x. p x ≡ false) xs
none_pass p [] e = All-nil (λ x. p x ≡ false)
none_pass p (x ∷ xs) e = let parts = or_parts (p x) (list_any p xs) e in All-cons (λ x. p x ≡ false) x xs parts.0 (none_pass p xs parts.1)

-- a cell that was found is one of them
pub named_within : (names : List (List ℕ)) (name : List ℕ) (c : ℕ) → cell_named names name ≡ Some c → c < length names
named_within names name c e = position_within (bytes_eq name) names c [] e

pub found_within : (o : Option ℕ) (n : ℕ) → ((c : ℕ) → o ≡ Some c → c < n) → is_none o ≡ false → unwrap_or o 0 < n
found_within None n h e = absurd (true≢false e)
found_within (Some c) n h e = h c refl

-- a name that wasn't found isn't there
past_all : (names : List (List ℕ)) (name : List ℕ) → is_some (cell_named names name) ≡ false → length names ≤ position_or_len (bytes_eq name) names
past_all names name e = elim (cases_lt (position_or_len (bytes_eq name) names) (length names)) [
  | inl lt ↦ absurd (let there = lt-ltb _ _ lt in let bad : true ≡ false = rw there at e in true≢false bad)
  | inr le ↦ le
]

pub not_there : (names : List (List ℕ)) (name : List ℕ) → is_some (cell_named names name) ≡ false → Contains names name → ⊥
not_there names name e there =
    let fails = fails_before_first (bytes_eq name) names there.0 name (omega (arith, past_all names name e, there.1)) in
    let passes : bytes_eq name (get_or names there.0 name) ≡ true = (bytes_eq-Decides name (get_or names there.0 name)).1 (sym there.2) in
    true≢false (sym passes ∙ fails)

-- Cells that were all found, and none of them twice.
none_counted : (cs : List (Option ℕ)) (c : ℕ) → list_any (λ m. is_none m) cs ≡ false → stands_in (Some c) cs ≡ false → count_by (λ m. m == c) (map (λ m. unwrap_or m 0) cs) ≡ 0
none_counted [] c found apart = refl
none_counted (None ∷ cs) c found apart = absurd (true≢false found)
none_counted (Some d ∷ cs) c found apart =
    let parts = or_parts (d == c) (stands_in (Some c) cs) apart in
    sum_by-cons (λ m. cond (m == c) 1 0) d (map (λ m. unwrap_or m 0) cs) ∙ rw parts.0 (omega (arith, none_counted cs c found parts.1))

pub once_each : (cs : List (Option ℕ)) → list_any (λ m. is_none m) cs ≡ false → has_double cs ≡ false → (d : ℕ) → count_by (λ m. m == d) (map (λ m. unwrap_or m 0) cs) ≤ 1
unfolding has_double
once_each [] found single d = omega arith
once_each (None ∷ cs) found single d = absurd (true≢false found)
once_each (Some c ∷ cs) found single d =
    let parts = or_parts (stands_in (Some c) cs) (has_double cs) single in
    let step = sum_by-cons (λ m. cond (m == d) 1 0) c (map (λ m. unwrap_or m 0) cs) in
    elim (cases_eq c d) [
      | inl same ↦ rw (step, eq-eqb c d same, ← same, none_counted cs c found parts.0) (omega arith)
      | inr apart ↦ rw (step, ne_eqb c d apart) (omega (arith, once_each cs found parts.1 d))
    ]

cells_within : (names fields : List (List ℕ)) → list_any (λ m. is_none m) (map (cell_named names) fields) ≡ false → All (λ d. d < length names) (map (λ m. unwrap_or m 0) (map (cell_named names) fields))
cells_within names [] found = All-nil (λ d. d < length names)
cells_within names (name ∷ fields) found =
    let parts = or_parts (is_none (cell_named names name)) _ found in
    All-cons (λ d. d < length names) _ _ (found_within (cell_named names name) (length names) (named_within names name) parts.0) (cells_within names fields parts.1)

-- the moves of a line
pub AreMoves-from_named : (names fields : List (List ℕ)) → length fields ≤ 64 → 1 ≤ length fields → list_any (λ m. is_none m) (map (cell_named names) fields) ≡ false → has_double (map (cell_named names) fields) ≡ false →
    AreMoves (length names) (map (λ m. unwrap_or m 0) (map (cell_named names) fields))
AreMoves-from_named names fields few some found single =
    let cs = map (cell_named names) fields in
    let long : length (map (λ (m : Option ℕ). unwrap_or m 0) cs) ≡ length fields = length-map cs (λ m. unwrap_or m 0) ∙ length-map fields (cell_named names) in
    record {
      some = omega (arith, long, some);
      few = omega (arith, long, few);
      within = cells_within names fields found;
      once = once_each cs found single;
    }

-- Pairs.
pairs_within : (names fields : List (List ℕ)) → list_any (λ x. is_none x.cell) (pairs_of names fields) ≡ false → All (λ x. unwrap_or x.cell 0 < length names) (pairs_of names fields)
unfolding pairs_of
pairs_within names [] found = All-nil (λ x. unwrap_or x.cell 0 < length names)
pairs_within names (name ∷ []) found = All-nil (λ x. unwrap_or x.cell 0 < length names)
pairs_within names (name ∷ part ∷ fields) found =
    let parts = or_parts (is_none (cell_named names name)) _ found in
    All-cons (λ x. unwrap_or x.cell 0 < length names) _ _ (found_within (cell_named names name) (length names) (named_within names name) parts.0) (pairs_within names fields parts.1)

pairs_positive : (pairs : List Pair) → list_any (λ x. is_bad 1 x.part) pairs ≡ false → list_any (λ x. is_over x.part) pairs ≡ false → All (λ x. 1 ≤ number_in x.part) pairs
pairs_positive [] good within = All-nil (λ x. 1 ≤ number_in x.part)
pairs_positive (x ∷ xs) good within =
    let here = or_parts (is_bad 1 x.part) _ good in
    let small = or_parts (is_over x.part) _ within in
    All-cons (λ x. 1 ≤ number_in x.part) x xs (least_met 1 x.part here.0 small.0) (pairs_positive xs here.1 small.1)

pairs_once : (pairs : List Pair) → list_any (λ x. is_none x.cell) pairs ≡ false → has_double (map (λ x. x.cell) pairs) ≡ false → (d : ℕ) → count_by (λ e. e.cell == d) (entries_of pairs) ≤ 1
pairs_once pairs found single d =
    let cells = map (λ (x : Pair). x.cell) pairs in
    let all : count_by (λ m. m == d) (map (λ m. unwrap_or m 0) cells) ≤ 1 = once_each cells (list_any-map (λ m. is_none m) (λ x. x.cell) pairs ∙ found) single d in
    let here = sum_by-map (λ (e : CellPart). cond (e.cell == d) 1 0) (λ (x : Pair). record { cell = unwrap_or x.cell 0; part = number_in x.part }) pairs in
    let there = sum_by-map (λ m. cond (m == d) 1 0) (λ m. unwrap_or m 0) cells ∙ sum_by-map (λ (m : Option ℕ). cond (unwrap_or m 0 == d) 1 0) (λ (x : Pair). x.cell) pairs in
    omega (arith, all, here, there)

-- the entries of fields that have no fault among their numbers and names
module _ (names fields : List (List ℕ)) (es : List CellPart) where
  said_within : (least : ℕ) → AreSaid names least fields es → All (λ e. e.cell < length names) es
  said_within least h =
      let found = any_unknown names fields ∙ h.known in
      let all : All (λ e. e.cell < length names) (entries_of (pairs_of names fields)) = All-map (λ e. e.cell < length names) _ (pairs_of names fields) (pairs_within names fields found) in
      subst (λ (xs : List CellPart). All (λ e. e.cell < length names) xs) (entries_alike names fields ∙ h.entries) all

  said_once : (least : ℕ) → AreSaid names least fields es → (d : ℕ) → count_by (λ e. e.cell == d) es ≤ 1
  said_once least h d =
      let found = any_unknown names fields ∙ h.known in
      let single = twice names fields h.known ∙ h.once in
      subst (λ (xs : List CellPart). count_by (λ e. e.cell == d) xs ≤ 1) (entries_alike names fields ∙ h.entries) (pairs_once (pairs_of names fields) found single d)

  said_positive : AreSaid names 1 fields es → All (λ e. 1 ≤ e.part) es
  said_positive h =
      let good = parts_any names is_bad 1 fields ∙ h.bad in
      let small = parts_any names (λ l x. is_over x) 1 fields ∙ h.over in
      let all : All (λ e. 1 ≤ e.part) (entries_of (pairs_of names fields)) = All-map (λ e. 1 ≤ e.part) _ (pairs_of names fields) (pairs_positive (pairs_of names fields) good small) in
      subst (λ (xs : List CellPart). All (λ e. 1 ≤ e.part) xs) (entries_alike names fields ∙ h.entries) all

  pub AreEntries-said : (denominator : ℕ) → AreSaid names 1 fields es → sum_by part (pair_parts fields) ≡ denominator → AreEntries (length names) denominator es
  AreEntries-said denominator h total = record {
    within = said_within 1 h;
    positive = said_positive h;
    once = said_once 1 h;
    total = ap (λ (xs : List CellPart). sum_by (λ e. e.part) xs) (sym h.entries) ∙ sym (sum_said names fields) ∙ total;
  }

  pub AreLooks-said : (denominator : ℕ) → AreSaid names 0 fields es → list_any (λ f. nat_lt denominator (part f)) (pair_parts fields) ≡ false → AreLooks (length names) denominator es
  AreLooks-said denominator h none =
      let above : list_any (λ e. nat_lt denominator e.part) es ≡ false = ap (λ (xs : List CellPart). list_any (λ e. nat_lt denominator e.part) xs) (sym h.entries) ∙ sym (any_said names (nat_lt denominator) fields) ∙ none in
      record {
        within = said_within 0 h;
        parts = All-weaker (λ e. nat_lt denominator e.part ≡ false) (λ e. e.part ≤ denominator) (λ e fails. ltb-false denominator e.part fails) es (none_pass (λ e. nat_lt denominator e.part) es above);
        once = said_once 0 h;
      }
