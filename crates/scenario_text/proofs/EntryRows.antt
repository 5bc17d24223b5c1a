-- Lines with entries give the rows of the table, once their pairs were scanned.
use Rattle.std.proofs.Common.{◌≡◌, ℕ, ◌+◌, ◌-◌, Bool, true, false, cond, List, [], ◌∷◌, ◌++◌, take, drop, length, map, get_or, Option, Some, None, Result, Ok, Err, refl, sym, ap, subst, ◌∙◌, arith, ◌≤◌, set}
use Rattle.std.specs.Prelude.{not, ◌||◌, ◌==◌, nat_lt, is_none, unwrap_or, sum_by, slice_index_or}
use Rattle.std.proofs.Math.Bool.{or-false}
use Rattle.std.proofs.lemmas.Bool.{eq-eqb, le-ltb, or_parts}
use Rattle.std.specs.List.{list_any}
use Rattle.std.proofs.lemmas.List.Sums.{sum_by-cons}
use Rattle.exact_parts.specs.declared.number.Number.{Number}
use Rattle.exact_parts.specs.declared.number.Number.TheVariants.{Of}
use Rattle.exact_parts.specs.Decimal.{number_at}
use Rattle.list_laws.proofs.Mapped.{list_any-map}
use Rattle.period_rows.specs.declared.part.CellPart.{CellPart}
use Rattle.scenario_text.specs.declared.draft.Stage.TheVariants as due
use Rattle.scenario_text.specs.declared.draft.Draft.{Draft}
use Rattle.scenario_text.specs.declared.kind.TextKind.{TextKind}
use Rattle.scenario_text.specs.declared.kind.TextKind.TheVariants.{BadNumber, OverLimit, UnknownName, DoubleName, DoubleRow, WrongSum, PartOver}
use Rattle.scenario_text.specs.declared.line.Line.{Line}
use Rattle.scenario_text.specs.declared.line.Line.TheVariants.{First, Drift, DriftIn, Look, LookIn}
use Rattle.scenario_text.specs.declared.pairs.Scan.{Scan}
use Rattle.scenario_text.specs.declared.stop.LineStop.{LineStop}
use Rattle.scenario_text.specs.Fields.{entries_in, is_bad, is_over, number_in, cell_named, are_even, are_pairs}
use Rattle.scenario_text.specs.ByCells.{has_double, pairs_of, entries_of, owner_of, right_pairs}
use Rattle.scenario_text.specs.Gives.{TakesLine}
use Rattle.scenario_text.specs.Scanning.{HasSeen}
use Rattle.scenario_text.specs.State.{State, positions_in}
use Rattle.scenario_text.specs.KindTable.{pair_names, pair_parts, stands_twice, holds_of, has_parts, has_look, has_period_row, part, within}
use Rattle.scenario_text.specs.Grammar.{row_at}
use Rattle.scenario_text.proofs.ByCellNames.{twice_alike}
use Rattle.scenario_text.proofs.FirstFields.{front_none, front_some, front_rest}

-- The pairs of fields are what the table asks of their names and their parts.
module _ (names : List (List ℕ)) where
  pub parts_any : (test : ℕ → Number → Bool) (least : ℕ) (fields : List (List ℕ)) → list_any (λ x. test least x.part) (pairs_of names fields) ≡ list_any (λ n. test n.least (number_at n.most n.field)) (within least 1000000 (pair_parts fields))
  unfolding pairs_of pair_parts
  parts_any test least [] = refl
  parts_any test least (name ∷ []) = refl
  parts_any test least (name ∷ p ∷ fields) = ap (λ (b : Bool). test least (number_at 1000000 p) || b) (parts_any test least fields)

  cells_named : (fields : List (List ℕ)) → map (λ x. x.cell) (pairs_of names fields) ≡ map (cell_named names) (pair_names fields)
  unfolding pairs_of pair_names
  cells_named [] = refl
  cells_named (name ∷ []) = refl
  cells_named (name ∷ p ∷ fields) = ap (λ (cs : List (Option ℕ)). cell_named names name ∷ cs) (cells_named fields)

  pub any_unknown : (fields : List (List ℕ)) → list_any (λ x. is_none x.cell) (pairs_of names fields) ≡ list_any (λ f. is_none (cell_named names f)) (pair_names fields)
  any_unknown fields =
      sym (list_any-map (λ c. is_none c) (λ x. x.cell) (pairs_of names fields)) ∙ ap (list_any (λ c. is_none c)) (cells_named fields) ∙ list_any-map (λ c. is_none c) (cell_named names) (pair_names fields)

  pub twice : (fields : List (List ℕ)) → list_any (λ f. is_none (cell_named names f)) (pair_names fields) ≡ false → has_double (map (λ x. x.cell) (pairs_of names fields)) ≡ stands_twice (pair_names fields)
  twice fields known = ap has_double (cells_named fields) ∙ twice_alike names (pair_names fields) known

  pub entries_alike : (fields : List (List ℕ)) → entries_of (pairs_of names fields) ≡ entries_in names fields
  unfolding pairs_of entries_in
  entries_alike [] = refl
  entries_alike (name ∷ []) = refl
  entries_alike (name ∷ p ∷ fields) = ap (λ (es : List CellPart). record { cell = unwrap_or (cell_named names name) 0; part = part p } ∷ es) (entries_alike fields)

  pub sum_said : (fields : List (List ℕ)) → sum_by part (pair_parts fields) ≡ sum_by (λ e. e.part) (entries_in names fields)
  unfolding pair_parts entries_in
  sum_said [] = refl
  sum_said (name ∷ []) = refl
  sum_said (name ∷ p ∷ fields) =
      sum_by-cons part p (pair_parts fields) ∙ ap (λ (n : ℕ). part p + n) (sum_said fields) ∙ sym (sum_by-cons (λ e. e.part) (record { cell = unwrap_or (cell_named names name) 0; part = part p }) (entries_in names fields))

  pub any_said : (test : ℕ → Bool) (fields : List (List ℕ)) → list_any (λ f. test (part f)) (pair_parts fields) ≡ list_any (λ e. test e.part) (entries_in names fields)
  unfolding pair_parts entries_in
  any_said test [] = refl
  any_said test (name ∷ []) = refl
  any_said test (name ∷ p ∷ fields) = ap (λ (b : Bool). test (part p) || b) (any_said test fields)

-- what was seen of the pairs of these fields, as the table asks it
record SeenIn (names : List (List ℕ)) (least : ℕ) (fields : List (List ℕ)) (scan : Scan) : Type 0 where
  bad : scan.bad ≡ list_any (λ n. is_bad n.least (number_at n.most n.field)) (within least 1000000 (pair_parts fields))
  over : scan.over ≡ list_any (λ n. is_over (number_at n.most n.field)) (within least 1000000 (pair_parts fields))
  unknown : scan.unknown ≡ list_any (λ f. is_none (cell_named names f)) (pair_names fields)
  double : scan.bad ≡ false → scan.over ≡ false → scan.unknown ≡ false → scan.double ≡ stands_twice (pair_names fields)
  entries : scan.bad ≡ false → scan.over ≡ false → scan.unknown ≡ false → scan.double ≡ false → scan.entries.items ≡ entries_in names fields

seen_in : (names : List (List ℕ)) (least : ℕ) (fields : List (List ℕ)) (scan : Scan) → HasSeen least (pairs_of names fields) scan → SeenIn names least fields scan
seen_in names least fields scan h =
    let unknown = h.unknown ∙ any_unknown names fields in
    record {
      bad = h.bad ∙ parts_any names is_bad least fields;
      over = h.over ∙ parts_any names (λ l x. is_over x) least fields;
      unknown = unknown;
      double = λ b o u. h.double b o u ∙ twice names fields (sym unknown ∙ u);
      entries = λ b o u d. h.entries b o u d ∙ entries_alike names fields;
    }

-- A row, by what was seen.

-- what follows where the owner of a row is known
abbrev pub then_row : {X : Type 0} → Result X TextKind → (X → Result State TextKind) → Result State TextKind
then_row (Err kind) rest = Err kind
then_row (Ok own) rest = rest own

-- the kinds that the numbers and the names of a row with entries can have, and then what follows
abbrev pub names_first : Bool → Bool → Bool → Bool → Result State TextKind → Result State TextKind
names_first bad over unknown double rest = cond bad (Err BadNumber) (cond over (Err OverLimit) (cond unknown (Err UnknownName) (cond double (Err DoubleName) rest)))

owner_told : (x y u d d' : Bool) (own : Option ℕ) (rest : Result State TextKind) (after : ℕ → Result State TextKind) → (x ≡ false → y ≡ false → u ≡ false → d ≡ d') → ((c : ℕ) → own ≡ Some c → x ≡ false → y ≡ false → u ≡ false → d ≡ false → rest ≡ after c)
    → names_first x y (is_none own || u) d' rest ≡ then_row (owner_of x y own u d) after
owner_told true y u d d' own rest after double goes = refl
owner_told false true u d d' own rest after double goes = refl
owner_told false false u d d' None rest after double goes = refl
owner_told false false true d d' (Some c) rest after double goes = refl
owner_told false false false true d' (Some c) rest after double goes = let twice : true ≡ d' = double refl refl refl in rw (← twice) refl
owner_told false false false false d' (Some c) rest after double goes = let once : false ≡ d' = double refl refl refl in rw (← once) (goes c refl refl refl refl refl)

pairs_told : (x y u d d' : Bool) (rest after : Result State TextKind) → (x ≡ false → y ≡ false → u ≡ false → d ≡ d') → (x ≡ false → y ≡ false → u ≡ false → d ≡ false → rest ≡ after)
    → names_first x y u d' rest ≡ then_row (right_pairs x y u d) (λ done. after)
pairs_told true y u d d' rest after double goes = refl
pairs_told false true u d d' rest after double goes = refl
pairs_told false false true d d' rest after double goes = refl
pairs_told false false false true d' rest after double goes = let twice : true ≡ d' = double refl refl refl in rw (← twice) refl
pairs_told false false false false d' rest after double goes = let once : false ≡ d' = double refl refl refl in rw (← once) (goes refl refl refl refl)

-- the same flags
flags_alike : (b b' o o' u u' d : Bool) (rest : Result State TextKind) → b ≡ b' → o ≡ o' → u ≡ u' → names_first b' o' u' d rest ≡ names_first b o u d rest
flags_alike b b' o o' u u' d rest e f g = rw (e, f, g) refl

-- a row whose pairs were scanned: before them a number may be bad or over its limit, and the owner is named
scanned : (names : List (List ℕ)) (least : ℕ) (fields : List (List ℕ)) (scan : Scan) (bad over : Bool) (own : Option ℕ) (rest : Result State TextKind) (after : ℕ → Result State TextKind) → SeenIn names least fields scan
    → ((c : ℕ) → own ≡ Some c → scan.entries.items ≡ entries_in names fields → rest ≡ after c)
    → names_first (bad || list_any (λ n. is_bad n.least (number_at n.most n.field)) (within least 1000000 (pair_parts fields))) (over || list_any (λ n. is_over (number_at n.most n.field)) (within least 1000000 (pair_parts fields))) (is_none own || list_any (λ f. is_none (cell_named names f)) (pair_names fields)) (stands_twice (pair_names fields)) rest
    ≡ then_row (owner_of (bad || scan.bad) (over || scan.over) own scan.unknown scan.double) after
scanned names least fields scan bad over own rest after h goes =
    flags_alike _ _ _ _ _ _ (stands_twice (pair_names fields)) rest (ap (λ (b : Bool). bad || b) h.bad) (ap (λ (b : Bool). over || b) h.over) (ap (λ (b : Bool). is_none own || b) h.unknown)
    ∙ owner_told (bad || scan.bad) (over || scan.over) scan.unknown scan.double (stands_twice (pair_names fields)) own rest after
    (λ x y u. h.double (or_parts bad scan.bad x).1 (or_parts over scan.over y).1 u)
    (λ c is x y u d. goes c is (h.entries (or_parts bad scan.bad x).1 (or_parts over scan.over y).1 u d))

-- What follows the names of each row.

abbrev pub first_after : State → ℕ → List CellPart → Result State TextKind
first_after s sum entries = cond (not (sum == s.total)) (Err WrongSum) (Ok (record s { stage = due.Rows; first = entries }))

abbrev pub drift_after : State → Option ℕ → ℕ → List CellPart → Result State TextKind
drift_after s own sum entries =
    cond (holds_of own (has_parts s)) (Err DoubleRow) (cond (not (sum == s.drift)) (Err WrongSum) (Ok (record s { parts = set s.parts (unwrap_or own 0) entries })))

abbrev pub drift_in_after : State → ℕ → Option ℕ → ℕ → List CellPart → Result State TextKind
drift_in_after s t own sum entries =
    cond (holds_of own (has_period_row s.drift_rows t)) (Err DoubleRow) (cond (not (sum == s.drift)) (Err WrongSum) (Ok (record s { drift_rows = s.drift_rows ++ record { period = t; own = unwrap_or own 0; row = entries } ∷ [] })))

abbrev pub look_after : State → Option ℕ → Bool → List CellPart → Result State TextKind
look_after s own over entries =
    cond (holds_of own (has_look s)) (Err DoubleRow) (cond over (Err PartOver) (Ok (record s { looks = set s.looks (unwrap_or own 0) (Some entries) })))

abbrev pub look_in_after : State → ℕ → Option ℕ → Bool → List CellPart → Result State TextKind
look_in_after s t own over entries =
    cond (holds_of own (has_period_row s.look_rows t)) (Err DoubleRow) (cond over (Err PartOver) (Ok (record s { look_rows = s.look_rows ++ record { period = t; own = unwrap_or own 0; row = entries } ∷ [] })))

-- a sum, and a test, of entries that are those of the fields
same_sum : (f : Option ℕ → ℕ → List CellPart → Result State TextKind) (names fields : List (List ℕ)) (own : Option ℕ) (c : ℕ) (entries : List CellPart) → own ≡ Some c → entries ≡ entries_in names fields → f own (sum_by part (pair_parts fields)) (entries_in names fields) ≡ f (Some c) (sum_by (λ e. e.part) entries) entries
same_sum f names fields own c entries is same =
    ap (λ (o : Option ℕ). f o (sum_by part (pair_parts fields)) (entries_in names fields)) is
    ∙ ap (λ (n : ℕ). f (Some c) n (entries_in names fields)) (sum_said names fields)
    ∙ ap (λ (es : List CellPart). f (Some c) (sum_by (λ e. e.part) es) es) (sym same)

same_test : (f : Option ℕ → Bool → List CellPart → Result State TextKind) (g : ℕ) (names fields : List (List ℕ)) (own : Option ℕ) (c : ℕ) (entries : List CellPart) → own ≡ Some c → entries ≡ entries_in names fields → f own (list_any (λ x. nat_lt g (part x)) (pair_parts fields)) (entries_in names fields) ≡ f (Some c) (list_any (λ e. nat_lt g e.part) entries) entries
same_test f g names fields own c entries is same =
    ap (λ (o : Option ℕ). f o (list_any (λ x. nat_lt g (part x)) (pair_parts fields)) (entries_in names fields)) is
    ∙ ap (λ (b : Bool). f (Some c) b (entries_in names fields)) (any_said names (nat_lt g) fields)
    ∙ ap (λ (es : List CellPart). f (Some c) (list_any (λ e. nat_lt g e.part) es) es) (sym same)

-- the last test of the numbers has no more to it
over_last : (b o u d : Bool) (rest : Result State TextKind) → names_first b (o || false) u d rest ≡ names_first b o u d rest
over_last b o u d rest = ap (λ (x : Bool). names_first b x u d rest) (or-false o)

over_later : (b x o u d : Bool) (rest : Result State TextKind) → names_first b ((x || o) || false) u d rest ≡ names_first b (x || o) u d rest
over_later b x o u d rest = ap (λ (y : Bool). names_first b y u d rest) (or-false (x || o))

owner_first : (b o x u d : Bool) (rest : Result State TextKind) → names_first b o ((x || false) || u) d rest ≡ names_first b o (x || u) d rest
owner_first b o x u d rest = ap (λ (y : Bool). names_first b o (y || u) d rest) (or-false x)

module _ (s : State) (fields : List (List ℕ)) (scan : Scan) where
  pub first_scanned : are_pairs fields ≡ true → HasSeen 1 (pairs_of s.names fields) scan →
      row_at First s fields ≡ then_row (right_pairs scan.bad scan.over scan.unknown scan.double) (λ done. first_after s (sum_by (λ e. e.part) scan.entries.items) scan.entries.items)
  first_scanned form seen =
      let h = seen_in s.names 1 fields scan seen in
      let rest = first_after s (sum_by part (pair_parts fields)) (entries_in s.names fields) in
      let same = same_sum (λ own sum es. first_after s sum es) s.names fields (Some 0) 0 scan.entries.items refl in
      rw form (over_last _ _ _ (stands_twice (pair_names fields)) rest
      ∙ flags_alike _ _ _ _ _ _ (stands_twice (pair_names fields)) rest h.bad h.over h.unknown
      ∙ pairs_told scan.bad scan.over scan.unknown scan.double (stands_twice (pair_names fields)) rest _ h.double (λ b o u d. same (h.entries b o u d)))

  pub drift_scanned : (name : List ℕ) (cell : Option ℕ) → cell ≡ cell_named s.names name → are_pairs fields ≡ true → HasSeen 1 (pairs_of s.names fields) scan →
      row_at Drift s (name ∷ fields) ≡ then_row (owner_of scan.bad scan.over cell scan.unknown scan.double) (λ c. drift_after s (Some c) (sum_by (λ e. e.part) scan.entries.items) scan.entries.items)
  drift_scanned name cell one form seen =
      let own = cell_named s.names name in
      let rest = drift_after s own (sum_by part (pair_parts fields)) (entries_in s.names fields) in
      let after : ℕ → Result State TextKind = λ c. drift_after s (Some c) (sum_by (λ e. e.part) scan.entries.items) scan.entries.items in
      rw (one, form) (over_last _ _ _ (stands_twice (pair_names fields)) rest
      ∙ scanned s.names 1 fields scan false false own rest after (seen_in s.names 1 fields scan seen) (λ c is same. same_sum (drift_after s) s.names fields own c scan.entries.items is same))

  pub drift_in_scanned : (t name : List ℕ) (period : Number) (cell : Option ℕ) → period ≡ number_at (s.horizon - 1) t → cell ≡ cell_named s.names name → are_pairs fields ≡ true → HasSeen 1 (pairs_of s.names fields) scan →
      row_at DriftIn s (t ∷ name ∷ fields)
      ≡ then_row (owner_of (is_bad 1 period || scan.bad) (is_over period || scan.over) cell scan.unknown scan.double) (λ c. drift_in_after s (number_in period) (Some c) (sum_by (λ e. e.part) scan.entries.items) scan.entries.items)
  drift_in_scanned t name period cell when one form seen =
      let own = cell_named s.names name in
      let n = number_at (s.horizon - 1) t in
      let rest = drift_in_after s (number_in n) own (sum_by part (pair_parts fields)) (entries_in s.names fields) in
      let after : ℕ → Result State TextKind = λ c. drift_in_after s (number_in n) (Some c) (sum_by (λ e. e.part) scan.entries.items) scan.entries.items in
      rw (when, one, form) (over_later _ (is_over n) (list_any (λ x. is_over (number_at x.most x.field)) (within 1 1000000 (pair_parts fields))) (is_none own || list_any (λ f. is_none (cell_named s.names f)) (pair_names fields)) (stands_twice (pair_names fields)) rest
      ∙ scanned s.names 1 fields scan (is_bad 1 n) (is_over n) own rest after (seen_in s.names 1 fields scan seen) (λ c is same. same_sum (drift_in_after s (number_in n)) s.names fields own c scan.entries.items is same))

  pub look_scanned : (name : List ℕ) (position : Option ℕ) → position ≡ cell_named (positions_in s) name → are_even fields ≡ true → HasSeen 0 (pairs_of s.names fields) scan →
      row_at Look s (name ∷ fields) ≡ then_row (owner_of scan.bad scan.over position scan.unknown scan.double) (λ q. look_after s (Some q) (list_any (λ e. nat_lt s.look e.part) scan.entries.items) scan.entries.items)
  look_scanned name position one form seen =
      let own = cell_named (positions_in s) name in
      let rest = look_after s own (list_any (λ x. nat_lt s.look (part x)) (pair_parts fields)) (entries_in s.names fields) in
      let after : ℕ → Result State TextKind = λ q. look_after s (Some q) (list_any (λ e. nat_lt s.look e.part) scan.entries.items) scan.entries.items in
      rw (one, form) (over_last _ _ _ (stands_twice (pair_names fields)) rest
      ∙ owner_first _ _ (is_none own) _ (stands_twice (pair_names fields)) rest
      ∙ scanned s.names 0 fields scan false false own rest after (seen_in s.names 0 fields scan seen) (λ c is same. same_test (look_after s) s.look s.names fields own c scan.entries.items is same))

  pub look_in_scanned : (t name : List ℕ) (period : Number) (position : Option ℕ) → period ≡ number_at s.horizon t → position ≡ cell_named (positions_in s) name → are_even fields ≡ true → HasSeen 0 (pairs_of s.names fields) scan →
      row_at LookIn s (t ∷ name ∷ fields)
      ≡ then_row (owner_of (is_bad 1 period || scan.bad) (is_over period || scan.over) position scan.unknown scan.double) (λ q. look_in_after s (number_in period) (Some q) (list_any (λ e. nat_lt s.look e.part) scan.entries.items) scan.entries.items)
  look_in_scanned t name period position when one form seen =
      let own = cell_named (positions_in s) name in
      let n = number_at s.horizon t in
      let rest = look_in_after s (number_in n) own (list_any (λ x. nat_lt s.look (part x)) (pair_parts fields)) (entries_in s.names fields) in
      let after : ℕ → Result State TextKind = λ q. look_in_after s (number_in n) (Some q) (list_any (λ e. nat_lt s.look e.part) scan.entries.items) scan.entries.items in
      rw (when, one, form) (over_later _ (is_over n) (list_any (λ x. is_over (number_at x.most x.field)) (within 0 1000000 (pair_parts fields))) ((is_none own || false) || list_any (λ f. is_none (cell_named s.names f)) (pair_names fields)) (stands_twice (pair_names fields)) rest
      ∙ owner_first _ _ (is_none own) _ (stands_twice (pair_names fields)) rest
      ∙ scanned s.names 0 fields scan (is_bad 1 n) (is_over n) own rest after (seen_in s.names 0 fields scan seen) (λ c is same. same_test (look_in_after s (number_in n)) s.look s.names fields own c scan.entries.items is same))

-- Fields without a fault among their numbers and names, and what they say.
pub record AreSaid (names : List (List ℕ)) (least : ℕ) (fields : List (List ℕ)) (es : List CellPart) : Type 0 where
  pub bad : list_any (λ n. is_bad n.least (number_at n.most n.field)) (within least 1000000 (pair_parts fields)) ≡ false
  pub over : list_any (λ n. is_over (number_at n.most n.field)) (within least 1000000 (pair_parts fields)) ≡ false
  pub known : list_any (λ f. is_none (cell_named names f)) (pair_names fields) ≡ false
  pub once : stands_twice (pair_names fields) ≡ false
  pub entries : entries_in names fields ≡ es

pub first_said : (s : State) (fields : List (List ℕ)) (es : List CellPart) → are_pairs fields ≡ true → AreSaid s.names 1 fields es → sum_by (λ e. e.part) es ≡ s.total → row_at First s fields ≡ Ok (record s { stage = due.Rows; first = es })
first_said s fields es form h total =
    let whole = eq-eqb (sum_by part (pair_parts fields)) s.total (sum_said s.names fields ∙ ap (λ (xs : List CellPart). sum_by (λ e. e.part) xs) h.entries ∙ total) in
    rw (form, h.bad, h.over, h.known, h.once, whole, h.entries) refl

pub drift_said : (s : State) (name : List ℕ) (c : ℕ) (fields : List (List ℕ)) (es : List CellPart) → cell_named s.names name ≡ Some c → are_pairs fields ≡ true → AreSaid s.names 1 fields es → sum_by (λ e. e.part) es ≡ s.drift → slice_index_or s.parts c [] ≡ [] → row_at Drift s (name ∷ fields) ≡ Ok (record s { parts = set s.parts c es })
drift_said s name c fields es found form h total before =
    let whole = eq-eqb (sum_by part (pair_parts fields)) s.drift (sum_said s.names fields ∙ ap (λ (xs : List CellPart). sum_by (λ e. e.part) xs) h.entries ∙ total) in
    rw (form, h.bad, h.over, found, h.known, h.once, before, whole, h.entries) refl

pub drift_in_said : (s : State) (t name : List ℕ) (period c : ℕ) (fields : List (List ℕ)) (es : List CellPart) → number_at (s.horizon - 1) t ≡ Of period → 1 ≤ period → cell_named s.names name ≡ Some c → are_pairs fields ≡ true → AreSaid s.names 1 fields es → sum_by (λ e. e.part) es ≡ s.drift → has_period_row s.drift_rows period c ≡ false
    → row_at DriftIn s (t ∷ name ∷ fields) ≡ Ok (record s { drift_rows = s.drift_rows ++ record { period = period; own = c; row = es } ∷ [] })
drift_in_said s t name period c fields es when some found form h total before =
    let whole = eq-eqb (sum_by part (pair_parts fields)) s.drift (sum_said s.names fields ∙ ap (λ (xs : List CellPart). sum_by (λ e. e.part) xs) h.entries ∙ total) in
    let least = le-ltb period 1 some in
    rw (form, when, least, h.bad, h.over, found, h.known, h.once, before, whole, h.entries) refl

pub look_said : (s : State) (name : List ℕ) (q : ℕ) (fields : List (List ℕ)) (es : List CellPart) → cell_named (positions_in s) name ≡ Some q → are_even fields ≡ true → AreSaid s.names 0 fields es → list_any (λ e. nat_lt s.look e.part) es ≡ false → slice_index_or s.looks q None ≡ None → row_at Look s (name ∷ fields) ≡ Ok (record s { looks = set s.looks q (Some es) })
look_said s name q fields es found form h within before =
    let below = any_said s.names (nat_lt s.look) fields ∙ ap (λ (xs : List CellPart). list_any (λ e. nat_lt s.look e.part) xs) h.entries ∙ within in
    rw (form, h.bad, h.over, found, h.known, h.once, before, below, h.entries) refl

pub look_in_said : (s : State) (t name : List ℕ) (period q : ℕ) (fields : List (List ℕ)) (es : List CellPart) → number_at s.horizon t ≡ Of period → 1 ≤ period → cell_named (positions_in s) name ≡ Some q → are_even fields ≡ true → AreSaid s.names 0 fields es → list_any (λ e. nat_lt s.look e.part) es ≡ false → has_period_row s.look_rows period q ≡ false
    → row_at LookIn s (t ∷ name ∷ fields) ≡ Ok (record s { look_rows = s.look_rows ++ record { period = period; own = q; row = es } ∷ [] })
look_in_said s t name period q fields es when some found form h within before =
    let below = any_said s.names (nat_lt s.look) fields ∙ ap (λ (xs : List CellPart). list_any (λ e. nat_lt s.look e.part) xs) h.entries ∙ within in
    let least = le-ltb period 1 some in
    rw (form, when, least, h.bad, h.over, found, h.known, h.once, before, below, h.entries) refl

-- The first fields are given beside the text.
module _ {X : Type 0} (view : X → List ℕ) (new : Draft) (result : Result (Unit {0}) LineStop) (line : Line) (s : State) where
  pub row_front : (fields : List X) (d : X) (fs more : List (List ℕ)) → 1 ≤ length fields → map view fields ≡ take 66 fs → more ≡ drop 1 fs → TakesLine new result (row_at line s (view (get_or fields 0 d) ∷ more)) → TakesLine new result (row_at line s fs)
  row_front [] d fs more some front behind taken = absurd (omega (arith, some))
  row_front (f ∷ fields) d fs more some front behind taken =
      let whole : fs ≡ view f ∷ more = front_some 65 (view f) (map view fields) fs front ∙ ap (λ (x : List (List ℕ)). view f ∷ x) (sym behind) in
      subst (TakesLine new result) (ap (row_at line s) (sym whole)) taken

  -- and by a field more
  pub row_front_two : (fields : List X) (d e : X) (fs behind more : List (List ℕ)) → 2 ≤ length fields → map view fields ≡ take 66 fs → behind ≡ drop 1 fs → more ≡ drop 1 behind →
      TakesLine new result (row_at line s (view (get_or fields 0 d) ∷ view (get_or fields 1 e) ∷ more)) → TakesLine new result (row_at line s fs)
  row_front_two [] d e fs behind more some front first second taken = absurd (omega (arith, some))
  row_front_two (f ∷ []) d e fs behind more some front first second taken = absurd (omega (arith, some))
  row_front_two (f ∷ g ∷ fields) d e fs behind more some front first second taken =
      let one : fs ≡ view f ∷ behind = front_some 65 (view f) (map view (g ∷ fields)) fs front ∙ ap (λ (x : List (List ℕ)). view f ∷ x) (sym first) in
      let rest : view g ∷ map view fields ≡ take 65 behind = front_rest 65 (view f) (map view (g ∷ fields)) fs front ∙ ap (take 65) (sym first) in
      let two : behind ≡ view g ∷ more = front_some 64 (view g) (map view fields) behind rest ∙ ap (λ (x : List (List ℕ)). view g ∷ x) (sym second) in
      subst (TakesLine new result) (ap (row_at line s) (sym (one ∙ ap (λ (x : List (List ℕ)). view f ∷ x) two))) taken

pub no_row : (line : Line) (s : State) (fs : List (List ℕ)) → [] ≡ take 66 fs → row_at line s fs ≡ row_at line s []
no_row line s fs front = ap (row_at line s) (front_none 65 fs front)
