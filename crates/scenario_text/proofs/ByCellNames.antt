-- Lines of moves give the rows of the table, once their positions were looked up.
use Rattle.std.specs.Str.{bytes_eq}
use Rattle.std.proofs.Common.{◌≤◌, ◌≡◌, ℕ, Bool, true, false, cond, List, [], ◌∷◌, length, map, Option, Some, None, Result, Ok, Err, refl, sym, ap, ◌∙◌, inl, inr, get_or}
use Rattle.std.specs.Prelude.{if◌then◌else◌, ◌&&◌, ◌||◌, ◌==◌, nat_lt, is_none, is_some, set, unwrap_or}
use Rattle.std.specs.List.{list_any}
use Rattle.std.proofs.Math.Bool.{or-false}
use Rattle.std.proofs.lemmas.Bool.{le-ltb, eq-eqb, ne_eqb, cases_eq, or_parts, false_from_ne_true}
use Rattle.std.proofs.lemmas.List.{length-map}
use Rattle.std.proofs.lemmas.List.Quantifiers.{position-Some}
use Rattle.std.proofs.lemmas.Slice.Eq.{bytes_eq-Decides}
use Rattle.scenario_text.specs.declared.kind.TextKind.{TextKind}
use Rattle.scenario_text.specs.declared.kind.TextKind.TheVariants.{BadLine, BadNumber, OverLimit, UnknownName, DoubleName, MissingRow, DoubleRow, WrongSum, PartOver, NoMove, TooWide}
use Rattle.text_rows.specs.Fields.{is_word}
use Rattle.list_laws.proofs.Mapped.{list_any-map, map-map}
use Rattle.scenario_text.specs.Fields.{cell_named}
use Rattle.scenario_text.specs.ByCells.{stands_in, has_double}
use Rattle.scenario_text.specs.State.{State, positions_in}
use Rattle.scenario_text.specs.Grammar.{position_of, unless_any, row_at}
use Rattle.scenario_text.specs.declared.line.Line.TheVariants.{Moves}
use Rattle.scenario_text.specs.KindTable.{stands_twice, holds_of, has_moves}

-- the row of moves, by its positions
abbrev pub with_moves : State → Option ℕ → List (Option ℕ) → Result State TextKind
with_moves s None moves = Err UnknownName
with_moves s (Some c) moves =
    if list_any (λ m. is_none m) moves then Err UnknownName else
    (if has_double moves then Err DoubleName else
    (if has_moves s c then Err DoubleRow else
    (if length moves == 0 then Err NoMove else
    Ok (record s { moves = set s.moves c (map (λ m. unwrap_or m 0) moves) }))))

-- the kinds in their order, by what the tests give
abbrev table_of : Bool → Bool → Bool → Bool → Bool → Bool → Bool → Bool → Bool → Bool → Bool → State → Result State TextKind
table_of line number over unknown double missing row sum part move wide t =
    unless_any
    ((line, BadLine) ∷ (number, BadNumber) ∷ (over, OverLimit) ∷ (unknown, UnknownName) ∷ (double, DoubleName) ∷ (missing, MissingRow) ∷ (row, DoubleRow) ∷ (sum, WrongSum) ∷ (part, PartOver) ∷ (move, NoMove) ∷ (wide, TooWide) ∷ []) t

moves_by : (many unknown double row none : Bool) (s : State) →
    cond many (Err OverLimit) (cond unknown (Err UnknownName) (cond double (Err DoubleName) (cond row (Err DoubleRow) (cond none (Err NoMove) (Ok s)))))
    ≡ table_of false false many unknown double false row false false none false s
moves_by true unknown double row none s = refl
moves_by false true double row none s = refl
moves_by false false true row none s = refl
moves_by false false false true none s = refl
moves_by false false false false true s = refl
moves_by false false false false false s = refl

-- a row of moves, whose cell is unknown
lost_by : (many : Bool) (unknown double row none : Bool) (t : State) → cond many (Err OverLimit) (Err UnknownName) ≡ table_of false false many true double false row false false none false t
lost_by true unknown double row none t = refl
lost_by false unknown double row none t = refl

-- Names of cells stand twice where their cells do.
same_cell : (names : List (List ℕ)) (a b : List ℕ) (c d : ℕ) → cell_named names a ≡ Some c → cell_named names b ≡ Some d → (d == c) ≡ is_word b a
same_cell names a b c d e f = elim (cases_eq d c) [
  | inl same ↦
      let here = (bytes_eq-Decides a (get_or names c [])).0 (position-Some (bytes_eq a) names c [] e).1 in
      let there = (bytes_eq-Decides b (get_or names d [])).0 (position-Some (bytes_eq b) names d [] f).1 in
      let equal : b ≡ a = there ∙ ap (λ (k : ℕ). get_or names k []) same ∙ sym here in
      eq-eqb d c same ∙ sym ((bytes_eq-Decides b a).1 equal)
  | inr apart_cells ↦ ne_eqb d c apart_cells ∙ sym (false_from_ne_true (is_word b a) (λ is.
      let both : Some d ≡ Some c = sym f ∙ ap (cell_named names) ((bytes_eq-Decides b a).0 is) ∙ e in
      apart_cells (let equal : d ≡ c = cc in equal)))
]

same_places : (names : List (List ℕ)) (name : List ℕ) (c : ℕ) (others : List (List ℕ)) → cell_named names name ≡ Some c → list_any (λ f. is_none (cell_named names f)) others ≡ false → stands_in (Some c) (map (cell_named names) others) ≡ list_any (λ other. is_word other name) others
same_places names name c [] e known = refl
same_places names name c (other ∷ others) e known =
    let parts = or_parts (is_none (cell_named names other)) (list_any (λ f. is_none (cell_named names f)) others) known in
    let found = found_at (cell_named names other) parts.0 in
    let here : (is_some (cell_named names other) && unwrap_or (cell_named names other) 0 == c) ≡ is_word other name = ap (λ (o : Option ℕ). is_some o && unwrap_or o 0 == c) found.1 ∙ same_cell names name other c found.0 e found.1 in
    ap (λ (b : Bool). b || stands_in (Some c) (map (cell_named names) others)) here ∙ ap (λ (b : Bool). is_word other name || b) (same_places names name c others e parts.1)
  where
    found_at : (o : Option ℕ) → is_none o ≡ false → (d : ℕ) × (o ≡ Some d)
    found_at None none = absurd (let bad : ⊥ = cc in bad)
    found_at (Some d) none = (d, refl)

pub twice_alike : (names fields : List (List ℕ)) → list_any (λ f. is_none (cell_named names f)) fields ≡ false → has_double (map (cell_named names) fields) ≡ stands_twice fields
unfolding has_double stands_twice
twice_alike names [] known = refl
twice_alike names (name ∷ others) known =
    let parts = or_parts (is_none (cell_named names name)) (list_any (λ f. is_none (cell_named names f)) others) known in
    let found = found_at (cell_named names name) parts.0 in
    let here : stands_in (cell_named names name) (map (cell_named names) others) ≡ list_any (λ other. is_word other name) others = ap (λ (o : Option ℕ). stands_in o (map (cell_named names) others)) found.1 ∙ same_places names name found.0 others found.1 parts.1 in
    ap (λ (b : Bool). b || has_double (map (cell_named names) others)) here ∙ ap (λ (b : Bool). list_any (λ other. is_word other name) others || b) (twice_alike names others parts.1)
  where
    found_at : (o : Option ℕ) → is_none o ≡ false → (d : ℕ) × (o ≡ Some d)
    found_at None none = absurd (let bad : ⊥ = cc in bad)
    found_at (Some d) none = (d, refl)

-- names are asked for doubles where each is known
where_known : (line number over unknown double twice row sum move : Bool) (t : State) → (unknown ≡ false → double ≡ twice) → table_of line number over unknown double false row sum false move false t ≡ table_of line number over unknown twice false row sum false move false t
where_known line number over true double twice row sum move t same = refl
where_known line number over false double twice row sum move t same = ap (λ (b : Bool). table_of line number over false b false row sum false move false t) (same refl)

-- the row of moves of a cell was read
abbrev moves_made : State → List (List ℕ) → Option ℕ → State
moves_made s moves c = record s { moves = set s.moves (unwrap_or c 0) (map (position_of s) moves) }

moves_of_cells : (s : State) (moves : List (List ℕ)) (c : Option ℕ) → cond (nat_lt 64 (length moves)) (Err OverLimit) (with_moves s c (map (cell_named (positions_in s)) moves))
    ≡ table_of false false (nat_lt 64 (length moves)) (is_none c || list_any (λ f. is_none (cell_named (positions_in s) f)) moves) (stands_twice moves) false (holds_of c (has_moves s)) false false (length moves == 0) false (moves_made s moves c)
moves_of_cells s moves None = lost_by (nat_lt 64 (length moves)) (list_any (λ f. is_none (cell_named (positions_in s) f)) moves) (stands_twice moves) false (length moves == 0) (moves_made s moves None)
moves_of_cells s moves (Some c) =
    let cells = map (cell_named (positions_in s)) moves in
    let t : State = record s { moves = set s.moves c (map (λ m. unwrap_or m 0) cells) } in
    moves_by (nat_lt 64 (length moves)) (list_any (λ m. is_none m) cells) (has_double cells) (has_moves s c) (length cells == 0) t
    ∙ ap (λ (b : Bool). table_of false false (nat_lt 64 (length moves)) b (has_double cells) false (has_moves s c) false false (length cells == 0) false t) (list_any-map (λ m. is_none m) (cell_named (positions_in s)) moves)
    ∙ ap (λ (n : ℕ). table_of false false (nat_lt 64 (length moves)) (list_any (λ f. is_none (cell_named (positions_in s) f)) moves) (has_double cells) false (has_moves s c) false false (n == 0) false t) (length-map moves (cell_named (positions_in s)))
    ∙ where_known false false (nat_lt 64 (length moves)) (list_any (λ f. is_none (cell_named (positions_in s) f)) moves) (has_double cells) (stands_twice moves) (has_moves s c) false (length moves == 0) t (twice_alike (positions_in s) moves)
    ∙ ap (λ (row : List ℕ). table_of false false (nat_lt 64 (length moves)) (list_any (λ f. is_none (cell_named (positions_in s) f)) moves) (stands_twice moves) false (has_moves s c) false false (length moves == 0) false (record s { moves = set s.moves c row })) (map-map (λ m. unwrap_or m 0) (cell_named (positions_in s)) moves)

-- the moves of a row, by its position
pub moves_by_cells : (s : State) (name : List ℕ) (moves : List (List ℕ)) → cond (nat_lt 64 (length moves)) (Err OverLimit) (with_moves s (cell_named (positions_in s) name) (map (cell_named (positions_in s)) moves)) ≡ row_at Moves s (name ∷ moves)
moves_by_cells s name moves =
    let own = cell_named (positions_in s) name in
    moves_of_cells s moves own
    ∙ ap (λ (b : Bool). table_of false false (nat_lt 64 (length moves)) b (stands_twice moves) false (holds_of own (has_moves s)) false false (length moves == 0) false (moves_made s moves own)) (sym (or-false (is_none own || list_any (λ f. is_none (cell_named (positions_in s) f)) moves)))

-- the moves of a line, by the positions that were looked up
module _ (s : State) (fields : List (List ℕ)) where
  pub moves_named : (name : List ℕ) (cell : Option ℕ) (cells : List (Option ℕ)) → length fields ≤ 64 → cell ≡ cell_named (positions_in s) name → cells ≡ map (cell_named (positions_in s)) fields → row_at Moves s (name ∷ fields) ≡ with_moves s cell cells
  moves_named name cell cells le one all =
      let few = le-ltb 64 (length fields) le in
      let row : cond (nat_lt 64 (length fields)) (Err OverLimit) (with_moves s (cell_named (positions_in s) name) (map (cell_named (positions_in s)) fields)) ≡ with_moves s (cell_named (positions_in s) name) (map (cell_named (positions_in s)) fields) = rw few refl in
      sym (moves_by_cells s name fields) ∙ row ∙ sym (ap (λ (o : Option ℕ). with_moves s o cells) one ∙ ap (with_moves s (cell_named (positions_in s) name)) all)
