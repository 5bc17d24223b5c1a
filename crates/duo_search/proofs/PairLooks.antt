-- The looks of both.
use Rattle.std.proofs.Common.{◌≡◌, ◌≢◌, ℕ, ◌+◌, ◌*◌, ◌<◌, ◌≤◌, Bool, List, [], ◌∷◌, ◌++◌, map, length, filter, refl, sym, ap, ◌∙◌, arith, All, Contains, ◌⊎◌, inl, inr, nat_lt, ◌-◌, Ok, Err}
use Rattle.std.specs.Prelude.{Result, IfOk, slice_index_or}
use Rattle.exact_parts.specs.declared.no_memory.NoMemory.{NoMemory}
use Rattle.std.specs.List.{range_with_len}
use Rattle.std.proofs.Math.Nat.{mul-le-mul}
use Rattle.std.proofs.lemmas.Bool.{cases_lt, cases_eq, eq-eqb, ne_eqb, lt-ltb, le-ltb}
use Rattle.std.proofs.lemmas.List.{append-nil, map-append}
use Rattle.std.proofs.lemmas.List.Elements.{All-map, All-filter, filter-append}
use Rattle.std.proofs.lemmas.List.Kept.{IsStrictlyIncreasing-filter}
use Rattle.std.proofs.lemmas.List.FromFn.{length-map-range_with_len, get_or-map-range_with_len}
use Rattle.list_laws.proofs.Members.{Contains-nil, Contains-cons_cases}
use Rattle.list_laws.proofs.Ranges.{range_more, range_below, Contains-range_from_0, range_rises}
use Rattle.list_laws.proofs.Mapped.{map-map}
use Rattle.period_rows.specs.declared.part.CellPart.{CellPart}
use Rattle.sweep_table.specs.LookParts.{LookParts, factor_in, factor_of, misses, IsLookRow, positions_of, cells_of, look_row}
use Rattle.sweep_table.proofs.Factors.{factor_of-le}
use Rattle.search_model.specs.Problem.{Problem, IsProblem}
use Rattle.searcher_maps.specs.Periods.{positions_given, row_given, AreLookRows}
use Rattle.duo_search.specs.Product.{first_at, second_at, product_factor}
use Rattle.duo_search.specs.Refusals.{IsSmall}
use Rattle.duo_search.specs.Rows.{product_look, product_looks, HasProductLooks}
use Rattle.duo_search.proofs.Numbers.{few_pairs}

-- of some cells those of which less than all is missed, with what is missed
abbrev pub entries_of : (ℕ → ℕ) → ℕ → List ℕ → List CellPart
entries_of f g cells = map (λ c. misses c (f c)) (filter (λ c. nat_lt (f c) g) cells)

-- one cell more
entries_more : (f : ℕ → ℕ) (g n : ℕ) → entries_of f g (range_with_len 0 (n + 1)) ≡ entries_of f g (range_with_len 0 n) ++ entries_of f g (n ∷ [])
entries_more f g n =
    let entry : ℕ → CellPart = λ c. misses c (f c) in
    let kept : ℕ → Bool = λ c. nat_lt (f c) g in
    ap (λ cells. map entry (filter kept cells)) (range_more n) ∙ ap (map entry) (filter-append kept (range_with_len 0 n) (n ∷ [])) ∙ map-append entry (filter kept (range_with_len 0 n)) (filter kept (n ∷ []))

-- which is covered
pub entry_kept : (f : ℕ → ℕ) (g n : ℕ) (row : List CellPart) → f n < g → row ≡ entries_of f g (range_with_len 0 n) → row ++ misses n (f n) ∷ [] ≡ entries_of f g (range_with_len 0 (n + 1))
entry_kept f g n row less so_far = rw so_far (sym (entries_more f g n ∙ rw (lt-ltb (f n) g less) refl))

-- or not
pub entry_left : (f : ℕ → ℕ) (g n : ℕ) (row : List CellPart) → g ≤ f n → row ≡ entries_of f g (range_with_len 0 n) → row ≡ entries_of f g (range_with_len 0 (n + 1))
entry_left f g n row all so_far = so_far ∙ sym (entries_more f g n ∙ rw (le-ltb (f n) g all) (append-nil _))

module _ (f : ℕ → ℕ) (g c : ℕ) (within : f c ≤ g) where
  -- the factor of a cell is the one that its entry was made of
  pub entry_found : (cells : List ℕ) → Contains cells c ⊎ (f c ≡ g) → factor_in g (entries_of f g cells) c ≡ f c
  unfolding factor_in
  entry_found [] (inl there) = absurd (Contains-nil c there)
  entry_found [] (inr all) = sym all
  entry_found (d ∷ cells) there =
      elim (cases_lt (f d) g) [
        | inl less ↦ elim (cases_eq d c) [
          | inl same ↦ rw (lt-ltb (f d) g less, eq-eqb d c same) (ap f same)
          | inr apart ↦ rw (lt-ltb (f d) g less, ne_eqb d c apart) (entry_found cells (behind d cells apart there))
        ]
        | inr all ↦ rw (le-ltb (f d) g all) (entry_found cells (left d cells there all))
      ]
    where
      behind : (d : ℕ) (cells : List ℕ) → d ≢ c → Contains (d ∷ cells) c ⊎ (f c ≡ g) → Contains cells c ⊎ (f c ≡ g)
      behind d cells apart (inr all) = inr all
      behind d cells apart (inl here) = elim (Contains-cons_cases d c cells here) [ inl same ↦ absurd (apart same) | inr rest ↦ inl rest ]

      left : (d : ℕ) (cells : List ℕ) → Contains (d ∷ cells) c ⊎ (f c ≡ g) → g ≤ f d → Contains cells c ⊎ (f c ≡ g)
      left d cells (inr all) past = inr all
      left d cells (inl here) past = elim (Contains-cons_cases d c cells here) [ inl same ↦ inr (let is = ap f same in omega (arith, is, past, within)) | inr rest ↦ inl rest ]

map_same : (xs : List ℕ) → map (λ x. x) xs ≡ xs
map_same [] = refl
map_same (x ∷ xs) = ap (λ (ys : List ℕ). x ∷ ys) (map_same xs)

-- entries for cells in order are a row of looks
pub entries_right : (f : ℕ → ℕ) (g cells : ℕ) → ((c : ℕ) → f c ≤ g) → IsLookRow g cells (entries_of f g (range_with_len 0 cells))
entries_right f g cells parts =
    let entry : ℕ → CellPart = λ c. misses c (f c) in
    let kept = filter (λ c. nat_lt (f c) g) (range_with_len 0 cells) in
    let keys : map (λ e. e.cell) (map entry kept) ≡ kept = map-map (λ e. e.cell) entry kept ∙ map_same kept in
    record {
      within = All-map (λ e. e.cell < cells) entry kept (All-filter (λ c. nat_lt (f c) g) (λ c. c < cells) (range_with_len 0 cells) (range_below cells));
      ascending = rw keys (IsStrictlyIncreasing-filter (λ c. nat_lt (f c) g) (range_with_len 0 cells) (range_rises cells));
      parts = All-map (λ e. e.part ≤ g) entry kept (λ k d inside. parts _);
    }

module _ (p : Problem) (sound : IsProblem p) where
  -- together looks miss no more than all
  pub product_factor-le : (t n c : ℕ) → product_factor p t n c ≤ p.sweep.denominator * p.sweep.denominator
  unfolding product_factor
  product_factor-le t n c = mul-le-mul (factor_of-le p.sweep sound.sweep t (first_at p.positions n) c) (factor_of-le p.sweep sound.sweep t (second_at p.positions n) c)

  -- the row of a position
  pub look_right : (t n : ℕ) → IsLookRow (p.sweep.denominator * p.sweep.denominator) p.cells (product_look p t n)
  unfolding product_look
  look_right t n = entries_right (product_factor p t n) (p.sweep.denominator * p.sweep.denominator) p.cells (product_factor-le t n)

  pub look_factor : (t n c : ℕ) → c < p.cells → factor_in (p.sweep.denominator * p.sweep.denominator) (product_look p t n) c ≡ product_factor p t n c
  unfolding product_look
  look_factor t n c inside =
      entry_found (product_factor p t n) (p.sweep.denominator * p.sweep.denominator) c (product_factor-le t n c) (range_with_len 0 p.cells) (inl (Contains-range_from_0 p.cells c inside))

module _ (p : Problem) (sound : IsProblem p) (small : IsSmall p) where
  -- the rows of all periods
  abbrev rows_in_all : List (List (List CellPart))
  rows_in_all = map (product_looks p) (range_with_len 1 p.horizon)

  rows_at : (t : ℕ) → 1 ≤ t → t ≤ p.horizon → slice_index_or rows_in_all (t - 1) [] ≡ product_looks p t
  rows_at t from to = get_or-map-range_with_len (product_looks p) 1 p.horizon (t - 1) t [] (omega arith) (omega arith)

  length-looks : (t : ℕ) → length (product_looks p t) ≡ p.positions * p.positions
  length-looks t = length-map-range_with_len (product_look p t) 0 (p.positions * p.positions)

  many_given : positions_given rows_in_all ≡ p.positions * p.positions
  many_given = ap length (rows_at 1 (omega arith) sound.horizon.0) ∙ length-looks 1

  length-periods : length rows_in_all ≡ p.horizon
  length-periods = length-map-range_with_len (product_looks p) 1 p.horizon

  row_at : (t a : ℕ) → 1 ≤ t → t ≤ p.horizon → a < p.positions * p.positions → row_given rows_in_all t a ≡ product_look p t a
  row_at t a from to inside =
      ap (λ rows. slice_index_or rows a []) (rows_at t from to) ∙ get_or-map-range_with_len (product_look p t) 0 (p.positions * p.positions) a a [] inside (omega arith)

  -- are rows of looks
  pub rows_right : AreLookRows (p.sweep.denominator * p.sweep.denominator) p.cells rows_in_all
  rows_right =
      let P = p.positions in
      let periods = range_with_len 1 p.horizon in
      let Row : List CellPart → Type 0 = λ row. IsLookRow (p.sweep.denominator * p.sweep.denominator) p.cells row in
      record {
        periods = (omega (arith, length-periods, sound.horizon.0), omega (arith, length-periods, sound.horizon.1));
        positions = (omega (arith, many_given, mul-le-mul sound.positions.0 sound.positions.0), omega (arith, many_given, few_pairs P small.positions));
        same = All-map (λ rows. length rows ≡ positions_given rows_in_all) (product_looks p) periods (λ k d inside. length-looks _ ∙ sym many_given);
        right = All-map (All Row) (product_looks p) periods (λ k d inside. All-map Row (product_look p _) (range_with_len 0 (P * P)) (λ i e within. look_right p sound _ _));
      }

  -- and looks that have these rows are the products
  pub looks_right : (given : List (List (List CellPart))) (sweep : LookParts) → given ≡ rows_in_all → positions_of sweep ≡ positions_given given → cells_of sweep ≡ p.cells →
      sweep.denominator ≡ p.sweep.denominator * p.sweep.denominator → ((t a : ℕ) → 1 ≤ t → t ≤ length given → a < positions_given given → look_row sweep t a ≡ row_given given t a) → HasProductLooks p sweep
  unfolding factor_of
  looks_right given sweep is size cells denominator rows = record {
    denominator = denominator;
    cells = cells;
    positions = size ∙ ap positions_given is ∙ many_given;
    factors = λ t n c from to inside cell.
        let many : positions_given given ≡ p.positions * p.positions = ap positions_given is ∙ many_given in
        let periods : length given ≡ p.horizon = ap length is ∙ length-periods in
        let row : look_row sweep t n ≡ product_look p t n = rows t n from (omega (arith, to, periods)) (omega (arith, inside, many)) ∙ ap (λ g. row_given g t n) is ∙ row_at t n from to inside in
        rw (row, denominator) (look_factor p sound t n c cell);
  }

  -- whatever came of making them
  pub looks_made : (given : List (List (List CellPart))) (result : Result LookParts NoMemory) (g cells n : ℕ) → g ≡ p.sweep.denominator → cells ≡ p.cells → length given ≡ n → given ≡ rows_in_all →
      IfOk result (λ sweep. positions_of sweep ≡ positions_given given) → IfOk result (λ sweep. cells_of sweep ≡ cells) → IfOk result (λ sweep. sweep.denominator ≡ g * g) →
      IfOk result (λ sweep. (t a : ℕ) → 1 ≤ t → t ≤ n → a < positions_given given → look_row sweep t a ≡ row_given given t a) → IfOk result (HasProductLooks p)
  looks_made given (Ok sweep) g cells n parts many periods is size counted denominator rows =
      looks_right given sweep is size (counted ∙ many) (denominator ∙ ap (λ m. m * m) parts) (λ t a from to inside. rows t a from (omega (arith, to, periods)) inside)
  looks_made given (Err e) g cells n parts many periods is size counted denominator rows = tt
