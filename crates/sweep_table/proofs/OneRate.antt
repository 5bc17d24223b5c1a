-- One rates of lists of parts, and that of a sweep.
use Rattle.std.proofs.Common.{ℕ, suc, ◌+◌, ◌-◌, ◌<◌, ◌≤◌, ◌≡◌, ◌⊎◌, ◌∙◌, Option, Some, None, List, [], ◌∷◌, ◌++◌, length, get_or, map, drop, add-one, refl, sym, ap, subst, inl, inr, arith, All, Contains}
use Rattle.std.specs.List.{flat_map, range_with_len}
use Rattle.std.proofs.lemmas.Bool.{cases_eq, eq-eqb, ne_eqb}
use Rattle.std.proofs.lemmas.List.{drop_more}
use Rattle.std.proofs.lemmas.List.Elements.{All-nil, All-cons, All-head, All-tail, All-append, All-contains, Contains-append_left, Contains-append_right, Contains-get_or}
use Rattle.list_laws.proofs.Ascending.{Ascends-from_keys}
use Rattle.list_laws.proofs.Halves.{All-front, All-back}
use Rattle.list_laws.proofs.Members.{Contains-head, Contains-tail, Contains-cons_cases, Contains-map_cases, Contains-flat_map, Contains-flat_map_cases}
use Rattle.list_laws.proofs.Ranges.{Contains-range, Contains-range_from_0, Contains-range_cases, within_range}
use Rattle.period_rows.specs.declared.part.CellPart.{CellPart}
use Rattle.sweep_table.specs.LookParts.{LookParts, positions_of, cells_of, look_row, factor_in, factor_of, IsSweep, IsOneRate}
use Rattle.sweep_table.specs.Rates.{AreEither, IsRateOf, TellsRate, parts_at, parts_in_period, parts_up_to}
use Rattle.sweep_table.proofs.Factors.{factor_in-entry, factor_of-le}

-- the rate so far stands for the parts before it
module _ (g so_far rate : ℕ) (xs rest : List ℕ) (first : IsRateOf g (so_far ∷ xs) rate) where
  -- a part before is the rate so far or the denominator, and so what the rate so far is
  carry : (s part : ℕ) → (rate ≡ s) ⊎ (rate ≡ g) → (part ≡ rate) ⊎ (part ≡ g) → (part ≡ s) ⊎ (part ≡ g)
  carry s part to (inr most) = inr most
  carry s part (inl same) (inl e) = inl (e ∙ same)
  carry s part (inr most) (inl e) = inr (e ∙ most)

  from_rate : (s : ℕ) → AreEither g s (rate ∷ rest) → AreEither g s (so_far ∷ (xs ++ rest))
  from_rate s all =
      let P : ℕ → Type 0 = λ part. (part ≡ s) ⊎ (part ≡ g) in
      let at = All-head P rate rest all in
      let before : All P (so_far ∷ xs) = λ k d inside. carry s (get_or (so_far ∷ xs) k d) at (first.either k d inside) in
      All-append P (so_far ∷ xs) rest before (All-tail P rate rest all)

  to_rate : (s : ℕ) → AreEither g s (so_far ∷ (xs ++ rest)) → AreEither g s (rate ∷ rest)
  to_rate s all =
      let P : ℕ → Type 0 = λ part. (part ≡ s) ⊎ (part ≡ g) in
      let at : P rate = elim first.reached [ inl most ↦ inr most | inr there ↦ All-contains P (so_far ∷ xs) rate (All-front P (so_far ∷ xs) rest all) there ] in
      All-cons P rate rest at (All-back P (so_far ∷ xs) rest all)

  reached_by : (s : ℕ) → (s ≡ g) ⊎ Contains (rate ∷ rest) s → (s ≡ g) ⊎ Contains (so_far ∷ (xs ++ rest)) s
  reached_by s (inl most) = inl most
  reached_by s (inr there) = elim (Contains-cons_cases rate s rest there) [
    | inl same ↦ elim first.reached [
      | inl most ↦ inl (sym same ∙ most)
      | inr before ↦ inr (subst (Contains (so_far ∷ (xs ++ rest))) same (Contains-append_left (so_far ∷ xs) rest rate before))
    ]
    | inr later ↦ inr (Contains-append_right (so_far ∷ xs) rest s later)
  ]

  pub tells_more : (o : Option ℕ) → TellsRate g (rate ∷ rest) o → TellsRate g (so_far ∷ (xs ++ rest)) o
  tells_more None none = λ s all. none s (to_rate s all)
  tells_more (Some s) is = record { either = from_rate s is.either; reached = reached_by s is.reached }

-- parts that have no rate have none with more parts
pub tells_none_more : (g : ℕ) (xs rest : List ℕ) → TellsRate g xs None → TellsRate g (xs ++ rest) None
tells_none_more g xs rest none = λ s all. none s (All-front (λ part. (part ≡ s) ⊎ (part ≡ g)) xs rest all)

-- one part alone
pub tells_one : (g rate : ℕ) → TellsRate g (rate ∷ []) (Some rate)
tells_one g rate = record {
  either = All-cons (λ part. (part ≡ rate) ⊎ (part ≡ g)) rate [] (inl refl) (All-nil (λ part. (part ≡ rate) ⊎ (part ≡ g)));
  reached = inr (Contains-head rate []);
}

-- a rate so far with the parts that are left tells what the first rate with all parts does
abbrev pub Stands : ℕ → ℕ → List ℕ → ℕ → List ℕ → Type 0
Stands g so_far whole rate left = (o : Option ℕ) → TellsRate g (rate ∷ left) o → TellsRate g (so_far ∷ whole) o

module _ (g so_far : ℕ) (whole : List ℕ) (rate : ℕ) where
  stands_more : (xs rest left : List ℕ) (next : ℕ) → left ≡ xs ++ rest → Stands g so_far whole rate left → IsRateOf g (rate ∷ xs) next → Stands g so_far whole next rest
  stands_more xs rest left next is stands more o told = stands o (subst (λ ys. TellsRate g (rate ∷ ys) o) (sym is) (tells_more g rate next xs rest more o told))

  stands_none : (xs rest left : List ℕ) → left ≡ xs ++ rest → Stands g so_far whole rate left → TellsRate g (rate ∷ xs) None → TellsRate g (so_far ∷ whole) None
  stands_none xs rest left is stands none = stands None (subst (λ ys. TellsRate g (rate ∷ ys) None) (sym is) (tells_none_more g (rate ∷ xs) rest none))

  -- where nothing is left
  pub stands_last : (left : List ℕ) → left ≡ [] → Stands g so_far whole rate left → IsRateOf g (so_far ∷ whole) rate
  stands_last left is stands = stands (Some rate) (subst (λ ys. TellsRate g (rate ∷ ys) (Some rate)) (sym is) (tells_one g rate))

  -- at one entry of a row
  module _ (row : List CellPart) (i : ℕ) (d : CellPart) (inside : i < length row) where
    row_left : map (λ e. e.part) (drop i row) ≡ ((get_or row i d).part ∷ []) ++ map (λ e. e.part) (drop (i + 1) row)
    row_left = ap (map (λ (e : CellPart). e.part)) (drop_more row i d inside)

    pub row_more : (next : ℕ) → Stands g so_far whole rate (map (λ e. e.part) (drop i row)) → IsRateOf g (rate ∷ (get_or row i d).part ∷ []) next →
        Stands g so_far whole next (map (λ e. e.part) (drop (i + 1) row))
    row_more next = stands_more ((get_or row i d).part ∷ []) (map (λ e. e.part) (drop (i + 1) row)) (map (λ e. e.part) (drop i row)) next row_left

    pub row_none : Stands g so_far whole rate (map (λ e. e.part) (drop i row)) → TellsRate g (rate ∷ (get_or row i d).part ∷ []) None → TellsRate g (so_far ∷ whole) None
    row_none = stands_none ((get_or row i d).part ∷ []) (map (λ e. e.part) (drop (i + 1) row)) (map (λ e. e.part) (drop i row)) row_left

  -- at one number of a range
  module _ (f : ℕ → List ℕ) (a n m : ℕ) (many : n ≡ suc m) where
    range_left : flat_map f (range_with_len a n) ≡ f a ++ flat_map f (range_with_len (a + 1) m)
    range_left = rw (many, add-one a) refl

    pub range_more : (next : ℕ) → Stands g so_far whole rate (flat_map f (range_with_len a n)) → IsRateOf g (rate ∷ f a) next → Stands g so_far whole next (flat_map f (range_with_len (a + 1) m))
    range_more next = stands_more (f a) (flat_map f (range_with_len (a + 1) m)) (flat_map f (range_with_len a n)) next range_left

    pub range_none : Stands g so_far whole rate (flat_map f (range_with_len a n)) → TellsRate g (rate ∷ f a) None → TellsRate g (so_far ∷ whole) None
    range_none = stands_none (f a) (flat_map f (range_with_len (a + 1) m)) (flat_map f (range_with_len a n)) range_left

-- the denominator itself makes and mends no rate
pub with_denominator : (g rate : ℕ) (parts : List ℕ) → AreEither g rate parts → AreEither g rate (g ∷ parts)
with_denominator g rate parts either = All-cons (λ part. (part ≡ rate) ⊎ (part ≡ g)) g parts (inr refl) either

pub without_denominator : (g rate : ℕ) (parts : List ℕ) → IsRateOf g (g ∷ parts) rate → IsRateOf g parts rate
without_denominator g rate parts is = record {
  either = All-tail (λ part. (part ≡ rate) ⊎ (part ≡ g)) g parts is.either;
  reached = elim is.reached [ inl most ↦ inl most | inr there ↦ elim (Contains-cons_cases g rate parts there) [ inl same ↦ inl (sym same) | inr later ↦ inr later ] ];
}

-- the one rate of a sweep's parts is that of its factors
module _ (sweep : LookParts) (sound : IsSweep sweep) (horizon : ℕ) (some : 1 ≤ horizon) where
  -- a row's factor is one of its parts, or the denominator
  factor_cases : (g : ℕ) (row : List CellPart) (c : ℕ) → Contains (map (λ entry. entry.part) row) (factor_in g row c) ⊎ (factor_in g row c ≡ g)
  unfolding factor_in
  factor_cases g [] c = inr refl
  factor_cases g (entry ∷ row) c = elim (cases_eq entry.cell c) [
    | inl same ↦ rw (eq-eqb entry.cell c same) (inl (Contains-head entry.part (map (λ e. e.part) row)))
    | inr apart ↦ rw (ne_eqb entry.cell c apart) (elim (factor_cases g row c) [
      | inl there ↦ inl (Contains-tail entry.part _ (map (λ e. e.part) row) there)
      | inr none ↦ inr none
    ])
  ]

  -- the parts of the rows in force
  in_parts : (t p part : ℕ) → 1 ≤ t → t ≤ horizon → p < positions_of sweep → Contains (parts_at sweep t p) part → Contains (parts_up_to sweep horizon) part
  in_parts t p part first last position there =
      let at : Contains (range_with_len 1 horizon) t = subst (Contains (range_with_len 1 horizon)) (omega (arith, first)) (Contains-range 1 horizon (t - 1) (omega (arith, first, last))) in
      Contains-flat_map (parts_in_period sweep) (range_with_len 1 horizon) t part at
      (Contains-flat_map (parts_at sweep t) (range_with_len 0 (positions_of sweep)) p part (Contains-range_from_0 (positions_of sweep) p position) there)

  -- and where each of them is a factor
  pub record IsFactor (part : ℕ) : Type 0 where
    pub t : ℕ
    pub p : ℕ
    pub c : ℕ
    pub first : 1 ≤ t
    pub last : t ≤ horizon
    pub position : p < positions_of sweep
    pub cell : c < cells_of sweep
    pub here : factor_of sweep t p c ≡ part

  factor_at : (part : ℕ) → Contains (parts_up_to sweep horizon) part → IsFactor part
  unfolding factor_of
  factor_at part there =
      let (t, at, within) = Contains-flat_map_cases (parts_in_period sweep) (range_with_len 1 horizon) part there in
      let (p, place, stands) = Contains-flat_map_cases (parts_at sweep t) (range_with_len 0 (positions_of sweep)) part within in
      let (entry, stands_in, is) = Contains-map_cases (λ (e : CellPart). e.part) (look_row sweep t p) part stands in
      let (i, below, t_is) = Contains-range_cases 1 horizon t at in
      let position = within_range (positions_of sweep) p place in
      let right = sound.each t p in
      let factor = factor_in-entry sweep.denominator (look_row sweep t p) stands_in.0 entry (Ascends-from_keys (λ e. e.cell) (look_row sweep t p) right.ascending) stands_in.1 in
      record {
        t = t;
        p = p;
        c = entry.cell;
        first = omega (arith, t_is);
        last = omega (arith, t_is, below);
        position = position;
        cell = All-contains (λ e. e.cell < cells_of sweep) (look_row sweep t p) entry right.within stands_in;
        here = rw stands_in.2 at factor ∙ is;
      }

  -- what holds of the parts and the denominator holds of the factors
  factor_is : (P : ℕ → Type 0) → All P (parts_up_to sweep horizon) → P sweep.denominator → (t p c : ℕ) → 1 ≤ t → t ≤ horizon → p < positions_of sweep → P (factor_of sweep t p c)
  unfolding factor_of
  factor_is P all most t p c first last position = elim (factor_cases sweep.denominator (look_row sweep t p) c) [
    | inl there ↦ All-contains P (parts_up_to sweep horizon) _ all (in_parts t p _ first last position there)
    | inr none ↦ rw none most
  ]

  pub one_rate_from_parts : (rate : ℕ) → IsRateOf sweep.denominator (parts_up_to sweep horizon) rate → IsOneRate sweep horizon rate
  one_rate_from_parts rate is =
      let g = sweep.denominator in
      let either = factor_is (λ f. (f ≡ rate) ⊎ (f ≡ g)) is.either (inr refl) in
      let most : rate ≤ g = elim is.reached [
        | inl at ↦ omega arith
        | inr there ↦ let factor = factor_at rate there in omega (arith, factor.here, factor_of-le sweep sound factor.t factor.p factor.c)
      ] in
      record {
        either = λ t p c first last position cell. either t p c first last position;
        least = λ t p c first last position cell. elim (either t p c first last position) [ inl same ↦ omega arith | inr at ↦ omega arith ];
        reached = elim is.reached [
          | inl at ↦
              let position : 0 < positions_of sweep = omega (arith, sound.positions) in
              let first : 1 ≤ 1 = omega arith in
              (1, 0, 0, first, some, position, omega (arith, sound.cells), elim (either 1 0 0 first some position) [ inl same ↦ same | inr most ↦ most ∙ sym at ])
          | inr there ↦ let factor = factor_at rate there in (factor.t, factor.p, factor.c, factor.first, factor.last, factor.position, factor.cell, factor.here)
        ];
      }

  pub either_from_one_rate : (rate : ℕ) → IsOneRate sweep horizon rate → AreEither sweep.denominator rate (parts_up_to sweep horizon)
  either_from_one_rate rate one = λ k d inside.
      let factor = factor_at (get_or (parts_up_to sweep horizon) k d) (Contains-get_or (parts_up_to sweep horizon) k d inside) in
      rw (← factor.here) (one.either factor.t factor.p factor.c factor.first factor.last factor.position factor.cell)

-- two parts have a rate, or none
tells_two : (g m n : ℕ) → (o : Option ℕ) × TellsRate g (m ∷ n ∷ []) o
tells_two g m n =
    let P : ℕ → ℕ → Type 0 = λ s part. (part ≡ s) ⊎ (part ≡ g) in
    let first : (s : ℕ) → P s m → P s n → AreEither g s (m ∷ n ∷ []) = λ s one other. All-cons (P s) m (n ∷ []) one (All-cons (P s) n [] other (All-nil (P s))) in
    elim (cases_eq n m) [
      | inl same ↦ (Some m, record { either = first m (inl refl) (inl same); reached = inr (Contains-head m (n ∷ [])) })
      | inr apart ↦ elim (cases_eq n g) [
        | inl most ↦ (Some m, record { either = first m (inl refl) (inr most); reached = inr (Contains-head m (n ∷ [])) })
        | inr above ↦ elim (cases_eq m g) [
          | inl most ↦ (Some n, record { either = first n (inr most) (inl refl); reached = inr (Contains-tail m n (n ∷ []) (Contains-head n [])) })
          | inr below ↦ (
            None,
            λ s all. elim (All-head (P s) m (n ∷ []) all) [
              | inr most ↦ below most
              | inl here ↦ elim (All-head (P s) n [] (All-tail (P s) m (n ∷ []) all)) [ inl there ↦ apart (there ∙ sym here) | inr most ↦ above most ]
            ],
          )
        ]
      ]
    ]

-- and so do the parts of a list
tells_all : (g : ℕ) (parts : List ℕ) (rate : ℕ) → (o : Option ℕ) × TellsRate g (rate ∷ parts) o
tells_all g [] rate = (Some rate, tells_one g rate)
tells_all g (part ∷ parts) rate =
    let next : (o : Option ℕ) → TellsRate g (rate ∷ part ∷ []) o → (o : Option ℕ) × TellsRate g (rate ∷ part ∷ parts) o = λ o told. elim o as (λ w. TellsRate g (rate ∷ part ∷ []) w → (v : Option ℕ) × TellsRate g (rate ∷ part ∷ parts) v) [
      | None ↦ λ none. (None, tells_none_more g (rate ∷ part ∷ []) parts none)
      | Some joined ↦ λ is. let rest = tells_all g parts joined in (rest.0, tells_more g rate joined (part ∷ []) parts is rest.0 rest.1)
    ] told in
    let two = tells_two g rate part in
    next two.0 two.1

-- so a sweep's factors have one rate, or none
pub one_rate_or_none : (sweep : LookParts) → IsSweep sweep → (horizon : ℕ) → 1 ≤ horizon → ((rate : ℕ) × IsOneRate sweep horizon rate) ⊎ ((rate : ℕ) → IsOneRate sweep horizon rate → ⊥)
one_rate_or_none sweep sound horizon some =
    let g = sweep.denominator in
    let parts = parts_up_to sweep horizon in
    let say : (o : Option ℕ) → TellsRate g (g ∷ parts) o → ((rate : ℕ) × IsOneRate sweep horizon rate) ⊎ ((rate : ℕ) → IsOneRate sweep horizon rate → ⊥) =
    λ o told. elim o as (λ w. TellsRate g (g ∷ parts) w → ((rate : ℕ) × IsOneRate sweep horizon rate) ⊎ ((rate : ℕ) → IsOneRate sweep horizon rate → ⊥)) [
      | None ↦ λ none. inr (λ rate one. none rate (with_denominator g rate parts (either_from_one_rate sweep sound horizon some rate one)))
      | Some rate ↦ λ is. inl (rate, one_rate_from_parts sweep sound horizon some rate (without_denominator g rate parts is))
    ] told in
    let told = tells_all g parts g in
    say told.0 told.1
