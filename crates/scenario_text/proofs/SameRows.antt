-- Rows that are the same, and what looks of the same factors cover.
use Rattle.std.proofs.Common.{◌≡◌, ◌≢◌, ℕ, zero, suc, ◌+◌, ◌<◌, ◌≤◌, Bool, true, false, List, [], ◌∷◌, map, filter, length, refl, sym, ap, ◌∙◌, subst, arith, inl, inr, All}
use Rattle.std.specs.Prelude.{◌==◌, not}
use Rattle.std.specs.Cmp.Lexicographic.{pointwise, pointwise_decides}
use Rattle.std.specs.List.{list_all, range_with_len}
use Rattle.std.specs.Str.{bytes_eq}
use Rattle.std.proofs.lemmas.Bool.{cases_eq, eq-eqb, ne_eqb, eqb-true, and_parts, and_from, false_from_ne_true, true≢false, cases_order, cases_lt}
use Rattle.std.proofs.lemmas.Slice.Eq.{bytes_eq-Decides}
use Rattle.std.proofs.lemmas.List.Elements.{All-head, All-tail, All-weaker, filter_passes}
use Rattle.std.proofs.lemmas.List.Kept.{AllPairs-filter}
use Rattle.list_laws.proofs.Ascending.{Ascends, Ascends-head, Ascends-tail, Ascends-from_keys}
use Rattle.period_rows.specs.declared.part.CellPart.{CellPart}
use Rattle.sweep_table.specs.LookParts.{look_row, cells_of, factor_in, factor_of}
use Rattle.sweep_table.proofs.Factors.{factor_in-none}
use Rattle.search_model.specs.Names.{name_in}
use Rattle.search_model.specs.Problem.{Problem, IsProblem}
use Rattle.scenario_text.specs.Canonical.{covered}
use Rattle.scenario_text.specs.Scenarios.{look_parts}
use Rattle.scenario_text.proofs.Printed.{factor_of-beyond}

-- Tests of all numbers of a range.

pub all_from : (P : ℕ → Bool) (n a : ℕ) → ((t : ℕ) → a ≤ t → t < a + n → P t ≡ true) → list_all P (range_with_len a n) ≡ true
all_from P zero a each = refl
all_from P (suc n) a each = and_from (P a) _ (each a (omega arith) (omega arith)) (all_from P n (a + 1) (λ t low high. each t (omega (arith, low)) (omega (arith, high))))

pub all_each : (P : ℕ → Bool) (n a t : ℕ) → list_all P (range_with_len a n) ≡ true → a ≤ t → t < a + n → P t ≡ true
all_each P zero a t all low high = absurd (omega (arith, low, high))
all_each P (suc n) a t all low high =
    let parts = and_parts (P a) (list_all P (range_with_len (a + 1) n)) all in
    elim (cases_eq a t) [
      | inl same ↦ subst (λ (k : ℕ). P k ≡ true) same parts.0
      | inr apart ↦ all_each P n (a + 1) t parts.1 (omega (arith, apart, low)) (omega (arith, high))
    ]

pub all_but_one : (P : ℕ → Bool) (n a t : ℕ) → a ≤ t → t < a + n → P t ≡ false → list_all P (range_with_len a n) ≡ false
all_but_one P n a t low high fails = false_from_ne_true _ (λ all. true≢false (sym (all_each P n a t all low high) ∙ fails))

-- The same names.

pub same_names : (xs ys : List (List ℕ)) → pointwise bytes_eq xs ys ≡ true → xs ≡ ys
same_names xs ys = (pointwise_decides bytes_eq-Decides xs ys).0

pub names_same : (xs ys : List (List ℕ)) → xs ≡ ys → pointwise bytes_eq xs ys ≡ true
names_same xs ys = (pointwise_decides bytes_eq-Decides xs ys).1

-- names of which each is the same
pub each_name : (xs ys : List (List ℕ)) → length xs ≡ length ys → ((c : ℕ) → c < length xs → bytes_eq (name_in xs c) (name_in ys c) ≡ true) → pointwise bytes_eq xs ys ≡ true
each_name xs ys long each = names_same xs ys (same_named xs ys long (λ c lt. (bytes_eq-Decides (name_in xs c) (name_in ys c)).0 (each c lt)))
  where
    same_named : (xs ys : List (List ℕ)) → length xs ≡ length ys → ((c : ℕ) → c < length xs → name_in xs c ≡ name_in ys c) → xs ≡ ys
    same_named [] [] long each = refl
    same_named [] (y ∷ ys) long each = absurd (omega (arith, long))
    same_named (x ∷ xs) [] long each = absurd (omega (arith, long))
    same_named (x ∷ xs) (y ∷ ys) long each =
        let head : x ≡ y = each 0 (omega arith) in
        let tail : xs ≡ ys = same_named xs ys (omega (arith, long)) (λ c lt. each (suc c) (omega (arith, lt))) in
        rw (head, tail) refl

pub own_name : (xs ys : List (List ℕ)) (c : ℕ) → xs ≡ ys → bytes_eq (name_in xs c) (name_in ys c) ≡ true
own_name xs ys c same = (bytes_eq-Decides (name_in xs c) (name_in ys c)).1 (ap (λ (names : List (List ℕ)). name_in names c) same)

-- What a row of looks doesn't miss all of.

abbrev pub kept : ℕ → List CellPart → List CellPart
kept g row = filter (λ e. not (e.part == g)) row

-- a row without its first entry gives all other cells the same factor
factor_in-other : (g : ℕ) (e : CellPart) (row : List CellPart) (c : ℕ) → e.cell ≢ c → factor_in g (e ∷ row) c ≡ factor_in g row c
unfolding factor_in
factor_in-other g e row c apart = rw (ne_eqb e.cell c apart) refl

factor_in-own : (g : ℕ) (e : CellPart) (row : List CellPart) (c : ℕ) → e.cell ≡ c → factor_in g (e ∷ row) c ≡ e.part
unfolding factor_in
factor_in-own g e row c same = rw (eq-eqb e.cell c same) refl

-- and its own cell all
factor_in-behind : (g : ℕ) (e : CellPart) (row : List CellPart) → Ascends (λ e. e.cell) (e ∷ row) → factor_in g row e.cell ≡ g
factor_in-behind g e row up =
    factor_in-none g row e.cell (All-weaker (λ d. e.cell < d.cell) (λ d. d.cell ≢ e.cell) (λ d lt same. omega (arith, lt, same)) row (Ascends-head (λ e. e.cell) e row up))

-- what is left out doesn't change a factor
factor_in-kept : (g : ℕ) (row : List CellPart) (c : ℕ) → Ascends (λ e. e.cell) row → factor_in g (kept g row) c ≡ factor_in g row c
factor_in-kept g [] c up = refl
factor_in-kept g (e ∷ row) c up =
    let rest = factor_in-kept g row c (Ascends-tail (λ e. e.cell) e row up) in
    elim (cases_eq e.part g) [
      | inl all ↦
          rw (eq-eqb e.part g all) (elim (cases_eq e.cell c) [
            | inl own ↦ rest ∙ subst (λ (d : ℕ). factor_in g row d ≡ g) own (factor_in-behind g e row up) ∙ sym (factor_in-own g e row c own ∙ all)
            | inr other ↦ rest ∙ sym (factor_in-other g e row c other)
          ])
      | inr some ↦
          rw (ne_eqb e.part g some) (elim (cases_eq e.cell c) [
            | inl own ↦ factor_in-own g e (kept g row) c own ∙ sym (factor_in-own g e row c own)
            | inr other ↦ factor_in-other g e (kept g row) c other ∙ rest ∙ sym (factor_in-other g e row c other)
          ])
    ]

-- a row that covers nothing, or only cells above this one, misses all of it
nothing : (g c : ℕ) → factor_in g [] c ≡ g
unfolding factor_in
nothing g c = refl

absent : (g c : ℕ) (e : CellPart) (row : List CellPart) → c < e.cell → Ascends (λ e. e.cell) (e ∷ row) → factor_in g (e ∷ row) c ≡ g
absent g c e row lt up =
    factor_in-other g e row c (λ same. omega (arith, lt, same)) ∙ factor_in-none g row c (All-weaker (λ d. e.cell < d.cell) (λ d. d.cell ≢ c) (λ d more same. omega (arith, lt, more, same)) row (Ascends-head (λ e. e.cell) e row up))

-- rows of the same factors, that miss all of no cell, are the same
same_factors : (g : ℕ) (xs ys : List CellPart) → Ascends (λ e. e.cell) xs → Ascends (λ e. e.cell) ys → All (λ e. e.part ≢ g) xs → All (λ e. e.part ≢ g) ys → ((c : ℕ) → factor_in g xs c ≡ factor_in g ys c) → xs ≡ ys
same_factors g [] [] up up' some some' each = refl
same_factors g [] (y ∷ ys) up up' some some' each =
    absurd (All-head (λ e. e.part ≢ g) y ys some' (sym (factor_in-own g y ys y.cell refl) ∙ sym (each y.cell) ∙ nothing g y.cell))
same_factors g (x ∷ xs) [] up up' some some' each =
    absurd (All-head (λ e. e.part ≢ g) x xs some (sym (factor_in-own g x xs x.cell refl) ∙ each x.cell ∙ nothing g x.cell))
same_factors g (x ∷ xs) (y ∷ ys) up up' some some' each =
    elim (cases_order x.cell y.cell) [
      | inl same ↦
          let part : x.part ≡ y.part = sym (factor_in-own g x xs x.cell refl) ∙ each x.cell ∙ factor_in-own g y ys x.cell (sym same) in
          let head : x ≡ y = λ i. record { cell = same i; part = part i } in
          let tail : xs ≡ ys =
          same_factors g xs ys (Ascends-tail (λ e. e.cell) x xs up) (Ascends-tail (λ e. e.cell) y ys up') (All-tail (λ e. e.part ≢ g) x xs some) (All-tail (λ e. e.part ≢ g) y ys some') (λ c.
          elim (cases_eq x.cell c) [
            | inl own ↦
                subst (λ (d : ℕ). factor_in g xs d ≡ g) own (factor_in-behind g x xs up)
                ∙ sym (subst (λ (d : ℕ). factor_in g ys d ≡ g) (sym same ∙ own) (factor_in-behind g y ys up'))
            | inr other ↦ sym (factor_in-other g x xs c other) ∙ each c ∙ factor_in-other g y ys c (λ e. other (same ∙ e))
          ]) in
          rw (head, tail) refl
      | inr (inl below) ↦ absurd (All-head (λ e. e.part ≢ g) x xs some (sym (factor_in-own g x xs x.cell refl) ∙ each x.cell ∙ absent g x.cell y ys below up'))
      | inr (inr above) ↦ absurd (All-head (λ e. e.part ≢ g) y ys some' (sym (factor_in-own g y ys y.cell refl) ∙ sym (each y.cell) ∙ absent g y.cell x xs above up))
    ]

-- The looks of a problem.

parts_again : (es : List CellPart) → look_parts (map (λ e. record { cell = e.cell; part = e.part }) es) ≡ es
parts_again [] = refl
parts_again (e ∷ es) = ap (λ (xs : List CellPart). e ∷ xs) (parts_again es)

module _ (p : Problem) (h : IsProblem p) where
  pub covered_parts : (t a : ℕ) → look_parts (covered p t a) ≡ kept p.sweep.denominator (look_row p.sweep t a)
  covered_parts t a = parts_again (kept p.sweep.denominator (look_row p.sweep t a))

  pub kept_rises : (t a : ℕ) → Ascends (λ e. e.cell) (kept p.sweep.denominator (look_row p.sweep t a))
  kept_rises t a = AllPairs-filter (λ x y. x.cell < y.cell) (λ e. not (e.part == p.sweep.denominator)) (look_row p.sweep t a) (Ascends-from_keys (λ e. e.cell) (look_row p.sweep t a) (h.sweep.each t a).ascending)

  kept_some : (t a : ℕ) → All (λ e. e.part ≢ p.sweep.denominator) (kept p.sweep.denominator (look_row p.sweep t a))
  kept_some t a =
      All-weaker {X = CellPart} (λ e. not (e.part == p.sweep.denominator) ≡ true) (λ e. e.part ≢ p.sweep.denominator) (λ e passes all. true≢false (sym passes ∙ rw (eq-eqb e.part p.sweep.denominator all) refl)) (kept p.sweep.denominator (look_row p.sweep t a)) (filter_passes (λ e. not (e.part == p.sweep.denominator)) (look_row p.sweep t a))

  -- what is covered has the factors of the look
  kept_factor : (t a c : ℕ) → factor_in p.sweep.denominator (kept p.sweep.denominator (look_row p.sweep t a)) c ≡ factor_of p.sweep t a c
  unfolding factor_of
  kept_factor t a c = factor_in-kept p.sweep.denominator (look_row p.sweep t a) c (Ascends-from_keys (λ e. e.cell) (look_row p.sweep t a) (h.sweep.each t a).ascending)

  pub covered_factor : (t a c : ℕ) → factor_in p.sweep.denominator (look_parts (covered p t a)) c ≡ factor_of p.sweep t a c
  covered_factor t a c = ap (λ (row : List CellPart). factor_in p.sweep.denominator row c) (covered_parts t a) ∙ kept_factor t a c

  -- looks that cover the same have the same factors
  pub factors_same : (t u a : ℕ) → covered p t a ≡ covered p u a → (c : ℕ) → factor_of p.sweep t a c ≡ factor_of p.sweep u a c
  factors_same t u a same c = sym (covered_factor t a c) ∙ ap (λ (row : List CellPart). factor_in p.sweep.denominator (look_parts row) c) same ∙ covered_factor u a c

  -- and the other way round
  pub covered_same : (t u a : ℕ) → ((c : ℕ) → c < p.cells → factor_of p.sweep t a c ≡ factor_of p.sweep u a c) → covered p t a ≡ covered p u a
  covered_same t u a each =
      let every : (c : ℕ) → factor_of p.sweep t a c ≡ factor_of p.sweep u a c = λ c. elim (cases_lt c p.cells) [
        | inl inside ↦ each c inside
        | inr past ↦
            let beyond : cells_of p.sweep ≤ c = omega (arith, past, h.sweep_cells) in
            factor_of-beyond p.sweep h.sweep t a c beyond ∙ sym (factor_of-beyond p.sweep h.sweep u a c beyond)
      ] in
      ap (map (λ e. record { cell = e.cell; part = e.part })) (same_factors p.sweep.denominator (kept p.sweep.denominator (look_row p.sweep t a)) (kept p.sweep.denominator (look_row p.sweep u a)) (kept_rises t a) (kept_rises u a) (kept_some t a) (kept_some u a) (λ c. kept_factor t a c ∙ every c ∙ sym (kept_factor u a c)))

-- A look that covers no cell but one.

abbrev as_parts : List CellPart → List CellPart
as_parts xs = map (λ e. record { cell = e.cell; part = e.part }) xs

covers_one : (g q : ℕ) (xs : List CellPart) → Ascends (λ e. e.cell) xs → All (λ e. e.part ≢ g) xs → ((c : ℕ) → c ≢ q → factor_in g xs c ≡ g) → list_all (λ e. e.cell == q) (as_parts xs) ≡ true
covers_one g q [] up some each = refl
covers_one g q (x ∷ xs) up some each =
    elim (cases_eq x.cell q) [
      | inl same ↦
          rw (eq-eqb x.cell q same) (covers_one g q xs (Ascends-tail (λ e. e.cell) x xs up) (All-tail (λ e. e.part ≢ g) x xs some) (λ c apart. sym (factor_in-other g x xs c (λ e. apart (sym e ∙ same))) ∙ each c apart))
      | inr other ↦ absurd (All-head (λ e. e.part ≢ g) x xs some (sym (factor_in-own g x xs x.cell refl) ∙ each x.cell other))
    ]

one_covered : (g q : ℕ) (xs : List CellPart) → list_all (λ e. e.cell == q) (as_parts xs) ≡ true → (c : ℕ) → c ≢ q → factor_in g xs c ≡ g
unfolding factor_in
one_covered g q [] all c apart = refl
one_covered g q (x ∷ xs) all c apart =
    let parts = and_parts (x.cell == q) _ all in
    let other : x.cell ≢ c = λ same. apart (sym same ∙ eqb-true x.cell q parts.0) in
    rw (ne_eqb x.cell c other) (one_covered g q xs parts.1 c apart)

module _ (p : Problem) (h : IsProblem p) where
  pub covers_itself-from : (q : ℕ) → ((c : ℕ) → c < p.cells → c ≢ q → factor_of p.sweep 1 q c ≡ p.sweep.denominator) → list_all (λ e. e.cell == q) (covered p 1 q) ≡ true
  covers_itself-from q each =
      covers_one p.sweep.denominator q (kept p.sweep.denominator (look_row p.sweep 1 q)) (kept_rises p h 1 q) (kept_some p h 1 q) (λ c apart.
      kept_factor p h 1 q c ∙ elim (cases_lt c p.cells) [
        | inl inside ↦ each c inside apart
        | inr past ↦ factor_of-beyond p.sweep h.sweep 1 q c (omega (arith, past, h.sweep_cells))
      ])

  pub covers_itself-each : (q : ℕ) → list_all (λ e. e.cell == q) (covered p 1 q) ≡ true → (c : ℕ) → c ≢ q → factor_of p.sweep 1 q c ≡ p.sweep.denominator
  covers_itself-each q all c apart = sym (kept_factor p h 1 q c) ∙ one_covered p.sweep.denominator q (kept p.sweep.denominator (look_row p.sweep 1 q)) all c apart
