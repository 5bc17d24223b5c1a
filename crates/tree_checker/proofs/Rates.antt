-- The rate that is found among a problem's look factors is their one rate.
use Rattle.std.proofs.Common.{◌≡◌, ◌⊎◌, ◌≤◌, ◌<◌, ◌-◌, ℕ, Bool, true, false, cond, ◌&&◌, ◌||◌, ◌==◌, nat_le, leb-true, le-leb, eqb-true, eq-eqb, List, [], ◌∷◌, map, Option, Some, None, inl, inr, sym, refl, ap, ◌∙◌, subst, arith, Contains}
use Rattle.std.specs.List.{find, list_all, range_with_len, flat_map}
use Rattle.std.proofs.lemmas.Option.{none-some}
use Rattle.std.proofs.lemmas.Bool.{and_parts, and_from, or_cases, or_left, or_right, true≢false}
use Rattle.sweep_table.specs.LookParts.{factor_of}
use Rattle.search_model.specs.Problem.{Problem}
use Rattle.search_model.specs.Bounds.{IsRate}
use Rattle.list_laws.proofs.Members.{Contains-head, Contains-tail, Contains-nil, Contains-cons_cases, Contains-map, Contains-map_cases, Contains-flat_map, Contains-flat_map_cases, list_all-contains}
use Rattle.search_model.proofs.Rates.{one_rate}
use Rattle.tangent_bound.specs.Room.{IsRateFound}
use Rattle.tree_checker.specs.Rate.{factors_of, is_rate_of, one_rate_of}
use Rattle.tree_checker.specs.Laws.{FindsOneRate}
use Rattle.list_laws.proofs.Ranges.{Contains-range, Contains-range_cases}

found_step : (b : Bool) (y x : ℕ) (rest : Option ℕ) → cond b (Some y) rest ≡ Some x → ((b ≡ true) × (y ≡ x)) ⊎ (rest ≡ Some x)
found_step true y x rest h = inl (refl, cc)
found_step false y x rest h = inr h

-- what is found passes the test, and is one of the numbers
found_passes : (test : ℕ → Bool) (xs : List ℕ) (x : ℕ) → find test xs ≡ Some x → (test x ≡ true) × Contains xs x
found_passes test [] x h = cc
found_passes test (y ∷ ys) x h = elim (found_step (test y) y x (find test ys) h) [
  | inl here ↦ (subst (λ z. test z ≡ true) here.1 here.0, subst (Contains (y ∷ ys)) here.1 (Contains-head y ys))
  | inr later ↦ let found = found_passes test ys x later in (found.0, Contains-tail y x ys found.1)
]

true_or_not : (b : Bool) → (b ≡ true) ⊎ (b ≡ false)
true_or_not true = inl refl
true_or_not false = inr refl

-- the only number that passes is found
finds_only : (test : ℕ → Bool) (xs : List ℕ) (x : ℕ) → Contains xs x → test x ≡ true → ((y : ℕ) → Contains xs y → test y ≡ true → y ≡ x) → find test xs ≡ Some x
finds_only test [] x h t only = absurd (Contains-nil x h)
finds_only test (y ∷ ys) x h t only = elim (true_or_not (test y)) [
  | inl passes ↦ rw passes (ap Some (only y (Contains-head y ys) passes))
  | inr fails ↦
      let later : Contains ys x = elim (Contains-cons_cases y x ys h) [
        | inl same ↦ absurd (true≢false (sym t ∙ ap test (sym same) ∙ fails))
        | inr k ↦ k
      ] in
      rw fails (finds_only test ys x later t (λ z k. only z (Contains-tail y z ys k)))
]

-- a test that each element passes holds of all
all_pass : (test : ℕ → Bool) (xs : List ℕ) → ((x : ℕ) → Contains xs x → test x ≡ true) → list_all test xs ≡ true
all_pass test [] each = refl
all_pass test (x ∷ xs) each = and_from _ _ (each x (Contains-head x xs)) (all_pass test xs (λ y k. each y (Contains-tail x y xs k)))

module _ (p : Problem) where
  -- the factor of each look stands among the factors
  has_factor : (t a c : ℕ) → 1 ≤ t → t ≤ p.horizon → a < p.positions → c < p.cells → Contains (factors_of p) (factor_of p.sweep t a c)
  has_factor t a c first last position cell =
      let at : Contains (range_with_len 1 p.horizon) t = subst (Contains (range_with_len 1 p.horizon)) (omega (arith, first)) (Contains-range 1 p.horizon (t - 1) (omega (arith, first, last))) in
      let row = Contains-map (factor_of p.sweep t a) (range_with_len 0 p.cells) c (subst (Contains (range_with_len 0 p.cells)) (omega arith) (Contains-range 0 p.cells c cell)) in
      let place : Contains (range_with_len 0 p.positions) a = subst (Contains (range_with_len 0 p.positions)) (omega arith) (Contains-range 0 p.positions a position) in
      let from = Contains-flat_map (λ b. map (factor_of p.sweep t b) (range_with_len 0 p.cells)) (range_with_len 0 p.positions) a (factor_of p.sweep t a c) place row in
      Contains-flat_map (λ u. flat_map (λ b. map (factor_of p.sweep u b) (range_with_len 0 p.cells)) (range_with_len 0 p.positions)) (range_with_len 1 p.horizon) t (factor_of p.sweep t a c) at from

  -- each of the factors is that of a look
  pub record IsLook (f : ℕ) : Type 0 where
    pub t : ℕ
    pub a : ℕ
    pub c : ℕ
    pub first : 1 ≤ t
    pub last : t ≤ p.horizon
    pub position : a < p.positions
    pub cell : c < p.cells
    pub here : factor_of p.sweep t a c ≡ f

  look_of : (f : ℕ) → Contains (factors_of p) f → IsLook f
  look_of f h =
      let (t, at, row) = Contains-flat_map_cases (λ u. flat_map (λ b. map (factor_of p.sweep u b) (range_with_len 0 p.cells)) (range_with_len 0 p.positions)) (range_with_len 1 p.horizon) f h in
      let (a, place, entry) = Contains-flat_map_cases (λ b. map (factor_of p.sweep t b) (range_with_len 0 p.cells)) (range_with_len 0 p.positions) f row in
      let (c, cell, here) = Contains-map_cases (factor_of p.sweep t a) (range_with_len 0 p.cells) f entry in
      let (i, below, t_is) = Contains-range_cases 1 p.horizon t at in
      let (j, within, a_is) = Contains-range_cases 0 p.positions a place in
      let (k, inside, c_is) = Contains-range_cases 0 p.cells c cell in
      record {
        t = t;
        a = a;
        c = c;
        first = omega (arith, t_is);
        last = omega (arith, t_is, below);
        position = omega (arith, a_is, within);
        cell = omega (arith, c_is, inside);
        here = here;
      }

  -- what the test says of a factor
  says : (g rate f : ℕ) → ((f == rate || f == g) && nat_le rate f) ≡ true → ((f ≡ rate) ⊎ (f ≡ g)) × (rate ≤ f)
  says g rate f h =
      let parts = and_parts _ _ h in
      (elim (or_cases _ _ parts.0) [ inl e ↦ inl (eqb-true f rate e) | inr e ↦ inr (eqb-true f g e) ], leb-true rate f parts.1)

  said : (g rate f : ℕ) → (f ≡ rate) ⊎ (f ≡ g) → rate ≤ f → ((f == rate || f == g) && nat_le rate f) ≡ true
  said g rate f either least =
      and_from _ _ (elim either [ inl e ↦ or_left _ _ (eq-eqb f rate e) | inr e ↦ or_right _ _ (eq-eqb f g e) ]) (le-leb rate f least)

  passing_is_rate : (rate : ℕ) → is_rate_of p.sweep.denominator (factors_of p) rate ≡ true → Contains (factors_of p) rate → IsRate p rate
  passing_is_rate rate passes stands =
      let g = p.sweep.denominator in
      let each : (f : ℕ) → Contains (factors_of p) f → ((f ≡ rate) ⊎ (f ≡ g)) × (rate ≤ f) = λ f h. says g rate f (list_all-contains (λ e. (e == rate || e == g) && nat_le rate e) (factors_of p) f passes h) in
      let look = look_of rate stands in
      record {
        either = λ t a c first last position cell. (each _ (has_factor t a c first last position cell)).0;
        least = λ t a c first last position cell. (each _ (has_factor t a c first last position cell)).1;
        reached = (look.t, look.a, look.c, look.first, look.last, look.position, look.cell, look.here);
      }

  rate_passes : (rate : ℕ) → IsRate p rate → (is_rate_of p.sweep.denominator (factors_of p) rate ≡ true) × Contains (factors_of p) rate
  rate_passes rate is =
      let g = p.sweep.denominator in
      let (t, a, c, first, last, position, cell, here) = is.reached in (
        all_pass (λ e. (e == rate || e == g) && nat_le rate e) (factors_of p) (λ f h.
            let look = look_of f h in
            let either = is.either look.t look.a look.c look.first look.last look.position look.cell in
            let least = is.least look.t look.a look.c look.first look.last look.position look.cell in
            said g rate f (subst (λ e. (e ≡ rate) ⊎ (e ≡ g)) look.here either) (subst (λ e. rate ≤ e) look.here least)),
        subst (Contains (factors_of p)) here (has_factor t a c first last position cell),
      )

  found_rate : (rate : ℕ) → one_rate_of p ≡ Some rate → IsRate p rate
  unfolding one_rate_of
  found_rate rate h = let found = found_passes (is_rate_of p.sweep.denominator (factors_of p)) (factors_of p) rate h in passing_is_rate rate found.0 found.1

  finds_rate : (rate : ℕ) → IsRate p rate → one_rate_of p ≡ Some rate
  unfolding one_rate_of
  finds_rate rate is =
      let passes = rate_passes rate is in
      finds_only (is_rate_of p.sweep.denominator (factors_of p)) (factors_of p) rate passes.1 passes.0
      (λ other stands passing. one_rate p other rate (passing_is_rate other passing stands) is)

pub finds_one_rate : FindsOneRate
finds_one_rate p rate = (found_rate p rate, finds_rate p rate)

none_or_some : (p : Problem) (o : Option ℕ) → o ≡ one_rate_of p → ((rate : ℕ) → IsRate p rate → ⊥) → None ≡ o
none_or_some p None is none = refl
none_or_some p (Some rate) is none = absurd (none rate ((finds_one_rate p rate).0 (sym is)))

-- the rate that the tables of the tangent bound keep is the one that is found
pub kept_rate_is_found : (p : Problem) (kept : Option ℕ) → IsRateFound p kept → kept ≡ one_rate_of p
kept_rate_is_found p (Some rate) told = sym ((finds_one_rate p rate).1 ((told rate).0 refl))
kept_rate_is_found p None told = none_or_some p (one_rate_of p) refl (λ rate is. none-some rate ((told rate).1 is))
