-- The rows of later periods that aren't those of period 1.
use Rattle.std.proofs.Common.{◌≡◌, ◌≢◌, ℕ, ◌-◌, ◌<◌, ◌≤◌, Bool, true, false, cond, List, [], ◌∷◌, Option, Some, None, refl, sym, ap, ◌∙◌, arith, inl, inr, All, ◌⊎◌}
use Rattle.std.specs.Prelude.{◌==◌, ◌&&◌}
use Rattle.std.specs.List.{find}
use Rattle.std.specs.Option.{option_map_or}
use Rattle.std.proofs.lemmas.Bool.{cases_lt, eq-eqb, ne_eqb, and_left, and_right}
use Rattle.period_rows.specs.declared.part.CellPart.{CellPart}
use Rattle.period_rows.specs.Rows.{is_same_row}
use Rattle.period_rows.proofs.SameRows.{same_entries}
use Rattle.scenario_text.specs.State.{PeriodRow}
use Rattle.scenario_text.specs.Canonical.{other_rows, later_rows}
use Rattle.scenario_text.specs.Sound.{ArePeriodRows}
use Rattle.list_laws.proofs.Joined.{find_none, find_at, count_none, count_at, all_joined, find_hit, find_miss, count_miss, count_one, all_one}

-- a row of that period and owner
abbrev pub is_row_of : ℕ → ℕ → PeriodRow → Bool
is_row_of t c r = (r.period == t) && (r.own == c)

module _ (row : ℕ → ℕ → List CellPart) (owners last : ℕ) where
  abbrev entry : ℕ → ℕ → PeriodRow
  entry t c = record { period = t; own = c; row = row t c }

  abbrev entries : ℕ → ℕ → List PeriodRow
  entries t c = cond (is_same_row (row t c) (row 1 c)) [] (entry t c ∷ [])

  hit : (t c : ℕ) → is_row_of t c (entry t c) ≡ true
  hit t c = rw (eq-eqb t t refl, eq-eqb c c refl) refl

  other_owner : (t c u d : ℕ) → d ≢ c → is_row_of t c (entry u d) ≡ false
  other_owner t c u d apart = and_right (u == t) (d == c) (ne_eqb d c apart)

  other_period : (t c u d : ℕ) → u ≢ t → is_row_of t c (entry u d) ≡ false
  other_period t c u d apart = and_left (u == t) (d == c) (ne_eqb u t apart)

  none_of_period : (t c u : ℕ) → u ≢ t → find (is_row_of t c) (other_rows row owners u) ≡ None
  none_of_period t c u apart = find_none (entries u) (is_row_of t c) owners 0 (λ d low high. find_miss (entry u d) (is_row_of t c) (is_same_row (row u d) (row 1 d)) (other_period t c u d apart))

  -- what stands in a later period
  found_later : (t c : ℕ) → 2 ≤ t → t ≤ last → c < owners → find (is_row_of t c) (later_rows row owners last) ≡ cond (is_same_row (row t c) (row 1 c)) None (Some (entry t c))
  found_later t c low high inside =
      find_at (other_rows row owners) (is_row_of t c) (last - 1) 2 t low (omega (arith, low, high)) (λ u apart. none_of_period t c u apart)
      ∙ find_at (entries t) (is_row_of t c) owners 0 c (omega arith) (omega (arith, inside)) (λ d apart. find_miss (entry t d) (is_row_of t c) (is_same_row (row t d) (row 1 d)) (other_owner t c t d apart))
      ∙ find_hit (entry t c) (is_row_of t c) (is_same_row (row t c) (row 1 c)) (hit t c)

  -- and in none
  none_later : (t c : ℕ) → (t < 2) ⊎ (last < t) → find (is_row_of t c) (later_rows row owners last) ≡ None
  none_later t c (inl early) = find_none (other_rows row owners) (is_row_of t c) (last - 1) 2 (λ u low high. none_of_period t c u (λ e. omega (arith, low, e, early)))
  none_later t c (inr past) = find_none (other_rows row owners) (is_row_of t c) (last - 1) 2 (λ u low high. none_of_period t c u (λ e. omega (arith, low, high, e, past)))

  -- and none of those that there aren't
  pub none_owner : (t c : ℕ) → owners ≤ c → find (is_row_of t c) (later_rows row owners last) ≡ None
  none_owner t c past =
      find_none (other_rows row owners) (is_row_of t c) (last - 1) 2 (λ u low high.
      find_none (entries u) (is_row_of t c) owners 0 (λ d from inside. find_miss (entry u d) (is_row_of t c) (is_same_row (row u d) (row 1 d)) (other_owner t c u d (λ e. omega (arith, e, inside, past)))))

  told : (t c : ℕ) (same : Bool) → is_same_row (row t c) (row 1 c) ≡ same → option_map_or (λ (r : PeriodRow). r.row) (cond same None (Some (entry t c))) (row 1 c) ≡ row t c
  told t c true same = sym (same_entries (row t c) (row 1 c) same)
  told t c false same = refl

  -- the row in force up to the last period
  pub in_force : (t c : ℕ) → 1 ≤ t → (t ≤ last) ⊎ (t ≡ 1) → c < owners → option_map_or (λ (r : PeriodRow). r.row) (find (is_row_of t c) (later_rows row owners last)) (row 1 c) ≡ row t c
  in_force t c some (inr first) inside =
      ap (λ (o : Option PeriodRow). option_map_or (λ (r : PeriodRow). r.row) o (row 1 c)) (none_later t c (inl (omega (arith, first)))) ∙ ap (λ (k : ℕ). row k c) (sym first)
  in_force t c some (inl high) inside =
      elim (cases_lt t 2) [
        | inl early ↦
            let first : t ≡ 1 = omega (arith, some, early) in
            ap (λ (o : Option PeriodRow). option_map_or (λ (r : PeriodRow). r.row) o (row 1 c)) (none_later t c (inl early)) ∙ ap (λ (k : ℕ). row k c) (sym first)
        | inr late ↦
            ap (λ (o : Option PeriodRow). option_map_or (λ (r : PeriodRow). r.row) o (row 1 c)) (found_later t c late high inside)
            ∙ told t c (is_same_row (row t c) (row 1 c)) refl
      ]

  -- and in any: one of the rows
  pub some_row : (t c : ℕ) → c < owners → (u : ℕ) × (option_map_or (λ (r : PeriodRow). r.row) (find (is_row_of t c) (later_rows row owners last)) (row 1 c) ≡ row u c)
  some_row t c inside =
      elim (cases_lt t 2) [
        | inl early ↦ (1, ap (λ (o : Option PeriodRow). option_map_or (λ (r : PeriodRow). r.row) o (row 1 c)) (none_later t c (inl early)))
        | inr late ↦
            elim (cases_lt last t) [
              | inl past ↦ (1, ap (λ (o : Option PeriodRow). option_map_or (λ (r : PeriodRow). r.row) o (row 1 c)) (none_later t c (inr past)))
              | inr high ↦ (t, in_force t c (omega (arith, late)) (inl high) inside)
            ]
      ]

  pub all_later : (Q : PeriodRow → Type 0) → ((t c : ℕ) → 2 ≤ t → t ≤ last → c < owners → Q (entry t c)) → All Q (later_rows row owners last)
  all_later Q each =
      all_joined (other_rows row owners) Q (last - 1) 2 (λ t low high.
      all_joined (entries t) Q owners 0 (λ c from inside. all_one (entry t c) Q (is_same_row (row t c) (row 1 c)) (each t c low (omega (arith, low, high)) (omega (arith, inside)))))

  -- they are rows of one period each, no two for the same
  pub are_period_rows : (IsRow : List CellPart → Type 0) → ((t c : ℕ) → c < owners → IsRow (row t c)) → ArePeriodRows last owners IsRow (later_rows row owners last)
  are_period_rows IsRow right = record {
    periods = all_later (λ r. (1 ≤ r.period) × (r.period ≤ last)) (λ t c low high inside. (omega (arith, low), high));
    within = all_later (λ r. r.own < owners) (λ t c low high inside. inside);
    right = all_later (λ r. IsRow r.row) (λ t c low high inside. right t c inside);
    once = λ t c.
        count_at (other_rows row owners) (is_row_of t c) (last - 1) 2 t
        (λ u apart. count_none (entries u) (is_row_of t c) owners 0 (λ d low high. count_miss (entry u d) (is_row_of t c) (is_same_row (row u d) (row 1 d)) (other_period t c u d apart)))
        (count_at (entries t) (is_row_of t c) owners 0 c (λ d apart. count_miss (entry t d) (is_row_of t c) (is_same_row (row t d) (row 1 d)) (other_owner t c t d apart)) (count_one (entry t c) (is_row_of t c) (is_same_row (row t c) (row 1 c))));
  }
