-- What the entries of a drift row add, one after the other.
use Rattle.std.proofs.Common.{ℕ, ◌+◌, ◌*◌, ◌^◌, ◌<◌, ◌≤◌, ◌≡◌, ◌≢◌, ◌==◌, true, false, if◌then◌else◌, List, [], length, get_or, slice_index, set, take, refl, sym, ◌∙◌, arith, All, inl, inr, get_or-set_same, get_or-set_other}
use Rattle.std.proofs.Math.Nat.{mul-le-mul_left}
use Rattle.std.proofs.lemmas.Bool.{cases_eq, eq-eqb, ne_eqb}
use Rattle.std.proofs.lemmas.List.Sums.{sum_by_more, sum_by_more_le}
use Rattle.period_rows.specs.declared.part.CellPart.{CellPart}
use Rattle.drift_chain.specs.DriftRows.{part_in}

-- an empty row has no part
pub part_in_none : (d : ℕ) → part_in [] d ≡ 0
unfolding part_in
part_in_none d = refl

-- one more entry of a row: its part counts at its own cell alone
pub part_in_more_same : (row : List CellPart) (i : ℕ) (e : CellPart) (d : ℕ) → i < length row → (get_or row i e).cell ≡ d →
    part_in (take (i + 1) row) d ≡ part_in (take i row) d + (get_or row i e).part
unfolding part_in
part_in_more_same row i e d h same =
    let test : ((get_or row i e).cell == d) ≡ true = eq-eqb (get_or row i e).cell d same in
    sum_by_more (λ entry. if entry.cell == d then entry.part else 0) row i e h ∙ rw test refl

pub part_in_more_other : (row : List CellPart) (i : ℕ) (e : CellPart) (d : ℕ) → i < length row → (get_or row i e).cell ≢ d →
    part_in (take (i + 1) row) d ≡ part_in (take i row) d
unfolding part_in
part_in_more_other row i e d h apart =
    let test : ((get_or row i e).cell == d) ≡ false = ne_eqb (get_or row i e).cell d apart in
    sum_by_more (λ entry. if entry.cell == d then entry.part else 0) row i e h ∙ rw test (omega arith)

-- the parts so far and the next one are within the row's part
pub part_in_more_le : (row : List CellPart) (i : ℕ) (e : CellPart) → i < length row →
    part_in (take i row) (get_or row i e).cell + (get_or row i e).part ≤ part_in row (get_or row i e).cell
unfolding part_in
part_in_more_le row i e h =
    let c = (get_or row i e).cell in
    let test : ((get_or row i e).cell == c) ≡ true = eq-eqb c c refl in
    let le = sum_by_more_le (λ entry. if entry.cell == c then entry.part else 0) row i e h in
    rw test at le

-- what an entry adds fits
pub entry-fits : (olds : List ℕ) (row : List CellPart) (mass i n now : ℕ) (e : CellPart) → i < length row → All (λ entry. entry.cell < n) row →
    ((d : ℕ) → d < n → slice_index olds d + mass * part_in row d < 2 ^ 127) →
    now ≡ slice_index olds (get_or row i e).cell + mass * part_in (take i row) (get_or row i e).cell →
    now + mass * (get_or row i e).part < 2 ^ 127
entry-fits olds row mass i n now e h entries fits is =
    let c = (get_or row i e).cell in
    let whole = fits c (entries i e h) in
    let le = mul-le-mul_left mass (part_in_more_le row i e h) in
    omega (arith, whole, le, is)

-- what an entry adds is right
pub entry-adds : (olds now : List ℕ) (row : List CellPart) (mass i : ℕ) (e : CellPart) → i < length row →
    ((d : ℕ) → d < length now → slice_index now d ≡ slice_index olds d + mass * part_in (take i row) d) →
    (d : ℕ) → d < length now →
    slice_index (set now (get_or row i e).cell (get_or now (get_or row i e).cell 0 + mass * (get_or row i e).part)) d ≡ slice_index olds d + mass * part_in (take (i + 1) row) d
entry-adds olds now row mass i e h each d lt =
    let c = (get_or row i e).cell in
    elim (cases_eq c d) [
      | inl same ↦
          let cell : c < length now = omega (arith, same) in
          rw (part_in_more_same row i e d h same, ← same, get_or-set_same now c (get_or now c 0 + mass * (get_or row i e).part) 0 cell) (omega (arith, each c cell))
      | inr apart ↦ rw (part_in_more_other row i e d h apart, get_or-set_other now c d (get_or now c 0 + mass * (get_or row i e).part) 0 (λ s. apart (sym s))) (each d lt)
    ]
