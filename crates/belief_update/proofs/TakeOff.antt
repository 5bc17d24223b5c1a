-- What entries of units take off masses, one after the other.
use Rattle.std.proofs.Common.{ℕ, ◌+◌, ◌-◌, ◌*◌, ◌<◌, ◌≤◌, ◌≡◌, List, length, get_or, slice_index, set, take, sym, arith, All, inl, inr, get_or-set_same, get_or-set_other}
use Rattle.std.proofs.Math.Nat.{mul-le-mul_left}
use Rattle.std.proofs.lemmas.Bool.{cases_eq}
use Rattle.belief_update.specs.declared.flows.UnitPart.{UnitPart}
use Rattle.belief_update.specs.Flows.{held_in}
use Rattle.belief_update.proofs.FlowSteps.{held_in_more-same, held_in_more-other, held_in_more-le}

-- what an entry takes off is there
pub entry-part : (olds : List ℕ) (row : List UnitPart) (units i n now : ℕ) (e : UnitPart) → i < length row → All (λ entry. entry.cell < n) row →
    ((d : ℕ) → d < n → units * held_in row d ≤ slice_index olds d) →
    now ≡ slice_index olds (get_or row i e).cell - units * held_in (take i row) (get_or row i e).cell →
    units * (get_or row i e).part ≤ now
entry-part olds row units i n now e h entries part is =
    let c = (get_or row i e).cell in
    let whole = part c (entries i e h) in
    let le = mul-le-mul_left units (held_in_more-le row i e h) in
    omega (arith, whole, le, is)

-- what is left without it is right
pub entry-leaves : (olds now : List ℕ) (row : List UnitPart) (units i : ℕ) (e : UnitPart) → i < length row →
    ((d : ℕ) → d < length now → slice_index now d ≡ slice_index olds d - units * held_in (take i row) d) →
    (d : ℕ) → d < length now →
    slice_index (set now (get_or row i e).cell (get_or now (get_or row i e).cell 0 - units * (get_or row i e).part)) d ≡ slice_index olds d - units * held_in (take (i + 1) row) d
entry-leaves olds now row units i e h each d lt =
    let c = (get_or row i e).cell in
    elim (cases_eq c d) [
      | inl same ↦
          let cell : c < length now = omega (arith, same) in
          rw (held_in_more-same row i e d h same, ← same, get_or-set_same now c (get_or now c 0 - units * (get_or row i e).part) 0 cell) (omega (arith, each c cell))
      | inr apart ↦ rw (held_in_more-other row i e d h apart, get_or-set_other now c d (get_or now c 0 - units * (get_or row i e).part) 0 (λ s. apart (sym s))) (each d lt)
    ]
