-- The rule of the ticket word: the numbers that all seats drew are those below it, each once, and few of them are high.
use Rattle.std.specs.Prelude.{◌≡◌, ℕ, ◌≤◌, List, [], ◌∷◌, slice_index, nat_le, All, IsPermutation}
use Rattle.std.specs.List.{flat_map, range_with_len, sum_by, count_by}
use Rattle.atomic_table.specs.Table.{State}
use Rattle.node_tickets.specs.declared.hand.Hand.{Hand}
use Rattle.node_tickets.specs.Seats.{ALL_SEATS}

-- what a seat knows
abbrev pub hand : ℕ → ℕ → List ℕ → Hand
hand stands_for limit drawn = record { stands_for = stands_for; limit = limit; drawn = drawn }

-- how many of some numbers are high: at the limit or above it
abbrev pub high_of : ℕ → List ℕ → ℕ
high_of limit numbers = count_by (λ n. nat_le limit n) numbers

-- the rule, of the word and of what each seat knows
pub record IsCounted (limit : ℕ) (s : State (Unit {0}) Hand) : Type 0 where
  -- there is one word
  pub one : (n : ℕ) × (s.words ≡ n ∷ [])
  -- the seats stand for all
  pub all : sum_by (λ v. v.stands_for) s.views ≡ ALL_SEATS
  -- the numbers that they drew are those below the word, each once
  pub once : IsPermutation (flat_map (λ v. v.drawn) s.views) (range_with_len 0 (slice_index s.words 0))
  -- a seat drew at most as many high numbers as the seats for which it stands
  pub high : All (λ v. high_of limit v.drawn ≤ v.stands_for) s.views
  -- a seat that stands for none has drawn nothing
  pub spent : All (λ v. v.stands_for ≡ 0 → v.drawn ≡ []) s.views
