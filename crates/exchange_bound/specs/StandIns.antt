-- The best of the prefixes that stand in for one, asked by their values.
use Rattle.std.specs.Prelude.{ℕ, ◌≡◌, ◌<◌, ◌≤◌, ◌⊎◌, List, length, slice_index_or, Contains}
use Rattle.search_model.specs.Problem.{Problem}
use Rattle.search_model.specs.Legal.{IsLegal}
use Rattle.search_model.specs.Tracks.{value_of}
use Rattle.search_model.specs.Exchange.{exchange_of}
use Rattle.bound_tree.specs.Exchanges.{StandsIn, exchanged}
use Rattle.exchange_bound.specs.declared.stand_in.Exchange.{Exchange}
use Rattle.exchange_bound.specs.declared.stand_in.Candidate.{Candidate}

-- the prefix stands in for itself with the position of an exchange in place of its last but one, with this value and this
-- exchange bound
pub record IsExchange (p : Problem) (q : List ℕ) (e : Exchange) : Type 0 where
  pub stands : StandsIn p (exchanged e.position q) q
  pub value : e.value ≡ value_of p (exchanged e.position q)
  pub bound : e.bound ≡ exchange_of p q (exchanged e.position q)

-- what comes of a prefix with the position of a candidate in place of its last but one is legal, and has this value
pub record IsCandidate (p : Problem) (q : List ℕ) (e : Candidate) : Type 0 where
  pub legal : IsLegal p (exchanged e.position q)
  pub value : e.value ≡ value_of p (exchanged e.position q)

-- a position with the value of what comes of it
abbrev pub candidate_of : Problem → List ℕ → ℕ → Candidate
candidate_of p q u = record { value = value_of p (exchanged u q); position = u }

-- a candidate goes before another: it has the greater value, or the same at a smaller position
abbrev pub Precedes : Candidate → Candidate → Type 0
Precedes a b = (b.value < a.value) ⊎ ((a.value ≡ b.value) × (a.position < b.position))

-- or it doesn't
abbrev pub Yields : Candidate → Candidate → Type 0
Yields a b = (a.value < b.value) ⊎ ((a.value ≡ b.value) × (b.position ≤ a.position))

-- the candidate at a place of a row
abbrev pub place_at : List Candidate → ℕ → Candidate
place_at row j = slice_index_or row j (record { value = 0; position = 0 })

-- a position has a place in a row, from one place on to before another
abbrev pub HasPlace : List Candidate → ℕ → ℕ → ℕ → Type 0
HasPlace row from to u = (j : ℕ) × (from ≤ j) × (j < to) × ((place_at row j).position ≡ u)

-- the candidates in a row from one place on to before another are right
abbrev pub AreRight : Problem → List ℕ → ℕ → ℕ → List Candidate → Type 0
AreRight p q from to row = (j : ℕ) → from ≤ j → j < to → IsCandidate p q (place_at row j)

-- the first n of a row are candidates of a prefix, and of the positions that were tried they have all that stand in
pub record AreCandidates (p : Problem) (q tried : List ℕ) (n : ℕ) (row : List Candidate) : Type 0 where
  pub few : n ≤ length tried
  pub inside : n ≤ length row
  pub right : AreRight p q 0 n row
  pub all : (u : ℕ) → Contains tried u → StandsIn p (exchanged u q) q → HasPlace row 0 n u

-- what is left in a row, from one place on to before another, are candidates of a prefix, and all that stand in are among
-- them
pub record AreLeft (p : Problem) (q : List ℕ) (from to : ℕ) (row : List Candidate) : Type 0 where
  pub inside : to ≤ length row
  pub right : AreRight p q from to row
  pub all : (u : ℕ) → StandsIn p (exchanged u q) q → HasPlace row from to u
