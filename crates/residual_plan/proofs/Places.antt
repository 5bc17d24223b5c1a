-- What the positions of the scenario that forces a prefix stand for.
use Rattle.std.proofs.Common.{ℕ, zero, suc, ◌+◌, ◌-◌, ◌<◌, ◌≤◌, ◌≡◌, true, false, min, List, [], ◌∷◌, length, map, take, inl, inr, refl, sym, ap, ◌∙◌, arith, lt-ltb, le-ltb, le-leb, Contains}
use Rattle.std.proofs.lemmas.Bool.{cases_lt, lt-leb}
use Rattle.std.proofs.Math.Seq.{take-length}
use Rattle.search_grid.specs.Moves.{moves_from}
use Rattle.search_model.specs.Problem.{Problem, IsProblem}
use Rattle.search_model.specs.Legal.{last_of, Follows, IsLegal}
use Rattle.search_model.proofs.LegalLemmas.{last_within}
use Rattle.search_model.proofs.WalkLemmas.{follows-take}
use Rattle.residual_plan.specs.Forced.{source_of, goes_on, forced_row}

-- a position of p stands for itself
pub source_own : (p : Problem) (flown : List ℕ) (a : ℕ) → a < p.positions → source_of p flown a ≡ a
unfolding source_of
source_own p flown a own = rw (lt-ltb a p.positions own) refl

-- another one stands for the place after some periods of the prefix
pub source_past : (p : Problem) (flown : List ℕ) (a : ℕ) → p.positions ≤ a → source_of p flown a ≡ last_of p.start (take (a - p.positions) flown)
unfolding source_of
source_past p flown a past = rw (le-ltb a p.positions past) refl

pub source_after : (p : Problem) (flown : List ℕ) (i : ℕ) → source_of p flown (p.positions + i) ≡ last_of p.start (take i flown)
source_after p flown i =
    let periods : p.positions + i - p.positions ≡ i = omega arith in
    source_past p flown (p.positions + i) (omega arith) ∙ ap (λ n. last_of p.start (take n flown)) periods

-- a list is its own front of any greater length
take-all : (n : ℕ) (xs : List ℕ) → length xs ≤ n → take n xs ≡ xs
take-all zero [] le = refl
take-all (suc n) [] le = refl
take-all zero (x ∷ xs) le = absurd (omega arith)
take-all (suc n) (x ∷ xs) le = ap (λ (ys : List ℕ). x ∷ ys) (take-all n xs (omega (arith, le)))

-- as many of a list as there are, where more are asked for
pub take-min : (n : ℕ) (xs : List ℕ) → take (min (length xs) n) xs ≡ take n xs
take-min n xs =
    elim (cases_lt (length xs) n) [
      | inl less ↦
          let all : min (length xs) n ≡ length xs = omega arith in
          ap (λ k. take k xs) all ∙ take-length xs ∙ sym (take-all n xs (omega arith))
      | inr some ↦
          let few : min (length xs) n ≡ n = omega arith in
          ap (λ k. take k xs) few
    ]

-- what was done to a front as long as the list was done to the list
pub whole_front : (f : ℕ → ℕ) (made xs : List ℕ) (n : ℕ) → made ≡ map f (take n xs) → n ≡ length xs → made ≡ map f xs
whole_front f made xs n front all = front ∙ ap (λ k. map f (take k xs)) all ∙ ap (map f) (take-length xs)

-- each step of what follows the moves is a move
pub follows_step : (rows : List (List ℕ)) (a i : ℕ) (q : List ℕ) → Follows rows a q → i < length q → Contains (moves_from rows (last_of a (take i q))) (last_of a (take (suc i) q))
follows_step rows a i [] follows inside = absurd (omega arith)
follows_step rows a zero (b ∷ q) follows inside = follows.0
follows_step rows a (suc i) (b ∷ q) follows inside = follows_step rows b i q follows.1 (omega (arith, inside))

-- each position stands for one of p
pub source_within : (p : Problem) (flown : List ℕ) → IsProblem p → IsLegal p flown → (a : ℕ) → source_of p flown a < p.positions
source_within p flown sound legal a =
    elim (cases_lt a p.positions) [
      | inl own ↦ omega (arith, own, source_own p flown a own)
      | inr past ↦
          let front = follows-take p.moves p.start (a - p.positions) flown legal.follows in
          let within = last_within p.moves sound.grid p.start (omega (arith, sound.start, sound.grid_positions)) (take (a - p.positions) flown) front in
          omega (arith, within, source_past p flown a past, sound.grid_positions)
    ]

-- the moves where the prefix goes on, and where it doesn't
pub row_on : (p : Problem) (flown : List ℕ) (a : ℕ) → goes_on p flown a ≡ true → forced_row p flown a ≡ (a + 1) ∷ []
unfolding forced_row
row_on p flown a on = rw on refl

pub row_off : (p : Problem) (flown : List ℕ) (a : ℕ) → goes_on p flown a ≡ false → forced_row p flown a ≡ moves_from p.moves (source_of p flown a)
unfolding forced_row
row_off p flown a off = rw off refl

-- the moves of a position of p, of one before the prefix is flown to its end, and of the one there
pub row_own : (p : Problem) (flown : List ℕ) (a : ℕ) → a < p.positions → forced_row p flown a ≡ moves_from p.moves (source_of p flown a)
unfolding forced_row
row_own p flown a own = rw (lt-leb p.positions a own) refl

pub row_flown : (p : Problem) (flown : List ℕ) (a : ℕ) → p.positions ≤ a → a < p.positions + length flown → forced_row p flown a ≡ (a + 1) ∷ []
unfolding forced_row
row_flown p flown a past before = rw (le-leb p.positions a past, lt-ltb a (p.positions + length flown) before) refl

pub row_past : (p : Problem) (flown : List ℕ) (a : ℕ) → p.positions + length flown ≤ a → forced_row p flown a ≡ moves_from p.moves (source_of p flown a)
unfolding forced_row
row_past p flown a past = rw (le-leb p.positions a (omega (arith, past)), le-ltb a (p.positions + length flown) past) refl

-- where the prefix is flown to its end
pub source_end : (p : Problem) (flown : List ℕ) → source_of p flown (p.positions + length flown) ≡ last_of p.start flown
source_end p flown = source_after p flown (length flown) ∙ ap (last_of p.start) (take-length flown)
