-- The moves of the scenario that forces a prefix.
use Rattle.std.proofs.Common.{ℕ, suc, ◌+◌, ◌-◌, ◌*◌, ◌^◌, ◌<◌, ◌≤◌, ◌≡◌, List, [], ◌∷◌, length, take, inl, inr, sym, ap, ◌∙◌, subst, arith, Contains, pow-suc, rules}
use Rattle.std.proofs.Math.Nat.{pow-zero}
use Rattle.std.proofs.lemmas.Bool.{cases_lt}
use Rattle.std.proofs.lemmas.List.Elements.{All-nil, All-cons, All-weaker}
use Rattle.std.proofs.lemmas.List.FromFn.{length-map-range_with_len, get_or-map-range_with_len}
use Rattle.list_laws.proofs.Members.{Contains-nil, Contains-cons_cases}
use Rattle.search_grid.specs.Moves.{moves_from, IsMoveRow, IsGrid}
use Rattle.search_model.specs.Problem.{Problem, IsProblem}
use Rattle.search_model.specs.Legal.{last_of, IsLegal}
use Rattle.search_model.proofs.LegalLemmas.{move_within}
use Rattle.searcher_maps.specs.Stands.{StandsFor}
use Rattle.residual_plan.specs.Forced.{source_of, forced_count, forced_row, forced_moves, IsForced}
use Rattle.residual_plan.specs.Laws.{ForcedStandsFor}
use Rattle.residual_plan.proofs.Places.{source_own, source_after, source_end, source_within, follows_step, row_own, row_flown, row_past}

pub row_at : (p : Problem) (flown : List ℕ) (a : ℕ) → a < forced_count p flown → moves_from (forced_moves p flown) a ≡ forced_row p flown a
unfolding moves_from forced_moves
row_at p flown a within = get_or-map-range_with_len (forced_row p flown) 0 (forced_count p flown) a a [] within (omega arith)

pub count_moves : (p : Problem) (flown : List ℕ) → length (forced_moves p flown) ≡ forced_count p flown
unfolding forced_moves
count_moves p flown = length-map-range_with_len (forced_row p flown) 0 (forced_count p flown)

-- a number is its own first power
pow-one : (n : ℕ) → n ≡ n ^ 1
pow-one n =
    let step : n ^ 0 * n ≡ 1 * n = ap (λ m. m * n) (pow-zero n) in
    omega (arith, pow-suc n 0, step)

-- the moves of a position of p are its own
pub rows_own : (p : Problem) (flown : List ℕ) (a : ℕ) → a < p.positions → moves_from (forced_moves p flown) a ≡ moves_from p.moves a
rows_own p flown a own = row_at p flown a (omega (arith, own)) ∙ row_own p flown a own ∙ ap (moves_from p.moves) (source_own p flown a own)

-- before the prefix is flown to its end there is one move
pub rows_flown : (p : Problem) (flown : List ℕ) (a : ℕ) → p.positions ≤ a → a < p.positions + length flown → moves_from (forced_moves p flown) a ≡ (a + 1) ∷ []
rows_flown p flown a past before = row_at p flown a (omega (arith, before)) ∙ row_flown p flown a past before

-- and there the moves go on from where the prefix ends
pub rows_end : (p : Problem) (flown : List ℕ) → moves_from (forced_moves p flown) (p.positions + length flown) ≡ moves_from p.moves (last_of p.start flown)
rows_end p flown =
    let a : ℕ = p.positions + length flown in
    row_at p flown a (omega arith) ∙ row_past p flown a (omega arith) ∙ ap (moves_from p.moves) (source_end p flown)

-- so the next position is the only move
pub move_flown : (p : Problem) (flown : List ℕ) (a b : ℕ) → p.positions ≤ a → a < p.positions + length flown → Contains (moves_from (forced_moves p flown) a) b → b ≡ a + 1
move_flown p flown a b past before move = elim (Contains-cons_cases (a + 1) b [] (subst (λ r. Contains r b) (rows_flown p flown a past before) move)) [
  | inl e ↦ sym e
  | inr none ↦ absurd (Contains-nil b none)
]

module _ (p : Problem) (flown : List ℕ) (sound : IsProblem p) (legal : IsLegal p flown) where
  -- a move of the position that a position stands for is a position of p
  pub own_move : (a b : ℕ) → Contains (moves_from p.moves (source_of p flown a)) b → b < p.positions
  own_move a b move =
      let from : source_of p flown a < length p.moves = omega (arith, source_within p flown sound legal a, sound.grid_positions) in
      omega (arith, move_within p.moves sound.grid (source_of p flown a) b from move, sound.grid_positions)

  -- a move stands for a move
  source_move : (a b : ℕ) → a < forced_count p flown → Contains (moves_from (forced_moves p flown) a) b → Contains (moves_from p.moves (source_of p flown a)) (source_of p flown b)
  source_move a b within move =
      elim (cases_lt a p.positions) [
        | inl own ↦ stays (subst (λ r. Contains r b) (row_at p flown a within ∙ row_own p flown a own) move)
        | inr past ↦ elim (cases_lt a (p.positions + length flown)) [
          | inl before ↦
              let i : ℕ = a - p.positions in
              let next : b ≡ p.positions + suc i = omega (arith, past, move_flown p flown a b past before move) in
              let here : source_of p flown a ≡ last_of p.start (take i flown) = ap (source_of p flown) (omega (arith, past)) ∙ source_after p flown i in
              let there : source_of p flown b ≡ last_of p.start (take (suc i) flown) = ap (source_of p flown) next ∙ source_after p flown (suc i) in
              rw (here, there) (follows_step p.moves p.start i flown legal.follows (omega (arith, past, before)))
          | inr behind ↦ stays (subst (λ r. Contains r b) (row_at p flown a within ∙ row_past p flown a behind) move)
        ]
      ]
    where
      stays : Contains (moves_from p.moves (source_of p flown a)) b → Contains (moves_from p.moves (source_of p flown a)) (source_of p flown b)
      stays own = rw (source_own p flown b (own_move a b own)) own

  pub stands_for : (q : Problem) → IsForced p flown q → StandsFor p q (source_of p flown ∷ [])
  stands_for q forced = record {
    target = forced.target;
    parts = forced.look_denominator ∙ pow-one p.sweep.denominator;
    looks = λ t a c from to position cell. omega (arith, forced.looks t a c from to position cell);
    moves = All-cons P (source_of p flown) [] (λ a b position move.
        source_move a b (omega (arith, position, forced.positions)) (subst (λ rows. Contains (moves_from rows a) b) forced.moves move)) (All-nil P);
  }
    where
      P : (ℕ → ℕ) → Type 0
      P = λ h. (a b : ℕ) → a < q.positions → Contains (moves_from q.moves a) b → Contains (moves_from p.moves (h a)) (h b)

  -- the rows are rows of moves
  moves_right : (a : ℕ) → a < forced_count p flown → IsMoveRow (forced_count p flown) (forced_row p flown a)
  moves_right a within =
      elim (cases_lt a p.positions) [
        | inl own ↦ subst (IsMoveRow (forced_count p flown)) (sym (row_own p flown a own)) (own_right a)
        | inr past ↦ elim (cases_lt a (p.positions + length flown)) [
          | inl before ↦ subst (IsMoveRow (forced_count p flown)) (sym (row_flown p flown a past before)) (one_right (a + 1) (omega (arith, before)))
          | inr behind ↦ subst (IsMoveRow (forced_count p flown)) (sym (row_past p flown a behind)) (own_right a)
        ]
      ]
    where
      own_right : (a : ℕ) → IsMoveRow (forced_count p flown) (moves_from p.moves (source_of p flown a))
      own_right a =
          let row = sound.grid.each (source_of p flown a) (omega (arith, source_within p flown sound legal a, sound.grid_positions)) in
          record {
            some = row.some;
            few = row.few;
            ascending = row.ascending;
            within = All-weaker (λ b. b < length p.moves) (λ b. b < forced_count p flown) (λ b less. omega (arith, less, sound.grid_positions)) (moves_from p.moves (source_of p flown a)) row.within;
          }

      one_right : (b : ℕ) → b < forced_count p flown → IsMoveRow (forced_count p flown) (b ∷ [])
      one_right b less = record {
        some = omega arith;
        few = omega arith;
        ascending = search rules;
        within = All-cons (λ b. b < forced_count p flown) b [] less (All-nil (λ b. b < forced_count p flown));
      }

  pub is_grid : forced_count p flown ≤ 200 → IsGrid (forced_moves p flown)
  is_grid room = record {
    size = (omega (arith, count_moves p flown), omega (arith, count_moves p flown, room));
    each = λ a within.
        let inside : a < forced_count p flown = omega (arith, within, count_moves p flown) in
        rw (row_at p flown a inside, count_moves p flown) (moves_right a inside);
  }

pub forced_stands_for : ForcedStandsFor
forced_stands_for p q flown sound legal forced = stands_for p flown sound legal q forced
