-- The scenario that forces a flown prefix: after the positions of p it has one for the start and one for each flown period, and there the
-- searcher has no choice until the prefix is flown.
use Rattle.std.specs.Prelude.{ℕ, ◌≡◌, ◌+◌, ◌-◌, ◌<◌, ◌≤◌, Bool, ◌&&◌, nat_le, nat_lt, if◌then◌else◌, List, [], ◌∷◌, ◌++◌, map, length, take, drop, Contains}
use Rattle.std.specs.List.{range_with_len}
use Rattle.std.specs.Fmt.{decimal}
use Rattle.search_grid.specs.Moves.{moves_from}
use Rattle.sweep_table.specs.LookParts.{factor_of}
use Rattle.search_model.specs.Problem.{Problem}
use Rattle.search_model.specs.Legal.{last_of, IsPath}
use Rattle.searcher_maps.specs.Target.{HasSameTarget}

-- the position of p that one of the forced scenario stands for: itself, or past the positions of p the place where the flown prefix has the
-- searcher after so many periods
unfoldable pub source_of : Problem → List ℕ → ℕ → ℕ
source_of p flown a = if nat_lt a p.positions then a else last_of p.start (take (a - p.positions) flown)

-- the positions of p, one for the start, and one for each flown period
abbrev pub forced_count : Problem → List ℕ → ℕ
forced_count p flown = p.positions + length flown + 1

-- `flown-` and the number of periods flown
unfoldable pub forced_name : ℕ → List ℕ
forced_name i = 102 ∷ 108 ∷ 111 ∷ 119 ∷ 110 ∷ 45 ∷ decimal i

-- the names of the new positions, from 0 periods flown to k
unfoldable pub forced_names : ℕ → List (List ℕ)
forced_names k = map forced_name (range_with_len 0 (k + 1))

-- whether the prefix goes on from a position
abbrev pub goes_on : Problem → List ℕ → ℕ → Bool
goes_on p flown a = nat_le p.positions a && nat_lt a (p.positions + length flown)

-- the moves of a position: to the next flown one alone where the prefix goes on, else those of the position that it stands for
unfoldable pub forced_row : Problem → List ℕ → ℕ → List ℕ
forced_row p flown a = if goes_on p flown a then (a + 1) ∷ [] else moves_from p.moves (source_of p flown a)

unfoldable pub forced_moves : Problem → List ℕ → List (List ℕ)
forced_moves p flown = map (forced_row p flown) (range_with_len 0 (forced_count p flown))

-- q has the target of p, and a searcher who has to fly the prefix; its look factors are those of the positions that its own stand for
pub record IsForced (p : Problem) (flown : List ℕ) (q : Problem) : Type 0 where
  pub target : HasSameTarget p q
  pub position_names : q.position_names ≡ p.position_names ++ forced_names (length flown)
  pub positions : q.positions ≡ forced_count p flown
  pub start : q.start ≡ p.positions
  pub moves : q.moves ≡ forced_moves p flown
  pub look_denominator : q.sweep.denominator ≡ p.sweep.denominator
  pub looks : (t a c : ℕ) → 1 ≤ t → t ≤ p.horizon → a < q.positions → c < p.cells → factor_of q.sweep t a c ≡ factor_of p.sweep t (source_of p flown a) c

-- a position of p has one of the new names
abbrev pub IsNameTaken : Problem → List ℕ → Type 0
IsNameTaken p flown = (i : ℕ) × (i ≤ length flown) × Contains p.position_names (forced_name i)

-- a path of the scenario that forces the prefix
abbrev pub IsForcedPath : Problem → List ℕ → List ℕ → Type 0
IsForcedPath p flown z = (q : Problem) × IsForced p flown q × IsPath q z

-- a path that begins with the prefix, with the flown positions in place of the prefix
abbrev pub forced_path : Problem → List ℕ → List ℕ → List ℕ
forced_path p flown y = range_with_len (p.positions + 1) (length flown) ++ drop (length flown) y
