-- A problem whose searcher stands for a team in another problem: each of its positions says where each of the team is.
use Rattle.std.specs.Prelude.{ℕ, ◌≡◌, ◌*◌, ◌^◌, ◌<◌, ◌≤◌, List, [], ◌∷◌, map, length, sum_by, All, Contains}
use Rattle.search_grid.specs.Moves.{moves_from}
use Rattle.sweep_table.specs.LookParts.{factor_of}
use Rattle.search_model.specs.Problem.{Problem}
use Rattle.search_model.specs.Tracks.{tracks, weight_of, miss_of}
use Rattle.searcher_maps.specs.Target.{HasSameTarget}

-- the product of some numbers, 1 of none
abbrev pub product : List ℕ → ℕ
product [] = 1
product (n ∷ ns) = n * product ns

-- over all tracks, weight times what the looks of all these paths miss together
unfoldable pub missed_together : Problem → List (List ℕ) → ℕ
missed_together p paths = sum_by (λ x. weight_of p x * product (map (λ y. miss_of p y x) paths)) (tracks p.cells p.horizon)

-- where each of a team is, by one function a searcher, while the searcher of q is at a position
pub record StandsFor (p q : Problem) (at : List (ℕ → ℕ)) : Type 0 where
  pub target : HasSameTarget p q
  pub parts : q.sweep.denominator ≡ p.sweep.denominator ^ length at
  pub looks : (t a c : ℕ) → 1 ≤ t → t ≤ p.horizon → a < q.positions → c < p.cells → factor_of q.sweep t a c ≡ product (map (λ h. factor_of p.sweep t (h a) c) at)
  pub moves : All (λ h. (a b : ℕ) → a < q.positions → Contains (moves_from q.moves a) b → Contains (moves_from p.moves (h a)) (h b)) at
