-- What follows the moves of a problem that stands for a team.
use Rattle.std.proofs.Common.{ℕ, ◌<◌, List, [], ◌∷◌, map, length, arith, Contains}
use Rattle.std.proofs.lemmas.List.Elements.{All-weaker}
use Rattle.search_grid.specs.Moves.{moves_from}
use Rattle.search_model.specs.Problem.{Problem, IsProblem}
use Rattle.search_model.specs.Legal.{Follows}
use Rattle.search_model.proofs.LegalLemmas.{move_within}
use Rattle.searcher_maps.specs.Laws.{TeamFollows}

-- where each of q's moves is one of p's, what follows q's moves follows p's
abbrev pub KeepsMoves : Problem → Problem → (ℕ → ℕ) → Type 0
KeepsMoves p q h = (a b : ℕ) → a < q.positions → Contains (moves_from q.moves a) b → Contains (moves_from p.moves (h a)) (h b)

follows_one : (p q : Problem) (h : ℕ → ℕ) → IsProblem q → KeepsMoves p q h → (a : ℕ) (z : List ℕ) → a < q.positions → Follows q.moves a z → Follows p.moves (h a) (map h z)
follows_one p q h sound keeps a [] here follows = tt
follows_one p q h sound keeps a (b ∷ z) here follows =
    let next : b < length q.moves = move_within q.moves sound.grid a b (omega (arith, here, sound.grid_positions)) follows.0 in
    (keeps a b here follows.0, follows_one p q h sound keeps b z (omega (arith, next, sound.grid_positions)) follows.1)

pub team_follows : TeamFollows
team_follows p q at sound stands a z here follows =
    All-weaker (KeepsMoves p q) (λ h. Follows p.moves (h a) (map h z)) (λ h keeps. follows_one p q h sound keeps a z here follows) at stands.moves
