-- Prefixes that are flown, by the names of their positions.
use Rattle.std.specs.Prelude.{ℕ, ◌≡◌, ◌<◌, ◌≤◌, List, map, All, Contains}
use Rattle.search_model.specs.Problem.{Problem, position_name}
use Rattle.search_model.specs.Legal.{IsLegal}
use Rattle.residual_plan.specs.Forced.{forced_count, IsNameTaken}
use Rattle.plan_command.specs.declared.flown.FlownWhy.{FlownWhy}
use Rattle.plan_command.specs.declared.flown.FlownWhy.TheVariants.{UnknownName, NotLegal, TooManyPositions, NameTaken}

-- the names are those of these positions, in order
pub record AreNamed (p : Problem) (names : List (List ℕ)) (flown : List ℕ) : Type 0 where
  pub positions : All (λ a. a < p.positions) flown
  pub named : map (position_name p) flown ≡ names

-- the names are those of this legal prefix
abbrev pub IsFlown : Problem → List (List ℕ) → List ℕ → Type 0
IsFlown p names flown = AreNamed p names flown × IsLegal p flown

-- one of the names is no position's
abbrev pub HasStranger : Problem → List (List ℕ) → Type 0
HasStranger p names = (name : List ℕ) × Contains names name × (¬ Contains p.position_names name)

-- the names are those of positions that make no legal prefix
abbrev pub IsAstray : Problem → List (List ℕ) → Type 0
IsAstray p names = (flown : List ℕ) × AreNamed p names flown × (¬ IsLegal p flown)

-- why no prefix is flown
abbrev pub IsUnflown : Problem → List (List ℕ) → FlownWhy → Type 0
IsUnflown p names UnknownName = HasStranger p names
IsUnflown p names NotLegal = IsAstray p names
IsUnflown p names TooManyPositions = ⊥
IsUnflown p names NameTaken = ⊥

-- why a legal prefix isn't forced: the first of these that holds
abbrev pub IsUnforced : Problem → List ℕ → FlownWhy → Type 0
IsUnforced p flown UnknownName = ⊥
IsUnforced p flown NotLegal = ⊥
IsUnforced p flown TooManyPositions = 200 < forced_count p flown
IsUnforced p flown NameTaken = (forced_count p flown ≤ 200) × IsNameTaken p flown

-- why no scenario forces the prefix of these names: the first of these that holds
abbrev pub IsBadFlown : Problem → List (List ℕ) → FlownWhy → Type 0
IsBadFlown p names UnknownName = HasStranger p names
IsBadFlown p names NotLegal = IsAstray p names
IsBadFlown p names why = (flown : List ℕ) × IsFlown p names flown × IsUnforced p flown why
