-- The position of a name.
use Rattle.std.proofs.Common.{ℕ, ◌≡◌, ◌≢◌, ◌<◌, true, false, List, [], length, Some, None}
use Rattle.std.specs.Str.{bytes_eq}
use Rattle.std.proofs.lemmas.Bool.{false_from_ne_true}
use Rattle.std.proofs.lemmas.Slice.Eq.{bytes_eq-Decides}
use Rattle.list_laws.proofs.Firsts.{position-first, position-none}
use Rattle.search_model.specs.Problem.{Problem, position_name, position_named}

other : (p : Problem) (name : List ℕ) (k : ℕ) → position_name p k ≢ name → bytes_eq (position_name p k) name ≡ false
other p name k differs = false_from_ne_true _ (λ e. differs ((bytes_eq-Decides (position_name p k) name).0 e))

-- the first position that has the name
pub named_first : (p : Problem) (name : List ℕ) (a : ℕ) → a < length p.position_names → ((k : ℕ) → k < a → position_name p k ≢ name) → bytes_eq (position_name p a) name ≡ true → position_named p name ≡ Some a
named_first p name a within before here =
    position-first (λ n. bytes_eq n name) p.position_names a [] within (λ k below. other p name k (before k below)) here

-- a name that no position has
pub unnamed : (p : Problem) (name : List ℕ) → ((k : ℕ) → k < length p.position_names → position_name p k ≢ name) → position_named p name ≡ None
unnamed p name none = position-none (λ n. bytes_eq n name) p.position_names [] (λ k within. other p name k (none k within))
