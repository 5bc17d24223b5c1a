-- What a standing rules out below a prefix.
use Rattle.std.specs.Prelude.{ℕ, ◌*◌, Bool, ◌||◌, ◌&&◌, ◌==◌, nat_lt, List, take, length}
use Rattle.search_model.specs.declared.standing.Standing.{Standing}
use Rattle.search_model.specs.Order.{smaller}

-- a bound of a prefix leaves nothing better than the standing below it: it is less than the standing's value, or equal,
-- and the prefix is greater than the standing's first positions
abbrev pub is_cut : ℕ → List ℕ → Standing → Bool
is_cut b q s = nat_lt b s.value || (b == s.value && smaller (take (length q) s.path) q)

-- a standing in finer parts, with which a tangent is compared
abbrev pub times : ℕ → Standing → Standing
times g s = record { path = s.path; value = g * s.value }
