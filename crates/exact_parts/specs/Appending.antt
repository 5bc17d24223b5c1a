-- What is left of a text that found no memory.
use Rattle.std.specs.Prelude.{ℕ, ◌≡◌, List, ◌++◌}

-- the new bytes begin with the old ones
pub record Begins (old new : List ℕ) : Type 0 where
  pub more : List ℕ
  pub is : new ≡ old ++ more
