-- A path in place: its positions at the front of 32 places.
use Rattle.std.specs.Prelude.{ℕ, ◌≡◌, ◌≤◌, ◌-◌, List, ◌++◌, length, take, replicate}

-- a list, filled up with zeros to n places
abbrev pub padded : ℕ → List ℕ → List ℕ
padded n xs = xs ++ replicate (n - length xs) 0

-- behind the first places there are zeros, so that equal lists have equal places
pub record IsPadded (n : ℕ) (places : List ℕ) (len : ℕ) : Type 0 where
  pub small : len ≤ n
  pub size : length places ≡ n
  pub rest : places ≡ padded n (take len places)
