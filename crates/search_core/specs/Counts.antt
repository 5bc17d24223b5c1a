-- Lists up to order: the same prefixes, each as often.
use Rattle.std.specs.Prelude.{ℕ, ◌+◌, ◌≡◌, List, [], ◌∷◌, bytes_eq, if◌then◌else◌}

-- how often a prefix stands in a list
abbrev pub count_of : List ℕ → List (List ℕ) → ℕ
count_of q [] = 0
count_of q (r ∷ rs) = (if bytes_eq r q then 1 else 0) + count_of q rs

-- the lists hold each prefix equally often
abbrev pub SameItems : List (List ℕ) → List (List ℕ) → Type 0
SameItems qs rs = (q : List ℕ) → count_of q qs ≡ count_of q rs
