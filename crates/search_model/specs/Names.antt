-- Names of cells and of positions.
use Rattle.std.specs.Prelude.{ℕ, ◌≡◌, ◌≤◌, ◌<◌, Bool, ◌&&◌, ◌||◌, ◌==◌, nat_le, List, [], length, slice_index_or, take, All, Contains, IsTrue}
use Rattle.std.specs.List.{list_all}

-- a to z, A to Z, 0 to 9, `_` and `-`
abbrev pub is_name_byte : ℕ → Bool
is_name_byte b = (nat_le 97 b && nat_le b 122) || ((nat_le 65 b && nat_le b 90) || ((nat_le 48 b && nat_le b 57) || (b == 95 || b == 45)))

-- 1 to 24 such bytes
pub record IsName (name : List ℕ) : Type 0 where
  pub some : 1 ≤ length name
  pub short : length name ≤ 24
  pub bytes : IsTrue (list_all is_name_byte name)

-- whether bytes are a name
unfoldable pub is_name : List ℕ → Bool
is_name name = nat_le 1 (length name) && (nat_le (length name) 24 && list_all is_name_byte name)

-- the name of a number
abbrev pub name_in : List (List ℕ) → ℕ → List ℕ
name_in names c = slice_index_or names c []

-- the name of c stands before it, too
abbrev pub IsRepeated : List (List ℕ) → ℕ → Type 0
IsRepeated names c = (c < length names) × Contains (take c names) (name_in names c)

-- so many names, of which no two are the same
pub record AreNames (n : ℕ) (names : List (List ℕ)) : Type 0 where
  pub count : length names ≡ n
  pub each : All IsName names
  pub differ : (c : ℕ) → ¬ IsRepeated names c
