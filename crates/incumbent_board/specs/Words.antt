-- The six words of a standing: its value in two, the high word first, and the numbers of 32 positions in four, eight in a
-- word, with zeros for those that the path doesn't have.
use Rattle.std.specs.Prelude.{◌≡◌, ◌<◌, ◌≤◌, length, All, if◌then◌else◌, nat_eq, ℕ, ◌+◌, ◌*◌, ◌/◌, ◌%◌, ◌^◌, ◌-◌, List, [], ◌∷◌, map, take, drop, replicate, slice_index}
use Rattle.std.specs.Int.{w64, to_be_bytes, from_be_bytes}
use Rattle.std.specs.List.{flat_map}
use lib.Pointwise.{pointwise}
use Rattle.search_model.specs.declared.standing.Standing.{Standing}
use Rattle.search_model.specs.PathPlaces.{padded}

-- the word of the eight positions from a place on, the first of them in the highest byte
abbrev pub eight_from : List ℕ → ℕ → ℕ
eight_from places from = from_be_bytes w64 (take 8 (drop from places))

-- the six words of a standing
abbrev pub words_of : Standing → List ℕ
words_of s = s.value / 2 ^ 64 ∷ s.value % 2 ^ 64 ∷ map (eight_from (padded 32 s.path)) (0 ∷ 8 ∷ 16 ∷ 24 ∷ [])

-- the standing, with a path of so many positions, that six words spell
abbrev pub spelled_by : ℕ → List ℕ → Standing
spelled_by size words = record {
  path = take size (flat_map (to_be_bytes w64) (drop 2 words));
  value = slice_index words 0 * 2 ^ 64 + slice_index words 1;
}

-- six words that no standing has: the board is blank until an offer is placed
abbrev pub blank : List ℕ
blank = replicate 6 (2 ^ 64 - 1)

-- the standing that the words of a board's cell tell: the first one as long as they are blank
abbrev pub told_by : Standing → List ℕ → Standing
told_by first words = if pointwise nat_eq words blank then first else spelled_by (length first.path) words

-- packing loses nothing: a standing with a path of byte numbers is what its words spell
abbrev pub WordsSpellStandings : Type 0
WordsSpellStandings = (s : Standing) → length s.path ≤ 32 → All (λ c. c < 256) s.path → spelled_by (length s.path) (words_of s) ≡ s
