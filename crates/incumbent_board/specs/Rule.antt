-- The rule of a board's cell: one history, of which each pass has seen a beginning, and what each step of a pass tells it.
use Rattle.std.specs.Prelude.{◌≡◌, ℕ, ◌+◌, ◌<◌, ◌≤◌, List, [], ◌∷◌, ◌++◌, drop, length, All, if◌then◌else◌, nat_eq, nat_lt, sum_by, IsPermutation, IsTrue, MatchBool}
use Rattle.std.specs.List.{flat_map}
use mathlib.Core.Option.{some}
use mathlib.Core.List.{IsPrefix}
use lib.ListN.{get_elem?}
use lib.Pointwise.{pointwise}
use Rattle.search_model.specs.declared.standing.Standing.{Standing}
use Rattle.search_model.specs.Order.{better}
use Rattle.incumbent_board.specs.declared.sight.Sight.{Sight}
use Rattle.incumbent_board.specs.History.{first_of, last_from, last_of, Rises, NoneBetter, MayStand}
use Rattle.incumbent_board.specs.Words.{words_of, blank}

-- for how many seats the passes of a board stand together
abbrev pub ALL : ℕ
ALL = 16

-- what a pass knows, part by part
abbrev pub sight : ℕ → List Standing → List (List Standing) → List Standing → List Standing → Sight
sight seats seen told placed behind = record { seats = seats; seen = seen; told = told; placed = placed; behind = behind }

-- what a pass knows that stands for no seat
abbrev pub spent : Sight
spent = sight 0 [] [] [] []

-- the cell's words, by the history: blank until an offer is placed, and then the words of the last standing
abbrev pub cell_of : List Standing → List ℕ
cell_of [] = blank
cell_of (first ∷ []) = blank
cell_of (first ∷ s ∷ later) = words_of (last_from s later)

-- a standing that was placed: it may stand on the board, and its path fits 32 bytes
pub record FitsWords (first s : Standing) : Type 0 where
  pub stands : MayStand first s
  pub short : length s.path ≤ 32
  pub bytes : All (λ c. c < 256) s.path

-- what a pass knows, beside the history: it and those that were joined to it have seen beginnings, none of its offers is
-- better than the last standing, and it knows nothing where it stands for no seat
pub record Knows (history : List Standing) (v : Sight) : Type 0 where
  pub seen : IsPrefix v.seen history
  pub told : All (λ seen. IsPrefix seen history) v.told
  pub best : NoneBetter (v.placed ++ v.behind) (last_of history)
  pub none : v.seats ≡ 0 → v ≡ spent

-- the rule, of the six words in the cell and of what each pass knows; there is no history before the board is started
pub record IsKept (words : List ℕ) (views : List Sight) : Type 0 where
  pub history : List Standing
  pub rises : Rises (first_of history) (drop 1 history)
  pub fits : All (FitsWords (first_of history)) (drop 1 history)
  pub cell : words ≡ cell_of history
  -- the passes stand for all seats
  pub all : sum_by (λ v. v.seats) views ≡ ALL
  -- one of them has seen the whole history
  pub whole : (port : ℕ) × (v : Sight) × (get_elem? views port ≡ some v) × (v.seen ≡ history)
  -- the entries but the first are the placed offers of all passes
  pub placed : IsPermutation (drop 1 history) (flat_map (λ v. v.placed) views)
  pub each : (port : ℕ) (v : Sight) → get_elem? views port ≡ some v → Knows history v

-- a step at which the cell held these words shows the whole history
pub record Sees (v : Sight) (words : List ℕ) (w : Sight) : Type 0 where
  pub seen : IsPrefix v.seen w.seen
  pub told : All (λ seen. IsPrefix seen w.seen) v.told
  pub rises : Rises (first_of w.seen) (drop 1 w.seen)
  pub fits : All (FitsWords (first_of w.seen)) (drop 1 w.seen)
  pub cell : words ≡ cell_of w.seen
  pub best : NoneBetter (w.placed ++ w.behind) (last_of w.seen)

-- a load
abbrev pub Looks : Sight → List ℕ → List ℕ → Sight → Type 0
Looks v x y w = Sees v x w × (w ≡ sight v.seats w.seen v.told v.placed v.behind)

-- the offers that are behind, where s is offered against the last standing of a history
abbrev pub behind_with : Standing → List Standing → List Standing → List Standing
behind_with s history behind = if better s (last_of history) then behind else behind ++ s ∷ []

-- a load for an offer, or a replace that failed: the offer is behind where the last standing shows it to be
abbrev pub Weighs : Standing → Sight → List ℕ → List ℕ → Sight → Type 0
Weighs s v x y w = Sees v x w × (w ≡ sight v.seats w.seen v.told v.placed (behind_with s w.seen v.behind))

-- a replace: the offer comes next in the history
pub record Places (s : Standing) (v w : Sight) : Type 0 where
  pub before : List Standing
  pub seen : IsPrefix v.seen before
  pub rises : Rises (first_of w.seen) (drop 1 w.seen)
  pub better : IsTrue (better s (last_of before))
  pub after : w ≡ sight v.seats (before ++ s ∷ []) v.told (v.placed ++ s ∷ []) v.behind

-- a try to replace what the cell is expected to hold
abbrev pub Tries : List ℕ → Standing → Sight → List ℕ → List ℕ → Sight → Type 0
Tries expected s v x y w = MatchBool (pointwise nat_eq x expected) (Places s v w) (Weighs s v x y w)

-- a load with a pass that stands for all seats: the history's entries but the first are the offers that it placed
abbrev pub Closes : Sight → List ℕ → List ℕ → Sight → Type 0
Closes v x y w = Looks v x y w × (v.seats ≡ ALL → IsPermutation (drop 1 w.seen) v.placed)

-- the longer of two lists
abbrev pub longer : List Standing → List Standing → List Standing
longer xs ys = if nat_lt (length xs) (length ys) then ys else xs

-- what a pass knows after another was joined to it: the longer history, and both lists of offers
abbrev pub joined : Sight → Sight → Sight
joined v w = sight (v.seats + w.seats) (longer v.seen w.seen) ((v.seen ∷ v.told) ++ w.seen ∷ w.told) (v.placed ++ w.placed) (v.behind ++ w.behind)
