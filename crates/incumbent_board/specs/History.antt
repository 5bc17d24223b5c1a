-- The history of a board: the standings that stood on it, one after another.
use Rattle.std.specs.Prelude.{◌≡◌, ◌<◌, ◌^◌, false, List, [], ◌∷◌, length, All, IsTrue}
use Rattle.search_model.specs.declared.standing.Standing.{Standing}
use Rattle.search_model.specs.Order.{better}

-- stands for the first and the last standing of a history that has none
abbrev pub nowhere : Standing
nowhere = record { path = []; value = 0 }

-- the standing that a history begins with
abbrev pub first_of : List Standing → Standing
first_of [] = nowhere
first_of (s ∷ later) = s

-- the last of a standing and those after it
abbrev pub last_from : Standing → List Standing → Standing
last_from s [] = s
last_from s (t ∷ later) = last_from t later

-- the standing that a history ends with
abbrev pub last_of : List Standing → Standing
last_of [] = nowhere
last_of (s ∷ later) = last_from s later

-- each standing is better than the one before, which for the first of them is s
abbrev pub Rises : Standing → List Standing → Type 0
Rises s [] = Unit {0}
Rises s (t ∷ later) = IsTrue (better t s) × Rises t later

-- a history: it begins with the first standing, and each later one is better than the one before
pub record IsHistory (first : Standing) (history : List Standing) : Type 0 where
  pub later : List Standing
  pub begins : history ≡ first ∷ later
  pub rises : Rises first later

-- none of these standings is better than s
abbrev pub NoneBetter : List Standing → Standing → Type 0
NoneBetter ts s = All (λ t. better t s ≡ false) ts

-- a standing that a board may have which begins with another: a path of the same length, and a value below 2^127
pub record MayStand (first s : Standing) : Type 0 where
  pub size : length s.path ≡ length first.path
  pub value : s.value < 2 ^ 127
