-- A share in percent, as text.
use Rattle.std.specs.Prelude.{ℕ, ◌≡◌, ◌+◌, ◌*◌, ◌/◌, ◌%◌, List, [], ◌∷◌, ◌++◌}
use Rattle.std.specs.Fmt.{decimal}

-- how many thousandths of a percent v of w are, cut off to a whole number
abbrev pub thousandths : ℕ → ℕ → ℕ
thousandths v w = 100000 * v / w

-- the three digits of a number below 1000
abbrev pub three_digits : ℕ → List ℕ
three_digits m = (48 + m / 100) ∷ (48 + m / 10 % 10) ∷ (48 + m % 10) ∷ []

-- the whole percent, a point, and the thousandths in three digits
abbrev pub percent_text : ℕ → ℕ → List ℕ
percent_text v w = decimal (thousandths v w / 1000) ++ 46 ∷ three_digits (thousandths v w % 1000)

-- 66.666, 6.250, 100.000 and 0.000
pub record WorkedPercents : Type 0 where
  pub two_of_three : percent_text 2 3 ≡ 54 ∷ 54 ∷ 46 ∷ 54 ∷ 54 ∷ 54 ∷ []
  pub one_of_sixteen : percent_text 1 16 ≡ 54 ∷ 46 ∷ 50 ∷ 53 ∷ 48 ∷ []
  pub all : percent_text 1 1 ≡ 49 ∷ 48 ∷ 48 ∷ 46 ∷ 48 ∷ 48 ∷ 48 ∷ []
  pub none : percent_text 0 5 ≡ 48 ∷ 46 ∷ 48 ∷ 48 ∷ 48 ∷ []
