-- The canonical text reads back, and a text spells one scenario.
use Rattle.std.specs.Prelude.{◌≡◌, ◌≢◌, ◌↔◌, ◌<◌, ◌≤◌, ℕ, List, [], ◌∷◌, ◌++◌, length, Ok, codes}
use Rattle.drift_chain.specs.DriftRows.{row_of}
use Rattle.sweep_table.specs.LookParts.{factor_of}
use Rattle.search_model.specs.Problem.{Problem, IsProblem}
use Rattle.search_model.specs.Same.{AreSame}
use Rattle.text_rows.specs.Lines.{lines_of}
use Rattle.text_rows.specs.Fields.{fields_of}
use Rattle.scenario_text.specs.Reading.{Front, front_of}
use Rattle.scenario_text.specs.declared.draft.TextVersion.TheVariants.{One}
use Rattle.scenario_text.specs.State.{State}
use Rattle.scenario_text.specs.Canonical.{canonical_text, state_of_problem}
use Rattle.scenario_text.specs.Scenarios.{Says, IsFront, IsTextOf}

-- what was read is one problem
abbrev pub OneProblem : Type 0
OneProblem = (s : State) (p q : Problem) → Says s p → Says s q → p ≡ q

-- a text that reads up to its end spells a scenario, and no other
abbrev pub EveryTextSpellsOne : Type 0
EveryTextSpellsOne = (text : List ℕ) (front : Front) → front_of text ≡ Ok front → (p : Problem) × Says front.state p × ((q : Problem) → Says front.state q → q ≡ p)

-- what a text of version 1 can say: the positions are the cells with the same names, drift and looks are the same in every
-- period, and each look covers the cell of its position's number alone
pub record IsPlain (p : Problem) : Type 0 where
  pub positions : p.position_names ≡ p.names
  pub drift : (t c : ℕ) → 1 ≤ t → t < p.horizon → c < p.cells → row_of p.drift t c ≡ row_of p.drift 1 c
  pub looks : (t a c : ℕ) → 1 ≤ t → t ≤ p.horizon → a < p.positions → c < p.cells → factor_of p.sweep t a c ≡ factor_of p.sweep 1 a c
  pub own : (a c : ℕ) → a < p.positions → c < p.cells → a ≢ c → factor_of p.sweep 1 a c ≡ p.sweep.denominator

-- the canonical text is of version 1 exactly where such a text can say the problem
abbrev pub CanonicalVersion : Type 0
CanonicalVersion = (p : Problem) → IsProblem p → ((state_of_problem p).version ≡ One) ↔ IsPlain p

-- the canonical text of a problem is a text of the same problem, and what follows it is left
abbrev pub CanonicalFrontReadsBack : Type 0
CanonicalFrontReadsBack = (p : Problem) (rest : List ℕ) → IsProblem p → (q : Problem) × AreSame p q × IsFront (canonical_text p ++ rest) q (length (canonical_text p))

-- and of that problem alone
abbrev pub CanonicalReadsBack : Type 0
CanonicalReadsBack = (p : Problem) → IsProblem p → (q : Problem) × AreSame p q × IsTextOf q (canonical_text p)

-- the last line has the one word `end`, and its line feed
pub record EndsWithEnd (text : List ℕ) : Type 0 where
  pub before : List (List ℕ)
  pub last : List ℕ
  pub lines : lines_of text ≡ before ++ last ∷ []
  pub word : fields_of last ≡ codes "end" ∷ []
  pub feed : (start : List ℕ) × (text ≡ start ++ 10 ∷ [])

-- whatever follows such a line, the same scenario of the same length stands at the front, or the same fault
abbrev pub FrontIgnoresRest : Type 0
FrontIgnoresRest = (front rest : List ℕ) → EndsWithEnd front → (front_of (front ++ rest) ≡ front_of front) × ((p : Problem) (n : ℕ) → IsFront front p n ↔ IsFront (front ++ rest) p n)
