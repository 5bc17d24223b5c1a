-- The numbers of a report, as the code carries them.
use Rattle.std.specs.Prelude.{ℕ, ◌≡◌, List, Some, map}
use Rattle.search_model.specs.Problem.{Problem}
use Rattle.belief_update.specs.Belief.{IsBelief}
use Rattle.mission_report.specs.declared.course.Course.{Course}
use Rattle.mission_report.specs.Account.{values_along}

-- the values of a path up to each period, and the belief after all of its looks
pub record IsCourse (p : Problem) (q : List ℕ) (course : Course) : Type 0 where
  pub values : course.values.items ≡ values_along p q
  pub belief : IsBelief p (map Some q) course.belief
