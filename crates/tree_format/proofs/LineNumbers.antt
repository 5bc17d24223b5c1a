-- The number of a line is small.
use Rattle.std.proofs.Common.{◌≡◌, ℕ, ◌≤◌, ◌+◌, Bool, true, false, cond, List, Result, Ok, Err, sym, subst, arith, inl, inr}
use Rattle.std.specs.Prelude.{IfOk}
use Rattle.std.proofs.lemmas.Bool.{cond_both}
use Rattle.search_model.specs.Problem.{Problem, IsProblem}
use Rattle.tree_format.specs.declared.kind.PlanKind.{PlanKind}
use Rattle.tree_format.specs.declared.kind.PlanKind.TheVariants.{BadLine}
use Rattle.tree_format.specs.declared.due.Due.{Due}
use Rattle.tree_format.specs.declared.plan_line.Dialect.{Dialect}
use Rattle.tree_format.specs.declared.plan_line.Family.{Family}
use Rattle.tree_format.specs.declared.plan_line.Family.TheVariants.{Plans, Gaps}
use Rattle.tree_format.specs.Dialects.{family_of, most_records, has_open}
use Rattle.tree_format.specs.declared.plan_line.Stage.{Stage}
use Rattle.tree_format.specs.declared.plan_line.Stage.TheVariants as due
use Rattle.tree_format.specs.declared.plan_line.PlanLine.{PlanLine}
use Rattle.tree_format.specs.Reading.{line_at, stage_line, next}
use Rattle.tree_format.specs.FeedSteps.{lines_left, IsNumbered}
use Rattle.tree_format.proofs.SpelledLines.{version_told, path_told, chance_told, ceiling_told, count_told, record_told}
use Rattle.text_rows.proofs.Results.{err_ok}

abbrev Falls : Problem → Due → PlanLine → Type 0
Falls p d said = lines_left (next p d said).stage + 1 ≤ lines_left d.stage

-- no text has more records than that
pub few_records : (family : Family) → most_records family ≤ 4194305
few_records Plans = omega arith
few_records Gaps = omega arith

-- whether a ceiling follows or not
chance_falls : (b : Bool) → lines_left (cond b due.Ceiling due.Count) + 1 ≤ lines_left due.Chance
chance_falls true = omega arith
chance_falls false = omega arith

module _ (p : Problem) (h : IsProblem p) (v : Dialect) (expected : List (List ℕ)) where
  abbrev at_stage : Stage → Due
  at_stage stage = record { dialect = v; stage = stage; expected = expected }

  pub stage_falls : (stage : Stage) (fields : List (List ℕ)) (said : PlanLine) → stage_line p v stage expected fields ≡ Ok said → Falls p (at_stage stage) said
  stage_falls (due.Version family) fields said e = subst (Falls p (at_stage (due.Version family))) (sym (version_told family fields said e).is) (omega arith)
  stage_falls due.Path fields said e = subst (Falls p (at_stage due.Path)) (sym (path_told p h fields said e).is) (omega arith)
  stage_falls due.Chance fields said e = subst (Falls p (at_stage due.Chance)) (sym (chance_told fields said e).is) (chance_falls (has_open v))
  stage_falls due.Ceiling fields said e = subst (Falls p (at_stage due.Ceiling)) (sym (ceiling_told fields said e).is) (omega arith)
  stage_falls due.Count fields said e =
      let told = count_told (most_records (family_of v)) fields said e in
      subst (Falls p (at_stage due.Count)) (sym told.is) (omega (arith, told.few, few_records (family_of v)))
  stage_falls (due.Records left) fields said e = elim (record_told p h v left expected fields said e) [
    | inl told ↦ subst (Falls p (at_stage (due.Records left))) (sym told.is) (omega (arith, told.more))
    | inr told ↦ subst (Falls p (at_stage (due.Records left))) (sym told.is) (omega arith)
  ]
  stage_falls due.Ended fields said e = absurd (err_ok BadLine said e)

line_falls : (p : Problem) → IsProblem p → (d : Due) (fields : List (List ℕ)) (said : PlanLine) → line_at p d fields ≡ Ok said → Falls p d said
unfolding line_at
line_falls p h d fields said e =
    cond_both _ _ _ (λ (x : Result PlanLine PlanKind). x ≡ Ok said → Falls p d said) (λ _ e'. absurd (err_ok BadLine said e')) (λ _ e'. stage_falls p h d.dialect d.expected d.stage fields said e') e

pub line_numbered : (p : Problem) → IsProblem p → (d : Due) (fields : List (List ℕ)) (said : PlanLine) (number : ℕ) → line_at p d fields ≡ Ok said → IsNumbered d.stage number → IsNumbered (next p d said).stage (number + 1)
line_numbered p h d fields said number e small = let falls = line_falls p h d fields said e in omega (arith, falls, small)

pub said_numbered : (p : Problem) → IsProblem p → (d : Due) (fields : List (List ℕ)) (r : Result PlanLine PlanKind) → r ≡ line_at p d fields → IfOk r (λ said. (number : ℕ) → IsNumbered d.stage number → IsNumbered (next p d said).stage (number + 1))
said_numbered p h d fields (Ok said) e = λ number small. line_numbered p h d fields said number (sym e) small
said_numbered p h d fields (Err kind) e = tt
