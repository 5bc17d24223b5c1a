-- What a line makes of reading, or the end of the bytes in its place.
use Rattle.std.proofs.Common.{◌≡◌, ℕ, ◌+◌, Bool, true, false, List, ◌∷◌, ◌++◌, length, Ok, Err, refl, arith, ap, subst, ◌∙◌, inl, inr}
use Rattle.std.specs.Prelude.{All, IsTrue}
use Rattle.std.proofs.lemmas.Bool.{false_from_ne_true}
use Rattle.std.proofs.lemmas.Grind.{common_steps}
use Rattle.search_model.specs.Problem.{Problem}
use Rattle.tree_format.specs.declared.plan_line.Family.{Family}
use Rattle.tree_format.specs.declared.plan_line.Stage.{Stage}
use Rattle.tree_format.specs.declared.plan_line.Stage.TheVariants as due
use Rattle.tree_format.specs.declared.kind.PlanKind.{PlanKind}
use Rattle.tree_format.specs.declared.kind.PlanKind.TheVariants.{EarlyEnd}
use Rattle.text_rows.specs.Lines.{HasNoFeed, lines_text, after_lines}
use Rattle.text_rows.specs.Fields.{exact_fields}
use Rattle.text_rows.specs.LineMachine.{read_from, AreTaken, HasFault}
use Rattle.text_rows.specs.WholeLines.{whole_lines}
use Rattle.text_rows.proofs.LineMachine as machine
use Rattle.text_rows.proofs.WholeLines.{whole_line, no_whole_line, lines_before, after_before}
use Rattle.tree_format.specs.Reading.{line_at, is_ended, at_line_number, Progress, unread, behind, plan_lines, unless_more, alone, front_of, text_at}

-- the end was read, or it wasn't
pub ended_stage : (stage : Stage) → is_ended stage ≡ true → stage ≡ due.Ended
ended_stage (due.Version family) e = absurd (let bad : ⊥ = cc in bad)
ended_stage due.Path e = absurd (let bad : ⊥ = cc in bad)
ended_stage due.Chance e = absurd (let bad : ⊥ = cc in bad)
ended_stage due.Ceiling e = absurd (let bad : ⊥ = cc in bad)
ended_stage due.Count e = absurd (let bad : ⊥ = cc in bad)
ended_stage (due.Records left) e = absurd (let bad : ⊥ = cc in bad)
ended_stage due.Ended e = refl

pub unended_stage : (stage : Stage) → is_ended stage ≡ false → stage ≡ due.Ended → ⊥
unended_stage stage unended ended = let bad : true ≡ false = subst (λ (s : Stage). is_ended s ≡ false) ended unended in cc

pub unended : (stage : Stage) → (stage ≡ due.Ended → ⊥) → is_ended stage ≡ false
unended stage goes = false_from_ne_true (is_ended stage) (λ e. goes (ended_stage stage e))

-- Behind right lines.
module _ (family : Family) (p : Problem) (before : List (List ℕ)) (s : Progress) (feeds : All HasNoFeed before) (right : AreTaken (plan_lines p) (unread family) before s) where
  fault_behind : (kind : PlanKind) (rest : List ℕ) → (s.due.stage ≡ due.Ended → ⊥) → HasFault (plan_lines p) s (whole_lines rest) kind → text_at family p (lines_text before ++ rest) ≡ Err (at_line_number (1 + length before) kind)
  fault_behind kind rest goes here =
      let text = lines_text before ++ rest in
      ap (alone text) ((machine.first_fault_decides (plan_lines p) (unread family) 1 (whole_lines text) (at_line_number (1 + length before) kind) refl).1 (record {
        before = before;
        left = whole_lines rest;
        reached = s;
        kind = kind;
        whole = lines_before before rest feeds;
        right = right;
        goes = unended s.due.stage goes;
        here = here;
        is = refl;
      }))

  -- a line with a fault
  pub at_fault : (kind : PlanKind) (line after : List ℕ) → (s.due.stage ≡ due.Ended → ⊥) → HasNoFeed line → line_at p s.due (exact_fields line) ≡ Err kind → text_at family p (lines_text before ++ (line ++ 10 ∷ after)) ≡ Err (at_line_number (1 + length before) kind)
  at_fault kind line after goes free e =
      fault_behind kind (line ++ 10 ∷ after) goes (inr (record { line = line; more = whole_lines after; whole = whole_line _ line after refl free; wrong = ap (behind p s) e }))

  -- a line without its line feed
  pub at_early : (rest : List ℕ) → (s.due.stage ≡ due.Ended → ⊥) → HasNoFeed rest → text_at family p (lines_text before ++ rest) ≡ Err (at_line_number (1 + length before) EarlyEnd)
  at_early rest goes free = fault_behind EarlyEnd rest goes (inl (refl, no_whole_line rest free))

  -- the end
  pub at_end : (rest : List ℕ) → s.due.stage ≡ due.Ended → text_at family p (lines_text before ++ rest) ≡ unless_more (1 + length before) rest s.plan
  at_end rest ended =
      let text = lines_text before ++ rest in
      let number : length before + 1 ≡ 1 + length before = omega arith in
      let read : front_of family p text ≡ Ok (record { state = s; line = length before }) =
      ap (read_from (plan_lines p) (unread family) 1) (lines_before before rest feeds) ∙ machine.reads_to (plan_lines p) before (whole_lines rest) (unread family) s 1 (length before) right refl (ap is_ended ended) number in
      ap (alone text) read
      ∙ ap (λ (n : ℕ). unless_more n (after_lines (length before) text) s.plan) number
      ∙ ap (λ (t : List ℕ). unless_more (1 + length before) t s.plan) (after_before before rest feeds)

-- a test that the end was read failed
pub goes_on : (ended : Bool) (stage : Stage) → (stage ≡ due.Ended → IsTrue ended) → ended ≡ false → stage ≡ due.Ended → ⊥
goes_on ended stage test failed e = let yes_ended = test e in grind (arith, common_steps)
