-- The fault that reading gives is the first one.
use Rattle.std.proofs.Common.{◌≡◌, ℕ, ◌+◌, List, [], ◌∷◌, Result, Ok, Err, refl, sym, ap, ◌∙◌, inl, inr}
use Rattle.search_model.specs.Problem.{Problem}
use Rattle.bound_tree.specs.declared.gap.GapPlan.{GapPlan}
use Rattle.tree_format.specs.declared.kind.PlanKind.TheVariants.{Rest}
use Rattle.tree_format.specs.declared.kind.PlanFault.{PlanFault}
use Rattle.tree_format.specs.declared.plan_line.Family.{Family}
use Rattle.text_rows.specs.Lines.{after_lines}
use Rattle.text_rows.specs.LineMachine.{Reached}
use Rattle.text_rows.specs.WholeLines.{whole_lines}
use Rattle.text_rows.proofs.LineMachine as machine
use Rattle.tree_format.specs.Reading.{at_line_number, Progress, unread, plan_lines, front_of, unless_more, alone}
use Rattle.tree_format.specs.Faults.{IsRest, IsFirstFault}
use Rattle.tree_format.specs.ReadingLaws.{FirstFaultDecides}

-- the fault of what follows the line `end`
more_told : (number : ℕ) (rest : List ℕ) (plan : GapPlan) (fault : PlanFault) → unless_more number rest plan ≡ Err fault → (rest ≡ [] → ⊥) × (at_line_number number Rest ≡ fault)
more_told number [] plan fault e = absurd (let bad : ⊥ = cc in bad)
more_told number (c ∷ cs) plan fault e = ((λ none. let bad : ⊥ = cc in bad), (let same : at_line_number number Rest ≡ fault = cc in same))

more_given : (number : ℕ) (rest : List ℕ) (plan : GapPlan) → (rest ≡ [] → ⊥) → unless_more number rest plan ≡ Err (at_line_number number Rest)
more_given number [] plan some = absurd (some refl)
more_given number (c ∷ cs) plan some = refl

module _ (family : Family) (p : Problem) (text : List ℕ) (fault : PlanFault) where
  fault_told : (r : Result (Reached Progress) PlanFault) → front_of family p text ≡ r → alone text r ≡ Err fault → IsFirstFault family p text fault
  fault_told (Err other) is e = let same : other ≡ fault = cc in inl ((machine.first_fault_decides (plan_lines p) (unread family) 1 (whole_lines text) fault refl).0 (is ∙ ap Err same))
  fault_told (Ok front) is e =
      let more = more_told (front.line + 1) (after_lines front.line text) front.state.plan fault e in
      inr (record { front = front; reads = is; some = more.0; is = sym more.1 })

  rest_given : IsRest family p text fault → alone text (front_of family p text) ≡ Err fault
  rest_given h = ap (alone text) h.reads ∙ more_given (h.front.line + 1) (after_lines h.front.line text) h.front.state.plan h.some ∙ ap Err (sym h.is)

pub first_fault_decides : FirstFaultDecides
first_fault_decides family p text fault = (
  λ e. fault_told family p text fault (front_of family p text) refl e,
  λ h. elim h [
    | inl first ↦ ap (alone text) ((machine.first_fault_decides (plan_lines p) (unread family) 1 (whole_lines text) fault refl).1 first)
    | inr rest ↦ rest_given family p text fault rest
  ],
)
