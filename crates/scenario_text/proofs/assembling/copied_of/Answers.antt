use Rattle.std.proofs.Common.{◌≡◌, ℕ, ◌<◌, List, ap, ◌∙◌, arith, subst}
use Rattle.std.specs.Prelude.{slice_index, sum_by}
use Rattle.period_rows.specs.declared.part.CellPart.{CellPart}
use Rattle.drift_chain.specs.DriftRows.{part_in}
use Rattle.scenario_text.proofs.assembling.copied_of.Goals as goal

pub returns-clause-first : goal.returns-clause-first
returns-clause-first c =
    let P : List CellPart → Type 0 = λ es. (d : ℕ) → d < c.len.result → slice_index c.in_ok-first.first.items d ≡ part_in es d in
    let each = subst P c.deref.ensures.value c.in_ok-first.ensures.parts in
    λ d lt. each d (omega (arith, lt, c.len.ensures.len))

pub returns-clause-first_total : goal.returns-clause-first_total
returns-clause-first_total c = c.in_ok-first.ensures.total ∙ ap (λ (es : List CellPart). sum_by (λ e. e.part) es) c.deref.ensures.value
