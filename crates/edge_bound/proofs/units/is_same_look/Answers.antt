use Rattle.std.proofs.Common.{sym, ◌∙◌}
use Rattle.period_rows.proofs.SameRows.{same_entries}
use Rattle.edge_bound.proofs.units.is_same_look.Goals as goal

pub returns : goal.returns
returns c told =
    let same = same_entries c.parts.result.now c.parts-2.result.now (sym c.eq.ensures ∙ told) in
    sym c.look_from-here.ensures.row ∙ sym c.parts.ensures ∙ same ∙ c.parts-2.ensures ∙ c.look_from-second.ensures.row
