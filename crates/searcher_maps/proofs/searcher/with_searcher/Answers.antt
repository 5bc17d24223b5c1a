use Rattle.std.proofs.Common.{sym, ap, subst, ◌∙◌}
use Rattle.drift_chain.specs.DriftRows.{DriftRows, drift_cells}
use Rattle.search_model.specs.declared.scenario.Parts.{Parts}
use Rattle.searcher_maps.specs.Target.{HasSameTarget}
use Rattle.searcher_maps.proofs.Searched.{copied_rows, same_target, no_fault}
use Rattle.searcher_maps.proofs.searcher.with_searcher.Goals as goal

pub scenario_of-requires : goal.scenario_of-requires
scenario_of-requires c =
    let p = c.args.sc.now in
    let h = c.horizon.ensures.sound in
    let is = c.drift.ensures.value in
    let cells = c.in_ok-copy_of.ensures.cells ∙ ap drift_cells is ∙ h.drift_cells in
    let denominator = c.in_ok-copy_of.ensures.denominator ∙ ap (λ (d : DriftRows). d.denominator) is in
    no_fault p h _ c.in_ok-names_of.ensures c.in_ok-first_of.ensures c.horizon.ensures.value c.total.ensures cells denominator c.requires.names c.requires.start c.requires.positions c.requires.cells c.requires.fits

pub returns-clause-target : goal.returns-clause-target
returns-clause-target c =
    let p = c.args.sc.now in
    let h = c.horizon.ensures.sound in
    let is = c.drift.ensures.value in
    let cells = c.in_ok-copy_of.ensures.cells ∙ ap drift_cells is ∙ h.drift_cells in
    let denominator = c.in_ok-copy_of.ensures.denominator ∙ ap (λ (d : DriftRows). d.denominator) is in
    let rows = copied_rows _ _ p.drift c.horizon-2.result p.horizon p.cells is c.horizon-2.ensures.value h.drift_cells c.in_ok-copy_of.ensures.rows in
    let parts : Parts = record {
      names = c.in_ok-names_of.field-0;
      positions = c.args.searcher.positions;
      horizon = c.horizon.result;
      start = c.args.searcher.start;
      total = c.total.result;
      first = c.in_ok-first_of.field-0;
      grid = c.args.searcher.grid;
      drift = c.in_ok-copy_of.field-0;
      sweep = c.args.searcher.sweep;
    } in
    subst (HasSameTarget p) (sym c.scenario_of.ensures.made) (same_target p h parts c.in_ok-names_of.ensures c.in_ok-first_of.ensures c.horizon.ensures.value c.total.ensures cells denominator rows)
