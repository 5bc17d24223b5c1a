use Rattle.std.proofs.Common.{◌≡◌, ◌<◌, ◌∙◌, [], length, map, ap, sym, get_or, arith}
use Rattle.std.proofs.Math.ListN.{length-map}
use Rattle.std.proofs.lemmas.List.{get_or-map}
use Rattle.std.specs.List.{find}
use Rattle.period_rows.specs.Changes.{is_for}
use Rattle.drift_chain.specs.DriftRows.{drift_cells}
use Rattle.drift_chain.specs.Changes.{drift_by, changes_in}
use Rattle.drift_chain.proofs.DriftChanges.{row_of-base, row_of-is}
use Rattle.drift_chain.proofs.chain.Drift.row.Goals as goal

pub returns-in-Some-clause-value : goal.returns-in-Some-clause-value
returns-in-Some-clause-value c =
    let inside = c.self.inside in
    let rows = map (λ row. row.items) inside.rows.items in
    let drift = drift_by inside.denominator rows inside.changes in
    let cell : c.args.c < length inside.rows.items = omega (arith, c.requires.cell, ap drift_cells c.self.view_is, length-map inside.rows.items (λ row. row.items)) in
    let own : c.deref-own.result.now ≡ get_or rows c.args.c [] = c.deref-own.ensures.value ∙ ap (λ row. row.items) c.index.ensures ∙ sym (get_or-map (λ row. row.items) inside.rows.items c.args.c c.index.result.now [] cell) in
    rw (← c.self.view_is) (c.row_or.ensures ∙ row_of-is drift c.args.t c.args.c _ _ (ap changes_in c.in-Some.is) (sym own))

pub returns-in-None-clause-value : goal.returns-in-None-clause-value
returns-in-None-clause-value c =
    let inside = c.self.inside in
    let rows = map (λ row. row.items) inside.rows.items in
    let drift = drift_by inside.denominator rows inside.changes in
    let cell : c.args.c < length inside.rows.items = omega (arith, c.requires.cell, ap drift_cells c.self.view_is, length-map inside.rows.items (λ row. row.items)) in
    let own : c.deref-own.result.now ≡ get_or rows c.args.c [] = c.deref-own.ensures.value ∙ ap (λ row. row.items) c.index.ensures ∙ sym (get_or-map (λ row. row.items) inside.rows.items c.args.c c.index.result.now [] cell) in
    rw (← c.self.view_is) (own ∙ sym (row_of-base drift c.args.t c.args.c (ap (λ table. find (is_for c.args.t c.args.c) (changes_in table)) c.in-None.is)))
