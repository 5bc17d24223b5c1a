use Rattle.std.proofs.Common.{◌≡◌, ◌∙◌, ap, sym, arith, [], ◌∷◌, slice_index}
use Rattle.std.proofs.lemmas.List.{get_or_default}
use Rattle.sweep_table.specs.LookParts.{look_row, misses}
use Rattle.sweep_table.proofs.Factors.{look_row-own}
use Rattle.sweep_table.proofs.Views.{plain-seen, plain-inside, prints-seen, prints-inside}
use Rattle.sweep_table.proofs.table.Sweep.look.Goals as goal

pub index-requires : goal.index-requires
index-requires c = omega (arith, plain-inside _ _ _ c.self.view_is _ c.in-Plain.is c.args.p c.requires.position)

pub returns-in-Plain-clause-value : goal.returns-in-Plain-clause-value
returns-in-Plain-clause-value c =
    let overlook = c.in-Plain.overlook.items in
    let here = plain-inside _ _ _ c.self.view_is _ c.in-Plain.is c.args.p c.requires.position in
    let part : c.index.result.now ≡ slice_index overlook c.args.p = c.index.ensures ∙ get_or_default overlook c.args.p _ 0 here in
    c.one.ensures ∙ ap (λ n. misses c.args.p n ∷ []) part ∙ sym (look_row-own _ overlook c.args.t c.args.p here) ∙ ap (λ s. look_row s c.args.t c.args.p) (sym (plain-seen _ _ _ c.self.view_is _ c.in-Plain.is))

pub row_in_force-requires : goal.row_in_force-requires
row_in_force-requires c = prints-inside _ _ _ c.self.view_is _ c.in-Footprints.is c.args.p c.requires.position

pub returns-in-Footprints-clause-value : goal.returns-in-Footprints-clause-value
returns-in-Footprints-clause-value c =
    c.row.ensures ∙ c.row_in_force.ensures _ ∙ ap (λ s. look_row s c.args.t c.args.p) (sym (prints-seen _ _ _ c.self.view_is _ c.in-Footprints.is))
