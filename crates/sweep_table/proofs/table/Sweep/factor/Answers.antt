use Rattle.std.proofs.Common.{◌≡◌, ◌∙◌, ap, sym, slice_index}
use Rattle.std.proofs.lemmas.List.{get_or_default}
use Rattle.sweep_table.specs.LookParts.{factor_of, factor_in, parts_over}
use Rattle.sweep_table.proofs.Factors.{factor_of-own, factor_of-apart}
use Rattle.sweep_table.proofs.Views.{plain-seen, plain-inside, prints-seen, prints-inside, prints-ascending}
use Rattle.sweep_table.proofs.table.Sweep.factor.Goals as goal

pub returns-in-Plain-clause-value : goal.returns-in-Plain-clause-value
returns-in-Plain-clause-value c =
    let overlook = c.in-Plain.overlook.items in
    let here = plain-inside _ _ _ c.self.view_is _ c.in-Plain.is c.args.p c.requires.position in
    let part : c.index.result.now ≡ slice_index overlook c.args.p = c.index.ensures ∙ get_or_default overlook c.args.p _ 0 here in
    part ∙ sym (factor_of-own c.self.inside.denominator overlook c.args.t c.args.p here)
    ∙ ap (factor_of (parts_over c.self.inside.denominator overlook) c.args.t c.args.p) c.if-p-c.true
    ∙ ap (λ s. factor_of s c.args.t c.args.p c.args.c) (sym (plain-seen _ _ _ c.self.view_is _ c.in-Plain.is))

pub returns-in-Plain-2-clause-value : goal.returns-in-Plain-2-clause-value
returns-in-Plain-2-clause-value c =
    let overlook = c.in-Plain.overlook.items in
    let here = plain-inside _ _ _ c.self.view_is _ c.in-Plain.is c.args.p c.requires.position in
    sym (factor_of-apart c.self.inside.denominator overlook c.args.t c.args.p c.args.c here c.if-p-c.false)
    ∙ ap (λ s. factor_of s c.args.t c.args.p c.args.c) (sym (plain-seen _ _ _ c.self.view_is _ c.in-Plain.is))

pub row_in_force-requires : goal.row_in_force-requires
row_in_force-requires c = prints-inside _ _ _ c.self.view_is _ c.in-Footprints.is c.args.p c.requires.position

pub factor_in_row-requires : goal.factor_in_row-requires
factor_in_row-requires c =
    prints-ascending _ _ _ c.self.view_is _ c.in-Footprints.is c.self.invariant _ _ _ (c.row_in_force.ensures c.self.inside.denominator)

pub returns-in-Footprints-clause-value : goal.returns-in-Footprints-clause-value
unfolding factor_of
returns-in-Footprints-clause-value c =
    let g = c.self.inside.denominator in
    c.factor_in_row.ensures ∙ ap (λ row. factor_in g row c.args.c) (c.row_in_force.ensures g)
    ∙ ap (λ s. factor_of s c.args.t c.args.p c.args.c) (sym (prints-seen _ _ _ c.self.view_is _ c.in-Footprints.is))
