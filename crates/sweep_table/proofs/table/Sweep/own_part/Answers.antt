use Rattle.std.proofs.Common.{◌≡◌, ◌∙◌, ap, sym, arith, [], ◌∷◌, slice_index}
use Rattle.std.proofs.lemmas.List.{get_or_default}
use Rattle.sweep_table.specs.LookParts.{look_row, misses}
use Rattle.sweep_table.proofs.Factors.{look_row-own}
use Rattle.sweep_table.proofs.Views.{plain-seen, plain-inside}
use Rattle.sweep_table.proofs.table.Sweep.own_part.Goals as goal

pub index-requires : goal.index-requires
index-requires c = omega (arith, plain-inside _ _ _ c.self.view_is _ c.in-Plain.is c.args.p c.requires)

pub returns-in-Plain : goal.returns-in-Plain
returns-in-Plain c =
    let overlook = c.in-Plain.overlook.items in
    let here = plain-inside _ _ _ c.self.view_is _ c.in-Plain.is c.args.p c.requires in
    let part : c.index.result.now ≡ slice_index overlook c.args.p = c.index.ensures ∙ get_or_default overlook c.args.p _ 0 here in
    record { row = λ t. ap (λ s. look_row s t c.args.p) (plain-seen _ _ _ c.self.view_is _ c.in-Plain.is) ∙ look_row-own _ overlook t c.args.p here ∙ ap (λ n. misses c.args.p n ∷ []) (sym part) }
