use Rattle.std.proofs.Common.{rules, sym}
use Rattle.std.proofs.lemmas.List.Sorted.{answers_always}
use Rattle.list_laws.proofs.Ascending.{Ascends-from_keys, absent_from_search, found_from_search}
use Rattle.sweep_table.proofs.Factors.{factor_in-none, factor_in-entry}
use Rattle.sweep_table.proofs.footprints.factor_in_row.Goals as goal

pub returns-in-Ok : goal.returns-in-Ok
returns-in-Ok c =
    let row = c.args.row.now in
    let found = c.in-Ok.ensures.position (λ entry. entry.cell) (answers_always _ _ _ (λ f a r g called. search rules)) in
    let cell = found_from_search (λ entry. entry.cell) c.args.c c.in-Ok.place row (record { cell = 0; part = 0 }) found in
    rw (← cell) (sym (factor_in-entry c.args.denominator row c.in-Ok.place (record { cell = 0; part = 0 }) (Ascends-from_keys (λ entry. entry.cell) row c.requires) c.in-Ok.ensures.bound))

pub returns-in-Err : goal.returns-in-Err
returns-in-Err c =
    let row = c.args.row.now in
    let parted = c.in-Err.ensures.position (λ entry. entry.cell) (answers_always _ _ _ (λ f a r g called. search rules)) in
    sym (factor_in-none c.args.denominator row c.args.c (absent_from_search (λ entry. entry.cell) c.args.c c.in-Err.field-0 row (Ascends-from_keys (λ entry. entry.cell) row c.requires) parted))
