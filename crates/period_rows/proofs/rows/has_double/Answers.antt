use Rattle.std.proofs.Common.{rules, ltb}
use Rattle.std.proofs.lemmas.List.Sorted.{answers_always}
use Rattle.list_laws.proofs.Ascending.{double_or_keys_rise}
use Rattle.period_rows.proofs.rows.has_double.Goals as goal

pub returns : goal.returns
returns c =
    let answer = c.is_sorted_by.ensures.cases (λ a b. ltb a.cell b.cell) (answers_always _ _ _ (λ f a r g called. search rules)) in
    double_or_keys_rise (λ entry. entry.cell) c.args.row.now c.is_sorted_by.result (record { cell = 0; part = 0 }) c.requires answer
