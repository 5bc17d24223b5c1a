use Rattle.std.proofs.Common.{rules, ltb}
use Rattle.std.proofs.lemmas.List.Sorted.{answers_always}
use Rattle.list_laws.proofs.Ascending.{double_or_ascends}
use Rattle.search_grid.proofs.faults.has_double.Goals as goal

pub returns : goal.returns
returns c =
    let answer = c.is_sorted_by.ensures.cases ltb (answers_always _ _ _ (λ f a r g called. search rules)) in
    double_or_ascends (λ move. move) c.args.row.now c.is_sorted_by.result 0 c.requires answer
