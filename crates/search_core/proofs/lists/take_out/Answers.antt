use Rattle.std.proofs.Common.{ℕ, List}
use Rattle.search_core.proofs.Counts.{SameItems-swap_remove}
use Rattle.search_core.proofs.lists.take_out.Goals as goal

pub returns-clause-items : goal.returns-clause-items
returns-clause-items c =
    let before : List (List ℕ) = c.args.list.now.items in
    rw c.swap_remove.ensures.items (SameItems-swap_remove before c.args.place c.swap_remove.result c.requires c.swap_remove.ensures.value)
