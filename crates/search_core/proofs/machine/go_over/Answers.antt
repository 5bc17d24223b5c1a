use Rattle.std.proofs.Common.{◌≡◌, ℕ, ◌++◌, ◌∷◌, List, [], subst, arith}
use Rattle.search_core.specs.Steps.{Goes}
use Rattle.search_core.proofs.Counts.{count_of-append}
use Rattle.search_core.proofs.machine.go_over.Goals as goal

pub returns-clause-done : goal.returns-clause-done
returns-clause-done c = λ q at.
    let taken : List ℕ = c.take_out-prefix.result in
    let same : taken ≡ q = cc (at, c.take_out-prefix.ensures.value) in
    let old : List (List ℕ) = c.args.to.now.items in
    let pushed : c.push_prefix.new.stack.items ≡ old ++ taken ∷ [] = cc (c.push_prefix.ensures.items, c.in_ok-reserve.ensures.items) in
    let P : List ℕ → Type 0 = λ z. Goes z c.args.from.now.items c.take_out-prefix.new.list.items old c.push_prefix.new.stack.items in
    subst P same (record {
      gone = c.take_out-prefix.ensures.items;
      come = λ z. rw pushed (omega (arith, count_of-append z old (taken ∷ [])));
    })
