use Rattle.std.proofs.Common.{◌≡◌, ℕ, ◌∷◌, List, [], reverse, ap, arith}
use Rattle.std.proofs.lemmas.List.Sorted.{IsPermutation-reverse}
use Rattle.bound_tree.specs.Accepts.{children_by}
use Rattle.search_core.specs.Counts.{count_of}
use Rattle.search_core.proofs.Counts.{count_of-append, SameItems-permutation}
use Rattle.search_core.proofs.machine.replace_held.Goals as goal

pub returns : goal.returns
returns c = λ q.
    let taken : List ℕ = c.take_out.result in
    let same : taken ≡ c.args.prefix.now = cc (c.requires.held, c.take_out.ensures.value) in
    let children : List (List ℕ) = children_by c.args.prefix.now c.args.moves.now in
    let gone = c.take_out.ensures.items q in
    let here : count_of q (taken ∷ []) ≡ count_of q (c.args.prefix.now ∷ []) = ap (λ (z : List ℕ). count_of q (z ∷ [])) same in
    let turned = SameItems-permutation children (reverse children) (IsPermutation-reverse children) q in
    rw c.push_children.ensures.items
    (omega (arith, gone, here, turned, count_of-append q c.args.hands.now.items children, count_of-append q c.take_out.new.list.items (reverse children)))
