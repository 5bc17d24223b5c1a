use Rattle.std.proofs.Common.{◌≡◌, ℕ, ◌+◌, ◌-◌, ◌<◌, ◌∷◌, [], ◌++◌, List, reverse, drop, get_or, length, append_assoc, arith}
use Rattle.std.proofs.lemmas.List.{reverse-append, drop_more}
use Rattle.bound_tree.specs.Accepts.{children_by}
use Rattle.bound_tree.proofs.stack.push_children.Goals as goal

pub loop-i-preserved : goal.loop-i-preserved
loop-i-preserved c =
    let moves : List ℕ = c.args.moves.now in
    let q : List ℕ = c.args.prefix.now in
    let i : ℕ = c.loop-i.i - 1 in
    let l : i < length moves = omega arith in
    let back : i + 1 ≡ c.loop-i.i = omega arith in
    let child : List ℕ = q ++ get_or moves i 0 ∷ [] in
    let later : List (List ℕ) = children_by q (drop c.loop-i.i moves) in
    let rest : drop i moves ≡ get_or moves i 0 ∷ drop c.loop-i.i moves = rw back at (drop_more moves i 0 l) in
    let turned : reverse (children_by q (drop i moves)) ≡ reverse later ++ child ∷ [] = rw rest (reverse-append (child ∷ []) later) in
    record {
      items = rw (c.push_prefix.ensures.items, c.loop-i.invariant.items, turned, c.extended.ensures) (append_assoc c.args.stack.now.items (reverse later) (child ∷ []));
      room = omega arith;
      capacity = omega arith;
    }
