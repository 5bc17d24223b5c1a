-- A search that closed the empty prefix alone.
use Rattle.std.proofs.Common.{◌≡◌, ℕ, List, [], ◌∷◌, reverse, sym, ap, subst, arith}
use Rattle.std.proofs.lemmas.List.Sorted.{IsPermutation-reverse}
use Rattle.search_model.specs.Problem.{Problem}
use Rattle.bound_tree.specs.declared.node.Kind.TheVariants.{Branch}
use Rattle.bound_tree.specs.declared.node.TreeNode.{TreeNode}
use Rattle.bound_tree.specs.Accepts.{prefixes_of, expected_by}
use Rattle.search_core.specs.Counts.{count_of}
use Rattle.search_core.specs.Balance.{MeetsEquation}
use Rattle.search_core.proofs.Counts.{count_of-append, SameItems-permutation}

-- where its children wait, in whatever order, the balance equation holds
pub branched_is_even : (p : Problem) (closed : List TreeNode) (waiting : List (List ℕ)) → closed ≡ record { prefix = []; kind = Branch } ∷ [] →
    reverse waiting ≡ expected_by p [] Branch → MeetsEquation p [] waiting closed
branched_is_even p closed waiting alone children =
    let root : TreeNode = record { prefix = []; kind = Branch } in
    subst (MeetsEquation p [] waiting) (sym alone)
    (λ q.
    omega (
      arith,
      ap (count_of q) children,
      count_of-append q (expected_by p [] Branch) [],
      count_of-append q waiting (prefixes_of (root ∷ [])),
      SameItems-permutation waiting (reverse waiting) (IsPermutation-reverse waiting) q,
    ))
