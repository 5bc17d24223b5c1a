use Rattle.std.proofs.Common.{◌≡◌, ℕ, ◌∷◌, ◌++◌, max, ap, sym, ◌∙◌}
use Rattle.search_model.specs.Bounds.{greatest}
use Rattle.bound_tree.specs.declared.gap.GapKind.{GapKind}
use Rattle.bound_tree.specs.Gaps.{open_number}
use Rattle.tree_checker.proofs.Steps.{greatest-two}
use Rattle.tree_checker.proofs.checker.most_with.Goals as goal

pub returns-in-Waiting : goal.returns-in-Waiting
returns-in-Waiting c = λ numbers.
    let most : ℕ = c.args.most in
    let number : ℕ = c.in-Waiting.number in
    let is : c.max.result ≡ max most number = cc in
    ap (λ (m : ℕ). greatest (m ∷ numbers)) is
    ∙ greatest-two most number numbers
    ∙ ap (λ (k : GapKind). greatest (most ∷ (open_number k ++ numbers))) (sym c.in-Waiting.is)
