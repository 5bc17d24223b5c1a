-- Records that are eaten, told record by record or by the list of expected prefixes.
use Rattle.std.proofs.Common.{◌≡◌, ℕ, zero, suc, ◌≤◌, List, [], ◌∷◌, ◌++◌, length, sym, refl, subst, arith, append-nil}
use Rattle.search_model.specs.declared.standing.Standing.{Standing}
use Rattle.search_model.specs.Problem.{Problem}
use Rattle.bound_tree.specs.declared.node.TreeNode.{TreeNode}
use Rattle.bound_tree.specs.Accepts.{expected_by, AreEaten}
use Rattle.bound_tree.specs.Eat.{Eat, done, next, EatenByEither}

module _ (p : Problem) (s : Standing) where
  to_stack : {qs : List (List ℕ)} {rs left : List TreeNode} → Eat p s qs rs left → (more : List (List ℕ)) → AreEaten p s more left → AreEaten p s (qs ++ more) rs
  to_stack done more h = h
  to_stack (next {r} {qs} {rs} {mid} {left} good below after) more h =
      let rest = to_stack below (qs ++ more) (to_stack after more h) in
      (refl, good, rest)

  -- what is eaten splits after the first prefixes; n bounds the records
  from_stack : (n : ℕ) (qs more : List (List ℕ)) (rs : List TreeNode) → length rs ≤ n → AreEaten p s (qs ++ more) rs →
      (left : List TreeNode) × Eat p s qs rs left × AreEaten p s more left × (length left ≤ length rs)
  from_stack n [] more rs l h = (rs, done, h, omega arith)
  from_stack n (q ∷ qs) more [] l h = absurd h
  from_stack zero (q ∷ qs) more (r ∷ rs) l h = absurd (omega (arith, l))
  from_stack (suc n) (q ∷ qs) more (r ∷ rs) l h =
      let first = from_stack n (expected_by p r.prefix r.kind) (qs ++ more) rs (omega (arith, l)) h.2 in
      let second = from_stack n qs more first.0 (let a = first.3 in omega (arith, a, l)) first.2 in (
        second.0,
        subst (λ z. Eat p s (z ∷ qs) (r ∷ rs) second.0) h.0 (next h.1 first.1 second.1),
        second.2,
        (let a = first.3 in let b = second.3 in omega (arith, a, b)),
      )

  ended : (left : List TreeNode) → AreEaten p s [] left → left ≡ []
  ended [] h = refl
  ended (r ∷ rs) h = absurd h

pub eaten_either_way : EatenByEither
eaten_either_way p s qs rs = (
  (λ e. subst (λ z. AreEaten p s z rs) (append-nil qs) (to_stack p s e [] tt)),
  (λ h. let split = from_stack p s (length rs) qs [] rs (omega arith) (subst (λ z. AreEaten p s z rs) (sym (append-nil qs)) h) in
      subst (λ z. Eat p s qs rs z) (ended p s split.0 split.2) split.1),
)
