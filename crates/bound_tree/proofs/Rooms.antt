-- What a record makes expected is legal, and has room on the stack.
use Rattle.std.proofs.Common.{subst, ◌≡◌, ◌⊎◌, inl, inr, ℕ, ◌+◌, ◌*◌, ◌≤◌, ◌<◌, List, [], ◌∷◌, ◌++◌, map, reverse, length, refl, ap, ◌∙◌, arith, length-append, get_or, All}
use Rattle.std.proofs.lemmas.List.{length-map, reverse-append, reverse-reverse}
use Rattle.std.proofs.lemmas.List.Elements.{All-head, All-tail, All-nil, All-map, All-contains_itself}
use Rattle.search_model.specs.Problem.{Problem, IsProblem}
use Rattle.search_model.specs.Legal.{IsLegal, moves_after}
use Rattle.bound_tree.specs.declared.node.Kind.{Kind}
use Rattle.bound_tree.specs.declared.node.Kind.TheVariants.{Branch, Whole, Mean, Tangent, Edge, Exchange, TwoLooks}
use Rattle.bound_tree.specs.Accepts.{expected_by}
use Rattle.bound_tree.specs.Room.{HasRoom}
use Rattle.search_model.proofs.Children.{few_moves, child_is_legal}

-- a kind is a Branch, or makes nothing expected
pub branch_or_leaf : (kind : Kind) → (kind ≡ Branch) ⊎ ((p : Problem) (q : List ℕ) → expected_by p q kind ≡ [])
branch_or_leaf Branch = inl refl
branch_or_leaf (Whole n) = inr (λ p q. refl)
branch_or_leaf (Mean b) = inr (λ p q. refl)
branch_or_leaf (Tangent b whole) = inr (λ p q. refl)
branch_or_leaf (Edge b) = inr (λ p q. refl)
branch_or_leaf (Exchange b u) = inr (λ p q. refl)
branch_or_leaf (TwoLooks b) = inr (λ p q. refl)

-- what a record at a legal prefix makes expected is legal
pub legal_expected : (p : Problem) (q : List ℕ) (kind : Kind) → IsLegal p q → (kind ≡ Branch → length q < p.horizon) → All (IsLegal p) (expected_by p q kind)
legal_expected p q kind legal short = elim (branch_or_leaf kind) [
  | inl branch ↦
      rw branch
      (All-map (IsLegal p) (λ a. q ++ a ∷ []) (moves_after p q)
      (λ k d l. child_is_legal p q (get_or (moves_after p q) k d) legal (short branch) (All-contains_itself (moves_after p q) k d l)))
  | inr leaf ↦ rw (leaf p q) (All-nil (IsLegal p))
]

-- where at most 63 prefixes for each position of q are expected behind it, up to 64 children of q have room before them
HasRoom-children : (q : List ℕ) (ms : List ℕ) (qs : List (List ℕ)) → length ms ≤ 64 → length qs ≤ 63 * length q → HasRoom qs → HasRoom (map (λ d. q ++ d ∷ []) ms ++ qs)
HasRoom-children q [] qs few small room = room
HasRoom-children q (m ∷ ms) qs few small room = (
  omega (arith, few, small, length-append (map (λ d. q ++ d ∷ []) ms) qs, length-map {A = ℕ} {B = List ℕ}, length-append q (m ∷ [])),
  HasRoom-children q ms qs (omega (arith, few)) small room,
)

-- what was on top of a stack, and what was below it
pub popped : (old new : List (List ℕ)) (q : List ℕ) → old ≡ new ++ q ∷ [] → reverse old ≡ q ∷ reverse new
popped old new q e = rw e (reverse-append new (q ∷ []))

-- what was put on a stack stands before what was there
pub pushed_back : (old new qs : List (List ℕ)) → new ≡ old ++ reverse qs → reverse new ≡ qs ++ reverse old
pushed_back old new qs e = rw e (reverse-append old (reverse qs) ∙ ap (λ (rs : List (List ℕ)). rs ++ reverse old) (reverse-reverse qs))

-- what holds of the expected prefixes holds of the first and of the others
pub split_legal : (p : Problem) (qs : List (List ℕ)) (q : List ℕ) (rest : List (List ℕ)) → qs ≡ q ∷ rest → All (IsLegal p) qs → IsLegal p q × All (IsLegal p) rest
split_legal p qs q rest e all = let split = subst (All (IsLegal p)) e all in (All-head (IsLegal p) q rest split, All-tail (IsLegal p) q rest split)

-- behind a prefix that is shorter than the horizon there is room for 64 more
pub room_left : (p : Problem) (q : List ℕ) (qs : List (List ℕ)) → IsProblem p → length q < p.horizon → HasRoom (q ∷ qs) → length qs + 64 ≤ 2048
room_left p q qs sound short room = let first = room.0 in let most = sound.horizon.1 in omega (arith, first, most, short)

-- where there was room for the prefix, there is room for what its record makes expected
pub room_expected : (p : Problem) (q : List ℕ) (kind : Kind) (qs : List (List ℕ)) → IsProblem p → IsLegal p q → HasRoom (q ∷ qs) → HasRoom (expected_by p q kind ++ qs)
room_expected p q kind qs sound legal room = elim (branch_or_leaf kind) [
  | inl branch ↦ rw branch (HasRoom-children q (moves_after p q) qs (few_moves p q sound legal) (let first = room.0 in omega (arith, first)) room.1)
  | inr leaf ↦ rw (leaf p q) room.1
]
