-- Paths and their first positions, and the better of two standings.
use Rattle.std.proofs.Common.{ℕ, ◌≡◌, ◌≤◌, ◌<◌, ◌⊎◌, ◌++◌, ◌∷◌, [], List, length, take, drop, get_or, inl, inr, sym, subst, arith}
use Rattle.std.proofs.lemmas.List.{take-append-drop, length-take-le}
use Rattle.std.proofs.lemmas.List.Elements.{Contains-get_or}
use Rattle.search_model.specs.declared.standing.Standing.{Standing}
use Rattle.search_model.specs.Problem.{Problem}
use Rattle.search_model.specs.Legal.{Follows, IsLegal, IsPath, moves_after}
use Rattle.search_model.proofs.WalkLemmas.{follows-append}
use Rattle.search_model.proofs.Children.{child_is_legal}
use Rattle.bound_tree.specs.Close.{IsExact}

-- the first positions of a path are a legal prefix
pub first_is_legal : (p : Problem) (q : List ℕ) (k : ℕ) → IsPath p q → k ≤ p.horizon → IsLegal p (take k q)
first_is_legal p q k path within =
    let parts : Follows p.moves p.start (take k q ++ drop k q) = subst (Follows p.moves p.start) (sym (take-append-drop k q)) path.follows in
    let long : length (take k q) ≡ k = length-take-le k q (omega (arith, within, path.whole)) in
    record {
      follows = ((follows-append p.moves p.start (take k q) (drop k q)).0 parts).0;
      short = omega (arith, long, within);
    }

-- a prefix with one of the moves after it is legal
pub moved_is_legal : (p : Problem) (q : List ℕ) (i : ℕ) → IsLegal p q → length q < p.horizon → i < length (moves_after p q) → IsLegal p (q ++ get_or (moves_after p q) i 0 ∷ [])
moved_is_legal p q i legal short inside = child_is_legal p q _ legal short (Contains-get_or (moves_after p q) i 0 inside)

-- one of two exact standings is exact
pub either_exact : (p : Problem) (s t u : Standing) → IsExact p s → IsExact p t → (u ≡ s) ⊎ (u ≡ t) → IsExact p u
either_exact p s t u first second (inl same) = subst (IsExact p) (sym same) first
either_exact p s t u first second (inr same) = subst (IsExact p) (sym same) second
