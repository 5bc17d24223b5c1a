-- The tangent bounds of the prefixes of a path, at that path.
use Rattle.std.proofs.Common.{ℕ, ◌≤◌, ◌≡◌, List, ◌++◌, length, take, drop, refl, sym, ap, ◌∙◌, arith, IsFalse}
use Rattle.std.proofs.lemmas.List.{take-append-drop, take-take, length-take-le}
use Rattle.search_model.specs.declared.standing.Standing.{Standing}
use Rattle.search_model.specs.Problem.{Problem, IsProblem}
use Rattle.search_model.specs.Bounds.{tangent_of}
use Rattle.search_model.specs.Order.{Starts}
use Rattle.bound_tree.specs.Accepts.{Extends}
use Rattle.bound_tree.specs.Cut.{is_cut}
use Rattle.bound_tree.proofs.Longer.{tangent_grows, uncut_above}

module _ (p : Problem) (q x : List ℕ) (j : ℕ) (path : Extends p q x) (longer : length q ≤ j) (short : j ≤ p.horizon) where
  -- the first positions of a path begin with fewer of them
  front_starts : Starts q (take j x)
  front_starts =
      let same : take (length q) (take j x) ≡ q = take-take (length q) j x longer ∙ path.front in
      (drop (length q) (take j x), sym (take-append-drop (length q) (take j x)) ∙ ap (λ (u : List ℕ). u ++ drop (length q) (take j x)) same)

  -- and the path begins with them
  front_extends : Extends p (take j x) x
  front_extends = let long : length (take j x) ≡ j = length-take-le j x (omega (arith, short, path.path.whole)) in
      record { path = path.path; front = rw long refl }

  -- where a standing doesn't cut the tangent bound of the longer prefix, it doesn't cut that of the shorter one
  pub open_by_front : (rate b : ℕ) (s : Standing) → IsProblem p → b ≡ tangent_of p rate (take j x) x → IsFalse (is_cut b q s) → IsFalse (is_cut (tangent_of p rate q x) q s)
  open_by_front rate b s sound is free =
      uncut_above b (tangent_of p rate q x) q s (rw is (tangent_grows p rate q (take j x) x sound front_starts front_extends)) free
