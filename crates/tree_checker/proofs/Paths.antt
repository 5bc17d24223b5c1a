-- The test of a path tells the paths.
use Rattle.std.proofs.Common.{◌≡◌, ◌≢◌, ◌↔◌, ℕ, ◌-◌, Bool, true, not, ◌&&◌, slice_index, ap, ◌∙◌, nat_eq, List, [], ◌∷◌, length, take, sym, refl, arith, Decides, eqb-true, eq-eqb}
use Rattle.std.specs.List.{starts_with}
use Rattle.std.proofs.lemmas.Bool.{and_parts, and_from, leb-true, le-leb, ne_eqb}
use Rattle.std.proofs.lemmas.Bool.Decides.{same_from_decides, Decides-eqb}
use Rattle.std.proofs.lemmas.Map.Views.{Contains-from_any}
use Rattle.std.proofs.lemmas.Slice.Eq.{slice_eq-Decides}
use Rattle.search_grid.specs.Moves.{moves_from}
use Rattle.search_model.specs.Problem.{Problem}
use Rattle.search_model.specs.Legal.{Follows, IsLegal, IsPath}
use Rattle.bound_tree.specs.Exchanges.{exchanged}
use Rattle.bound_tree.proofs.StandIns.{finds}
use Rattle.tree_checker.specs.Reasons.{follows, is_path, is_legal, takes_place}

follows_follow : (rows : List (List ℕ)) (a : ℕ) (q : List ℕ) → follows rows a q ≡ true → Follows rows a q
follows_follow rows a [] h = tt
follows_follow rows a (b ∷ q) h =
    let parts = and_parts _ _ h in (Contains-from_any (λ x y. eqb-true x y) b (moves_from rows a) parts.0, follows_follow rows b q parts.1)

follow_follows : (rows : List (List ℕ)) (a : ℕ) (q : List ℕ) → Follows rows a q → follows rows a q ≡ true
follow_follows rows a [] h = refl
follow_follows rows a (b ∷ q) h = and_from _ _ (finds b (moves_from rows a) h.0) (follow_follows rows b q h.1)

pub is_path-Decides : (p : Problem) (q : List ℕ) → Decides (is_path p q) (IsPath p q)
is_path-Decides p q = (
  (λ h. let parts = and_parts _ _ h in record { follows = follows_follow p.moves p.start q parts.1; whole = eqb-true (length q) p.horizon parts.0 }),
  (λ h. and_from _ _ (eq-eqb (length q) p.horizon h.whole) (follow_follows p.moves p.start q h.follows)),
)

pub is_legal-Decides : (p : Problem) (q : List ℕ) → Decides (is_legal p q) (IsLegal p q)
is_legal-Decides p q = (
  (λ h. let parts = and_parts _ _ h in record { follows = follows_follow p.moves p.start q parts.1; short = leb-true (length q) p.horizon parts.0 }),
  (λ h. and_from _ _ (le-leb (length q) p.horizon h.short) (follow_follows p.moves p.start q h.follows)),
)

-- what tells the legal prefixes is the test of one
pub legal_is_tested : (p : Problem) (q : List ℕ) (r : Bool) → (r ≡ true) ↔ IsLegal p q → r ≡ is_legal p q
legal_is_tested p q r h = same_from_decides r (is_legal p q) h (is_legal-Decides p q)

-- and with it that of a position in place of a prefix's last but one, where it is another
pub takes_place_is : (p : Problem) (q : List ℕ) (u : ℕ) (r : Bool) → u ≢ slice_index q (length q - 2) → (r ≡ true) ↔ IsLegal p (exchanged u q) → r ≡ takes_place p q u
takes_place_is p q u r other h =
    let legal : Bool = is_legal p (exchanged u q) in
    legal_is_tested p (exchanged u q) r h ∙ ap (λ (b : Bool). not b && legal) (sym (ne_eqb u (slice_index q (length q - 2)) other))

-- of prefixes as long as the horizon the legal ones are the paths
pub legal_is_path : (p : Problem) (q : List ℕ) (r : Bool) → length q ≡ p.horizon → (r ≡ true) ↔ IsLegal p q → r ≡ is_path p q
legal_is_path p q r whole h =
    same_from_decides r (is_path p q) (
      (λ e. record { follows = (h.0 e).follows; whole = whole }),
      (λ path. h.1 (record { follows = path.follows; short = omega (arith, whole) })),
    )
    (is_path-Decides p q)

-- the test of a path's front tells whether it is the prefix
pub starts-Decides : (q whole : List ℕ) → Decides (starts_with nat_eq whole q) (take (length q) whole ≡ q)
starts-Decides q whole = let same = slice_eq-Decides Decides-eqb q (take (length q) whole) (starts_with nat_eq whole q) refl in (λ h. sym (same.0 h), λ e. same.1 (sym e))
