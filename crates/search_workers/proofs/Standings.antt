-- The standing in use, before and after a record.
use Rattle.std.proofs.Common.{◌≡◌, ℕ, ◌<◌, ◌^◌, ◌∙◌, false, List, inl, inr, refl, sym, subst, arith}
use Rattle.std.proofs.lemmas.Bool.{cases_Bool}
use Rattle.search_model.specs.declared.standing.Standing.{Standing}
use Rattle.search_model.specs.Problem.{Problem, IsProblem}
use Rattle.search_model.specs.Legal.{IsLegal}
use Rattle.search_model.specs.Tracks.{value_of}
use Rattle.search_model.specs.Order.{better}
use Rattle.search_model.proofs.Orders.{better_irreflexive}
use Rattle.search_model.proofs.Totals.{whole_weight-fits}
use Rattle.bound_tree.specs.declared.node.Kind.{Kind}
use Rattle.bound_tree.specs.declared.node.Kind.TheVariants.{Branch, Whole, Mean, Tangent, Edge, Exchange, TwoLooks}
use Rattle.bound_tree.specs.Close.{IsClosed, IsExact, IsAtLeast}
use Rattle.incumbent_board.specs.History.{MayStand}
use Rattle.search_workers.specs.Incumbents.{best_after}

-- a value is below 2^127
pub value_fits : (p : Problem) (q : List ℕ) (n : ℕ) → IsProblem p → n ≡ value_of p q → n < 2 ^ 127
value_fits p q n sound value = let fits = whole_weight-fits p sound in omega (arith, fits, value)

-- a path that was closed by its value may stand on a board that began with an exact standing
pub whole_may_stand : (p : Problem) (first s : Standing) (q : List ℕ) (n : ℕ) → IsProblem p → IsExact p first → IsClosed p s q (Whole n) →
    MayStand first (record { path = q; value = n })
whole_may_stand p first s q n sound exact closed = record { size = closed.0 ∙ sym exact.path.whole; value = value_fits p q n sound closed.1 }

-- the standing in use after a record is no worse than before
pub after_is_up : (s : Standing) (q : List ℕ) (kind : Kind) → IsAtLeast (best_after s q kind) s
after_is_up s q Branch = inl refl
after_is_up s q (Whole n) = elim (cases_Bool (better (record { path = q; value = n }) s)) [
  | inl b ↦ rw b (inr b)
  | inr f ↦ rw f (inl refl)
]
after_is_up s q (Mean b) = inl refl
after_is_up s q (Tangent b whole) = inl refl
after_is_up s q (Edge b) = inl refl
after_is_up s q (Exchange b u) = inl refl
after_is_up s q (TwoLooks b) = inl refl

-- a path doesn't beat it
whole_unbeaten : (s : Standing) (q : List ℕ) (n : ℕ) → better (record { path = q; value = n }) (best_after s q (Whole n)) ≡ false
whole_unbeaten s q n = elim (cases_Bool (better (record { path = q; value = n }) s)) [
  | inl b ↦ rw b (better_irreflexive (record { path = q; value = n }))
  | inr f ↦ rw f f
]

pub after_unbeaten : (s : Standing) (q : List ℕ) (kind : Kind) (n : ℕ) → kind ≡ Whole n → better (record { path = q; value = n }) (best_after s q kind) ≡ false
after_unbeaten s q kind n e = subst (λ z. better (record { path = q; value = n }) (best_after s q z) ≡ false) (sym e) (whole_unbeaten s q n)

-- and it is exact
pub after_is_exact : (p : Problem) (s : Standing) (q : List ℕ) (kind : Kind) → IsExact p s → IsLegal p q → IsClosed p s q kind → IsExact p (best_after s q kind)
after_is_exact p s q Branch exact legal closed = exact
after_is_exact p s q (Whole n) exact legal closed = elim (cases_Bool (better (record { path = q; value = n }) s)) [
  | inl b ↦ rw b (record { path = record { follows = legal.follows; whole = closed.0 }; value = closed.1 })
  | inr f ↦ rw f exact
]
after_is_exact p s q (Mean b) exact legal closed = exact
after_is_exact p s q (Tangent b whole) exact legal closed = exact
after_is_exact p s q (Edge b) exact legal closed = exact
after_is_exact p s q (Exchange b u) exact legal closed = exact
after_is_exact p s q (TwoLooks b) exact legal closed = exact
