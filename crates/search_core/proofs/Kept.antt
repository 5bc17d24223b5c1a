-- Each event keeps the balance.
use Rattle.std.proofs.Common.{◌≡◌, List, [], ◌∷◌, ◌++◌, get_or, sym, subst, arith, Contains, All}
use Rattle.std.proofs.lemmas.Option.{slice_get-get_or}
use Rattle.std.proofs.lemmas.List.Elements.{All-nil, All-cons, All-append, All-weaker, All-contains, Contains-get_or, Contains-append_left}
use Rattle.search_model.specs.declared.standing.Standing.{Standing}
use Rattle.search_model.specs.Problem.{Problem, IsProblem}
use Rattle.bound_tree.specs.declared.node.TreeNode.{TreeNode}
use Rattle.bound_tree.specs.Accepts.{expected_by}
use Rattle.bound_tree.specs.Close.{IsClosed, IsExact}
use Rattle.search_core.specs.declared.event.CoreEvent.{CoreEvent}
use Rattle.search_core.specs.declared.event.CoreEvent.TheVariants.{Put, Take, Close, Learn}
use Rattle.search_core.specs.Balance.{Core, MeetsEquation, IsClosedUnder, IsBalanced}
use Rattle.search_core.specs.Steps.{started, IsAllowed, Steps, Runs}
use Rattle.search_core.specs.Laws.{EventsKeepBalance, RunsAreBalanced}
use Rattle.search_core.proofs.Counts.{count_of-append}
use Rattle.search_core.proofs.FromBounds.{short_from_branch}
use Rattle.search_core.proofs.Children.{expected-append, prefixes-append}
use Rattle.search_core.proofs.Reached.{standing_is, distinct, all_legal}

-- a balance follows from its equation, exact standings, and records that are closed
pub balanced_from : (p : Problem) (c : Core) → IsProblem p → MeetsEquation p c.pool c.hands c.records → All (IsExact p) c.standings →
    All (IsClosedUnder p c.standings) c.records → IsBalanced p c
balanced_from p c sound equation exact closed = record {
  equation = equation;
  once = distinct p c.pool c.hands c.records equation sound;
  legal = all_legal p c.pool c.hands c.records equation
      (λ r among branch legal.
      let under = All-contains (IsClosedUnder p c.standings) c.records r closed among in
      short_from_branch p under.0 r.prefix sound legal (subst (λ kind. IsClosed p under.0 r.prefix kind) branch under.2));
  exact = exact;
  closed = closed;
}

-- the equation after a Put, a Take and a Close
equation_kept : (p : Problem) (c : Core) (e : CoreEvent) (d : Core) → Steps p c e d → MeetsEquation p c.pool c.hands c.records → MeetsEquation p d.pool d.hands d.records
equation_kept p c (Put q) d s b z =
    rw s.1 (omega (arith, b z, s.0.gone z, s.0.come z, standing_is c.pool c.hands c.records z, standing_is d.pool d.hands c.records z))
equation_kept p c (Take q) d s b z =
    rw s.1 (omega (arith, b z, s.0.gone z, s.0.come z, standing_is c.pool c.hands c.records z, standing_is d.pool d.hands c.records z))
equation_kept p c (Close node j) d s b z =
    rw (s.3, s.4) (omega (
      arith,
      b z,
      s.2 z,
      count_of-append z c.hands (expected_by p node.prefix node.kind),
      count_of-append z (expected_by p node.prefix node.kind) [],
      standing_is c.pool c.hands c.records z,
      standing_is c.pool d.hands (c.records ++ node ∷ []) z,
      prefixes-append p z c.records (node ∷ []),
      expected-append p z c.records (node ∷ []),
    ))
equation_kept p c (Learn t) d s b z = rw (s.0, s.1, s.2) (b z)

-- what is closed under one of some standings is closed under one of more
more_standings : (p : Problem) (ss ts : List Standing) (rs : List TreeNode) → All (IsClosedUnder p ss) rs → All (IsClosedUnder p (ss ++ ts)) rs
more_standings p ss ts rs closed =
    All-weaker (IsClosedUnder p ss) (IsClosedUnder p (ss ++ ts)) (λ r h. (h.0, Contains-append_left ss ts h.0 h.1, h.2)) rs closed

one_more : {X : Type 0} (P : X → Type 0) (xs : List X) (x : X) → All P xs → P x → All P (xs ++ x ∷ [])
one_more P xs x all here = All-append P xs (x ∷ []) all (All-cons P x [] here (All-nil P))

exact_kept : (p : Problem) (c : Core) (e : CoreEvent) (d : Core) → IsAllowed p c e → Steps p c e d → All (IsExact p) c.standings → All (IsExact p) d.standings
exact_kept p c (Put q) d allowed s exact = subst (All (IsExact p)) (sym s.2) exact
exact_kept p c (Take q) d allowed s exact = subst (All (IsExact p)) (sym s.2) exact
exact_kept p c (Close node j) d allowed s exact = subst (All (IsExact p)) (sym s.5) exact
exact_kept p c (Learn t) d allowed s exact = subst (All (IsExact p)) (sym s.3) (one_more (IsExact p) c.standings t exact allowed)

-- a step with these standings and records keeps that records are closed
abbrev AreClosed : Problem → List Standing → List TreeNode → Type 0
AreClosed p standings records = All (IsClosedUnder p standings) records

at_both : (p : Problem) (ss ts : List Standing) (rs us : List TreeNode) → ts ≡ ss → us ≡ rs → AreClosed p ss rs → AreClosed p ts us
at_both p ss ts rs us e f h = subst (λ z. AreClosed p z us) (sym e) (subst (λ z. AreClosed p ss z) (sym f) h)

closed_kept : (p : Problem) (c : Core) (e : CoreEvent) (d : Core) → IsAllowed p c e → Steps p c e d → AreClosed p c.standings c.records → AreClosed p d.standings d.records
closed_kept p c (Put q) d allowed s closed = at_both p c.standings d.standings c.records d.records s.2 s.1 closed
closed_kept p c (Take q) d allowed s closed = at_both p c.standings d.standings c.records d.records s.2 s.1 closed
closed_kept p c (Close node j) d allowed s closed =
    let t : Standing = get_or c.standings j (record { path = []; value = 0 }) in
    let under : IsClosed p t node.prefix node.kind = allowed s.0 t (slice_get-get_or c.standings j (record { path = []; value = 0 }) s.1) in
    at_both p c.standings d.standings (c.records ++ node ∷ []) d.records s.5 s.4
    (one_more (IsClosedUnder p c.standings) c.records node closed (t, Contains-get_or c.standings j (record { path = []; value = 0 }) s.1, under))
closed_kept p c (Learn t) d allowed s closed =
    at_both p (c.standings ++ t ∷ []) d.standings c.records d.records s.3 s.2 (more_standings p c.standings (t ∷ []) c.records closed)

pub kept : EventsKeepBalance
kept p c d e sound b allowed s =
    balanced_from p d sound (equation_kept p c e d s b.equation) (exact_kept p c e d allowed s b.exact) (closed_kept p c e d allowed s b.closed)

pub start_is_balanced : (p : Problem) (s : Standing) → IsProblem p → IsExact p s → IsBalanced p (started s)
start_is_balanced p s sound exact =
    balanced_from p (started s) sound (λ q. omega arith) (All-cons (IsExact p) s [] exact (All-nil (IsExact p))) (All-nil (IsClosedUnder p (s ∷ [])))

runs_from : (p : Problem) (c : Core) (es : List CoreEvent) (d : Core) → IsProblem p → Runs p c es d → IsBalanced p c → IsBalanced p d
runs_from p c [] d sound runs b = subst (IsBalanced p) runs b
runs_from p c (e ∷ es) d sound runs b = runs_from p runs.0 es d sound runs.3 (kept p c runs.0 e sound b runs.1 runs.2)

pub runs_are_balanced : RunsAreBalanced
runs_are_balanced p s es d sound exact runs = runs_from p (started s) es d sound runs (start_is_balanced p s sound exact)

standings_kept : (p : Problem) (c : Core) (e : CoreEvent) (d : Core) (t : Standing) → Steps p c e d → Contains c.standings t → Contains d.standings t
standings_kept p c (Put q) d t s h = subst (λ z. Contains z t) (sym s.2) h
standings_kept p c (Take q) d t s h = subst (λ z. Contains z t) (sym s.2) h
standings_kept p c (Close node j) d t s h = subst (λ z. Contains z t) (sym s.5) h
standings_kept p c (Learn u) d t s h = subst (λ z. Contains z t) (sym s.3) (Contains-append_left c.standings (u ∷ []) t h)

-- a standing that is known stays known
pub standings_stay : (p : Problem) (c : Core) (es : List CoreEvent) (d : Core) (t : Standing) → Runs p c es d → Contains c.standings t → Contains d.standings t
standings_stay p c [] d t runs h = subst (λ (z : Core). Contains z.standings t) runs h
standings_stay p c (e ∷ es) d t runs h = standings_stay p runs.0 es d t runs.3 (standings_kept p c e runs.0 t runs.2 h)
