-- Prefixes with another position in place of their last but one: when they stand in, and which is the best.
use Rattle.std.proofs.Common.{ℕ, ◌-◌, ◌<◌, ◌≤◌, ◌≡◌, ◌≢◌, List, [], ◌∷◌, length, take, slice_index, inl, inr, true, false, sym, ap, subst, ◌∙◌, arith, IsTrue, Contains}
use Rattle.std.proofs.lemmas.Bool.{true≢false}
use Rattle.search_model.specs.Problem.{Problem}
use Rattle.search_model.specs.Legal.{IsLegal, moves_after}
use Rattle.search_model.specs.Tracks.{value_of}
use Rattle.search_model.specs.Exchange.{exchange_of}
use Rattle.search_model.specs.Order.{better, standing_of}
use Rattle.search_model.proofs.Orders.{better_by_value, better_by_path, smaller_at}
use Rattle.bound_tree.specs.Cut.{is_cut}
use Rattle.bound_tree.specs.Exchanges.{StandsIn, IsBestStandIn, exchanged}
use Rattle.bound_tree.proofs.StandIns.{exchanged-stands, exchanged-move}
use Rattle.bound_tree.proofs.Longer.{uncut_above}
use Rattle.exchange_bound.specs.declared.stand_in.Exchange.{Exchange}
use Rattle.exchange_bound.specs.declared.stand_in.Candidate.{Candidate}
use Rattle.exchange_bound.specs.StandIns.{IsExchange, IsCandidate, AreCandidates, AreLeft, Yields, candidate_of}

-- what doesn't go before a candidate is worse, if its position is another one
worse : (p : Problem) (q : List ℕ) (c : Candidate) (v : ℕ) → IsCandidate p q c → v ≢ c.position → Yields (candidate_of p q v) c →
    IsTrue (better (standing_of p (exchanged c.position q)) (standing_of p (exchanged v q)))
worse p q c v is other (inl less) =
    better_by_value (standing_of p (exchanged c.position q)) (standing_of p (exchanged v q)) (omega (arith, less, is.value))
worse p q c v is other (inr (same, after)) =
    let last = slice_index q (length q - 1) in
    let less : c.position < v = omega (arith, after, other) in
    better_by_path (standing_of p (exchanged c.position q)) (standing_of p (exchanged v q)) (sym is.value ∙ sym same)
    (smaller_at (take (length q - 2) q) c.position v (last ∷ []) (last ∷ []) less)

-- so a candidate that stands in, and that none which stands in goes before, is the best
pub exchange_is_best : (p : Problem) (q : List ℕ) (c : Candidate) (e : Exchange) → IsCandidate p q c → IsExchange p q e → e.position ≡ c.position → ((u : ℕ) → StandsIn p (exchanged u q) q → Yields (candidate_of p q u) c) →
    IsBestStandIn p q e.position
exchange_is_best p q c e is stands same yield =
    subst (IsBestStandIn p q) (sym same) (record {
      stands = subst (λ (u : ℕ). StandsIn p (exchanged u q) q) same stands.stands;
      best = λ v other_stands other. worse p q c v is other (yield v other_stands);
    })

-- what doesn't cut the value of a prefix doesn't stand in for it
pub value_uncut : (p : Problem) (q : List ℕ) (u : ℕ) (r : List ℕ) (value least : ℕ) → r ≡ exchanged u q → value ≡ value_of p r → least ≡ value_of p q → is_cut least q (record { path = r; value = value }) ≡ false → ¬ StandsIn p (exchanged u q) q
value_uncut p q u r value least is worth low free stands =
    let uncut : is_cut (value_of p q) q (standing_of p (exchanged u q)) ≡ false = rw (← is, ← low, ← worth) free in
    let above = uncut_above (value_of p q) (exchange_of p q (exchanged u q)) q (standing_of p (exchanged u q)) (omega arith) uncut in
    true≢false (sym stands.cut ∙ above)

-- what is legal, with its value and the exchange bound that it cuts, is an exchange
pub exchange_is : (p : Problem) (q : List ℕ) (u : ℕ) (other : List ℕ) (value bound : ℕ) → 2 ≤ length q → other ≡ exchanged u q → IsLegal p other → value ≡ value_of p other → bound ≡ exchange_of p q other →
    is_cut bound q (record { path = other; value = value }) ≡ true → IsExchange p q (record { bound = bound; value = value; position = u })
exchange_is p q u other value bound long is legal worth found cut =
    let lawful : IsLegal p (exchanged u q) = subst (IsLegal p) is legal in
    let cuts : is_cut (exchange_of p q other) q (standing_of p other) ≡ true = rw (found, worth) at cut in
    record {
      stands = exchanged-stands p q long u lawful (subst (λ (r : List ℕ). IsTrue (is_cut (exchange_of p q r) q (standing_of p r))) is cuts);
      value = worth ∙ ap (value_of p) is;
      bound = found ∙ ap (exchange_of p q) is;
    }

-- the positions that were tried are all moves: so all that stand in are in the row
pub all_left : (p : Problem) (q : List ℕ) (tried : List ℕ) (n : ℕ) (row : List Candidate) → 2 ≤ length q → tried ≡ moves_after p (take (length q - 2) q) → AreCandidates p q tried n row → AreLeft p q 0 n row
all_left p q tried n row long are noted = record {
  inside = noted.inside;
  right = noted.right;
  all = λ u stands. noted.all u (subst (λ (xs : List ℕ). Contains xs u) (sym are) (exchanged-move p q long u stands.legal)) stands;
}
