-- Problems that are the same search ask for the same exchanges and bounds of two looks, and the same prefixes stand in.
use Rattle.std.proofs.Common.{ℕ, ◌<◌, List, length}
use Rattle.search_model.specs.Problem.{Problem, IsProblem}
use Rattle.search_model.specs.Same.{AreSame}
use Rattle.search_model.specs.Legal.{IsLegal}
use Rattle.search_model.proofs.SameSearch.{AreSame-sym, legal_same, value_same_legal}
use Rattle.search_model.proofs.SameExchanges.{exchange_same}
use Rattle.bound_tree.specs.Asked.{HasTwoLooks}
use Rattle.bound_tree.specs.Exchanges.{StandsIn, HasExchanges, IsBestStandIn, HasNoStandIn, exchanged}

module _ (p o : Problem) (same : AreSame p o) where
  -- the same prefixes are asked for one that stands in
  pub asked_same : (q : List ℕ) → HasExchanges p q → HasExchanges o q
  asked_same q asked = record { periods = rw (← same.horizon) asked.periods; long = asked.long; short = rw (← same.horizon) asked.short }

  -- and for the bound of two looks
  pub two_asked_same : (q : List ℕ) → HasTwoLooks p q → HasTwoLooks o q
  two_asked_same q asked = record { periods = rw (← same.horizon) asked.periods; short = rw (← same.horizon) asked.short }

  module _ (sound : IsProblem p) (q : List ℕ) (legal : IsLegal p q) (short : length q < p.horizon) where
    -- the same ones stand in for a prefix
    pub stands_there : (r : List ℕ) → StandsIn p r q → StandsIn o r q
    stands_there r stands = record {
      legal = legal_same p o same r stands.legal;
      long = stands.long;
      last = rw (← same.start) stands.last;
      cut = rw (← exchange_same p o same sound q r legal stands.legal short stands.long, ← value_same_legal p o same sound r stands.legal) stands.cut;
    }

    pub stands_back : (r : List ℕ) → StandsIn o r q → StandsIn p r q
    stands_back r stands =
        let lawful = legal_same o p (AreSame-sym p o same) r stands.legal in
        record {
          legal = lawful;
          long = stands.long;
          last = rw same.start stands.last;
          cut = rw (exchange_same p o same sound q r legal lawful short stands.long, value_same_legal p o same sound r lawful) stands.cut;
        }

    -- and the same one is the best of them
    pub best_stand_in_same : (u : ℕ) → IsBestStandIn p q u → IsBestStandIn o q u
    best_stand_in_same u best = record {
      stands = stands_there (exchanged u q) best.stands;
      best = λ v stands other.
          let here = stands_back (exchanged v q) stands in
          rw (← value_same_legal p o same sound (exchanged u q) best.stands.legal, ← value_same_legal p o same sound (exchanged v q) here.legal) (best.best v here other);
    }

  -- where none stands in, none does there
  pub no_stand_in_same : IsProblem p → (q : List ℕ) → IsLegal p q → HasNoStandIn p q → HasNoStandIn o q
  no_stand_in_same sound q legal none asked u stands =
      let here : HasExchanges p q = record { periods = rw same.horizon asked.periods; long = asked.long; short = rw same.horizon asked.short } in
      none here u (stands_back sound q legal here.short (exchanged u q) stands)
