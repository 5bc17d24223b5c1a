-- Problems that are the same search close prefixes in the same way, and have the same live ones.
use Rattle.std.proofs.Common.{ℕ, List, take, sym, ◌∙◌, subst, IsTrue, IsFalse}
use Rattle.std.proofs.lemmas.List.Elements.{All-weaker}
use Rattle.search_model.specs.declared.standing.Standing.{Standing}
use Rattle.search_model.specs.Problem.{Problem, IsProblem}
use Rattle.search_model.specs.Same.{AreSame}
use Rattle.search_model.specs.Legal.{IsLegal}
use Rattle.search_model.specs.Edge.{edge_of}
use Rattle.search_model.proofs.WalkLemmas.{front_is_legal}
use Rattle.search_model.proofs.SameSearch.{AreSame-sym, legal_same, rate_same, value_same_legal, tangent_same, reference_same}
use Rattle.search_model.proofs.SameExchanges.{exchange_same}
use Rattle.search_model.proofs.SameMemory.{mean_same, edge_same, remembering_same}
use Rattle.bound_tree.specs.declared.node.Kind.{Kind}
use Rattle.bound_tree.specs.declared.node.Kind.TheVariants.{Branch, Whole, Mean, Tangent, Edge, Exchange, TwoLooks}
use Rattle.bound_tree.specs.Cut.{is_cut, times}
use Rattle.bound_tree.specs.Exchanges.{exchanged}
use Rattle.bound_tree.specs.Close.{IsTangent, IsLeftOpen, IsLeftOver, IsPastTwoLooks, IsClosed, IsLive}
use Rattle.bound_tree.specs.SameLaws.{SameCloses, SameLive, SameHasMoreLive}
use Rattle.bound_tree.proofs.Tangents.{reference_extends}
use Rattle.bound_tree.proofs.SameStandIns.{asked_same, two_asked_same, best_stand_in_same, no_stand_in_same}

module _ (p o : Problem) (same : AreSame p o) (sound : IsProblem p) (q : List ℕ) (legal : IsLegal p q) where
  -- a prefix has the same tangent bound, at the same reference
  tangent_there : (b : ℕ) (whole : List ℕ) → IsTangent p q b whole → IsTangent o q b whole
  tangent_there b whole is =
      let extends = reference_extends p q sound legal whole is.reference in
      record {
        rate = is.rate;
        is_rate = rate_same p o same is.rate is.is_rate;
        reference = (reference_same p o same sound q whole legal).0 is.reference;
        bound = is.bound ∙ tangent_same p o same sound is.rate q whole legal extends.path;
      }

  tangent_back : (b : ℕ) (whole : List ℕ) → IsTangent o q b whole → IsTangent p q b whole
  tangent_back b whole is =
      let reference = (reference_same p o same sound q whole legal).1 is.reference in
      let extends = reference_extends p q sound legal whole reference in
      record {
        rate = is.rate;
        is_rate = rate_same o p (AreSame-sym p o same) is.rate is.is_rate;
        reference = reference;
        bound = is.bound ∙ sym (tangent_same p o same sound is.rate q whole legal extends.path);
      }

  -- a standing that rules out neither its mean nor its tangent bound rules out neither there
  left_open_same : (s : Standing) → IsLeftOpen p s q → IsLeftOpen o s q
  left_open_same s left = record {
    mean = subst (λ (b : ℕ). IsFalse (is_cut b q s)) (mean_same p o same sound q legal) left.mean;
    tangent = λ b whole is. subst (λ (g : ℕ). IsFalse (is_cut b q (times g s))) same.look_denominator (left.tangent b whole (tangent_back b whole is));
  }

  -- nor its edge bound
  edge_open_same : (s : Standing) → IsFalse (is_cut (edge_of p q) q s) → IsFalse (is_cut (edge_of o q) q s)
  edge_open_same s free = subst (λ (b : ℕ). IsFalse (is_cut b q s)) (edge_same p o same sound q legal) free

  -- nor does another prefix stand in
  left_over_same : (s : Standing) → IsLeftOver p s q → IsLeftOver o s q
  left_over_same s left = record { left = left_open_same s left.left; edge = edge_open_same s left.edge; alone = no_stand_in_same p o same sound q legal left.alone }

  -- nor its bound of two looks
  past_same : (s : Standing) → IsPastTwoLooks p s q → IsPastTwoLooks o s q
  past_same s past asked = subst (λ (b : ℕ). IsFalse (is_cut b q s)) (remembering_same p o same sound 2 q legal) (past (two_asked_same o p (AreSame-sym p o same) q asked))

  closed_there : (s : Standing) (kind : Kind) → IsClosed p s q kind → IsClosed o s q kind
  closed_there s Branch closed = (rw (← same.horizon) closed.0, left_over_same s closed.1, past_same s closed.2)
  closed_there s (Whole n) closed = (closed.0 ∙ same.horizon, closed.1 ∙ value_same_legal p o same sound q legal)
  closed_there s (Mean b) closed = (rw (← same.horizon) closed.0, closed.1 ∙ mean_same p o same sound q legal, closed.2)
  closed_there s (Tangent b whole) closed = (
    rw (← same.horizon) closed.0,
    subst (λ (m : ℕ). IsFalse (is_cut m q s)) (mean_same p o same sound q legal) closed.1,
    tangent_there b whole closed.2,
    subst (λ (g : ℕ). IsTrue (is_cut b q (times g s))) same.look_denominator closed.3,
  )
  closed_there s (Edge b) closed = (rw (← same.horizon) closed.0, left_open_same s closed.1, closed.2 ∙ edge_same p o same sound q legal, closed.3)
  closed_there s (Exchange b u) closed =
      let stands = closed.3.stands in (
        asked_same p o same q closed.0,
        left_open_same s closed.1,
        edge_open_same s closed.2,
        best_stand_in_same p o same sound q legal closed.0.short u closed.3,
        closed.4 ∙ exchange_same p o same sound q (exchanged u q) legal stands.legal closed.0.short stands.long,
      )
  closed_there s (TwoLooks b) closed =
      (two_asked_same p o same q closed.0, left_over_same s closed.1, closed.2 ∙ remembering_same p o same sound 2 q legal, closed.3)

pub closed_same : SameCloses
closed_same p o s q kind sound same legal closed = closed_there p o same sound q legal s kind closed

pub live_same : SameLive
live_same p o s q sound same live = record {
  legal = legal_same p o same q live.legal;
  branches = λ k inside. closed_same p o s (take k q) Branch sound same (front_is_legal p q k live.legal) (live.branches k inside);
}

pub more_live_same : SameHasMoreLive
more_live_same p o s limit sound same (qs, ascend, live, more) = (qs, ascend, All-weaker (IsLive p s) (IsLive o s) (λ q is. live_same p o s q sound same is) qs live, more)
