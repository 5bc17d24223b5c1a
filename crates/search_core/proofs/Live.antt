-- All that stands somewhere is live under a standing that lets the Branch records branch.
use Rattle.std.proofs.Common.{◌≡◌, ℕ, ◌≤◌, List, [], ◌∷◌, ◌++◌, length, inl, inr, sym, ◌∙◌, subst, arith, Contains, length-append}
use Rattle.std.proofs.lemmas.Bool.{cases_lt}
use Rattle.std.proofs.lemmas.List.{take-append-le, take_all}
use Rattle.std.proofs.lemmas.List.Elements.{All-contains}
use Rattle.search_model.specs.declared.standing.Standing.{Standing}
use Rattle.search_model.specs.Problem.{Problem, IsProblem}
use Rattle.search_model.specs.Legal.{moves_after}
use Rattle.search_model.proofs.WalkLemmas.{follows-append}
use Rattle.bound_tree.specs.declared.node.Kind.TheVariants.{Branch}
use Rattle.bound_tree.specs.Close.{IsClosed, IsLive}
use Rattle.search_core.specs.Laws.{BalancedIsLive}
use Rattle.search_core.proofs.FromBounds.{short_from_branch}
use Rattle.search_core.proofs.Reached.{reached, distinct}

-- a child of a live prefix that branches is live
live_below : (p : Problem) (s : Standing) (q : List ℕ) (d : ℕ) → IsProblem p → IsLive p s q → IsClosed p s q Branch → Contains (moves_after p q) d → IsLive p s (q ++ d ∷ [])
live_below p s q d sound live closed move = record {
  legal = record {
    follows = (follows-append p.moves p.start q (d ∷ [])).1 (live.legal.follows, (move, tt));
    short = omega (arith, short_from_branch p s q sound live.legal closed, length-append q (d ∷ []));
  };
  branches = λ k l.
      let P : List ℕ → Type 0 = λ z. IsClosed p s z Branch in
      let within : k ≤ length q = omega (arith, l, length-append q (d ∷ [])) in
      elim (cases_lt k (length q)) [
        | inl less ↦ subst P (sym (take-append-le k q (d ∷ []) within)) (live.branches k less)
        | inr past ↦ subst P (sym (take-append-le k q (d ∷ []) within ∙ take_all k q past)) closed
      ];
}

pub balanced_is_live : BalancedIsLive
balanced_is_live p s pool hands rs sound equation lets = (
  distinct p pool hands rs equation sound,
  reached p pool hands rs equation (IsLive p s)
      (record { legal = record { follows = tt; short = omega arith }; branches = λ k l. absurd (omega (arith, l)) })
      (λ r among branch live d move. live_below p s r.prefix d sound live (All-contains (λ r. r.kind ≡ Branch → IsClosed p s r.prefix Branch) rs r lets among branch) move),
)
