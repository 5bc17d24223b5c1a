-- Records are good in themselves under the champion.
use Rattle.std.proofs.Common.{◌≡◌, ℕ, inl, inr, List, [], ◌∷◌, ◌++◌, get_or, sym, subst, Contains, All}
use Rattle.std.proofs.lemmas.Bool.{cases_Bool}
use Rattle.std.specs.List.{flat_map}
use Rattle.std.proofs.lemmas.List.Elements.{All-nil, All-cons, All-weaker, All-contains, All-contains_itself, Contains-append_left, Contains-append_right, Contains-append_cases}
use Rattle.search_model.specs.declared.standing.Standing.{Standing}
use Rattle.search_model.specs.Problem.{Problem, IsProblem}
use Rattle.search_model.specs.Legal.{IsLegal}
use Rattle.search_model.specs.Order.{better}
use Rattle.list_laws.proofs.Members.{Contains-head, Contains-tail, Contains-nil, Contains-map, Contains-cons_cases, Contains-flat_map, Contains-flat_map_cases}
use Rattle.bound_tree.specs.declared.node.Kind.{Kind}
use Rattle.bound_tree.specs.declared.node.Kind.TheVariants.{Branch, Whole, Mean, Tangent, Edge, Exchange, TwoLooks}
use Rattle.bound_tree.specs.declared.node.TreeNode.{TreeNode}
use Rattle.bound_tree.specs.Accepts.{prefixes_of}
use Rattle.bound_tree.specs.Accepts.{IsGood, IsGoodKind}
use Rattle.bound_tree.specs.Close.{IsClosed, IsExact, IsAtLeast, LetsBranch}
use Rattle.bound_tree.proofs.Closing.{at_least_itself, at_least_trans, at_least_from}
use Rattle.search_core.specs.Balance.{Core, standing_in, IsClosedUnder, IsBalanced}
use Rattle.search_core.specs.Steps.{started}
use Rattle.search_core.specs.Champion.{whole_of, known_in, IsChampion}
use Rattle.search_core.specs.Laws.{RunsAreGood, RunsAreLive}
use Rattle.search_core.proofs.FromBounds.{good_from_closed, branch_from_better}
use Rattle.search_core.proofs.Kept.{runs_are_balanced, standings_stay}
use Rattle.search_core.proofs.Live.{balanced_is_live}

-- the prefix of a record is legal
legal_record : (p : Problem) (c : Core) (r : TreeNode) → IsBalanced p c → Contains c.records r → IsLegal p r.prefix
legal_record p c r b among =
    All-contains (IsLegal p) (standing_in c.pool c.hands c.records) r.prefix b.legal
    (Contains-append_right (c.pool ++ c.hands) (prefixes_of c.records) r.prefix (Contains-map (λ (r : TreeNode). r.prefix) c.records r among))

given_by : (q : List ℕ) (kind : Kind) (n : ℕ) → kind ≡ Whole n → Contains (whole_of q kind) (record { path = q; value = n })
given_by q kind n e =
    let given : Standing = record { path = q; value = n } in
    subst (λ k. Contains (whole_of q k) given) (sym e) (Contains-head given [])

-- a record is good in itself under the champion
good_record : (p : Problem) (c : Core) (t : Standing) (r : TreeNode) → IsProblem p → IsBalanced p c → IsChampion c t → Contains c.records r → IsGood p t r
good_record p c t r sound b champion among =
    let under = All-contains (IsClosedUnder p c.standings) c.records r b.closed among in
    let wholes : List Standing = flat_map (λ r. whole_of r.prefix r.kind) c.records in
    let least : (s : Standing) → Contains (known_in c) s → IsAtLeast t s = λ s known. All-contains (λ s. IsAtLeast t s) (known_in c) s champion.best known in
    good_from_closed p under.0 t r.prefix r.kind sound (legal_record p c r b among) (least under.0 (Contains-append_left c.standings wholes under.0 under.1))
    (λ n e. let given : Standing = record { path = r.prefix; value = n } in
    least given (Contains-append_right c.standings wholes given (Contains-flat_map (λ (r : TreeNode). whole_of r.prefix r.kind) c.records r given among (given_by r.prefix r.kind n e))))
    under.2

pub good_records : (p : Problem) (c : Core) (t : Standing) → IsProblem p → IsBalanced p c → IsChampion c t → All (IsGood p t) c.records
good_records p c t sound b champion = λ k d l. good_record p c t (get_or c.records k d) sound b champion (All-contains_itself c.records k d l)

-- a Whole record that is good gives an exact standing
exact_whole : (p : Problem) (t s : Standing) (q : List ℕ) (kind : Kind) → IsLegal p q → IsGoodKind p t q kind → Contains (whole_of q kind) s → IsExact p s
exact_whole p t s q Branch legal good h = absurd (Contains-nil s h)
exact_whole p t s q (Whole n) legal good h = elim (Contains-cons_cases (record { path = q; value = n }) s [] h) [
  | inl e ↦ subst (IsExact p) e (record { path = record { follows = legal.follows; whole = good.0 }; value = good.1 })
  | inr none ↦ absurd (Contains-nil s none)
]
exact_whole p t s q (Mean b) legal good h = absurd (Contains-nil s h)
exact_whole p t s q (Tangent b whole) legal good h = absurd (Contains-nil s h)
exact_whole p t s q (Edge b) legal good h = absurd (Contains-nil s h)
exact_whole p t s q (Exchange b u) legal good h = absurd (Contains-nil s h)
exact_whole p t s q (TwoLooks b) legal good h = absurd (Contains-nil s h)

-- the champion is exact
pub exact_champion : (p : Problem) (c : Core) (t : Standing) → IsProblem p → IsBalanced p c → IsChampion c t → IsExact p t
exact_champion p c t sound b champion =
    elim (Contains-append_cases c.standings (flat_map (λ r. whole_of r.prefix r.kind) c.records) t champion.known) [
      | inl learnt ↦ All-contains (IsExact p) c.standings t b.exact learnt
      | inr whole ↦
          let found = Contains-flat_map_cases (λ (r : TreeNode). whole_of r.prefix r.kind) c.records t whole in
          exact_whole p t t found.0.prefix found.0.kind (legal_record p c found.0 b found.1) (good_record p c t found.0 sound b champion found.1) found.2
    ]

-- of some standings one is at least each
best_of : (s : Standing) (ss : List Standing) → (t : Standing) × Contains (s ∷ ss) t × All (λ u. IsAtLeast t u) (s ∷ ss)
best_of s [] = (s, Contains-head s [], All-cons (λ u. IsAtLeast s u) s [] (at_least_itself s) (All-nil (λ u. IsAtLeast s u)))
best_of s (r ∷ ss) =
    let rest = best_of r ss in
    elim (cases_Bool (better s rest.0)) [
      | inl more ↦
          let above : IsAtLeast s rest.0 = inr more in (
            s,
            Contains-head s (r ∷ ss),
            All-cons (λ u. IsAtLeast s u) s (r ∷ ss) (at_least_itself s)
                (All-weaker (λ u. IsAtLeast rest.0 u) (λ u. IsAtLeast s u) (λ u h. at_least_trans s rest.0 u above h) (r ∷ ss) rest.2),
          )
      | inr none ↦ (rest.0, Contains-tail s rest.0 (r ∷ ss) rest.1, All-cons (λ u. IsAtLeast rest.0 u) s (r ∷ ss) (at_least_from rest.0 s none) rest.2)
    ]

best_among : (ss : List Standing) (s : Standing) → Contains ss s → (t : Standing) × Contains ss t × All (λ u. IsAtLeast t u) ss
best_among [] s h = absurd (Contains-nil s h)
best_among (r ∷ ss) s h = best_of r ss

champion_of : (c : Core) (s : Standing) → Contains c.standings s → (t : Standing) × IsChampion c t
champion_of c s h =
    let found = best_among (known_in c) s (Contains-append_left c.standings (flat_map (λ r. whole_of r.prefix r.kind) c.records) s h) in
    (found.0, record { known = found.1; best = found.2 })

pub runs_are_good : RunsAreGood
runs_are_good p s es c sound exact runs =
    let b = runs_are_balanced p s es c sound exact runs in (
      champion_of c s (standings_stay p (started s) es c s runs (Contains-head s [])),
      λ t champion. (exact_champion p c t sound b champion, good_records p c t sound b champion),
    )

-- records that are closed under standings at least s branch only where s does
lets_branch : (p : Problem) (s : Standing) (c : Core) → IsProblem p → IsBalanced p c → All (λ t. IsAtLeast t s) c.standings → LetsBranch p s c.records
lets_branch p s c sound b least = λ k d l branch.
    let r : TreeNode = get_or c.records k d in
    let among : Contains c.records r = All-contains_itself c.records k d l in
    let under = All-contains (IsClosedUnder p c.standings) c.records r b.closed among in
    branch_from_better p s under.0 r.prefix sound (legal_record p c r b among) (All-contains (λ t. IsAtLeast t s) c.standings under.0 least under.1)
    (subst (λ kind. IsClosed p under.0 r.prefix kind) branch under.2)

pub runs_are_live : RunsAreLive
runs_are_live p s es c sound exact runs least =
    let b = runs_are_balanced p s es c sound exact runs in
    let lets = lets_branch p s c sound b least in
    (lets, (balanced_is_live p s c.pool c.hands c.records sound b.equation lets).1)
