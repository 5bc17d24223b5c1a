-- What a standing rules out stays ruled out under better ones, and how a prefix is closed is settled.
use Rattle.std.specs.Prelude.{ℕ, ◌≡◌, ◌≤◌, List, IsTrue, IsFalse}
use Rattle.search_model.specs.declared.standing.Standing.{Standing}
use Rattle.search_model.specs.Problem.{Problem, IsProblem}
use Rattle.search_model.specs.Legal.{IsLegal}
use Rattle.search_model.specs.Order.{better}
use Rattle.bound_tree.specs.declared.node.Kind.{Kind}
use Rattle.bound_tree.specs.declared.node.Kind.TheVariants.{Branch, Whole, Mean, Tangent, Edge, Exchange, TwoLooks}
use Rattle.bound_tree.specs.Cut.{is_cut, times}
use Rattle.bound_tree.specs.Close.{IsClosed, IsAtLeast}
use Rattle.bound_tree.specs.Accepts.{IsGoodKind}

-- what a standing cuts, every better standing cuts
abbrev pub CutStays : Type 0
CutStays = (b : ℕ) (q : List ℕ) (s t : Standing) → IsTrue (better t s) → IsTrue (is_cut b q s) → IsTrue (is_cut b q t)

-- what a standing in finer parts cuts, every standing that is at least as good cuts in the same parts
abbrev pub FinerCutStays : Type 0
FinerCutStays = (g b : ℕ) (q : List ℕ) (s t : Standing) → 1 ≤ g → IsAtLeast t s → IsTrue (is_cut b q (times g s)) → IsTrue (is_cut b q (times g t))

-- a bound that is no less than one that a standing doesn't cut isn't cut, either
abbrev pub UncutAbove : Type 0
UncutAbove = (b c : ℕ) (q : List ℕ) (s : Standing) → b ≤ c → IsFalse (is_cut b q s) → IsFalse (is_cut c q s)

-- a mean, a tangent, an edge, an exchange, or a bound that remembers two looks
abbrev pub IsBoundKind : Kind → Type 0
IsBoundKind Branch = ⊥
IsBoundKind (Whole n) = ⊥
IsBoundKind (Mean b) = Unit {0}
IsBoundKind (Tangent b whole) = Unit {0}
IsBoundKind (Edge b) = Unit {0}
IsBoundKind (Exchange b u) = Unit {0}
IsBoundKind (TwoLooks b) = Unit {0}

-- what is closed by a bound under a standing is closed by a bound under every better one, and in no other way there
abbrev pub ClosedStays : Type 0
ClosedStays =
    (p : Problem) (s t : Standing) (q : List ℕ) (kind : Kind) → IsProblem p → IsLegal p q → IsTrue (better t s) → IsBoundKind kind → IsClosed p s q kind →
    ((next : Kind) × IsBoundKind next × IsClosed p t q next) × ((other : Kind) → IsClosed p t q other → IsBoundKind other)

-- what is closed by its mean bound under a standing is closed by the same bound under every better one
abbrev pub MeanStays : Type 0
MeanStays = (p : Problem) (s t : Standing) (q : List ℕ) (b : ℕ) → IsTrue (better t s) → IsClosed p s q (Mean b) → IsClosed p t q (Mean b)

-- what branches under a better standing branches under the worse one
abbrev pub BranchedBefore : Type 0
BranchedBefore = (p : Problem) (s t : Standing) (q : List ℕ) → IsProblem p → IsTrue (better t s) → IsClosed p t q Branch → IsClosed p s q Branch

-- under a standing each legal prefix is closed in one way, and in no second
abbrev pub ClosesOnce : Type 0
ClosesOnce =
    (p : Problem) (s : Standing) (q : List ℕ) → IsProblem p → IsLegal p q → (kind : Kind) × IsClosed p s q kind × ((other : Kind) → IsClosed p s q other → other ≡ kind)

-- what is closed under a standing is good in itself under that standing and under each better one, where it isn't a whole
-- path that is better than the latter
abbrev pub ClosedIsGood : Type 0
ClosedIsGood =
    (p : Problem) (s t : Standing) (q : List ℕ) (kind : Kind) → IsProblem p → IsLegal p q → IsAtLeast t s →
    ((n : ℕ) → kind ≡ Whole n → IsFalse (better (record { path = q; value = n }) t)) → IsClosed p s q kind → IsGoodKind p t q kind
