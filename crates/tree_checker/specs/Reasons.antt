-- The first reason against a plan or a gap plan, with the line of its text. A plan is seen here as the gap plan of its records, in which
-- no node waits; specs/Records.antt says the same record by record.
use Rattle.std.specs.Prelude.{ℕ, ◌+◌, ◌-◌, Bool, true, false, not, ◌&&◌, ◌==◌, nat_eq, nat_le, nat_lt, if◌then◌else◌, List, [], ◌∷◌, ◌++◌, map, length, slice_index, Option, Some, None}
use Rattle.std.specs.List.{list_any, starts_with}
use Rattle.std.specs.Option.{option_or, option_map}
use Rattle.search_grid.specs.Moves.{moves_from}
use Rattle.search_model.specs.declared.standing.Standing.{Standing}
use Rattle.search_model.specs.Problem.{Problem}
use Rattle.search_model.specs.Tracks.{value_of, whole_weight}
use Rattle.search_model.specs.Order.{smaller, better, standing_of}
use Rattle.search_model.specs.Bounds.{greatest, mean_of, tangent_of}
use Rattle.search_model.specs.Edge.{edge_of}
use Rattle.search_model.specs.Exchange.{exchange_of}
use Rattle.search_model.specs.Memory.{remembering_of}
use Rattle.bound_tree.specs.declared.node.Kind.{Kind}
use Rattle.bound_tree.specs.declared.node.Kind.TheVariants.{Branch, Whole, Mean, Tangent, Edge, Exchange, TwoLooks}
use Rattle.bound_tree.specs.declared.plan.Plan.{Plan}
use Rattle.bound_tree.specs.declared.gap.Numbers.{Numbers}
use Rattle.bound_tree.specs.declared.gap.Numbers.TheVariants.{Means}
use Rattle.bound_tree.specs.declared.gap.GapKind.{GapKind}
use Rattle.bound_tree.specs.declared.gap.GapKind.TheVariants.{Closed, Waiting}
use Rattle.bound_tree.specs.declared.gap.GapNode.{GapNode}
use Rattle.bound_tree.specs.declared.gap.GapPlan.{GapPlan}
use Rattle.bound_tree.specs.Cut.{is_cut, times}
use Rattle.bound_tree.specs.Exchanges.{exchanged}
use Rattle.bound_tree.specs.Accepts.{expected_by}
use Rattle.bound_tree.specs.Gaps.{shape_of_kind, ceiling_of, open_numbers, gap_of}
use Rattle.tree_checker.specs.Rate.{one_rate_of}
use Rattle.tree_checker.specs.declared.verdict.Why.{Why}
use Rattle.tree_checker.specs.declared.verdict.Why.TheVariants.{PathIllegal, ValueWrong, WeightWrong, NotChild, MissingChild, WholeWrong, BoundWrong, NotCut, NoOneRate, ReferenceWrong}
use Rattle.tree_checker.specs.declared.verdict.RejectAt.{RejectAt}
use Rattle.tree_checker.specs.declared.verdict.Verdict.{Verdict}
use Rattle.tree_checker.specs.declared.verdict.Verdict.TheVariants.{Accepted, Rejected}
use Rattle.tree_checker.specs.declared.gap_verdict.GapWhy.{GapWhy}
use Rattle.tree_checker.specs.declared.gap_verdict.GapWhy.TheVariants.{Plain, WaitingWrong, CeilingWrong}
use Rattle.tree_checker.specs.declared.gap_verdict.GapRejectAt.{GapRejectAt}

-- a test that a plan is to pass, and the reason where it fails
abbrev pub Test : Type 0
Test = Bool × Why

-- of tests in their order, the reason of the first that fails
abbrev pub first_failed : {W : Type 0} → List (Bool × W) → Option W
first_failed [] = None
first_failed (t ∷ ts) = if t.0 then first_failed ts else Some t.1

-- whether each position is a move of the one before, the first a move of a
abbrev pub follows : List (List ℕ) → ℕ → List ℕ → Bool
follows rows a [] = true
follows rows a (b ∷ q) = list_any (nat_eq b) (moves_from rows a) && follows rows b q

-- whether a prefix is a path
abbrev pub is_path : Problem → List ℕ → Bool
is_path p q = length q == p.horizon && follows p.moves p.start q

-- whether a prefix is legal
abbrev pub is_legal : Problem → List ℕ → Bool
is_legal p q = nat_le (length q) p.horizon && follows p.moves p.start q

-- the tests of the path line
abbrev pub path_tests : Problem → List ℕ → List Test
path_tests p q = (is_path p q, PathIllegal) ∷ []

-- the tests of the value and the weight of the path
abbrev pub value_tests : Problem → Standing → ℕ → List Test
value_tests p s weight = (s.value == value_of p s.path, ValueWrong) ∷ (weight == whole_weight p, WeightWrong) ∷ []

-- the tests of a bound's number at a prefix: it is the right one, and the standing cuts it
abbrev pub bound_tests : Standing → List ℕ → ℕ → ℕ → List Test
bound_tests s q b right = (b == right, BoundWrong) ∷ (is_cut b q s, NotCut) ∷ []

-- the tests of a tangent at a prefix and a reference path, with the one rate, where there is one: the reference is a path
-- that begins with the prefix, the bound is the tangent there, and the standing, in as fine parts, cuts it
abbrev pub tangent_tests : Problem → Standing → List ℕ → ℕ → List ℕ → Option ℕ → List Test
tangent_tests p s q b whole None = (false, NoOneRate) ∷ []
tangent_tests p s q b whole (Some rate) =
    (is_path p whole && starts_with nat_eq whole q, ReferenceWrong) ∷ bound_tests (times p.sweep.denominator s) q b (tangent_of p rate q whole)

-- whether a prefix is asked for one that stands in for it
abbrev pub has_exchanges : Problem → List ℕ → Bool
has_exchanges p q = nat_le 4 p.horizon && nat_le 2 (length q) && nat_lt (length q) p.horizon

-- whether a prefix is asked for its bound that remembers two looks
abbrev pub has_two_looks : Problem → List ℕ → Bool
has_two_looks p q = nat_le 4 p.horizon && nat_lt (length q) p.horizon

-- whether position u may take the place of a prefix's last but one
abbrev pub takes_place : Problem → List ℕ → ℕ → Bool
takes_place p q u = not (u == slice_index q (length q - 2)) && is_legal p (exchanged u q)

-- the tests of an exchange at a prefix with position u in place of its last but one: there are exchanges, u takes that place,
-- the bound is that over the prefix with u, and this, with its value, cuts it, whatever the plan's standing is
abbrev pub exchange_tests : Problem → List ℕ → ℕ → ℕ → List Test
exchange_tests p q b u =
    (has_exchanges p q, WholeWrong) ∷ (takes_place p q u, ReferenceWrong) ∷ bound_tests (standing_of p (exchanged u q)) q b (exchange_of p q (exchanged u q))

-- the tests of a kind at a prefix, under the plan's standing
abbrev pub kind_tests : Problem → Standing → List ℕ → Kind → List Test
kind_tests p s q Branch = (nat_lt (length q) p.horizon, WholeWrong) ∷ []
kind_tests p s q (Whole n) =
    (length q == p.horizon, WholeWrong) ∷ (n == value_of p q, WholeWrong) ∷ (not (better (record { path = q; value = n }) s), NotCut) ∷ []
kind_tests p s q (Mean b) = (nat_lt (length q) p.horizon, WholeWrong) ∷ bound_tests s q b (mean_of p q)
kind_tests p s q (Tangent b whole) = (nat_lt (length q) p.horizon, WholeWrong) ∷ tangent_tests p s q b whole (one_rate_of p)
kind_tests p s q (Edge b) = (nat_lt (length q) p.horizon, WholeWrong) ∷ bound_tests s q b (edge_of p q)
kind_tests p s q (Exchange b u) = exchange_tests p q b u
kind_tests p s q (TwoLooks b) = (has_two_looks p q, WholeWrong) ∷ bound_tests s q b (remembering_of p 2 q)

-- the tests of where a record stands, by its prefix, where prefix q is expected: past both the prefix is q
abbrev pub place_tests : List ℕ → List ℕ → List Test
place_tests q prefix = (not (smaller q prefix), MissingChild) ∷ (not (smaller prefix q), NotChild) ∷ []

-- a test of a plan as one of a gap plan
abbrev pub plain_test : Test → Bool × GapWhy
plain_test t = (t.0, Plain t.1)

-- the tests of how far a search came below a prefix, under the plan's standing: of a closed prefix those of its record, of
-- one that waits that its number is the prefix's ceiling, by the plan's numbers
abbrev pub open_tests : Numbers → Problem → Standing → List ℕ → GapKind → List (Bool × GapWhy)
open_tests numbers p s q (Closed kind) = map plain_test (kind_tests p s q kind)
open_tests numbers p s q (Waiting n) = (n == ceiling_of numbers p q, WaitingWrong) ∷ []

-- the tests of a node where prefix q is expected
abbrev pub node_tests : Numbers → Problem → Standing → List ℕ → GapNode → List (Bool × GapWhy)
node_tests numbers p s q node = map plain_test (place_tests q node.prefix) ++ open_tests numbers p s q node.kind

-- a reason stands at a line
abbrev pub at_line : ℕ → Option GapWhy → Option GapRejectAt
at_line line None = None
at_line line (Some w) = Some (record { line = line; why = w })

-- the first reason of the path line and of the line after it
abbrev pub head_reason : Problem → Standing → ℕ → Option GapRejectAt
head_reason p s weight =
    option_or (at_line 2 (first_failed (map plain_test (path_tests p s.path)))) (at_line 3 (first_failed (map plain_test (value_tests p s weight))))

-- the first reason against a node where these prefixes are expected
abbrev pub next_reason : Numbers → Problem → Standing → List (List ℕ) → GapNode → Option GapWhy
next_reason numbers p s [] node = Some (Plain NotChild)
next_reason numbers p s (q ∷ qs) node = first_failed (node_tests numbers p s q node)

-- what is expected behind a node where these prefixes were
abbrev pub expected_past : Problem → List (List ℕ) → GapNode → List (List ℕ)
expected_past p [] node = []
expected_past p (q ∷ qs) node = expected_by p q (shape_of_kind node.kind) ++ qs

-- where the nodes have ended, a prefix that is still expected is missed in the line of `end`
abbrev pub end_reason : ℕ → List (List ℕ) → Option GapRejectAt
end_reason line [] = None
end_reason line (q ∷ qs) = Some (record { line = line; why = Plain MissingChild })

-- the first reason of the nodes from a line on, and of the line of `end`, where these prefixes are expected
abbrev pub nodes_reason : Numbers → Problem → Standing → ℕ → List GapNode → List (List ℕ) → Option GapRejectAt
nodes_reason numbers p s line [] qs = end_reason line qs
nodes_reason numbers p s line (node ∷ nodes) qs =
    option_or (at_line line (next_reason numbers p s qs node)) (nodes_reason numbers p s (line + 1) nodes (expected_past p qs node))

-- the reason against a ceiling, in line 4: it is the greatest of these numbers
abbrev pub ceiling_reason : ℕ → List ℕ → Option GapRejectAt
ceiling_reason ceiling numbers = at_line 4 (first_failed ((ceiling == greatest numbers, CeilingWrong) ∷ []))

-- the first reason against a gap plan whose first node stands at this line: its head in lines 2 and 3, its nodes, and last
-- its ceiling
abbrev pub reason_from : ℕ → Problem → GapPlan → Option GapRejectAt
reason_from line p plan =
    option_or (head_reason p plan.standing plan.weight)
    (option_or (nodes_reason plan.numbers p plan.standing line plan.nodes ([] ∷ [])) (ceiling_reason plan.ceiling (plan.standing.value ∷ open_numbers plan.nodes)))

-- a reason as one against a plan: a number that has no place there is a wrong bound
abbrev pub plain_why : GapWhy → Why
plain_why (Plain w) = w
plain_why WaitingWrong = BoundWrong
plain_why CeilingWrong = BoundWrong

abbrev pub as_plain : GapRejectAt → RejectAt
as_plain r = record { line = r.line; why = plain_why r.why }

-- the first reason against a plan, whose first record stands at line 5; it has no numbers, so that either would do
abbrev pub first_reason : Problem → Plan → Option RejectAt
first_reason p plan = option_map as_plain (reason_from 5 p (gap_of Means plan))

-- what is said of a plan with this first reason
abbrev pub verdict_of : Option RejectAt → Verdict
verdict_of None = Accepted
verdict_of (Some r) = Rejected r
