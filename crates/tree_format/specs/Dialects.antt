-- What the dialects of plan text differ in: a word each.
use Rattle.std.specs.Prelude.{ℕ, Bool, true, false, nat_lt, if◌then◌else◌, List, [], ◌∷◌, codes}
use Rattle.search_model.specs.Problem.{Problem}
use Rattle.tree_format.specs.declared.plan_line.Family.{Family}
use Rattle.tree_format.specs.declared.plan_line.Family.TheVariants.{Plans, Gaps}
use Rattle.tree_format.specs.declared.plan_line.Dialect.{Dialect}
use Rattle.tree_format.specs.declared.plan_line.Dialect.TheVariants.{PlanOne, PlanTwo, PlanThree, GapOne, GapTwo}
use Rattle.tree_format.specs.declared.plan_line.Prefixes.{Prefixes}
use Rattle.tree_format.specs.declared.plan_line.Prefixes.TheVariants.{Written, LeftOut}
use Rattle.tree_format.specs.declared.dialects.TheConstants.{MOST_GAP_NODES}
use Rattle.bound_tree.specs.declared.gap.Numbers.{Numbers}
use Rattle.bound_tree.specs.declared.gap.Numbers.TheVariants.{Means, Edges}
use Rattle.bound_tree.specs.declared.tree.TheConstants.{MOST_NODES}

-- whether a dialect is one of plans or one of gap plans
abbrev pub family_of : Dialect → Family
family_of PlanOne = Plans
family_of PlanTwo = Plans
family_of PlanThree = Plans
family_of GapOne = Gaps
family_of GapTwo = Gaps

-- the dialects of a family, by their versions
abbrev pub dialects_of : Family → List Dialect
dialects_of Plans = PlanOne ∷ PlanTwo ∷ PlanThree ∷ []
dialects_of Gaps = GapOne ∷ GapTwo ∷ []

-- the word of their first lines
abbrev pub word_of : Family → List ℕ
word_of Plans = codes "plan"
word_of Gaps = codes "gap"

-- and the number behind it
abbrev pub version_of : Dialect → List ℕ
version_of PlanOne = codes "1"
version_of PlanTwo = codes "2"
version_of PlanThree = codes "3"
version_of GapOne = codes "1"
version_of GapTwo = codes "2"

-- the first line
abbrev pub version_row : Dialect → List (List ℕ)
version_row v = word_of (family_of v) ∷ version_of v ∷ []

-- the most records that a text may have
abbrev pub most_records : Family → ℕ
most_records Plans = MOST_NODES
most_records Gaps = MOST_GAP_NODES

-- the line of the first record
abbrev pub first_line : Family → ℕ
first_line Plans = 5
first_line Gaps = 6

-- whether it has the letter `E`
abbrev pub has_edges : Dialect → Bool
has_edges PlanOne = false
has_edges PlanTwo = true
has_edges PlanThree = true
has_edges GapOne = true
has_edges GapTwo = true

-- whether it has the letters `X` and `D`
abbrev pub has_exchanges : Dialect → Bool
has_exchanges PlanOne = false
has_exchanges PlanTwo = false
has_exchanges PlanThree = true
has_exchanges GapOne = false
has_exchanges GapTwo = true

-- whether nodes may wait: it has the letter `O`, and the line `ceiling N` stands behind `chance V W`
abbrev pub has_open : Dialect → Bool
has_open PlanOne = false
has_open PlanTwo = false
has_open PlanThree = false
has_open GapOne = true
has_open GapTwo = true

-- where it has the prefixes of its records
abbrev pub prefixes_in : Dialect → Prefixes
prefixes_in PlanOne = Written
prefixes_in PlanTwo = LeftOut
prefixes_in PlanThree = LeftOut
prefixes_in GapOne = LeftOut
prefixes_in GapTwo = LeftOut

-- which bounds the numbers of its nodes that wait are; where none waits, mean bounds
abbrev pub numbers_in : Dialect → Numbers
numbers_in PlanOne = Means
numbers_in PlanTwo = Means
numbers_in PlanThree = Means
numbers_in GapOne = Means
numbers_in GapTwo = Edges

-- the dialect of the gap plans with these numbers
abbrev pub dialect_with : Numbers → Dialect
dialect_with Means = GapOne
dialect_with Edges = GapTwo

-- the dialect that the plans of a problem are written in
abbrev pub plan_dialect_for : Problem → Dialect
plan_dialect_for p = if nat_lt p.horizon 4 then PlanTwo else PlanThree
