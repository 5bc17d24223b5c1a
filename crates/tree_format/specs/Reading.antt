-- Reading line by line: what each line says, or its first fault.
use Rattle.std.specs.Prelude.{ℕ, ◌+◌, ◌-◌, Bool, true, false, ◌&&◌, ◌==◌, nat_le, if◌then◌else◌, List, [], ◌∷◌, ◌++◌, map, length, take, drop, Option, Some, None, Result, Ok, Err, codes}
use Rattle.std.specs.List.{list_any}
use Rattle.exact_parts.specs.declared.number.Number.{Number}
use Rattle.exact_parts.specs.declared.number.Number.TheVariants.{NotPlain, Above, Of}
use Rattle.exact_parts.specs.Decimal.{number_at}
use Rattle.search_model.specs.Problem.{Problem, position_named}
use Rattle.bound_tree.specs.declared.node.Kind.TheVariants.{Branch}
use Rattle.bound_tree.specs.declared.plan.Plan.{Plan}
use Rattle.bound_tree.specs.declared.gap.GapKind.{GapKind}
use Rattle.bound_tree.specs.declared.gap.GapKind.TheVariants.{Closed}
use Rattle.bound_tree.specs.declared.gap.GapNode.{GapNode}
use Rattle.bound_tree.specs.declared.gap.Numbers.TheVariants.{Means}
use Rattle.bound_tree.specs.declared.gap.GapPlan.{GapPlan}
use Rattle.bound_tree.specs.Gaps.{shape_of_kind, plan_of}
use Rattle.bound_tree.specs.Places.{first_of, expected_behind}
use Rattle.tree_format.specs.declared.plan_line.Family.{Family}
use Rattle.tree_format.specs.declared.plan_line.Family.TheVariants.{Plans, Gaps}
use Rattle.tree_format.specs.declared.plan_line.Dialect.{Dialect}
use Rattle.tree_format.specs.declared.plan_line.Dialect.TheVariants.{PlanOne}
use Rattle.tree_format.specs.declared.plan_line.Prefixes.{Prefixes}
use Rattle.tree_format.specs.declared.plan_line.Prefixes.TheVariants.{Written, LeftOut}
use Rattle.tree_format.specs.Dialects.{family_of, dialects_of, word_of, version_of, most_records, has_open, prefixes_in, numbers_in}
use Rattle.tree_format.specs.declared.due.Due.{Due}
use Rattle.tree_format.specs.declared.plan_line.Stage.{Stage}
use Rattle.tree_format.specs.declared.plan_line.Stage.TheVariants as due
use Rattle.tree_format.specs.declared.plan_line.PlanLine.{PlanLine}
use Rattle.tree_format.specs.declared.plan_line.PlanLine.TheVariants.{Version, Path, Chance, Ceiling, Count, Node, End}
use Rattle.tree_format.specs.declared.kind.PlanKind.{PlanKind}
use Rattle.tree_format.specs.declared.kind.PlanKind.TheVariants.{BadLine, BadNumber, UnknownName, TooManyNodes, WrongCount, EarlyEnd, Rest, NoPlace, StillOpen}
use Rattle.tree_format.specs.declared.kind.PlanFault.{PlanFault}
use Rattle.tree_format.specs.declared.record_lines.Bounded.{Bounded}
use Rattle.tree_format.specs.declared.record_lines.Numbered.{Numbered}
use Rattle.tree_format.specs.Letters.{referred, kind_with, numbered_by}
use Rattle.text_rows.specs.Lines.{after_lines}
use Rattle.text_rows.specs.Fields.{exact_fields, is_word}
use Rattle.text_rows.specs.LineMachine.{LineMachine, Reached, read_from}
use Rattle.text_rows.specs.WholeLines.{whole_lines}

-- Numbers and names.

-- a number within its limit
abbrev pub said : Number → Option ℕ
said NotPlain = None
said Above = None
said (Of n) = Some n

-- a number below 2 to the power 128
abbrev pub amount_in : List ℕ → Option ℕ
amount_in field = said (number_at 340282366920938463463374607431768211455 field)

-- the number of a position
abbrev pub place_in : Problem → List ℕ → Option ℕ
place_in p field = said (number_at (p.positions - 1) field)

-- what a field says, in front of what others say
abbrev pub in_front : Option ℕ → Option (List ℕ) → Option (List ℕ)
in_front None qs = None
in_front (Some q) None = None
in_front (Some q) (Some qs) = Some (q ∷ qs)

-- what all fields say, where each says something
unfoldable pub all_of : (List ℕ → Option ℕ) → List (List ℕ) → Option (List ℕ)
all_of says [] = Some []
all_of says (field ∷ fields) = in_front (says field) (all_of says fields)

-- The lines above the records.

-- the dialect with this number, of these
abbrev pub version_said : List Dialect → List ℕ → Result PlanLine PlanKind
version_said [] number = Err BadLine
version_said (v ∷ vs) number = if is_word number (version_of v) then Ok (Version v) else version_said vs number

-- the first line of the texts of a family
abbrev pub version_line : Family → List (List ℕ) → Result PlanLine PlanKind
version_line family (word ∷ number ∷ []) = if is_word word (word_of family) then version_said (dialects_of family) number else Err BadLine
version_line _ _ = Err BadLine

-- `path NAME ..`
abbrev pub path_said : Option (List ℕ) → Result PlanLine PlanKind
path_said None = Err UnknownName
path_said (Some q) = Ok (Path q)

-- the keyword and the number of names go before the names
abbrev pub path_line : Problem → List (List ℕ) → Result PlanLine PlanKind
path_line p (word ∷ names) =
    if is_word word (codes "path") && (nat_le 1 (length names) && nat_le (length names) 32) then path_said (all_of (position_named p) names) else Err BadLine
path_line p [] = Err BadLine

-- `chance V W`
abbrev pub chance_said : Option ℕ → Option ℕ → Result PlanLine PlanKind
chance_said None weight = Err BadNumber
chance_said (Some v) None = Err BadNumber
chance_said (Some v) (Some w) = Ok (Chance v w)

-- the keyword and the number of fields go before the numbers
abbrev pub chance_line : List (List ℕ) → Result PlanLine PlanKind
chance_line (word ∷ value ∷ weight ∷ []) = if is_word word (codes "chance") then chance_said (amount_in value) (amount_in weight) else Err BadLine
chance_line _ = Err BadLine

-- `ceiling N`
abbrev pub ceiling_said : Option ℕ → Result PlanLine PlanKind
ceiling_said None = Err BadNumber
ceiling_said (Some n) = Ok (Ceiling n)

-- the keyword and the number of fields go before the number
abbrev pub ceiling_line : List (List ℕ) → Result PlanLine PlanKind
ceiling_line (word ∷ n ∷ []) = if is_word word (codes "ceiling") then ceiling_said (amount_in n) else Err BadLine
ceiling_line _ = Err BadLine

-- the number of `nodes N`
abbrev pub count_said : ℕ → Option ℕ → Result PlanLine PlanKind
count_said most None = Err BadNumber
count_said most (Some n) = if nat_le n most then Ok (Count n) else Err TooManyNodes

-- the line that says how many records follow, of which there may be so many
abbrev pub count_line : ℕ → List (List ℕ) → Result PlanLine PlanKind
count_line most (word ∷ n ∷ []) = if is_word word (codes "nodes") then count_said most (amount_in n) else Err BadLine
count_line most _ = Err BadLine

-- The records.

-- the most positions that the prefix on a record's line may have: none where it is left out
abbrev pub most_positions : Problem → Prefixes → ℕ
most_positions p Written = p.horizon
most_positions p LeftOut = 0

-- `B`, behind its letter
abbrev pub branch_of : Option (List ℕ) → Result GapNode PlanKind
branch_of None = Err BadNumber
branch_of (Some q) = Ok (record { prefix = q; kind = Closed Branch })

-- at most so many positions, and their number goes before them
abbrev pub branch_line : Problem → ℕ → List (List ℕ) → Result GapNode PlanKind
branch_line p most positions = if nat_le (length positions) most then branch_of (all_of (place_in p) positions) else Err BadLine

-- the other records, behind their letters
abbrev pub bounded_of : Option ℕ → Option (List ℕ) → Option (List ℕ) → Result Bounded PlanKind
bounded_of None q reference = Err BadNumber
bounded_of (Some n) None reference = Err BadNumber
bounded_of (Some n) (Some q) None = Err BadNumber
bounded_of (Some n) (Some q) (Some reference) = Ok (record { bound = n; prefix = q; reference = reference })

-- the last positions are those that it refers to, and before these stand at most so many
abbrev pub bounded_at : Problem → ℕ → ℕ → List ℕ → List (List ℕ) → Result Bounded PlanKind
bounded_at p most long bound positions =
    if nat_le long (length positions) && nat_le (length positions) (most + long)
    then bounded_of (amount_in bound) (all_of (place_in p) (take (length positions - long) positions)) (all_of (place_in p) (drop (length positions - long) positions))
    else Err BadLine

-- at least the number
abbrev pub bounded_line : Problem → ℕ → ℕ → List (List ℕ) → Result Bounded PlanKind
bounded_line p most long [] = Err BadLine
bounded_line p most long (bound ∷ positions) = bounded_at p most long bound positions

-- a record of that kind
abbrev pub node_of : Numbered → Result Bounded PlanKind → Result GapNode PlanKind
node_of kind (Err fault) = Err fault
node_of kind (Ok b) = Ok (record { prefix = b.prefix; kind = kind_with kind b.bound b.reference })

-- where a dialect has the letter
abbrev pub numbered_line : Problem → ℕ → Option Numbered → List (List ℕ) → Result GapNode PlanKind
numbered_line p most None fields = Err BadLine
numbered_line p most (Some kind) fields = node_of kind (bounded_line p most (referred p kind) fields)

-- a record, by its letter
abbrev pub node_line : Problem → Dialect → List (List ℕ) → Result GapNode PlanKind
node_line p v [] = Err BadLine
node_line p v (letter ∷ fields) =
    if is_word letter (codes "B")
    then branch_line p (most_positions p (prefixes_in v)) fields
    else numbered_line p (most_positions p (prefixes_in v)) (numbered_by v letter) fields

-- where this prefix is expected next, a record has it
abbrev pub placed_at : Option (List ℕ) → GapNode → Result PlanLine PlanKind
placed_at None r = Err NoPlace
placed_at (Some q) r = Ok (Node (record { prefix = q; kind = r.kind }))

-- a record whose prefix is left out has the one that is expected next
abbrev pub placed : Prefixes → List (List ℕ) → GapNode → Result PlanLine PlanKind
placed Written expected r = Ok (Node r)
placed LeftOut expected r = placed_at (first_of expected) r

-- a record that is right in its form stands only where one is left
abbrev pub node_said : Prefixes → ℕ → List (List ℕ) → Result GapNode PlanKind → Result PlanLine PlanKind
node_said v left expected (Err fault) = Err fault
node_said v left expected (Ok r) = if left == 0 then Err WrongCount else placed v expected r

-- `end`
abbrev pub is_end : List (List ℕ) → Bool
is_end (word ∷ []) = is_word word (codes "end")
is_end _ = false

-- where this prefix is expected next, no end stands
abbrev pub ended_at : Option (List ℕ) → Result PlanLine PlanKind
ended_at None = Ok End
ended_at (Some q) = Err StillOpen

-- where prefixes are left out it stands only where none is expected
abbrev pub ending : Prefixes → List (List ℕ) → Result PlanLine PlanKind
ending Written expected = Ok End
ending LeftOut expected = ended_at (first_of expected)

-- and always only where no record is left
abbrev pub end_said : Prefixes → ℕ → List (List ℕ) → Result PlanLine PlanKind
end_said v left expected = if left == 0 then ending v expected else Err WrongCount

-- a record or `end`
abbrev pub record_line : Problem → Dialect → ℕ → List (List ℕ) → List (List ℕ) → Result PlanLine PlanKind
record_line p v left expected fields =
    if is_end fields then end_said (prefixes_in v) left expected else node_said (prefixes_in v) left expected (node_line p v fields)

-- All lines.

-- what a line says where this stage is due, of a text of this dialect, and where these prefixes are expected
abbrev pub stage_line : Problem → Dialect → Stage → List (List ℕ) → List (List ℕ) → Result PlanLine PlanKind
stage_line p v (due.Version family) expected fields = version_line family fields
stage_line p v due.Path expected fields = path_line p fields
stage_line p v due.Chance expected fields = chance_line fields
stage_line p v due.Ceiling expected fields = ceiling_line fields
stage_line p v due.Count expected fields = count_line (most_records (family_of v)) fields
stage_line p v (due.Records left) expected fields = record_line p v left expected fields
stage_line p v due.Ended expected fields = Err BadLine

-- what a line says where it is due, by its fields
unfoldable pub line_at : Problem → Due → List (List ℕ) → Result PlanLine PlanKind
line_at p d fields = if list_any (λ f. length f == 0) fields then Err BadLine else stage_line p d.dialect d.stage d.expected fields

-- one record less is left
abbrev pub one_less : Stage → Stage
one_less (due.Records left) = due.Records (left - 1)
one_less stage = stage

-- the prefixes that are expected behind a record of this kind: where its line has its own, nothing changes
abbrev pub places_behind : Problem → Prefixes → List (List ℕ) → GapKind → List (List ℕ)
places_behind p Written expected kind = expected
places_behind p LeftOut expected kind = expected_behind p expected (shape_of_kind kind)

-- at this line
abbrev pub with_stage : Stage → Due → Due
with_stage stage d = record { dialect = d.dialect; stage = stage; expected = d.expected }

-- the line behind `chance V W`
abbrev pub behind_chance : Dialect → Stage
behind_chance v = if has_open v then due.Ceiling else due.Count

-- what is due behind a line
abbrev pub next : Problem → Due → PlanLine → Due
next p d (Version v) = record { dialect = v; stage = due.Path; expected = d.expected }
next p d (Path q) = with_stage due.Chance d
next p d (Chance v w) = with_stage (behind_chance d.dialect) d
next p d (Ceiling n) = with_stage due.Count d
next p d (Count n) = with_stage (due.Records n) d
next p d (Node r) = record { dialect = d.dialect; stage = one_less d.stage; expected = places_behind p (prefixes_in d.dialect) d.expected r.kind }
next p d End = with_stage due.Ended d

-- the first line of a text of the family is due, and then a record would have the empty prefix
abbrev pub at_start : Family → Due
at_start family = record { dialect = PlanOne; stage = due.Version family; expected = [] ∷ [] }

-- nothing was read
abbrev pub blank_plan : GapPlan
blank_plan = record { standing = record { path = []; value = 0 }; weight = 0; ceiling = 0; numbers = Means; nodes = [] }

-- what was read, and a line more; the ceiling is the value where no line says it
abbrev pub taken : GapPlan → PlanLine → GapPlan
taken plan (Version v) = record { standing = plan.standing; weight = plan.weight; ceiling = plan.ceiling; numbers = numbers_in v; nodes = plan.nodes }
taken plan (Path q) = record { standing = record { path = q; value = plan.standing.value }; weight = plan.weight; ceiling = plan.ceiling; numbers = plan.numbers; nodes = plan.nodes }
taken plan (Chance v w) = record { standing = record { path = plan.standing.path; value = v }; weight = w; ceiling = v; numbers = plan.numbers; nodes = plan.nodes }
taken plan (Ceiling n) = record { standing = plan.standing; weight = plan.weight; ceiling = n; numbers = plan.numbers; nodes = plan.nodes }
taken plan (Count n) = plan
taken plan (Node r) = record { standing = plan.standing; weight = plan.weight; ceiling = plan.ceiling; numbers = plan.numbers; nodes = plan.nodes ++ r ∷ [] }
taken plan End = plan

-- the last line was read
abbrev pub is_ended : Stage → Bool
is_ended due.Ended = true
is_ended _ = false

-- a kind of fault, with the number of its line
abbrev pub at_line_number : ℕ → PlanKind → PlanFault
at_line_number number kind = record { line = number; kind = kind }

-- what is due, and what was read
pub record Progress : Type 0 where
  pub due : Due
  pub plan : GapPlan

-- nothing was read
abbrev pub unread : Family → Progress
unread family = record { due = at_start family; plan = blank_plan }

-- behind a line that says this, or its fault
abbrev pub behind : Problem → Progress → Result PlanLine PlanKind → Result Progress PlanKind
behind p s (Err kind) = Err kind
behind p s (Ok said) = Ok (record { due = next p s.due said; plan = taken s.plan said })

-- how the lines of a plan are read
abbrev pub plan_lines : Problem → LineMachine Progress PlanKind PlanFault
plan_lines p = record { step = λ s line. behind p s (line_at p s.due (exact_fields line)); ended = λ s. is_ended s.due.stage; early = EarlyEnd; fault = at_line_number }

-- what a text of the family says up to its line `end`, which has its line feed as all before it
abbrev pub front_of : Family → Problem → List ℕ → Result (Reached Progress) PlanFault
front_of family p text = read_from (plan_lines p) (unread family) 1 (whole_lines text)

-- behind the line `end` nothing may stand
abbrev pub unless_more : ℕ → List ℕ → GapPlan → Result GapPlan PlanFault
unless_more number [] plan = Ok plan
unless_more number (c ∷ cs) plan = Err (at_line_number number Rest)

abbrev pub alone : List ℕ → Result (Reached Progress) PlanFault → Result GapPlan PlanFault
alone text (Err fault) = Err fault
alone text (Ok front) = unless_more (front.line + 1) (after_lines front.line text) front.state.plan

-- the gap plan that a text of the family spells, or its first fault
abbrev pub text_at : Family → Problem → List ℕ → Result GapPlan PlanFault
text_at family p text = alone text (front_of family p text)

-- without what waits
abbrev pub as_plan : Result GapPlan PlanFault → Result Plan PlanFault
as_plan (Ok plan) = Ok (plan_of plan)
as_plan (Err fault) = Err fault

-- the plan that a text spells, or its first fault
abbrev pub plan_at : Problem → List ℕ → Result Plan PlanFault
plan_at p text = as_plan (text_at Plans p text)

-- and the gap plan
abbrev pub gap_at : Problem → List ℕ → Result GapPlan PlanFault
gap_at p text = text_at Gaps p text

-- the first 40 bytes of each of the first 70 fields: the judge of a line needs no more of it
abbrev pub summary_of : List (List ℕ) → List (List ℕ)
summary_of fields = map (λ f. take 40 f) (take 70 fields)
