-- Where a line has each kind of fault, as a table: the first kind whose test holds decides.
use Rattle.std.specs.Prelude.{ℕ, ◌≡◌, ◌+◌, Bool, false, not, ◌&&◌, ◌||◌, ◌==◌, nat_le, if◌then◌else◌, List, [], ◌∷◌, length, Option, Some, None, is_none, unwrap_or, codes}
use Rattle.std.specs.List.{list_any}
use Rattle.search_model.specs.Problem.{Problem, position_named}
use Rattle.bound_tree.specs.Places.{first_of}
use Rattle.tree_format.specs.declared.due.Due.{Due}
use Rattle.tree_format.specs.declared.plan_line.Dialect.{Dialect}
use Rattle.tree_format.specs.declared.plan_line.Family.{Family}
use Rattle.tree_format.specs.declared.plan_line.Prefixes.{Prefixes}
use Rattle.tree_format.specs.declared.plan_line.Prefixes.TheVariants.{Written, LeftOut}
use Rattle.tree_format.specs.Dialects.{family_of, dialects_of, word_of, version_of, most_records, prefixes_in}
use Rattle.tree_format.specs.declared.plan_line.Stage.{Stage}
use Rattle.tree_format.specs.declared.plan_line.Stage.TheVariants as due
use Rattle.tree_format.specs.declared.kind.PlanKind.{PlanKind}
use Rattle.tree_format.specs.declared.kind.PlanKind.TheVariants.{BadLine, BadNumber, UnknownName, TooManyNodes, WrongCount, NoPlace, StillOpen}
use Rattle.tree_format.specs.declared.record_lines.Numbered.{Numbered}
use Rattle.tree_format.specs.Letters.{referred, numbered_by}
use Rattle.tree_format.specs.Reading.{amount_in, place_in, most_positions, is_end, line_at}
use Rattle.text_rows.specs.Fields.{is_word, behind_first, first_alone}
use Rattle.text_rows.specs.Kinds.{first_kind, fault_of}

-- The keyword or letter and the number of fields.

-- the word of the family, and the number of one of its dialects
abbrev pub version_form : Family → List (List ℕ) → Bool
version_form family (word ∷ number ∷ []) = is_word word (word_of family) && list_any (λ v. is_word number (version_of v)) (dialects_of family)
version_form family _ = false

-- `path` and 1 to 32 names
abbrev pub path_form : List (List ℕ) → Bool
path_form (word ∷ names) = is_word word (codes "path") && (nat_le 1 (length names) && nat_le (length names) 32)
path_form [] = false

-- `chance` and two numbers
abbrev pub chance_form : List (List ℕ) → Bool
chance_form (word ∷ value ∷ weight ∷ []) = is_word word (codes "chance")
chance_form _ = false

-- `ceiling` and a number
abbrev pub ceiling_form : List (List ℕ) → Bool
ceiling_form (word ∷ n ∷ []) = is_word word (codes "ceiling")
ceiling_form _ = false

-- `nodes` and a number
abbrev pub count_form : List (List ℕ) → Bool
count_form (word ∷ n ∷ []) = is_word word (codes "nodes")
count_form _ = false

-- a number, and behind it a prefix of at most so many positions and so many positions more
abbrev pub bounded_form : ℕ → ℕ → List (List ℕ) → Bool
bounded_form most long [] = false
bounded_form most long (n ∷ positions) = nat_le long (length positions) && nat_le (length positions) (most + long)

-- where the dialect has the letter
abbrev pub numbered_form : Problem → ℕ → Option Numbered → List (List ℕ) → Bool
numbered_form p most None fields = false
numbered_form p most (Some kind) fields = bounded_form most (referred p kind) fields

-- a record, by its letter
abbrev pub node_form : Problem → Dialect → List (List ℕ) → Bool
node_form p v [] = false
node_form p v (letter ∷ fields) =
    if is_word letter (codes "B")
    then nat_le (length fields) (most_positions p (prefixes_in v))
    else numbered_form p (most_positions p (prefixes_in v)) (numbered_by v letter) fields

-- the form of a line that may stand where this is due
abbrev pub has_form : Problem → Dialect → Stage → List (List ℕ) → Bool
has_form p v (due.Version family) fields = version_form family fields
has_form p v due.Path fields = path_form fields
has_form p v due.Chance fields = chance_form fields
has_form p v due.Ceiling fields = ceiling_form fields
has_form p v due.Count fields = count_form fields
has_form p v (due.Records left) fields = is_end fields || node_form p v fields
has_form p v due.Ended fields = false

-- The fields in the places of numbers, positions and names.

-- the number of a record, which a branch has not
abbrev pub node_amounts : List (List ℕ) → List (List ℕ)
node_amounts [] = []
node_amounts (letter ∷ fields) = if is_word letter (codes "B") then [] else first_alone fields

-- the positions of a record
abbrev pub node_positions : List (List ℕ) → List (List ℕ)
node_positions [] = []
node_positions (letter ∷ fields) = if is_word letter (codes "B") then fields else behind_first fields

-- the fields of a line in the places of numbers
abbrev pub amounts : Stage → List (List ℕ) → List (List ℕ)
amounts due.Chance fields = behind_first fields
amounts due.Ceiling fields = behind_first fields
amounts due.Count fields = behind_first fields
amounts (due.Records left) fields = node_amounts fields
amounts _ fields = []

-- those in the places of positions
abbrev pub positions : Stage → List (List ℕ) → List (List ℕ)
positions (due.Records left) fields = node_positions fields
positions _ fields = []

-- and those in the places of names
abbrev pub names : Stage → List (List ℕ) → List (List ℕ)
names due.Path fields = behind_first fields
names _ fields = []

-- The tests.

-- a field is empty, or the form is wrong for this line
abbrev pub is_bad_line : Problem → Dialect → Stage → List (List ℕ) → Bool
is_bad_line p v stage fields = list_any (λ f. length f == 0) fields || not (has_form p v stage fields)

-- a field in a number's place is no plain decimal below 2 to the power 128, or one in a position's place is no position's number
abbrev pub is_bad_number : Problem → Stage → List (List ℕ) → Bool
is_bad_number p stage fields =
    list_any (λ f. is_none (amount_in f)) (amounts stage fields) || list_any (λ f. is_none (place_in p f)) (positions stage fields)

-- a name of the path isn't a position's
abbrev pub has_unknown : Problem → Stage → List (List ℕ) → Bool
has_unknown p stage fields = list_any (λ f. is_none (position_named p f)) (names stage fields)

-- a number of records above the limit
abbrev pub announces_more : ℕ → List (List ℕ) → Bool
announces_more most (word ∷ n ∷ []) = not (nat_le (unwrap_or (amount_in n) 0) most)
announces_more most _ = false

-- more records are announced than a text of the family may have
abbrev pub has_too_many : Dialect → Stage → List (List ℕ) → Bool
has_too_many v due.Count fields = announces_more (most_records (family_of v)) fields
has_too_many v _ fields = false

-- a record where none is left, or the end where one is
abbrev pub is_miscounted : Stage → List (List ℕ) → Bool
is_miscounted (due.Records left) fields = if is_end fields then not (left == 0) else left == 0
is_miscounted _ fields = false

-- no prefix is expected where the text leaves them out, or one is
abbrev pub lacks_place : Prefixes → List (List ℕ) → Bool
lacks_place Written expected = false
lacks_place LeftOut expected = is_none (first_of expected)

abbrev pub awaits_record : Prefixes → List (List ℕ) → Bool
awaits_record Written expected = false
awaits_record LeftOut expected = not (is_none (first_of expected))

-- where prefixes are left out, a record where none is expected
abbrev pub has_no_place : Dialect → Stage → List (List ℕ) → List (List ℕ) → Bool
has_no_place v (due.Records left) expected fields = not (is_end fields) && lacks_place (prefixes_in v) expected
has_no_place v _ expected fields = false

-- and the end where one is
abbrev pub is_still_open : Dialect → Stage → List (List ℕ) → List (List ℕ) → Bool
is_still_open v (due.Records left) expected fields = is_end fields && awaits_record (prefixes_in v) expected
is_still_open v _ expected fields = false

-- the kinds in their order
abbrev pub kind_by_table : Problem → Due → List (List ℕ) → Option PlanKind
kind_by_table p d fields =
    first_kind
    ((is_bad_line p d.dialect d.stage fields, BadLine)
    ∷ (is_bad_number p d.stage fields, BadNumber)
    ∷ (has_unknown p d.stage fields, UnknownName)
    ∷ (has_too_many d.dialect d.stage fields, TooManyNodes)
    ∷ (is_miscounted d.stage fields, WrongCount)
    ∷ (has_no_place d.dialect d.stage d.expected fields, NoPlace)
    ∷ (is_still_open d.dialect d.stage d.expected fields, StillOpen)
    ∷ [])

-- a line has the fault that the table gives
abbrev pub KindsByTable : Type 0
KindsByTable = (p : Problem) (d : Due) (fields : List (List ℕ)) → fault_of (line_at p d fields) ≡ kind_by_table p d fields
