-- A line has the fault that the table of kinds gives.
use Rattle.std.proofs.Common.{◌≡◌, ℕ, ◌-◌, ◌+◌, Bool, true, false, cond, List, [], ◌∷◌, length, take, drop, Option, Some, None, Result, Ok, Err, refl, sym, ap, subst, ◌∙◌}
use Rattle.std.specs.Prelude.{not, ◌&&◌, ◌||◌, ◌==◌, nat_le, is_none, unwrap_or, codes}
use Rattle.std.specs.List.{list_any}
use Rattle.std.proofs.lemmas.List.{take-append-drop}
use Rattle.std.proofs.lemmas.List.Folds.{list_any-append}
use Rattle.search_model.specs.Problem.{Problem, position_named}
use Rattle.bound_tree.specs.declared.node.Kind.TheVariants.{Branch}
use Rattle.bound_tree.specs.declared.gap.GapKind.TheVariants.{Closed}
use Rattle.bound_tree.specs.declared.gap.GapNode.{GapNode}
use Rattle.tree_format.specs.declared.kind.PlanKind.{PlanKind}
use Rattle.tree_format.specs.declared.kind.PlanKind.TheVariants.{BadLine, BadNumber, UnknownName, TooManyNodes, WrongCount, NoPlace, StillOpen}
use Rattle.tree_format.specs.declared.plan_line.Dialect.{Dialect}
use Rattle.tree_format.specs.declared.plan_line.Prefixes.{Prefixes}
use Rattle.tree_format.specs.declared.plan_line.Prefixes.TheVariants.{Written, LeftOut}
use Rattle.tree_format.specs.Dialects.{family_of, dialects_of, word_of, version_of, most_records, prefixes_in}
use Rattle.tree_format.specs.declared.plan_line.Stage.{Stage}
use Rattle.tree_format.specs.declared.plan_line.Stage.TheVariants as due
use Rattle.tree_format.specs.declared.plan_line.PlanLine.{PlanLine}
use Rattle.tree_format.specs.declared.plan_line.PlanLine.TheVariants.{Version, Count}
use Rattle.tree_format.specs.declared.record_lines.Bounded.{Bounded}
use Rattle.tree_format.specs.declared.record_lines.Numbered.{Numbered}
use Rattle.tree_format.specs.Letters.{referred, kind_with, numbered_by}
use Rattle.tree_format.specs.Reading.{amount_in, place_in, in_front, all_of, version_said, path_said, chance_said, ceiling_said, count_said, most_positions, branch_of, branch_line, bounded_of, bounded_line, node_of, numbered_line, node_line, placed, node_said, is_end, ending, end_said, stage_line, line_at}
use Rattle.text_rows.specs.Fields.{is_word, first_alone, behind_first}
use Rattle.tree_format.specs.KindTable.{bounded_form, numbered_form, node_form, has_form, node_amounts, node_positions, is_bad_number, has_unknown, has_too_many, is_miscounted, lacks_place, awaits_record, has_no_place, is_still_open, KindsByTable}
use Rattle.text_rows.specs.Kinds.{first_kind, fault_of}

-- fields say something together where each does
front_none : (o : Option ℕ) (os : Option (List ℕ)) → is_none (in_front o os) ≡ (is_none o || is_none os)
front_none None os = refl
front_none (Some a) None = refl
front_none (Some a) (Some more) = refl

all_none : (says : List ℕ → Option ℕ) (fs : List (List ℕ)) → is_none (all_of says fs) ≡ list_any (λ f. is_none (says f)) fs
unfolding all_of
all_none says [] = refl
all_none says (f ∷ fs) = front_none (says f) (all_of says fs) ∙ ap (λ (b : Bool). is_none (says f) || b) (all_none says fs)

-- Each kind of line, with the tests as they come out.

-- the table of a line that has its form and a number of records that fits
abbrev tail_of : Bool → Bool → Bool → Option PlanKind
tail_of number unknown miscounted = first_kind ((number, BadNumber) ∷ (unknown, UnknownName) ∷ (false, TooManyNodes) ∷ (miscounted, WrongCount) ∷ (false, NoPlace) ∷ (false, StillOpen) ∷ [])

abbrev table_of : Bool → Bool → Bool → Bool → Option PlanKind
table_of form number unknown miscounted = first_kind ((not form, BadLine) ∷ (number, BadNumber) ∷ (unknown, UnknownName) ∷ (false, TooManyNodes) ∷ (miscounted, WrongCount) ∷ (false, NoPlace) ∷ (false, StillOpen) ∷ [])

-- and of a line among the records
abbrev placed_table : Bool → Bool → Bool → Bool → Bool → Option PlanKind
placed_table form number miscounted homeless open_still =
    first_kind ((not form, BadLine) ∷ (number, BadNumber) ∷ (false, UnknownName) ∷ (false, TooManyNodes) ∷ (miscounted, WrongCount) ∷ (homeless, NoPlace) ∷ (open_still, StillOpen) ∷ [])

by_form : (form : Bool) (r : Result PlanLine PlanKind) (number unknown miscounted : Bool) → fault_of r ≡ tail_of number unknown miscounted → fault_of (cond form r (Err BadLine)) ≡ table_of form number unknown miscounted
by_form true r number unknown miscounted e = e
by_form false r number unknown miscounted e = refl

path_table : (o : Option (List ℕ)) (unknown : Bool) → is_none o ≡ unknown → fault_of (path_said o) ≡ tail_of false unknown false
path_table None unknown e = ap (λ (b : Bool). tail_of false b false) e
path_table (Some q) unknown e = ap (λ (b : Bool). tail_of false b false) e

chance_table : (v w : Option ℕ) → fault_of (chance_said v w) ≡ tail_of ((is_none v || (is_none w || false)) || false) false false
chance_table None w = refl
chance_table (Some v) None = refl
chance_table (Some v) (Some w) = refl

-- the first line: one dialect or the others
dialect_table : (v : Dialect) (here others : Bool) (r : Result PlanLine PlanKind) → fault_of r ≡ table_of others false false false → fault_of (cond here (Ok (Version v)) r) ≡ table_of (here || others) false false false
dialect_table v true others r e = refl
dialect_table v false others r e = e

version_table : (word : Bool) (number : List ℕ) (vs : List Dialect) → fault_of (cond word (version_said vs number) (Err BadLine)) ≡ table_of (word && list_any (λ v. is_word number (version_of v)) vs) false false false
version_table false number vs = refl
version_table true number [] = refl
version_table true number (v ∷ vs) = dialect_table v (is_word number (version_of v)) _ (version_said vs number) (version_table true number vs)

-- `ceiling N`
ceiling_table : (n : Option ℕ) → fault_of (ceiling_said n) ≡ tail_of ((is_none n || false) || false) false false
ceiling_table None = refl
ceiling_table (Some n) = refl

-- a record or the end, by how many are left and by what is expected
place_table : (w : Prefixes) (expected : List (List ℕ)) (r : GapNode) → fault_of (placed w expected r) ≡ placed_table true false false (lacks_place w expected) false
place_table Written expected r = refl
place_table LeftOut [] r = refl
place_table LeftOut (q ∷ expected) r = refl

left_table : (none : Bool) (w : Prefixes) (expected : List (List ℕ)) (r : GapNode) → fault_of (cond none (Err WrongCount) (placed w expected r)) ≡ placed_table true false none (lacks_place w expected) false
left_table true w expected r = refl
left_table false w expected r = place_table w expected r

ending_table : (w : Prefixes) (expected : List (List ℕ)) → fault_of (ending w expected) ≡ placed_table true false false false (awaits_record w expected)
ending_table Written expected = refl
ending_table LeftOut [] = refl
ending_table LeftOut (q ∷ expected) = refl

end_table : (none : Bool) (w : Prefixes) (expected : List (List ℕ)) → fault_of (cond none (ending w expected) (Err WrongCount)) ≡ placed_table true false (not none) false (awaits_record w expected)
end_table true w expected = ending_table w expected
end_table false w expected = refl

-- what the fields of a record say, by whether one says nothing
record IsSaid (r : Result GapNode PlanKind) (number : Bool) : Type 0 where
  worse : number ≡ true → r ≡ Err BadNumber
  right : number ≡ false → (x : GapNode) × (r ≡ Ok x)

-- and by whether its form is right
record IsJudged (r : Result GapNode PlanKind) (form number : Bool) : Type 0 where
  bad : form ≡ false → r ≡ Err BadLine
  good : form ≡ true → IsSaid r number

no_number : IsSaid (Err BadNumber) true
no_number = record { worse = λ _. refl; right = λ e. absurd (let bad : ⊥ = cc in bad) }

all_numbers : (x : GapNode) → IsSaid (Ok x) false
all_numbers x = record { worse = λ e. absurd (let bad : ⊥ = cc in bad); right = λ _. (x, refl) }

branch_said : (o : Option (List ℕ)) → IsSaid (branch_of o) (is_none o)
branch_said None = no_number
branch_said (Some q) = all_numbers (record { prefix = q; kind = Closed Branch })

bounded_said : (kind : Numbered) (a : Option ℕ) (o u : Option (List ℕ)) → IsSaid (node_of kind (bounded_of a o u)) ((is_none a || false) || (is_none o || is_none u))
bounded_said kind None o u = no_number
bounded_said kind (Some n) None u = no_number
bounded_said kind (Some n) (Some q) None = no_number
bounded_said kind (Some n) (Some q) (Some x) = all_numbers (record { prefix = q; kind = kind_with kind n x })

judged : (form : Bool) (r : Result GapNode PlanKind) (number : Bool) → IsSaid r number → IsJudged (cond form r (Err BadLine)) form number
judged true r number said = record { bad = λ e. absurd (let bad : ⊥ = cc in bad); good = λ _. said }
judged false r number said = record { bad = λ _. refl; good = λ e. absurd (let bad : ⊥ = cc in bad) }

misformed : (number : Bool) → IsJudged (Err BadLine) false number
misformed number = record { bad = λ _. refl; good = λ e. absurd (let bad : ⊥ = cc in bad) }

inside : (kind : Numbered) (form : Bool) (r : Result Bounded PlanKind) → node_of kind (cond form r (Err BadLine)) ≡ cond form (node_of kind r) (Err BadLine)
inside kind true r = refl
inside kind false r = refl

-- one letter or the others
by_letter : (b : Bool) (x y : Result GapNode PlanKind) (form other : Bool) (number : Bool → Bool) → IsJudged x form (number true) → IsJudged y other (number false) → IsJudged (cond b x y) (cond b form other) (number b)
by_letter true x y form other number h k = h
by_letter false x y form other number h k = k

module _ (p : Problem) (most : ℕ) where
  abbrev no_amount : List ℕ → Bool
  no_amount f = is_none (amount_in f)

  abbrev no_place : List ℕ → Bool
  no_place f = is_none (place_in p f)

  branch_judged : (fields : List (List ℕ)) → IsJudged (branch_line p most fields) (nat_le (length fields) most) (list_any no_place fields)
  branch_judged fields =
      subst (IsJudged (branch_line p most fields) (nat_le (length fields) most)) (all_none (place_in p) fields)
      (judged (nat_le (length fields) most) (branch_of (all_of (place_in p) fields)) _ (branch_said (all_of (place_in p) fields)))

  bounded_judged : (kind : Numbered) (long : ℕ) (fields : List (List ℕ)) → IsJudged (node_of kind (bounded_line p most long fields)) (bounded_form most long fields) (list_any no_amount (first_alone fields) || list_any no_place (behind_first fields))
  bounded_judged kind long [] = misformed false
  bounded_judged kind long (n ∷ cells) =
      let form = nat_le long (length cells) && nat_le (length cells) (most + long) in
      let k = length cells - long in
      let o = all_of (place_in p) (take k cells) in
      let u = all_of (place_in p) (drop k cells) in
      let both : (is_none o || is_none u) ≡ list_any no_place cells =
      ap (λ (b : Bool). b || is_none u) (all_none (place_in p) (take k cells)) ∙ ap (λ (b : Bool). list_any no_place (take k cells) || b) (all_none (place_in p) (drop k cells))
      ∙ sym (list_any-append no_place (take k cells) (drop k cells)) ∙ ap (list_any no_place) (take-append-drop k cells) in
      let here = judged form (node_of kind (bounded_of (amount_in n) o u)) _ (bounded_said kind (amount_in n) o u) in
      subst (λ (r : Result GapNode PlanKind). IsJudged r form ((no_amount n || false) || list_any no_place cells)) (sym (inside kind form (bounded_of (amount_in n) o u)))
      (subst (λ (none : Bool). IsJudged (cond form (node_of kind (bounded_of (amount_in n) o u)) (Err BadLine)) form ((no_amount n || false) || none)) both here)

  numbered_judged : (kind : Option Numbered) (fields : List (List ℕ)) → IsJudged (numbered_line p most kind fields) (numbered_form p most kind fields) (list_any no_amount (first_alone fields) || list_any no_place (behind_first fields))
  numbered_judged None fields = misformed _
  numbered_judged (Some kind) fields = bounded_judged kind (referred p kind) fields

module _ (p : Problem) where
  abbrev numberless : List (List ℕ) → List (List ℕ) → Bool
  numberless amounts cells = list_any (λ f. is_none (amount_in f)) amounts || list_any (λ f. is_none (place_in p f)) cells

  node_judged : (v : Dialect) (fields : List (List ℕ)) → IsJudged (node_line p v fields) (node_form p v fields) (numberless (node_amounts fields) (node_positions fields))
  node_judged v [] = misformed false
  node_judged v (letter ∷ fields) =
      let most = most_positions p (prefixes_in v) in
      by_letter (is_word letter (codes "B")) _ _ _ _ (λ (b : Bool). numberless (cond b [] (first_alone fields)) (cond b fields (behind_first fields))) (branch_judged p most fields) (numbered_judged p most (numbered_by v letter) fields)

  end_numbers : (fields : List (List ℕ)) → is_end fields ≡ true → numberless (node_amounts fields) (node_positions fields) ≡ false
  end_numbers [] e = absurd (let bad : ⊥ = cc in bad)
  end_numbers (word ∷ []) e = none_there (is_word word (codes "B"))
    where
      none_there : (b : Bool) → numberless (cond b [] []) (cond b [] []) ≡ false
      none_there true = refl
      none_there false = refl
  end_numbers (word ∷ more ∷ rest) e = absurd (let bad : ⊥ = cc in bad)

said_table : (w : Prefixes) (left : ℕ) (expected : List (List ℕ)) (r : Result GapNode PlanKind) (form number : Bool) → IsJudged r form number → fault_of (node_said w left expected r) ≡ placed_table form number (left == 0) (lacks_place w expected) false
said_table w left expected r false number h = ap (λ (x : Result GapNode PlanKind). fault_of (node_said w left expected x)) (h.bad refl)
said_table w left expected r true true h = ap (λ (x : Result GapNode PlanKind). fault_of (node_said w left expected x)) ((h.good refl).worse refl)
said_table w left expected r true false h =
    let x = (h.good refl).right refl in
    ap (λ (y : Result GapNode PlanKind). fault_of (node_said w left expected y)) x.1 ∙ left_table (left == 0) w expected x.0

record_table : (e : Bool) (w : Prefixes) (left : ℕ) (expected : List (List ℕ)) (r : Result GapNode PlanKind) (form number : Bool) → (e ≡ true → number ≡ false) → IsJudged r form number →
    fault_of (cond e (end_said w left expected) (node_said w left expected r)) ≡ placed_table (e || form) number (cond e (not (left == 0)) (left == 0)) (not e && lacks_place w expected) (e && awaits_record w expected)
record_table true w left expected r form number none h = end_table (left == 0) w expected ∙ ap (λ (b : Bool). placed_table true b (not (left == 0)) false (awaits_record w expected)) (sym (none refl))
record_table false w left expected r form number none h = said_table w left expected r form number h

-- `nodes N`
many_table : (few : Bool) (n : ℕ) → fault_of (cond few (Ok (Count n)) (Err TooManyNodes)) ≡ cond (not few) (Some TooManyNodes) None
many_table true n = refl
many_table false n = refl

count_table : (most : ℕ) (form : Bool) (n : Option ℕ) → fault_of (cond form (count_said most n) (Err BadLine)) ≡ first_kind ((not form, BadLine) ∷ ((is_none n || false) || false, BadNumber) ∷ (false, UnknownName) ∷ (not (nat_le (unwrap_or n 0) most), TooManyNodes) ∷ (false, WrongCount) ∷ (false, NoPlace) ∷ (false, StillOpen) ∷ [])
count_table most false n = refl
count_table most true None = refl
count_table most true (Some n) = many_table (nat_le n most) n

stage_table : (p : Problem) (v : Dialect) (stage : Stage) (expected fields : List (List ℕ)) → fault_of (stage_line p v stage expected fields)
    ≡ first_kind ((not (has_form p v stage fields), BadLine) ∷ (is_bad_number p stage fields, BadNumber) ∷ (has_unknown p stage fields, UnknownName) ∷ (has_too_many v stage fields, TooManyNodes) ∷ (is_miscounted stage fields, WrongCount) ∷ (has_no_place v stage expected fields, NoPlace) ∷ (is_still_open v stage expected fields, StillOpen) ∷ [])
stage_table p v (due.Version family) expected [] = refl
stage_table p v (due.Version family) expected (word ∷ []) = refl
stage_table p v (due.Version family) expected (word ∷ number ∷ []) = version_table (is_word word (word_of family)) number (dialects_of family)
stage_table p v (due.Version family) expected (word ∷ number ∷ more ∷ rest) = refl
stage_table p v due.Path expected [] = refl
stage_table p v due.Path expected (word ∷ names) =
    let o = all_of (position_named p) names in
    by_form (is_word word (codes "path") && (nat_le 1 (length names) && nat_le (length names) 32)) (path_said o) false _ false (path_table o _ (all_none (position_named p) names))
stage_table p v due.Chance expected [] = refl
stage_table p v due.Chance expected (word ∷ []) = refl
stage_table p v due.Chance expected (word ∷ value ∷ []) = refl
stage_table p v due.Chance expected (word ∷ value ∷ weight ∷ []) =
    by_form (is_word word (codes "chance")) (chance_said (amount_in value) (amount_in weight)) _ false false (chance_table (amount_in value) (amount_in weight))
stage_table p v due.Chance expected (word ∷ value ∷ weight ∷ more ∷ rest) = refl
stage_table p v due.Ceiling expected [] = refl
stage_table p v due.Ceiling expected (word ∷ []) = refl
stage_table p v due.Ceiling expected (word ∷ n ∷ []) = by_form (is_word word (codes "ceiling")) (ceiling_said (amount_in n)) _ false false (ceiling_table (amount_in n))
stage_table p v due.Ceiling expected (word ∷ n ∷ more ∷ rest) = refl
stage_table p v due.Count expected [] = refl
stage_table p v due.Count expected (word ∷ []) = refl
stage_table p v due.Count expected (word ∷ n ∷ []) = count_table (most_records (family_of v)) (is_word word (codes "nodes")) (amount_in n)
stage_table p v due.Count expected (word ∷ n ∷ more ∷ rest) = refl
stage_table p v (due.Records left) expected fields =
    record_table (is_end fields) (prefixes_in v) left expected (node_line p v fields) (node_form p v fields) _ (end_numbers p fields) (node_judged p v fields)
stage_table p v due.Ended expected fields = refl

by_empty : (empty form number unknown many miscounted homeless open_still : Bool) (r : Result PlanLine PlanKind) → fault_of r ≡ first_kind ((not form, BadLine) ∷ (number, BadNumber) ∷ (unknown, UnknownName) ∷ (many, TooManyNodes) ∷ (miscounted, WrongCount) ∷ (homeless, NoPlace) ∷ (open_still, StillOpen) ∷ []) →
    fault_of (cond empty (Err BadLine) r) ≡ first_kind ((empty || not form, BadLine) ∷ (number, BadNumber) ∷ (unknown, UnknownName) ∷ (many, TooManyNodes) ∷ (miscounted, WrongCount) ∷ (homeless, NoPlace) ∷ (open_still, StillOpen) ∷ [])
by_empty true form number unknown many miscounted homeless open_still r e = refl
by_empty false form number unknown many miscounted homeless open_still r e = e

pub kinds_by_table : KindsByTable
unfolding line_at
kinds_by_table p d fields = by_empty (list_any (λ f. length f == 0) fields) _ _ _ _ _ _ _ (stage_line p d.dialect d.stage d.expected fields) (stage_table p d.dialect d.stage d.expected fields)
