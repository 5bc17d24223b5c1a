-- The text of a plan is read as that plan.
use Rattle.std.proofs.Common.{◌≡◌, ℕ, suc, ◌+◌, ◌-◌, ◌<◌, ◌≤◌, ◌^◌, Bool, true, false, cond, List, [], ◌∷◌, ◌++◌, map, length, take, drop, Some, Ok, refl, sym, ap, subst, ◌∙◌, arith, append_assoc, length-append, ◌⊎◌, inl, inr}
use Rattle.std.specs.Prelude.{All, codes}
use Rattle.std.specs.Fmt.{decimal}
use Rattle.std.specs.List.{join_with_byte}
use Rattle.std.proofs.Math.Seq.{take-append_seam, drop-append_seam}
use Rattle.std.proofs.lemmas.Bool.{le-leb, ne_eqb}
use Rattle.std.proofs.lemmas.List.{append-nil, length-map}
use Rattle.std.proofs.lemmas.List.Elements.{All-nil, All-cons, All-get_or, All-head, All-tail, All-append, All-map}
use Rattle.text_rows.specs.Rows.{text_of}
use Rattle.text_rows.specs.Lines.{HasNoFeed, lines_text}
use Rattle.text_rows.specs.LineMachine.{AreTaken}
use Rattle.text_rows.specs.Fields.{is_word}
use Rattle.text_rows.proofs.RowTexts.{IsField, AreFields, IsRow, exact_fields-row, row_free, row_fields, none_empty, word, field_by, IsField-decimal, AreFields-map, AreFields-append}
use Rattle.search_model.specs.Problem.{Problem, IsProblem, position_name, position_named}
use Rattle.bound_tree.specs.declared.node.Kind.TheVariants.{Branch}
use Rattle.bound_tree.specs.declared.node.TreeNode.{TreeNode}
use Rattle.bound_tree.specs.declared.gap.GapKind.{GapKind}
use Rattle.bound_tree.specs.declared.gap.GapKind.TheVariants.{Closed}
use Rattle.bound_tree.specs.declared.gap.GapNode.{GapNode}
use Rattle.bound_tree.specs.declared.gap.Numbers.{Numbers}
use Rattle.bound_tree.specs.declared.gap.Numbers.TheVariants.{Means, Edges}
use Rattle.bound_tree.specs.declared.gap.GapPlan.{GapPlan}
use Rattle.bound_tree.specs.Gaps.{shape_of_kind, shape_of, closed_node, gap_of, plan_of}
use Rattle.bound_tree.specs.declared.plan.Plan.{Plan}
use Rattle.bound_tree.specs.Places.{opened_by}
use Rattle.bound_tree.proofs.Placing.{legal_opened}
use Rattle.search_model.specs.Legal.{IsLegal}
use Rattle.search_model.proofs.PlainSteps.{positions_follow}
use Rattle.search_model.specs.Names.{IsName, is_name_byte}
use Rattle.std.proofs.lemmas.Grind.{common_steps}
use Rattle.tree_format.specs.PlanText.{numbers, node_fields, written, node_row, chance_row, ceiling_row, ceiling_rows, count_row, text_in, ArePositions, IsPrintableKind, IsPrintableRecord, IsPrintable, IsNarrow, HasNodeLetter, HavePlaces, IsPlanTextIn, IsTextOfPlan, IsNarrowNode, IsPrintableGap, IsNarrowGap, IsGapText}
use Rattle.tree_format.specs.declared.due.Due.{Due}
use Rattle.tree_format.specs.declared.plan_line.Dialect.{Dialect}
use Rattle.tree_format.specs.declared.plan_line.Dialect.TheVariants.{PlanOne, PlanTwo, PlanThree, GapOne, GapTwo}
use Rattle.tree_format.specs.declared.plan_line.Family.{Family}
use Rattle.tree_format.specs.declared.plan_line.Family.TheVariants.{Plans, Gaps}
use Rattle.tree_format.specs.declared.plan_line.Prefixes.{Prefixes}
use Rattle.tree_format.specs.declared.plan_line.Prefixes.TheVariants.{Written, LeftOut}
use Rattle.tree_format.specs.Dialects.{family_of, version_row, most_records, has_open, prefixes_in, numbers_in, dialect_with}
use Rattle.tree_format.specs.declared.plan_line.Stage.{Stage}
use Rattle.tree_format.specs.declared.plan_line.Stage.TheVariants as due
use Rattle.tree_format.specs.declared.plan_line.PlanLine.{PlanLine}
use Rattle.tree_format.specs.declared.plan_line.PlanLine.TheVariants.{Version, Path, Chance, Ceiling, Count, Node, End}
use Rattle.tree_format.specs.ReadingLaws.{PlanTextReadsBack, GapTextReadsBack, OnePlanAText, OneGapAText}
use Rattle.tree_format.specs.Reading.{is_end, ending, all_of, place_in, most_positions, bounded_line, node_of, node_line, placed, stage_line, line_at, at_start, blank_plan, places_behind, next, taken, Progress, behind, plan_lines, text_at, as_plan, plan_at, gap_at}
use Rattle.tree_format.proofs.Said.{amount_in-decimal, place_in-decimal, position_named-name, all_of-map}
use Rattle.tree_format.specs.Letters.{letter_for, referred}
use Rattle.tree_format.proofs.Letters.{HasNumber, has_number, numbered_row, letter_field, letter_line}
use Rattle.tree_format.proofs.Families.{none_waits, numbers_back, ceiling_read, ceiling_is_read}
use Rattle.tree_format.proofs.AtLines.{unended, at_end}
use Rattle.tree_format.proofs.SpelledLines.{HasPlace}
use Rattle.tree_format.proofs.Spelled.{IsPathOf, IsChanceOf, IsHeadOf, empty_legal}
use Rattle.tree_format.proofs.LineNumbers.{few_records}
use Rattle.bound_tree.specs.Places.{AreInPlace}
use Rattle.bound_tree.proofs.Ceilings.{shapes_of_closed}

-- where this is due, a row says this
pub record Takes (p : Problem) (d : Due) (row : List (List ℕ)) (said : PlanLine) : Type 0 where
  pub fields : IsRow row
  pub goes : d.stage ≡ due.Ended → ⊥
  pub says : stage_line p d.dialect d.stage d.expected row ≡ Ok said

-- the lines of rows
abbrev lines_of_rows : List (List (List ℕ)) → List (List ℕ)
lines_of_rows rows = map (λ row. join_with_byte 32 row) rows

-- from here on these are right lines, of which the last is the end, and then this plan was read
pub record Reads (p : Problem) (d : Due) (plan : GapPlan) (rows : List (List (List ℕ))) (whole : GapPlan) : Type 0 where
  pub last : Progress
  pub right : AreTaken (plan_lines p) (record { due = d; plan = plan }) (lines_of_rows rows) last
  pub feeds : All HasNoFeed (lines_of_rows rows)
  pub ends : last.due.stage ≡ due.Ended
  pub plan_is : last.plan ≡ whole

line_at-row : (p : Problem) (d : Due) (said : PlanLine) (row : List (List ℕ)) → Takes p d row said → line_at p d row ≡ Ok said
unfolding line_at
line_at-row p d said row h = rw (none_empty row (row_fields row h.fields)) h.says

-- one row more at the front
Reads-row : (p : Problem) (d : Due) (plan whole : GapPlan) (said : PlanLine) (row : List (List ℕ)) (rows : List (List (List ℕ))) → Takes p d row said → Reads p (next p d said) (taken plan said) rows whole → Reads p d plan (row ∷ rows) whole
Reads-row p d plan whole said row rows h rest =
    let read = ap (line_at p d) (exact_fields-row row h.fields) ∙ line_at-row p d said row h in
    let s : Progress = record { due = d; plan = plan } in
    record {
      last = rest.last;
      right = (record { due = next p d said; plan = taken plan said }, ap (behind p s) read, unended d.stage h.goes, rest.right);
      feeds = All-cons HasNoFeed (join_with_byte 32 row) (lines_of_rows rows) (row_free row (row_fields row h.fields)) rest.feeds;
      ends = rest.ends;
      plan_is = rest.plan_is;
    }

-- behind the end
Reads-none : (p : Problem) (d : Due) (plan : GapPlan) → d.stage ≡ due.Ended → Reads p d plan [] plan
Reads-none p d plan ended = record { last = record { due = d; plan = plan }; right = refl; feeds = All-nil HasNoFeed; ends = ended; plan_is = refl }

-- the text of rows is that of their lines
rows_text : (rows : List (List (List ℕ))) → text_of rows ≡ lines_text (lines_of_rows rows)
rows_text [] = refl
rows_text (row ∷ rows) = ap (λ (t : List ℕ). join_with_byte 32 row ++ 10 ∷ t) (rows_text rows) ∙ sym (append_assoc (join_with_byte 32 row) (10 ∷ []) (lines_text (lines_of_rows rows)))

abbrev at_stage : Dialect → List (List ℕ) → Stage → Due
at_stage v expected stage = record { dialect = v; stage = stage; expected = expected }

Takes-version : (p : Problem) (v : Dialect) → Takes p (at_start (family_of v)) (version_row v) (Version v)
Takes-version p PlanOne = record { fields = (word (codes "plan") (omega arith) refl, (word (codes "1") (omega arith) refl, tt)); goes = λ e. cc; says = refl }
Takes-version p PlanTwo = record { fields = (word (codes "plan") (omega arith) refl, (word (codes "2") (omega arith) refl, tt)); goes = λ e. cc; says = refl }
Takes-version p PlanThree = record { fields = (word (codes "plan") (omega arith) refl, (word (codes "3") (omega arith) refl, tt)); goes = λ e. cc; says = refl }
Takes-version p GapOne = record { fields = (word (codes "gap") (omega arith) refl, (word (codes "1") (omega arith) refl, tt)); goes = λ e. cc; says = refl }
Takes-version p GapTwo = record { fields = (word (codes "gap") (omega arith) refl, (word (codes "2") (omega arith) refl, tt)); goes = λ e. cc; says = refl }

name_field : (p : Problem) → IsProblem p → (q : ℕ) → q < p.positions → IsField (position_name p q)
name_field p h q lt =
    let name = All-get_or IsName p.position_names q [] (omega (arith, h.position_names.count)) h.position_names.each in
    field_by is_name_byte (λ c is. grind (arith, common_steps)) (position_name p q) (omega (arith, name.some)) name.bytes

Takes-path : (p : Problem) → IsProblem p → (v : Dialect) (expected : List (List ℕ)) (q : List ℕ) → IsPathOf p q → Takes p (at_stage v expected due.Path) (codes "path" ∷ map (position_name p) q) (Path q)
Takes-path p h v expected q k =
    let P : ℕ → Type 0 = λ a. a < p.positions in
    record {
      fields = (word (codes "path") (omega arith) refl, AreFields-map (position_name p) P (name_field p h) q k.positions);
      goes = λ e. cc;
      says = rw (length-map q (position_name p), le-leb 1 (length q) k.some, le-leb (length q) 32 k.short, all_of-map (position_named p) (position_name p) P (position_named-name p h) q k.positions) refl;
    }

Takes-chance : (p : Problem) (v : Dialect) (expected : List (List ℕ)) (value weight : ℕ) → value < 2 ^ 128 → weight < 2 ^ 128 → Takes p (at_stage v expected due.Chance) (chance_row value weight) (Chance value weight)
Takes-chance p v expected value weight narrow narrow_weight = record {
  fields = (word (codes "chance") (omega arith) refl, (IsField-decimal value narrow, (IsField-decimal weight narrow_weight, tt)));
  goes = λ e. cc;
  says = rw (amount_in-decimal value narrow, amount_in-decimal weight narrow_weight) refl;
}

Takes-ceiling : (p : Problem) (v : Dialect) (expected : List (List ℕ)) (ceiling : ℕ) → ceiling < 2 ^ 128 → Takes p (at_stage v expected due.Ceiling) (ceiling_row ceiling) (Ceiling ceiling)
Takes-ceiling p v expected ceiling narrow = record {
  fields = (word (codes "ceiling") (omega arith) refl, (IsField-decimal ceiling narrow, tt));
  goes = λ e. cc;
  says = rw (amount_in-decimal ceiling narrow) refl;
}

Takes-count : (p : Problem) (v : Dialect) (expected : List (List ℕ)) (n : ℕ) → n ≤ most_records (family_of v) → Takes p (at_stage v expected due.Count) (count_row n) (Count n)
Takes-count p v expected n few =
    let small : n < 2 ^ 128 = omega (arith, few, few_records (family_of v)) in
    record {
      fields = (word (codes "nodes") (omega arith) refl, (IsField-decimal n small, tt));
      goes = λ e. cc;
      says = rw (amount_in-decimal n small, le-leb n (most_records (family_of v)) few) refl;
    }

-- Records.

places-numbers : (p : Problem) → IsProblem p → (q : List ℕ) → ArePositions p q → all_of (place_in p) (numbers q) ≡ Some q
places-numbers p h q k = all_of-map (place_in p) decimal (λ a. a < p.positions) (place_in-decimal p h) q k

number_fields : (p : Problem) → IsProblem p → (q : List ℕ) → ArePositions p q → AreFields (numbers q)
number_fields p h q k = AreFields-map decimal (λ a. a < p.positions) (λ a lt. IsField-decimal a (omega (arith, h.positions.1))) q k

-- positions behind a number, of which the last are those that a record refers to
bounded_back : (p : Problem) → IsProblem p → (most long n : ℕ) (q reference : List ℕ) → n < 2 ^ 128 → ArePositions p q → length q ≤ most → ArePositions p reference → length reference ≡ long → bounded_line p most long (decimal n ∷ (numbers q ++ numbers reference)) ≡ Ok (record { bound = n; prefix = q; reference = reference })
bounded_back p h most long n q reference narrow places short refers all =
    let cells = numbers q ++ numbers reference in
    let own : length (numbers q) ≡ length q = length-map q decimal in
    let whole : length cells ≡ length q + long = omega (arith, length-append (numbers q) (numbers reference), own, length-map reference decimal, all) in
    let cut : length q + long - long ≡ length q = omega arith in
    let front : take (length q) cells ≡ numbers q = rw (← own) (take-append_seam (numbers q) (numbers reference)) in
    let back : drop (length q) cells ≡ numbers reference = rw (← own) (drop-append_seam (numbers q) (numbers reference)) in
    rw (whole, le-leb long (length q + long) (omega arith), le-leb (length q + long) (most + long) (omega (arith, short)), cut, front, back, amount_in-decimal n narrow, places-numbers p h q places, places-numbers p h reference refers) refl

-- its row, by its letter
row_of : (p : Problem) (v : Dialect) (q : List ℕ) (kind : GapKind) → (has : HasNumber p v kind) → node_fields q kind ≡ letter_for has.letter ∷ decimal has.number ∷ (numbers q ++ numbers has.reference)
row_of p v q kind has = ap (node_fields q) (sym has.is) ∙ numbered_row p has.letter q has.number has.reference has.long

numbered_back : (p : Problem) → IsProblem p → (v : Dialect) (q : List ℕ) (kind : GapKind) → HasNumber p v kind → ArePositions p q → length q ≤ most_positions p (prefixes_in v) → node_line p v (node_fields q kind) ≡ Ok (record { prefix = q; kind = kind })
numbered_back p h v q kind has places short =
    ap (node_line p v) (row_of p v q kind has)
    ∙ letter_line p v has.letter (decimal has.number ∷ (numbers q ++ numbers has.reference)) has.has
    ∙ ap (node_of has.letter) (bounded_back p h (most_positions p (prefixes_in v)) (referred p has.letter) has.number q has.reference has.narrow places short has.positions has.long)
    ∙ ap (λ (x : GapKind). Ok (record { prefix = q; kind = x })) has.is

branch_back : (p : Problem) → IsProblem p → (v : Dialect) (q : List ℕ) → ArePositions p q → length q ≤ most_positions p (prefixes_in v) → node_line p v (node_fields q (Closed Branch)) ≡ Ok (record { prefix = q; kind = Closed Branch })
branch_back p h v q places short = rw (length-map q decimal, le-leb (length q) (most_positions p (prefixes_in v)) short, places-numbers p h q places) refl

kind_line : (p : Problem) → IsProblem p → (v : Dialect) (q : List ℕ) (kind : GapKind) → ArePositions p q → length q ≤ most_positions p (prefixes_in v) → (kind ≡ Closed Branch) ⊎ HasNumber p v kind → node_line p v (node_fields q kind) ≡ Ok (record { prefix = q; kind = kind })
kind_line p h v q kind places short (inl branch) = subst (λ (x : GapKind). node_line p v (node_fields q x) ≡ Ok (record { prefix = q; kind = x })) (sym branch) (branch_back p h v q places short)
kind_line p h v q kind places short (inr has) = numbered_back p h v q kind has places short

-- a record's row has a letter and fields
kind_row : (p : Problem) → IsProblem p → (v : Dialect) (q : List ℕ) (kind : GapKind) → ArePositions p q → (kind ≡ Closed Branch) ⊎ HasNumber p v kind → IsRow (node_fields q kind)
kind_row p h v q kind places (inl branch) = subst (λ (x : GapKind). IsRow (node_fields q x)) (sym branch) (word (codes "B") (omega arith) refl, number_fields p h q places)
kind_row p h v q kind places (inr has) =
    let both = AreFields-append (numbers q) (numbers has.reference) (number_fields p h q places) (number_fields p h has.reference has.positions) in
    subst IsRow (sym (row_of p v q kind has)) (letter_field has.letter, (IsField-decimal has.number has.narrow, both))

-- and isn't `end`
not_end : (letter : List ℕ) (fields : List (List ℕ)) → is_word letter (codes "end") ≡ false → is_end (letter ∷ fields) ≡ false
not_end letter [] other = other
not_end letter (f ∷ fs) other = refl

kind_goes_on : (p : Problem) (v : Dialect) (q : List ℕ) (kind : GapKind) → (kind ≡ Closed Branch) ⊎ HasNumber p v kind → is_end (node_fields q kind) ≡ false
kind_goes_on p v q kind (inl branch) = ap (λ (x : GapKind). is_end (node_fields q x)) branch ∙ not_end (codes "B") (numbers q) refl
kind_goes_on p v q kind (inr has) = ap is_end (row_of p v q kind has)

-- the prefix that a record's line has is right
written_fits : (p : Problem) (w : Prefixes) (q : List ℕ) → ArePositions p q → length q ≤ p.horizon → ArePositions p (written w q) × (length (written w q) ≤ most_positions p w)
written_fits p Written q positions short = (positions, short)
written_fits p LeftOut q positions short = (All-nil (λ (a : ℕ). a < p.positions), omega arith)

-- and the record is the one that was written, where it has the prefix that is expected next
placed_back : (p : Problem) (w : Prefixes) (expected : List (List ℕ)) (r : GapNode) → HasPlace w expected r.prefix → placed w expected (record { prefix = written w r.prefix; kind = r.kind }) ≡ Ok (Node r)
placed_back p Written expected r has = refl
placed_back p LeftOut [] r has = absurd has
placed_back p LeftOut (q ∷ expected) r has = ap (λ (x : List ℕ). Ok (Node (record { prefix = x; kind = r.kind }))) (sym has)

Takes-record : (p : Problem) → IsProblem p → (v : Dialect) (expected : List (List ℕ)) (left : ℕ) (r : GapNode) → IsPrintableRecord p (shape_of r) → IsNarrowNode r.kind → HasNodeLetter v r.kind → HasPlace (prefixes_in v) expected r.prefix → Takes p (at_stage v expected (due.Records (suc left))) (node_row v r) (Node r)
Takes-record p h v expected left r k narrow known has =
    let w = prefixes_in v in
    let q = written w r.prefix in
    let fits = written_fits p w r.prefix k.positions k.short in
    let parts = has_number p v r.kind k.kind narrow known in
    record {
      fields = kind_row p h v q r.kind fits.0 parts;
      goes = λ e. cc;
      says = rw (kind_goes_on p v q r.kind parts, kind_line p h v q r.kind fits.0 fits.1 parts, ne_eqb (suc left) 0 (λ e. omega arith)) (placed_back p w expected r has);
    }

-- the plan with these nodes
abbrev with_nodes : GapPlan → List GapNode → GapPlan
with_nodes plan nodes = record { standing = plan.standing; weight = plan.weight; ceiling = plan.ceiling; numbers = plan.numbers; nodes = nodes }

-- behind the last record that has its place none is expected
abbrev IsClosed : Prefixes → List (List ℕ) → Type 0
IsClosed Written expected = Unit {0}
IsClosed LeftOut expected = expected ≡ []

first_place : (p : Problem) (w : Prefixes) (expected : List (List ℕ)) (r : GapNode) (rs : List GapNode) → HavePlaces w p expected (map shape_of (r ∷ rs)) → HasPlace w expected r.prefix × HavePlaces w p (places_behind p w expected r.kind) (map shape_of rs)
first_place p Written expected r rs h = (tt, tt)
first_place p LeftOut [] r rs h = absurd h
first_place p LeftOut (q ∷ expected) r rs h = (h.0, h.1)

no_more : (p : Problem) (w : Prefixes) (expected : List (List ℕ)) → HavePlaces w p expected [] → IsClosed w expected
no_more p Written expected h = tt
no_more p LeftOut [] h = refl
no_more p LeftOut (q ∷ expected) h = absurd h

-- behind the records the rows are read, whatever was expected
abbrev ReadsEnd : Problem → Dialect → GapPlan → List (List (List ℕ)) → GapPlan → Type 0
ReadsEnd p v plan rows whole = (expected : List (List ℕ)) → IsClosed (prefixes_in v) expected → Reads p (at_stage v expected (due.Records 0)) plan rows whole

-- what is left of the records, and the rows behind them
Reads-records : (p : Problem) → IsProblem p → (v : Dialect) (plan whole : GapPlan) (expected : List (List ℕ)) (done rs : List GapNode) (rows : List (List (List ℕ))) → All (λ r. IsPrintableRecord p (shape_of r)) rs → All (λ r. IsNarrowNode r.kind) rs → All (λ r. HasNodeLetter v r.kind) rs → HavePlaces (prefixes_in v) p expected (map shape_of rs) → ReadsEnd p v (with_nodes plan (done ++ rs)) rows whole → Reads p (at_stage v expected (due.Records (length rs))) (with_nodes plan done) (map (node_row v) rs ++ rows) whole
Reads-records p h v plan whole expected done [] rows k narrow known places rest =
    subst (λ (records : List GapNode). Reads p (at_stage v expected (due.Records 0)) (with_nodes plan records) rows whole) (append-nil done) (rest expected (no_more p (prefixes_in v) expected places))
Reads-records p h v plan whole expected done (r ∷ rs) rows k narrow known places rest =
    let P : GapNode → Type 0 = λ x. IsPrintableRecord p (shape_of x) in
    let N : GapNode → Type 0 = λ x. IsNarrowNode x.kind in
    let L : GapNode → Type 0 = λ x. HasNodeLetter v x.kind in
    let less : suc (length rs) - 1 ≡ length rs = omega arith in
    let place = first_place p (prefixes_in v) expected r rs places in
    let later = places_behind p (prefixes_in v) expected r.kind in
    let after = Reads-records p h v plan whole later (done ++ r ∷ []) rs rows (All-tail P r rs k) (All-tail N r rs narrow) (All-tail L r rs known) place.1
    (subst (λ (records : List GapNode). ReadsEnd p v (with_nodes plan records) rows whole) (sym (append_assoc done (r ∷ []) rs)) rest) in
    Reads-row p (at_stage v expected (due.Records (suc (length rs)))) (with_nodes plan done) whole (Node r) (node_row v r) (map (node_row v) rs ++ rows)
    (Takes-record p h v expected (length rs) r (All-head P r rs k) (All-head N r rs narrow) (All-head L r rs known) place.0)
    (subst (λ (left : ℕ). Reads p (at_stage v later (due.Records left)) (with_nodes plan (done ++ r ∷ [])) (map (node_row v) rs ++ rows) whole) (sym less) after)

end_place : (w : Prefixes) (expected : List (List ℕ)) → IsClosed w expected → ending w expected ≡ Ok End
end_place Written expected closed = refl
end_place LeftOut [] closed = refl
end_place LeftOut (q ∷ expected) closed = absurd (let bad : ⊥ = cc in bad)

Takes-end : (p : Problem) (v : Dialect) (expected : List (List ℕ)) → IsClosed (prefixes_in v) expected → Takes p (at_stage v expected (due.Records 0)) (codes "end" ∷ []) End
Takes-end p v expected closed = record { fields = (word (codes "end") (omega arith) refl, tt); goes = λ e. cc; says = end_place (prefixes_in v) expected closed }

-- nothing was read but the first line, and a path behind it
abbrev begun_plan : Numbers → GapPlan
begun_plan n = record { standing = record { path = []; value = 0 }; weight = 0; ceiling = 0; numbers = n; nodes = [] }

-- behind the chance, by whether the text has a ceiling
Reads-chance : (p : Problem) (v : Dialect) (b : Bool) (plan whole : GapPlan) (rows : List (List (List ℕ))) → has_open v ≡ b → IsHeadOf p v plan.standing plan.weight plan.ceiling →
    Reads p (at_stage v ([] ∷ []) due.Count) (with_nodes plan []) (count_row (length plan.nodes) ∷ rows) whole →
    Reads p (at_stage v ([] ∷ []) (cond b due.Ceiling due.Count)) (taken (taken (begun_plan plan.numbers) (Path plan.standing.path)) (Chance plan.standing.value plan.weight)) ((cond b (ceiling_row plan.ceiling ∷ []) [] ++ count_row (length plan.nodes) ∷ []) ++ rows) whole
Reads-chance p v true plan whole rows e head rest =
    Reads-row p (at_stage v ([] ∷ []) due.Ceiling) _ whole (Ceiling plan.ceiling) _ (count_row (length plan.nodes) ∷ rows) (Takes-ceiling p v ([] ∷ []) plan.ceiling (ceiling_read v true plan.standing.value plan.ceiling e head.ceiling_is)) rest
Reads-chance p v false plan whole rows e head rest =
    subst (λ (c : ℕ). Reads p (at_stage v ([] ∷ []) due.Count) (record { standing = plan.standing; weight = plan.weight; ceiling = c; numbers = plan.numbers; nodes = [] }) (count_row (length plan.nodes) ∷ rows) whole) (ceiling_read v false plan.standing.value plan.ceiling e head.ceiling_is) rest

-- a gap plan that has a text of this dialect
pub record HasText (p : Problem) (v : Dialect) (plan : GapPlan) : Type 0 where
  pub numbers : plan.numbers ≡ numbers_in v
  pub head : IsHeadOf p v plan.standing plan.weight plan.ceiling
  pub few : length plan.nodes ≤ most_records (family_of v)
  pub printable : All (λ r. IsPrintableRecord p (shape_of r)) plan.nodes
  pub narrow : All (λ r. IsNarrowNode r.kind) plan.nodes
  pub known : All (λ r. HasNodeLetter v r.kind) plan.nodes
  pub places : HavePlaces (prefixes_in v) p ([] ∷ []) (map shape_of plan.nodes)

text_reads_back : (p : Problem) (v : Dialect) (plan : GapPlan) → IsProblem p → HasText p v plan → text_at (family_of v) p (text_in v p plan) ≡ Ok plan
text_reads_back p v plan h k =
    let empty : List (List ℕ) = [] ∷ [] in
    let end : List (List (List ℕ)) = (codes "end" ∷ []) ∷ [] in
    let record_rows = map (node_row v) plan.nodes ++ end in
    let chance_rows = chance_row plan.standing.value plan.weight ∷ ((ceiling_rows v plan.ceiling ++ count_row (length plan.nodes) ∷ []) ++ record_rows) in
    let path_rows = (codes "path" ∷ map (position_name p) plan.standing.path) ∷ chance_rows in
    let last : ReadsEnd p v (with_nodes plan plan.nodes) end plan = λ expected closed.
    Reads-row p (at_stage v expected (due.Records 0)) plan plan End (codes "end" ∷ []) [] (Takes-end p v expected closed) (Reads-none p (at_stage v expected due.Ended) plan refl) in
    let records = Reads-records p h v plan plan empty [] plan.nodes end k.printable k.narrow k.known k.places last in
    let count = Reads-row p (at_stage v empty due.Count) (with_nodes plan []) plan (Count (length plan.nodes)) _ record_rows (Takes-count p v empty (length plan.nodes) k.few) records in
    let above = (ceiling_rows v plan.ceiling ++ count_row (length plan.nodes) ∷ []) ++ record_rows in
    let chance = Reads-row p (at_stage v empty due.Chance) (taken (begun_plan plan.numbers) (Path plan.standing.path)) plan (Chance plan.standing.value plan.weight) _ above (Takes-chance p v empty plan.standing.value plan.weight k.head.chance.value k.head.chance.weight_small) (Reads-chance p v (has_open v) plan plan record_rows refl k.head count) in
    let path = Reads-row p (at_stage v empty due.Path) (begun_plan plan.numbers) plan (Path plan.standing.path) _ chance_rows (Takes-path p h v empty plan.standing.path k.head.chance.path) chance in
    let begun = subst (λ (n : Numbers). Reads p (at_stage v empty due.Path) (begun_plan n) path_rows plan) k.numbers path in
    let read = Reads-row p (at_start (family_of v)) blank_plan plan (Version v) (version_row v) path_rows (Takes-version p v) begun in
    let lines = lines_of_rows (version_row v ∷ path_rows) in
    let text : text_in v p plan ≡ lines_text lines ++ [] = rows_text (version_row v ∷ path_rows) ∙ sym (append-nil (lines_text lines)) in
    ap (text_at (family_of v) p) text ∙ at_end (family_of v) p lines read.last read.feeds read.right [] read.ends ∙ ap Ok read.plan_is

-- A plan is the plan of its gap plan.

plan_of_gap : (n : Numbers) (plan : Plan) → plan_of (gap_of n plan) ≡ plan
plan_of_gap n plan = ap (λ (tree : List TreeNode). record { standing = plan.standing; weight = plan.weight; tree = tree }) (shapes_of_closed plan.tree)

chance_has_text : (p : Problem) (plan : Plan) → IsPrintable p plan → IsNarrow plan → IsChanceOf p plan.standing plan.weight
chance_has_text p plan k narrow = record { path = record { positions = k.positions; some = k.some; short = k.short }; value = narrow.value; weight_small = narrow.weight }

few_has_text : (v : Dialect) (tree : List TreeNode) → family_of v ≡ Plans → length tree ≤ most_records Plans → length (map closed_node tree) ≤ most_records (family_of v)
few_has_text v tree e few = subst (λ (family : Family). length (map closed_node tree) ≤ most_records family) (sym e) (let long = length-map tree closed_node in omega (arith, few, long))

-- a plan that has a text of a dialect of plans has it as a gap plan
plan_has_text : (p : Problem) (v : Dialect) (plan : Plan) (text : List ℕ) → family_of v ≡ Plans → IsPlanTextIn v p plan text → HasText p v (gap_of (numbers_in v) plan)
plan_has_text p v plan text e is = record {
  numbers = refl;
  head = record { chance = chance_has_text p plan is.printable is.narrow; ceiling_is = ceiling_is_read v false plan.standing.value plan.standing.value (none_waits v e) refl };
  few = few_has_text v plan.tree e is.printable.few;
  printable = All-map (λ (r : GapNode). IsPrintableRecord p (shape_of r)) closed_node plan.tree is.printable.records;
  narrow = All-map (λ (r : GapNode). IsNarrowNode r.kind) closed_node plan.tree is.narrow.records;
  known = All-map (λ (r : GapNode). HasNodeLetter v r.kind) closed_node plan.tree is.letters;
  places = subst (HavePlaces (prefixes_in v) p ([] ∷ [])) (sym (shapes_of_closed plan.tree)) is.in_place;
}

-- it is read as the gap plan of its records
closed_read : (p : Problem) → IsProblem p → (plan : Plan) (text : List ℕ) → IsTextOfPlan p plan text → text_at Plans p text ≡ Ok (gap_of Means plan)
closed_read p h plan text (v, plans, is) =
    let whole = gap_of (numbers_in v) plan in
    ap (text_at Plans p) is.spelled
    ∙ subst (λ (family : Family). text_at family p (text_in v p whole) ≡ Ok whole) plans (text_reads_back p v whole h (plan_has_text p v plan text plans is))
    ∙ ap (λ (n : Numbers). Ok (gap_of n plan)) (sym (numbers_back v plans))

-- and so as that plan
pub text_read : (p : Problem) → IsProblem p → (plan : Plan) (text : List ℕ) → IsTextOfPlan p plan text → plan_at p text ≡ Ok plan
text_read p h plan text spelled = ap as_plan (closed_read p h plan text spelled) ∙ ap Ok (plan_of_gap Means plan)

pub plan_text_reads_back : PlanTextReadsBack
plan_text_reads_back p plan text h spelled = text_read p h plan text spelled

-- nodes that have the prefixes that are expected can be printed, where these are legal
placed_printable : (p : Problem) → IsProblem p → (nodes : List GapNode) (qs : List (List ℕ)) → All (IsLegal p) qs → AreInPlace p qs (map shape_of nodes) → All (λ r. IsPrintableKind p (shape_of r).kind) nodes → All (λ r. IsPrintableRecord p (shape_of r)) nodes
placed_printable p h [] qs legal placed kinds = All-nil (λ (r : GapNode). IsPrintableRecord p (shape_of r))
placed_printable p h (r ∷ nodes) [] legal placed kinds = absurd placed
placed_printable p h (r ∷ nodes) (q ∷ qs) legal placed kinds =
    let K : GapNode → Type 0 = λ x. IsPrintableKind p (shape_of x).kind in
    let first : IsLegal p q = All-head (IsLegal p) q qs legal in
    let here : IsLegal p r.prefix = subst (IsLegal p) (sym placed.0) first in
    let next = opened_by p q (shape_of_kind r.kind) in
    let later = All-append (IsLegal p) next qs (legal_opened p q (shape_of_kind r.kind) first) (All-tail (IsLegal p) q qs legal) in
    All-cons (λ (x : GapNode). IsPrintableRecord p (shape_of x)) r nodes
    (record {
      positions = positions_follow p h p.start (omega (arith, h.start, h.grid_positions)) r.prefix here.follows;
      short = here.short;
      kind = All-head K r nodes kinds;
    })
    (placed_printable p h nodes (next ++ qs) later placed.1 (All-tail K r nodes kinds))

-- a gap plan that can be printed has a text of the dialect of its numbers, whichever these are
gap_has_text : (p : Problem) (plan : GapPlan) (n : Numbers) → plan.numbers ≡ n → IsPrintableGap p plan → IsNarrowGap plan → AreInPlace p ([] ∷ []) (map shape_of plan.nodes) → All (λ r. IsPrintableRecord p (shape_of r)) plan.nodes → HasText p (dialect_with n) plan
gap_has_text p plan Means e k narrow places printable = record {
  numbers = e;
  head = record { chance = record { path = record { positions = k.positions; some = k.some; short = k.short }; value = narrow.value; weight_small = narrow.weight }; ceiling_is = narrow.ceiling };
  few = k.few;
  printable = printable;
  narrow = narrow.nodes;
  known = subst (λ (m : Numbers). All (λ (r : GapNode). HasNodeLetter (dialect_with m) r.kind) plan.nodes) e k.letters;
  places = places;
}
gap_has_text p plan Edges e k narrow places printable = record {
  numbers = e;
  head = record { chance = record { path = record { positions = k.positions; some = k.some; short = k.short }; value = narrow.value; weight_small = narrow.weight }; ceiling_is = narrow.ceiling };
  few = k.few;
  printable = printable;
  narrow = narrow.nodes;
  known = subst (λ (m : Numbers). All (λ (r : GapNode). HasNodeLetter (dialect_with m) r.kind) plan.nodes) e k.letters;
  places = places;
}

gap_family : (n : Numbers) → family_of (dialect_with n) ≡ Gaps
gap_family Means = refl
gap_family Edges = refl

pub gap_text_reads_back : GapTextReadsBack
gap_text_reads_back p plan h k narrow places =
    let printable = placed_printable p h plan.nodes ([] ∷ []) (empty_legal p ([] ∷ []) refl) places k.kinds in
    let v = dialect_with plan.numbers in
    subst (λ (family : Family). text_at family p (text_in v p plan) ≡ Ok plan) (gap_family plan.numbers)
    (text_reads_back p v plan h (gap_has_text p plan plan.numbers refl k narrow places printable))

pub read_is_closed : (p : Problem) → IsProblem p → (plan : GapPlan) (text : List ℕ) → IsTextOfPlan p (plan_of plan) text → text_at Plans p text ≡ Ok plan → gap_of Means (plan_of plan) ≡ plan
read_is_closed p h plan text spelled reads =
    let closed = closed_read p h (plan_of plan) text spelled in
    cc

-- and that of a gap plan as that gap plan
pub gap_read : (p : Problem) → IsProblem p → (plan : GapPlan) (text : List ℕ) → IsGapText p plan text → gap_at p text ≡ Ok plan
gap_read p h plan text is = ap (gap_at p) is.spelled ∙ gap_text_reads_back p plan h is.printable is.narrow is.in_place

-- what was read is one plan
pub one_plan_a_text : OnePlanAText
one_plan_a_text p a b text h a_spelled b_spelled =
    let as_a : plan_at p text ≡ Ok a = text_read p h a text a_spelled in
    let as_b : plan_at p text ≡ Ok b = text_read p h b text b_spelled in
    cc

pub one_gap_a_text : OneGapAText
one_gap_a_text p a b text h a_spelled b_spelled =
    let as_a : gap_at p text ≡ Ok a = gap_read p h a text a_spelled in
    let as_b : gap_at p text ≡ Ok b = gap_read p h b text b_spelled in
    cc
