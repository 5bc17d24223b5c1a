-- How long the text of a plan or of a gap plan can be, in a dialect in which records have no prefixes.
use Rattle.std.proofs.Common.{ℕ, ◌+◌, ◌*◌, ◌<◌, ◌≤◌, ◌≡◌, ◌^◌, Bool, true, false, cond, List, [], ◌∷◌, ◌++◌, map, length, codes, refl, ap, arith, All, length-append}
use Rattle.std.specs.Fmt.{decimal}
use Rattle.std.proofs.lemmas.Fmt.{length-decimal-le_wide}
use Rattle.std.proofs.lemmas.List.{length-map}
use Rattle.std.proofs.lemmas.List.Elements.{All-nil, All-cons, All-head, All-tail, All-append, All-map, All-weaker, All-get_or}
use Rattle.exact_parts.proofs.Decimals.{digits_fit}
use Rattle.text_rows.specs.Rows.{text_of, spaced}
use Rattle.text_rows.proofs.RowLemmas.{text_of-append, spaced_short}
use Rattle.search_model.specs.Names.{IsName}
use Rattle.search_model.specs.Problem.{Problem, IsProblem, position_name}
use Rattle.search_model.specs.declared.standing.Standing.{Standing}
use Rattle.bound_tree.specs.declared.node.Kind.{Kind}
use Rattle.bound_tree.specs.declared.node.Kind.TheVariants.{Branch, Whole, Mean, Tangent, Edge, Exchange, TwoLooks}
use Rattle.bound_tree.specs.declared.gap.GapKind.{GapKind}
use Rattle.bound_tree.specs.declared.gap.GapKind.TheVariants.{Closed, Waiting}
use Rattle.bound_tree.specs.declared.gap.GapNode.{GapNode}
use Rattle.bound_tree.specs.declared.gap.GapPlan.{GapPlan}
use Rattle.bound_tree.specs.declared.plan.Plan.{Plan}
use Rattle.bound_tree.specs.Gaps.{shape_of, shape_of_kind, closed_node, gap_of}
use Rattle.gap_plan.specs.Nodes.{record_at, closed_in}
use Rattle.tree_format.specs.declared.plan_line.Dialect.{Dialect}
use Rattle.tree_format.specs.declared.plan_line.Dialect.TheVariants.{PlanOne, PlanTwo, PlanThree, GapOne, GapTwo}
use Rattle.tree_format.specs.declared.plan_line.Prefixes.{Prefixes}
use Rattle.tree_format.specs.declared.plan_line.Prefixes.TheVariants.{Written, LeftOut}
use Rattle.tree_format.specs.Dialects.{version_row, has_open, prefixes_in, numbers_in, dialect_with, plan_dialect_for}
use Rattle.tree_format.specs.PlanText.{numbers, node_fields, written, node_row, chance_row, ceiling_row, ceiling_rows, count_row, head_rows, text_in, ArePositions, IsPrintableKind, IsPrintableRecord, IsNarrowKind, IsNarrowNode, IsNarrowGap, IsWrittenPlan, IsGapText}
use Rattle.tree_format.specs.declared.dialects.TheConstants.{MOST_GAP_NODES}
use Rattle.tree_format.proofs.LineTexts.{gap_parts}
use Rattle.plan_command.proofs.TextSizes.{IsShortRow, IsShortLine, line_size, rows_fit}
use Rattle.plan_command.proofs.Versions.{plan_serves, gap_lean}
use Rattle.plan_command.proofs.Gapped.{closed_again}

-- a row before the records: at most 33 words, names, or numbers of at most 39 digits
abbrev IsHeadRow : List (List ℕ) → Type 0
IsHeadRow row = IsShortRow 33 39 row

-- the line of a letter and a number
numbered_line : (f : List ℕ) (n : ℕ) → length f ≤ 1 → n < 2 ^ 128 → IsShortLine 42 (f ∷ decimal n ∷ [])
numbered_line f n letter narrow =
    let number = spaced_short 39 (decimal n ∷ []) (All-cons (λ g. length g ≤ 39) (decimal n) [] (digits_fit n narrow) (All-nil (λ g. length g ≤ 39))) in
    omega (arith, line_size f (decimal n ∷ []), letter, number)

-- that of a letter, a number, and at most 32 numbers below 200
listed_line : (f : List ℕ) (n : ℕ) (q : List ℕ) → length f ≤ 1 → n < 2 ^ 128 → All (λ a. a < 200) q → length q ≤ 32 → IsShortLine 170 (f ∷ decimal n ∷ numbers q)
listed_line f n q letter narrow low short =
    let each = All-map (λ f. length f ≤ 3) decimal q (All-weaker (λ a. a < 200) (λ a. length (decimal a) ≤ 3) (λ a lt. length-decimal-le_wide 3 a (omega arith) (omega (arith, lt)) (omega (arith, lt))) q low) in
    let places = spaced_short 3 (numbers q) each in
    let number = digits_fit n narrow in
    omega (arith, line_size f (decimal n ∷ numbers q), letter, length-append (decimal n) (spaced (numbers q)), number, places, length-map {A = ℕ} {B = List ℕ}, short)

-- a word and one number, or two
number_fields : (n : ℕ) → n < 2 ^ 128 → All (λ f. length f ≤ 39) (decimal n ∷ [])
number_fields n narrow = All-cons (λ f. length f ≤ 39) (decimal n) [] (digits_fit n narrow) (All-nil (λ f. length f ≤ 39))

one_number : (word : List ℕ) (n : ℕ) → length word ≤ 39 → n < 2 ^ 128 → IsHeadRow (word ∷ decimal n ∷ [])
one_number word n short narrow = (omega arith, All-cons (λ f. length f ≤ 39) word (decimal n ∷ []) short (number_fields n narrow))

two_numbers : (word : List ℕ) (n m : ℕ) → length word ≤ 39 → n < 2 ^ 128 → m < 2 ^ 128 → IsHeadRow (word ∷ decimal n ∷ decimal m ∷ [])
two_numbers word n m short narrow narrow' =
    let numbers = All-cons (λ f. length f ≤ 39) (decimal n) (decimal m ∷ []) (digits_fit n narrow) (number_fields m narrow') in
    (omega arith, All-cons (λ f. length f ≤ 39) word (decimal n ∷ decimal m ∷ []) short numbers)

-- a word and a number, as the second of two words of a head
word_row : (word other : List ℕ) → length word ≤ 39 → length other ≤ 39 → IsHeadRow (word ∷ other ∷ [])
word_row word other short also = (omega arith, All-cons (λ f. length f ≤ 39) word (other ∷ []) short (All-cons (λ f. length f ≤ 39) other [] also (All-nil (λ f. length f ≤ 39))))

-- the fields of a node whose prefix is left out
abbrev lean_row : GapNode → List (List ℕ)
lean_row node = node_fields [] node.kind

-- one row more, or none
one_or_none : (b : Bool) (row : List (List ℕ)) → IsHeadRow row → (length (cond b (row ∷ []) []) ≤ 1) × All IsHeadRow (cond b (row ∷ []) [])
one_or_none true row fits = (omega arith, All-cons IsHeadRow row [] fits (All-nil IsHeadRow))
one_or_none false row fits = (omega arith, All-nil IsHeadRow)

-- the first line
version_fits : (v : Dialect) → IsHeadRow (version_row v)
version_fits PlanOne = word_row (codes "plan") (codes "1") (omega arith) (omega arith)
version_fits PlanTwo = word_row (codes "plan") (codes "2") (omega arith) (omega arith)
version_fits PlanThree = word_row (codes "plan") (codes "3") (omega arith) (omega arith)
version_fits GapOne = word_row (codes "gap") (codes "1") (omega arith) (omega arith)
version_fits GapTwo = word_row (codes "gap") (codes "2") (omega arith) (omega arith)

-- where prefixes are left out
lean_rows : (w : Prefixes) (nodes : List GapNode) → w ≡ LeftOut → map (λ node. node_fields (written w node.prefix) node.kind) nodes ≡ map lean_row nodes
lean_rows Written nodes e = let bad : ⊥ = cc in absurd bad
lean_rows LeftOut nodes e = refl

module _ (p : Problem) (sound : IsProblem p) where
  low_positions : (q : List ℕ) → ArePositions p q → All (λ a. a < 200) q
  low_positions q places = All-weaker (λ a. a < p.positions) (λ a. a < 200) (λ a lt. omega (arith, lt, sound.positions)) q places

  -- a record's line
  kind_line : (kind : Kind) → IsPrintableKind p kind → IsNarrowKind kind → IsShortLine 170 (node_fields [] (Closed kind))
  kind_line Branch printable narrow = omega arith
  kind_line (Whole n) printable narrow = omega (arith, numbered_line (codes "W") n (omega arith) narrow)
  kind_line (Mean b) printable narrow = omega (arith, numbered_line (codes "M") b (omega arith) narrow)
  kind_line (Tangent b reference) printable narrow = listed_line (codes "T") b reference (omega arith) narrow (low_positions reference printable.0) (omega (arith, printable.1, sound.horizon))
  kind_line (Edge b) printable narrow = omega (arith, numbered_line (codes "E") b (omega arith) narrow)
  kind_line (Exchange b u) printable narrow =
      let places = All-cons (λ a. a < p.positions) u [] printable (All-nil (λ a. a < p.positions)) in
      listed_line (codes "X") b (u ∷ []) (omega arith) narrow (low_positions (u ∷ []) places) (omega arith)
  kind_line (TwoLooks b) printable narrow = omega (arith, numbered_line (codes "D") b (omega arith) narrow)

  -- a node's line: at most 170 bytes where it is closed, and 42 where it waits
  node_line : (q : List ℕ) (kind : GapKind) → IsPrintableKind p (shape_of_kind kind) → IsNarrowNode kind → length (text_of (node_fields [] kind ∷ [])) ≤ 42 + length (record_at q kind) * 128
  node_line q (Closed kind) printable narrow = omega (arith, kind_line kind printable narrow)
  node_line q (Waiting n) printable narrow = omega (arith, numbered_line (codes "O") n (omega arith) narrow)

  node_lines : (nodes : List GapNode) → All (λ node. IsPrintableKind p (shape_of node).kind) nodes → All (λ node. IsNarrowNode node.kind) nodes → length (text_of (map lean_row nodes)) ≤ length nodes * 42 + length (closed_in nodes) * 128
  node_lines [] printable narrow = omega arith
  node_lines (node ∷ nodes) printable narrow =
      let here = node_line node.prefix node.kind (All-head (λ node. IsPrintableKind p (shape_of node).kind) node nodes printable) (All-head (λ node. IsNarrowNode node.kind) node nodes narrow) in
      let rest = node_lines nodes (All-tail (λ node. IsPrintableKind p (shape_of node).kind) node nodes printable) (All-tail (λ node. IsNarrowNode node.kind) node nodes narrow) in
      let closed = length-append (record_at node.prefix node.kind) (closed_in nodes) in
      rw (text_of-append (lean_row node ∷ []) (map lean_row nodes), length-append (text_of (lean_row node ∷ [])) (text_of (map lean_row nodes))) (omega (arith, here, rest, closed))

  -- the word `path` and at most 32 names of at most 24 bytes
  path_row_fits : (q : List ℕ) → ArePositions p q → length q ≤ 32 → IsHeadRow (codes "path" ∷ map (position_name p) q)
  path_row_fits q places short =
      let count = sound.position_names.count in
      let named : (a : ℕ) → a < p.positions → length (position_name p a) ≤ 39 = λ a lt. let name = All-get_or IsName p.position_names a [] (omega (arith, lt, count)) sound.position_names.each in omega (arith, name.short) in
      let names = All-map (λ f. length f ≤ 39) (position_name p) q (All-weaker (λ a. a < p.positions) (λ a. length (position_name p a) ≤ 39) named q places) in
      (omega (arith, length-map {A = ℕ} {B = List ℕ}, short), All-cons (λ f. length f ≤ 39) (codes "path") (map (position_name p) q) (omega arith) names)

  -- the lines before the records: at most five
  head_fits : (v : Dialect) (s : Standing) (weight ceiling n : ℕ) → ArePositions p s.path → length s.path ≤ 32 → s.value < 2 ^ 128 → weight < 2 ^ 128 → ceiling < 2 ^ 128 → n < 2 ^ 128 →
      length (text_of (head_rows v p s weight ceiling n)) ≤ 6605
  head_fits v s weight ceiling n places short value narrow most few =
      let path : List (List ℕ) = codes "path" ∷ map (position_name p) s.path in
      let chance = chance_row s.value weight in
      let above = ceiling_rows v ceiling in
      let count = count_row n in
      let (one, highest) = one_or_none (has_open v) (ceiling_row ceiling) (one_number (codes "ceiling") ceiling (omega arith) most) in
      let last = All-cons IsHeadRow count [] (one_number (codes "nodes") n (omega arith) few) (All-nil IsHeadRow) in
      let numbered = All-cons IsHeadRow chance (above ++ count ∷ []) (two_numbers (codes "chance") s.value weight (omega arith) value narrow) (All-append IsHeadRow above (count ∷ []) highest last) in
      let each = All-cons IsHeadRow (version_row v) (path ∷ chance ∷ (above ++ count ∷ [])) (version_fits v) (All-cons IsHeadRow path (chance ∷ (above ++ count ∷ [])) (path_row_fits s.path places short) numbered) in
      omega (arith, rows_fit 33 39 (version_row v ∷ path ∷ chance ∷ (above ++ count ∷ [])) each, length-append above (count ∷ []), one)

  -- the whole text: at most 42 bytes for each node, 128 more for each closed one, and 6,609 for the rest
  text_fits : (v : Dialect) → prefixes_in v ≡ LeftOut → (plan : GapPlan) → ArePositions p plan.standing.path → length plan.standing.path ≤ 32 → length plan.nodes < 2 ^ 128 →
      All (λ node. IsPrintableKind p (shape_of node).kind) plan.nodes → IsNarrowGap plan → length (text_in v p plan) ≤ 6609 + (length plan.nodes * 42 + length (closed_in plan.nodes) * 128)
  text_fits v lean plan places short few printable narrow =
      let head = text_of (head_rows v p plan.standing plan.weight plan.ceiling (length plan.nodes)) in
      let records = text_of (map (node_row v) plan.nodes) in
      let same = ap (λ (rows : List (List (List ℕ))). length (text_of rows)) (lean_rows (prefixes_in v) plan.nodes lean) in
      let above = head_fits v plan.standing plan.weight plan.ceiling (length plan.nodes) places short narrow.value narrow.weight narrow.ceiling few in
      let lines = node_lines plan.nodes printable narrow.nodes in
      omega (arith, ap length (gap_parts v p plan), length-append head (records ++ (codes "end" ++ 10 ∷ [])), length-append records (codes "end" ++ 10 ∷ []), above, same, lines)

  -- of a plan: at most 170 bytes for each record
  pub plan_text_fits : (plan : Plan) (text : List ℕ) → IsWrittenPlan p plan text → length text ≤ 6609 + length plan.tree * 170
  plan_text_fits plan text is =
      let nodes = map closed_node plan.tree in
      let same : length nodes ≡ length plan.tree = length-map plan.tree closed_node in
      let printable = All-map (λ node. IsPrintableKind p (shape_of node).kind) closed_node plan.tree (All-weaker (IsPrintableRecord p) (λ r. IsPrintableKind p r.kind) (λ r printable. printable.kind) plan.tree is.printable.records) in
      let v = plan_dialect_for p in
      let narrow : IsNarrowGap (gap_of (numbers_in v) plan) = record {
        value = is.narrow.value;
        weight = is.narrow.weight;
        ceiling = is.narrow.value;
        nodes = All-map (λ node. IsNarrowNode node.kind) closed_node plan.tree is.narrow.records;
      } in
      let fits = text_fits v (plan_serves p).lean (gap_of (numbers_in v) plan) is.printable.positions is.printable.short (omega (arith, is.printable.few, same)) printable narrow in
      omega (arith, ap length is.spelled, fits, same, ap length (closed_again plan.tree))

  -- and of a gap plan
  pub gap_text_fits : (plan : GapPlan) (text : List ℕ) → IsGapText p plan text → length text ≤ 6609 + (length plan.nodes * 42 + length (closed_in plan.nodes) * 128)
  gap_text_fits plan text is =
      let all : MOST_GAP_NODES ≡ 4194305 = refl in
      let few : length plan.nodes < 2 ^ 128 = omega (arith, is.printable.few, all) in
      omega (arith, ap length is.spelled, text_fits (dialect_with plan.numbers) (gap_lean plan.numbers) plan is.printable.positions is.printable.short few is.printable.kinds is.narrow)
