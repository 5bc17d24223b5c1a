-- How long the text of a plan can be.
use Rattle.std.proofs.Common.{ℕ, ◌+◌, ◌*◌, ◌<◌, ◌≤◌, ◌≡◌, ◌^◌, List, [], ◌∷◌, ◌++◌, map, length, codes, ap, arith, All, length-append}
use Rattle.std.specs.Fmt.{decimal}
use Rattle.std.proofs.lemmas.Fmt.{length-decimal-le_wide}
use Rattle.std.proofs.lemmas.List.{length-map}
use Rattle.std.proofs.lemmas.List.Elements.{All-nil, All-cons, All-head, All-tail, All-map, All-weaker, All-get_or}
use Rattle.exact_parts.proofs.Decimals.{digits_fit}
use Rattle.text_rows.specs.Rows.{text_of, spaced}
use Rattle.text_rows.proofs.RowLemmas.{join-fields, text_of-append, spaced_short}
use Rattle.search_model.specs.Names.{IsName}
use Rattle.search_model.specs.Problem.{Problem, IsProblem, position_name}
use Rattle.bound_tree.specs.declared.node.Kind.TheVariants.{Branch, Whole, Mean, Tangent, Edge, Exchange, TwoLooks}
use Rattle.bound_tree.specs.declared.gap.GapKind.{GapKind}
use Rattle.bound_tree.specs.declared.gap.GapKind.TheVariants.{Closed, Waiting}
use Rattle.bound_tree.specs.declared.gap.GapNode.{GapNode}
use Rattle.bound_tree.specs.Gaps.{shape_of_kind, shape_of, closed_node}
use Rattle.bound_tree.specs.declared.node.TreeNode.{TreeNode}
use Rattle.bound_tree.specs.declared.plan.Plan.{Plan}
use Rattle.tree_format.specs.declared.plan_line.Dialect.{Dialect}
use Rattle.tree_format.specs.declared.plan_line.Dialect.TheVariants.{PlanOne, PlanTwo, PlanThree, GapOne, GapTwo}
use Rattle.tree_format.specs.declared.plan_line.Prefixes.{Prefixes}
use Rattle.tree_format.specs.declared.plan_line.Prefixes.TheVariants.{Written, LeftOut}
use Rattle.tree_format.specs.Dialects.{version_row, prefixes_in, numbers_in}
use Rattle.tree_format.specs.PlanText.{numbers, written, node_row, path_rows, chance_row, ceiling_rows, count_row, head_rows, ArePositions, IsPrintableKind, IsPrintableRecord, IsPrintable, IsNarrowKind, IsNarrowNode, IsNarrow, IsTextOfPlan, plan_text}
use Rattle.tree_format.specs.RecordParts.{bound_fields, reference_of}
use Rattle.tree_format.specs.TextLaws.{PlanTextIsShort}
use Rattle.tree_format.proofs.Families.{none_waits, no_ceiling}
use Rattle.tree_format.proofs.LineTexts.{kind_text, head_parts, plan_parts}

-- a number has at most 39 digits
number_short : (n : ℕ) → n < 2 ^ 128 → length (spaced (decimal n ∷ [])) ≤ 40
number_short n narrow = omega (arith, spaced_short 39 (decimal n ∷ []) (All-cons (λ f. length f ≤ 39) (decimal n) [] (digits_fit n narrow) (All-nil (λ f. length f ≤ 39))))

bound_short : (kind : GapKind) → IsNarrowNode kind → length (spaced (bound_fields kind)) ≤ 40
bound_short (Closed Branch) narrow = omega arith
bound_short (Closed (Whole n)) narrow = number_short n narrow
bound_short (Closed (Mean b)) narrow = number_short b narrow
bound_short (Closed (Tangent b reference)) narrow = number_short b narrow
bound_short (Closed (Edge b)) narrow = number_short b narrow
bound_short (Closed (Exchange b u)) narrow = number_short b narrow
bound_short (Closed (TwoLooks b)) narrow = number_short b narrow
bound_short (Waiting n) narrow = number_short n narrow

chance_short : (value weight : ℕ) → value < 2 ^ 128 → weight < 2 ^ 128 → length (text_of (chance_row value weight ∷ [])) ≤ 87
chance_short value weight v w =
    omega (arith, length-append (decimal value ++ 32 ∷ decimal weight) (10 ∷ []), length-append (decimal value) (32 ∷ decimal weight), digits_fit value v, digits_fit weight w)

count_short : (n : ℕ) → n < 2 ^ 128 → length (text_of (count_row n ∷ [])) ≤ 46
count_short n narrow = omega (arith, length-append (decimal n) (10 ∷ []), digits_fit n narrow)

-- the first line
first_short : (v : Dialect) → length (text_of (version_row v ∷ [])) ≤ 7
first_short PlanOne = omega arith
first_short PlanTwo = omega arith
first_short PlanThree = omega arith
first_short GapOne = omega arith
first_short GapTwo = omega arith

-- parts one after the other
joined : (a b c d e : List ℕ) → length (a ++ (b ++ (c ++ (d ++ e)))) ≡ length a + (length b + (length c + (length d + length e)))
joined a b c d e = simp length-append

joined_three : (a b c : List ℕ) → length (a ++ (b ++ c)) ≡ length a + (length b + length c)
joined_three a b c = simp length-append

module _ (p : Problem) (sound : IsProblem p) where
  -- a position at most 3
  numbers_short : (q : List ℕ) → ArePositions p q → length q ≤ 32 → length (spaced (numbers q)) ≤ 128
  numbers_short q places short =
      let each = All-map (λ f. length f ≤ 3) decimal q (All-weaker (λ a. a < p.positions) (λ a. length (decimal a) ≤ 3) (λ a lt. length-decimal-le_wide 3 a (omega arith) (omega (arith, lt, sound.positions)) (omega (arith, lt, sound.positions))) q places) in
      omega (arith, spaced_short 3 (numbers q) each, length-map {A = ℕ} {B = List ℕ}, short)

  written_short : (w : Prefixes) (q : List ℕ) → ArePositions p q → length q ≤ 32 → length (spaced (numbers (written w q))) ≤ 128
  written_short Written q places short = numbers_short q places short
  written_short LeftOut q places short = omega arith

  reference_short : (kind : GapKind) → IsPrintableKind p (shape_of_kind kind) → length (spaced (numbers (reference_of kind))) ≤ 128
  reference_short (Closed Branch) printable = omega arith
  reference_short (Closed (Whole n)) printable = omega arith
  reference_short (Closed (Mean b)) printable = omega arith
  reference_short (Closed (Tangent b reference)) printable = numbers_short reference printable.0 (omega (arith, printable.1, sound.horizon))
  reference_short (Closed (Edge b)) printable = omega arith
  reference_short (Closed (Exchange b u)) printable =
      let P : ℕ → Type 0 = λ a. a < p.positions in
      numbers_short (u ∷ []) (All-cons P u [] printable (All-nil P)) (omega arith)
  reference_short (Closed (TwoLooks b)) printable = omega arith
  reference_short (Waiting n) printable = omega arith

  -- a record: its letter, a number, two lists of positions, and the line feed
  node_short : (v : Dialect) (r : GapNode) → IsPrintableRecord p (shape_of r) → IsNarrowNode r.kind → length (text_of (node_row v r ∷ [])) ≤ 298
  node_short v r printable narrow =
      let w = prefixes_in v in
      let bound = bound_short r.kind narrow in
      let prefix = written_short w r.prefix printable.positions (omega (arith, printable.short, sound.horizon)) in
      let reference = reference_short r.kind printable.kind in
      let whole = ap length (kind_text (written w r.prefix) r.kind) in
      let parts = joined (spaced (bound_fields r.kind)) (spaced (numbers (written w r.prefix))) (spaced (numbers (reference_of r.kind))) (10 ∷ []) [] in
      omega (arith, whole, parts, bound, prefix, reference)

  records_short : (v : Dialect) (rs : List TreeNode) → All (IsPrintableRecord p) rs → All (λ r. IsNarrowKind r.kind) rs → length (text_of (map (λ r. node_row v (closed_node r)) rs)) ≤ length rs * 298
  records_short v [] printable narrow = omega arith
  records_short v (r ∷ rs) printable narrow =
      let row : TreeNode → List (List ℕ) = λ x. node_row v (closed_node x) in
      let here = node_short v (closed_node r) (All-head (IsPrintableRecord p) r rs printable) (All-head (λ r. IsNarrowKind r.kind) r rs narrow) in
      let rest = records_short v rs (All-tail (IsPrintableRecord p) r rs printable) (All-tail (λ r. IsNarrowKind r.kind) r rs narrow) in
      rw (text_of-append (row r ∷ []) (map row rs), length-append (text_of (row r ∷ [])) (text_of (map row rs))) (omega (arith, here, rest))

  -- a name at most 24 bytes
  names_short : (q : List ℕ) → ArePositions p q → length q ≤ 32 → length (spaced (map (position_name p) q)) ≤ 800
  names_short q places short =
      let count = sound.position_names.count in
      let each = All-map (λ f. length f ≤ 24) (position_name p) q (All-weaker (λ a. a < p.positions) (λ a. length (position_name p a) ≤ 24) (λ a lt. (All-get_or IsName p.position_names a [] (omega (arith, lt, count)) sound.position_names.each).short) q places) in
      omega (arith, spaced_short 24 (map (position_name p) q) each, length-map {A = ℕ} {B = List ℕ}, short)

  path_short : (v : Dialect) (q : List ℕ) → ArePositions p q → length q ≤ 32 → length (text_of (path_rows v p q)) ≤ 812
  path_short v q places short =
      let names = map (position_name p) q in
      let row : List (List ℕ) = codes "path" ∷ names in
      let line : text_of (row ∷ []) ≡ (codes "path" ++ spaced names) ++ 10 ∷ [] = ap (λ (x : List ℕ). x ++ 10 ∷ []) (join-fields (codes "path") names) in
      omega (arith, ap length (text_of-append (version_row v ∷ []) (row ∷ [])), length-append (text_of (version_row v ∷ [])) (text_of (row ∷ [])), ap length line, length-append (codes "path" ++ spaced names) (10 ∷ []), first_short v, names_short q places short)

  -- the text of a dialect of plans, which has no ceiling
  text_in-short : (v : Dialect) (plan : Plan) → ceiling_rows v plan.standing.value ≡ [] → IsPrintable p plan → IsNarrow plan → length (plan_text v p plan) ≤ 949 + length plan.tree * 298
  text_in-short v plan none printable narrow =
      let s = plan.standing in
      let path = path_short v s.path printable.positions printable.short in
      let chance = chance_short s.value plan.weight narrow.value narrow.weight in
      let ceiling : length (text_of (ceiling_rows v s.value)) ≡ 0 = ap (λ (rows : List (List (List ℕ))). length (text_of rows)) none in
      let count = count_short (length plan.tree) (omega (arith, printable.few)) in
      let records = records_short v plan.tree printable.records narrow.records in
      let head = joined
      (text_of (path_rows v p s.path))
      (text_of (chance_row s.value plan.weight ∷ []))
      (text_of (ceiling_rows v s.value))
      (text_of (count_row (length plan.tree) ∷ []))
      [] in
      let parts = joined_three
      (text_of (head_rows v p s plan.weight s.value (length plan.tree)))
      (text_of (map (λ r. node_row v (closed_node r)) plan.tree))
      (codes "end" ++ 10 ∷ []) in
      omega (arith, ap length (plan_parts v p (numbers_in v) plan), parts, ap length (head_parts v p s plan.weight s.value (length plan.tree)), head, path, chance, ceiling, count, records)

  text_short : (plan : Plan) (text : List ℕ) → IsTextOfPlan p plan text → length text ≤ 949 + length plan.tree * 298
  text_short plan text (v, plans, is) = omega (arith, ap length is.spelled, text_in-short v plan (no_ceiling v plan.standing.value (none_waits v plans)) is.printable is.narrow)

pub plan_text_is_short : PlanTextIsShort
plan_text_is_short p plan text sound is = text_short p sound plan text is
