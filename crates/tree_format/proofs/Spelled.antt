-- What is read as a plan is the text of that plan.
use Rattle.std.proofs.Common.{◌≡◌, ℕ, ◌<◌, ◌≤◌, ◌+◌, ◌-◌, ◌^◌, Bool, true, false, cond, List, [], ◌∷◌, ◌++◌, map, length, Result, Ok, Err, refl, sym, ap, subst, ◌∙◌, arith, append_assoc, length-append, inl, inr}
use Rattle.std.specs.Prelude.{All, codes}
use Rattle.std.proofs.lemmas.Bool.{cond_both}
use Rattle.std.proofs.lemmas.List.{append-nil, map-append, length-map}
use Rattle.std.proofs.lemmas.List.Elements.{All-nil, All-cons, All-head, All-tail, All-append, All-push, All-map, All-weaker}
use Rattle.text_rows.specs.Rows.{text_of}
use Rattle.text_rows.proofs.RowLemmas.{text_of-append}
use Rattle.text_rows.specs.Lines.{lines_text, after_lines}
use Rattle.text_rows.specs.LineMachine.{Reached, AreTaken}
use Rattle.text_rows.specs.WholeLines.{whole_lines}
use Rattle.text_rows.proofs.LineMachine.{read_told}
use Rattle.text_rows.proofs.WholeLines.{lines_first}
use Rattle.text_rows.specs.Fields.{exact_fields}
use Rattle.text_rows.proofs.Results.{err_ok, same_ok}
use Rattle.search_model.specs.Problem.{Problem, IsProblem}
use Rattle.search_model.specs.Legal.{IsLegal}
use Rattle.bound_tree.specs.declared.node.Kind.{Kind}
use Rattle.bound_tree.specs.declared.node.TreeNode.{TreeNode}
use Rattle.search_model.specs.declared.standing.Standing.{Standing}
use Rattle.bound_tree.specs.Places.{opened_by, AreInPlace, expected_behind}
use Rattle.bound_tree.proofs.Placing.{legal_opened}
use Rattle.bound_tree.specs.declared.gap.GapKind.{GapKind}
use Rattle.bound_tree.specs.declared.gap.GapKind.TheVariants.{Closed, Waiting}
use Rattle.bound_tree.specs.declared.gap.GapNode.{GapNode}
use Rattle.bound_tree.specs.declared.gap.Numbers.{Numbers}
use Rattle.bound_tree.specs.declared.gap.Numbers.TheVariants.{Means}
use Rattle.bound_tree.specs.declared.gap.GapPlan.{GapPlan}
use Rattle.bound_tree.specs.Gaps.{shape_of_kind, shape_of, closed_node, gap_of, plan_of}
use Rattle.bound_tree.specs.declared.plan.Plan.{Plan}
use Rattle.tree_format.specs.declared.kind.PlanKind.{PlanKind}
use Rattle.tree_format.specs.declared.kind.PlanKind.TheVariants.{BadLine, Rest}
use Rattle.tree_format.specs.declared.kind.PlanFault.{PlanFault}
use Rattle.tree_format.specs.declared.due.Due.{Due}
use Rattle.tree_format.specs.declared.plan_line.Dialect.{Dialect}
use Rattle.tree_format.specs.declared.plan_line.Dialect.TheVariants.{PlanOne, PlanTwo, PlanThree, GapOne, GapTwo}
use Rattle.tree_format.specs.declared.plan_line.Family.{Family}
use Rattle.tree_format.specs.declared.plan_line.Family.TheVariants.{Plans, Gaps}
use Rattle.tree_format.specs.declared.plan_line.Prefixes.{Prefixes}
use Rattle.tree_format.specs.declared.plan_line.Prefixes.TheVariants.{Written, LeftOut}
use Rattle.tree_format.specs.Dialects.{family_of, version_row, most_records, has_open, prefixes_in, numbers_in, dialect_with}
use Rattle.tree_format.specs.declared.plan_line.Stage.{Stage}
use Rattle.tree_format.specs.declared.plan_line.Stage.TheVariants as due
use Rattle.tree_format.specs.declared.plan_line.PlanLine.{PlanLine}
use Rattle.tree_format.specs.declared.plan_line.PlanLine.TheVariants.{Version, Path, Chance, Ceiling, Count, Node, End}
use Rattle.tree_format.specs.PlanText.{node_row, path_rows, chance_row, ceiling_rows, head_rows, plan_rows, text_in, ArePositions, IsPrintableKind, IsPrintableRecord, IsPrintable, IsNarrowKind, IsNarrow, HasLetter, HasNodeLetter, HavePlaces, IsTextOfPlan, IsNarrowNode, IsGapText}
use Rattle.tree_format.specs.Reading.{line_at, stage_line, places_behind, next, taken, at_line_number, Progress, unread, behind, plan_lines, front_of, unless_more, alone, text_at, as_plan}
use Rattle.tree_format.specs.ReadingLaws.{OneTextAPlan, OneTextAGap}
use Rattle.tree_format.proofs.Families.{none_waits, numbers_back, no_ceiling, ceiling_written, IsCeiling, ceiling_read, ceiling_is_read}
use Rattle.tree_format.proofs.AtLines.{ended_stage}
use Rattle.tree_format.proofs.SpelledLines.{IsVersionLine, version_told, IsPathLine, path_told, IsChanceLine, chance_told, IsCeilingLine, ceiling_told, IsCountLine, count_told, HasPlace, IsRecordLine, record_printable, IsEndLine, record_told}
use Rattle.text_rows.proofs.Splits.{split_joined}

-- the rows of the lines that were read
abbrev pub rows_read : Problem → Dialect → Stage → GapPlan → List (List (List ℕ))
rows_read p v (due.Version family) plan = []
rows_read p v due.Path plan = version_row v ∷ []
rows_read p v due.Chance plan = path_rows v p plan.standing.path
rows_read p v due.Ceiling plan = path_rows v p plan.standing.path ++ chance_row plan.standing.value plan.weight ∷ []
rows_read p v due.Count plan = path_rows v p plan.standing.path ++ (chance_row plan.standing.value plan.weight ∷ ceiling_rows v plan.ceiling)
rows_read p v (due.Records left) plan = head_rows v p plan.standing plan.weight plan.ceiling (length plan.nodes + left) ++ map (node_row v) plan.nodes
rows_read p v due.Ended plan = plan_rows v p plan

-- what they have settled
pub record IsPathOf (p : Problem) (q : List ℕ) : Type 0 where
  pub positions : ArePositions p q
  pub some : 1 ≤ length q
  pub short : length q ≤ 32

pub record IsChanceOf (p : Problem) (s : Standing) (weight : ℕ) : Type 0 where
  pub path : IsPathOf p s.path
  pub value : s.value < 2 ^ 128
  pub weight_small : weight < 2 ^ 128

pub record IsHeadOf (p : Problem) (v : Dialect) (s : Standing) (weight ceiling : ℕ) : Type 0 where
  pub chance : IsChanceOf p s weight
  pub ceiling_is : IsCeiling v s.value ceiling

-- where prefixes are left out the records have those that were expected, and those that are expected are left
abbrev pub IsPlaced : Problem → Prefixes → List (List ℕ) → List GapNode → Type 0
IsPlaced p Written expected nodes = Unit {0}
IsPlaced p LeftOut expected nodes = (rs : List TreeNode) → AreInPlace p expected rs → AreInPlace p ([] ∷ []) (map shape_of nodes ++ rs)

pub record IsTreeOf (p : Problem) (v : Dialect) (expected : List (List ℕ)) (left : ℕ) (nodes : List GapNode) : Type 0 where
  pub few : length nodes + left ≤ most_records (family_of v)
  pub printable : All (λ r. IsPrintableRecord p (shape_of r)) nodes
  pub narrow : All (λ r. IsNarrowNode r.kind) nodes
  pub lettered : All (λ r. HasNodeLetter v r.kind) nodes
  pub legal : All (IsLegal p) expected
  pub placed : IsPlaced p (prefixes_in v) expected nodes

-- before the records the empty prefix alone is expected
abbrev pub IsUntouched : List (List ℕ) → GapPlan → Type 0
IsUntouched expected plan = (expected ≡ [] ∷ []) × (plan.nodes ≡ [])

abbrev pub IsReadAt : Problem → Dialect → List (List ℕ) → Stage → GapPlan → Type 0
IsReadAt p v expected (due.Version family) plan = IsUntouched expected plan
IsReadAt p v expected due.Path plan = IsUntouched expected plan
IsReadAt p v expected due.Chance plan = IsPathOf p plan.standing.path × IsUntouched expected plan
IsReadAt p v expected due.Ceiling plan = IsChanceOf p plan.standing plan.weight × (has_open v ≡ true) × IsUntouched expected plan
IsReadAt p v expected due.Count plan = IsHeadOf p v plan.standing plan.weight plan.ceiling × IsUntouched expected plan
IsReadAt p v expected (due.Records left) plan = IsHeadOf p v plan.standing plan.weight plan.ceiling × IsTreeOf p v expected left plan.nodes
IsReadAt p v expected due.Ended plan =
    IsHeadOf p v plan.standing plan.weight plan.ceiling × IsTreeOf p v expected 0 plan.nodes × (prefixes_in v ≡ LeftOut → expected ≡ [])

abbrev pub IsRead : Problem → Due → GapPlan → Type 0
IsRead p d plan = IsReadAt p d.dialect d.expected d.stage plan

-- the family of the text, which the first line goes by and then says
abbrev pub family_at : Dialect → Stage → Family
family_at v (due.Version family) = family
family_at v due.Path = family_of v
family_at v due.Chance = family_of v
family_at v due.Ceiling = family_of v
family_at v due.Count = family_of v
family_at v (due.Records left) = family_of v
family_at v due.Ended = family_of v

abbrev pub family_due : Due → Family
family_due d = family_at d.dialect d.stage

-- the empty prefix is legal
pub empty_legal : (p : Problem) (expected : List (List ℕ)) → expected ≡ [] ∷ [] → All (IsLegal p) expected
empty_legal p expected e =
    let empty : IsLegal p [] = record { follows = tt; short = omega arith } in
    subst (All (IsLegal p)) (sym e) (All-cons (IsLegal p) [] [] empty (All-nil (IsLegal p)))

-- what is expected is legal
read_legal : (p : Problem) (v : Dialect) (expected : List (List ℕ)) (stage : Stage) (plan : GapPlan) → IsReadAt p v expected stage plan → All (IsLegal p) expected
read_legal p v expected (due.Version family) plan read = empty_legal p expected read.0
read_legal p v expected due.Path plan read = empty_legal p expected read.0
read_legal p v expected due.Chance plan read = empty_legal p expected read.1.0
read_legal p v expected due.Ceiling plan read = empty_legal p expected read.2.0
read_legal p v expected due.Count plan read = empty_legal p expected read.1.0
read_legal p v expected (due.Records left) plan read = read.1.legal
read_legal p v expected due.Ended plan read = read.1.legal

pub expected_legal : (p : Problem) (d : Due) (plan : GapPlan) → IsRead p d plan → All (IsLegal p) d.expected
expected_legal p d plan read = read_legal p d.dialect d.expected d.stage plan read

-- nothing is out of place where nothing was read
placed_nothing : (p : Problem) (w : Prefixes) (expected : List (List ℕ)) → expected ≡ [] ∷ [] → IsPlaced p w expected []
placed_nothing p Written expected e = tt
placed_nothing p LeftOut expected e = λ rs placed. subst (λ (qs : List (List ℕ)). AreInPlace p qs rs) e placed

-- a record that has its place
placed_on : (p : Problem) (w : Prefixes) (expected : List (List ℕ)) (nodes : List GapNode) (r : GapNode) → HasPlace w expected r.prefix → IsPlaced p w expected nodes → IsPlaced p w (places_behind p w expected r.kind) (nodes ++ r ∷ [])
placed_on p Written expected nodes r has so_far = tt
placed_on p LeftOut [] nodes r has so_far = absurd has
placed_on p LeftOut (q ∷ expected) nodes r has so_far = λ rs placed.
    let records : map shape_of (nodes ++ r ∷ []) ++ rs ≡ map shape_of nodes ++ (shape_of r ∷ rs) =
    ap (λ (xs : List TreeNode). xs ++ rs) (map-append shape_of nodes (r ∷ [])) ∙ append_assoc (map shape_of nodes) (shape_of r ∷ []) rs in
    subst (AreInPlace p ([] ∷ [])) (sym records) (so_far (shape_of r ∷ rs) (has, placed))

-- what is expected behind a record is legal
pub legal_behind : (p : Problem) (expected : List (List ℕ)) (kind : Kind) → All (IsLegal p) expected → All (IsLegal p) (expected_behind p expected kind)
legal_behind p [] kind legal = All-nil (IsLegal p)
legal_behind p (q ∷ expected) kind legal =
    All-append (IsLegal p) (opened_by p q kind) expected (legal_opened p q kind (All-head (IsLegal p) q expected legal)) (All-tail (IsLegal p) q expected legal)

legal_on : (p : Problem) (w : Prefixes) (expected : List (List ℕ)) (kind : GapKind) → All (IsLegal p) expected → All (IsLegal p) (places_behind p w expected kind)
legal_on p Written expected kind legal = legal
legal_on p LeftOut expected kind legal = legal_behind p expected (shape_of_kind kind) legal

-- a line more was read
pub record IsReadOn (p : Problem) (d : Due) (plan : GapPlan) (fields : List (List ℕ)) (said : PlanLine) : Type 0 where
  pub rows : rows_read p (next p d said).dialect (next p d said).stage (taken plan said) ≡ rows_read p d.dialect d.stage plan ++ fields ∷ []
  pub read : IsRead p (next p d said) (taken plan said)
  pub family : family_due (next p d said) ≡ family_due d

-- behind the chance, by whether the text has a ceiling
chance_rows : (p : Problem) (v : Dialect) (b : Bool) (plan : GapPlan) (value weight : ℕ) → has_open v ≡ b → rows_read p v (cond b due.Ceiling due.Count) (taken plan (Chance value weight)) ≡ path_rows v p plan.standing.path ++ chance_row value weight ∷ []
chance_rows p v true plan value weight e = refl
chance_rows p v false plan value weight e = ap (λ (above : List (List (List ℕ))). path_rows v p plan.standing.path ++ (chance_row value weight ∷ above)) (no_ceiling v value e)

chance_read : (p : Problem) (v : Dialect) (b : Bool) (expected : List (List ℕ)) (plan : GapPlan) (value weight : ℕ) → has_open v ≡ b → IsChanceOf p (record { path = plan.standing.path; value = value }) weight → IsUntouched expected plan → IsReadAt p v expected (cond b due.Ceiling due.Count) (taken plan (Chance value weight))
chance_read p v true expected plan value weight e chance untouched = (chance, e, untouched)
chance_read p v false expected plan value weight e chance untouched = (record { chance = chance; ceiling_is = ceiling_is_read v false value value e refl }, untouched)

chance_family : (v : Dialect) (b : Bool) → family_at v (cond b due.Ceiling due.Count) ≡ family_of v
chance_family v true = refl
chance_family v false = refl

module _ (p : Problem) (h : IsProblem p) (v : Dialect) (expected : List (List ℕ)) (plan : GapPlan) (fields : List (List ℕ)) (said : PlanLine) where
  abbrev at_stage : Stage → Due
  at_stage stage = record { dialect = v; stage = stage; expected = expected }

  version_on : (family : Family) → IsRead p (at_stage (due.Version family)) plan → IsVersionLine family fields said → IsReadOn p (at_stage (due.Version family)) plan fields said
  version_on family read told =
      subst (IsReadOn p (at_stage (due.Version family)) plan fields) (sym told.is) (record { rows = ap (λ (row : List (List ℕ)). row ∷ []) (sym told.row); read = read; family = told.family_is })

  path_on : IsRead p (at_stage due.Path) plan → IsPathLine p fields said → IsReadOn p (at_stage due.Path) plan fields said
  path_on read told =
      subst (IsReadOn p (at_stage due.Path) plan fields) (sym told.is) (record {
        rows = ap (λ (row : List (List ℕ)). version_row v ∷ row ∷ []) (sym told.row);
        read = (record { positions = told.positions; some = told.some; short = told.short }, read);
        family = refl;
      })

  chance_on : IsRead p (at_stage due.Chance) plan → IsChanceLine fields said → IsReadOn p (at_stage due.Chance) plan fields said
  chance_on read told =
      subst (IsReadOn p (at_stage due.Chance) plan fields) (sym told.is) (record {
        rows = chance_rows p v (has_open v) plan told.value told.weight refl ∙ ap (λ (row : List (List ℕ)). path_rows v p plan.standing.path ++ row ∷ []) (sym told.row);
        read = chance_read p v (has_open v) expected plan told.value told.weight refl (record { path = read.0; value = told.narrow; weight_small = told.narrow_weight }) read.1;
        family = chance_family v (has_open v);
      })

  count_on : IsRead p (at_stage due.Count) plan → IsCountLine (most_records (family_of v)) fields said → IsReadOn p (at_stage due.Count) plan fields said
  count_on read told =
      let (head, (empty, none)) = read in
      let n = told.count in
      let nothing_more : length {A = GapNode} [] + n ≡ n = omega arith in
      let above = ceiling_rows v plan.ceiling in
      let rows : List GapNode → List (List (List ℕ)) = λ nodes. head_rows v p plan.standing plan.weight plan.ceiling (length nodes + n) ++ map (node_row v) nodes in
      let no_tree : IsTreeOf p v expected n [] = record {
        few = omega (arith, told.few);
        printable = All-nil (λ (r : GapNode). IsPrintableRecord p (shape_of r));
        narrow = All-nil (λ (r : GapNode). IsNarrowNode r.kind);
        lettered = All-nil (λ (r : GapNode). HasNodeLetter v r.kind);
        legal = empty_legal p expected empty;
        placed = placed_nothing p (prefixes_in v) expected empty;
      } in
      subst (IsReadOn p (at_stage due.Count) plan fields) (sym told.is) (record {
        rows = ap rows none
            ∙ ap (λ (k : ℕ). head_rows v p plan.standing plan.weight plan.ceiling k ++ []) nothing_more
            ∙ append-nil (head_rows v p plan.standing plan.weight plan.ceiling n)
            ∙ ap (λ (row : List (List ℕ)). path_rows v p plan.standing.path ++ (chance_row plan.standing.value plan.weight ∷ (above ++ row ∷ []))) (sym told.row);
        read = (head, subst (IsTreeOf p v expected n) (sym none) no_tree);
        family = refl;
      })

  record_on : (left : ℕ) → IsRead p (at_stage (due.Records left)) plan → IsRecordLine p v left expected fields said → IsReadOn p (at_stage (due.Records left)) plan fields said
  record_on left read told =
      let r = told.node in
      let tree = read.1 in
      let head : ℕ → List (List (List ℕ)) = λ n. head_rows v p plan.standing plan.weight plan.ceiling n in
      let long : length (plan.nodes ++ r ∷ []) + (left - 1) ≡ length plan.nodes + left = omega (arith, length-append plan.nodes (r ∷ []), told.more) in
      subst (IsReadOn p (at_stage (due.Records left)) plan fields) (sym told.is) (record {
        rows = ap (λ (n : ℕ). head n ++ map (node_row v) (plan.nodes ++ r ∷ [])) long
            ∙ ap (λ (rows : List (List (List ℕ))). head (length plan.nodes + left) ++ rows) (map-append (node_row v) plan.nodes (r ∷ []))
            ∙ ap (λ (row : List (List ℕ)). head (length plan.nodes + left) ++ (map (node_row v) plan.nodes ++ row ∷ [])) (sym told.row)
            ∙ sym (append_assoc (head (length plan.nodes + left)) (map (node_row v) plan.nodes) (fields ∷ []));
        read = (
          read.0,
          record {
            few = omega (arith, long, tree.few);
            printable = All-push (λ (x : GapNode). IsPrintableRecord p (shape_of x)) plan.nodes r tree.printable (record_printable p h v left expected fields said tree.legal told);
            narrow = All-push (λ (x : GapNode). IsNarrowNode x.kind) plan.nodes r tree.narrow told.narrow;
            lettered = All-push (λ (x : GapNode). HasNodeLetter v x.kind) plan.nodes r tree.lettered told.lettered;
            legal = legal_on p (prefixes_in v) expected r.kind tree.legal;
            placed = placed_on p (prefixes_in v) expected plan.nodes r told.place tree.placed;
          },
        );
        family = refl;
      })

  end_on : (left : ℕ) → IsRead p (at_stage (due.Records left)) plan → IsEndLine (prefixes_in v) left expected fields said → IsReadOn p (at_stage (due.Records left)) plan fields said
  end_on left read told =
      let tree = read.1 in
      let head : ℕ → List (List (List ℕ)) = λ n. head_rows v p plan.standing plan.weight plan.ceiling n in
      let long : length plan.nodes ≡ length plan.nodes + left = omega (arith, told.none) in
      subst (IsReadOn p (at_stage (due.Records left)) plan fields) (sym told.is) (record {
        rows = ap (λ (n : ℕ). head n ++ (map (node_row v) plan.nodes ++ (codes "end" ∷ []) ∷ [])) long
            ∙ ap (λ (row : List (List ℕ)). head (length plan.nodes + left) ++ (map (node_row v) plan.nodes ++ row ∷ [])) (sym told.row)
            ∙ sym (append_assoc (head (length plan.nodes + left)) (map (node_row v) plan.nodes) (fields ∷ []));
        read = (
          read.0,
          record { few = omega (arith, told.none, tree.few); printable = tree.printable; narrow = tree.narrow; lettered = tree.lettered; legal = tree.legal; placed = tree.placed },
          told.closed,
        );
        family = refl;
      })

-- the line `ceiling N`

ceiling_on : (p : Problem) (v : Dialect) (expected : List (List ℕ)) (plan : GapPlan) (fields : List (List ℕ)) (said : PlanLine) → IsReadAt p v expected due.Ceiling plan → IsCeilingLine fields said → IsReadOn p (record { dialect = v; stage = due.Ceiling; expected = expected }) plan fields said
ceiling_on p v expected plan fields said read told =
    let above : List (List (List ℕ)) → List (List (List ℕ)) = λ rows. path_rows v p plan.standing.path ++ (chance_row plan.standing.value plan.weight ∷ rows) in
    subst (IsReadOn p (record { dialect = v; stage = due.Ceiling; expected = expected }) plan fields) (sym told.is) (record {
      rows = ap above (ceiling_written v told.ceiling read.1) ∙ ap (λ (row : List (List ℕ)). above (row ∷ [])) (sym told.row);
      read = (record { chance = read.0; ceiling_is = ceiling_is_read v true plan.standing.value told.ceiling read.1 told.narrow }, read.2);
      family = refl;
    })

stage_on : (p : Problem) → IsProblem p → (v : Dialect) (expected : List (List ℕ)) (plan : GapPlan) (fields : List (List ℕ)) (said : PlanLine) (stage : Stage) → IsReadAt p v expected stage plan → stage_line p v stage expected fields ≡ Ok said → IsReadOn p (record { dialect = v; stage = stage; expected = expected }) plan fields said
stage_on p h v expected plan fields said (due.Version family) read e = version_on p h v expected plan fields said family read (version_told family fields said e)
stage_on p h v expected plan fields said due.Path read e = path_on p h v expected plan fields said read (path_told p h fields said e)
stage_on p h v expected plan fields said due.Chance read e = chance_on p h v expected plan fields said read (chance_told fields said e)
stage_on p h v expected plan fields said due.Ceiling read e = ceiling_on p v expected plan fields said read (ceiling_told fields said e)
stage_on p h v expected plan fields said due.Count read e = count_on p h v expected plan fields said read (count_told (most_records (family_of v)) fields said e)
stage_on p h v expected plan fields said (due.Records left) read e = elim (record_told p h v left expected fields said e) [
  | inl told ↦ record_on p h v expected plan fields said left read told
  | inr told ↦ end_on p h v expected plan fields said left read told
]
stage_on p h v expected plan fields said due.Ended read e = absurd (err_ok BadLine said e)

pub line_on : (p : Problem) → IsProblem p → (d : Due) (plan : GapPlan) (fields : List (List ℕ)) (said : PlanLine) → IsRead p d plan → line_at p d fields ≡ Ok said → IsReadOn p d plan fields said
unfolding line_at
line_on p h d plan fields said read e =
    cond_both _ _ _ (λ (x : Result PlanLine PlanKind). x ≡ Ok said → IsReadOn p d plan fields said) (λ _ e'. absurd (err_ok BadLine said e')) (λ _ e'. stage_on p h d.dialect d.expected plan fields said d.stage read e') e

-- a text that was read up to its line `end`, and nothing behind it
record IsWhole (p : Problem) (family : Family) (text : List ℕ) (whole : GapPlan) : Type 0 where
  version : Dialect
  family_is : family_of version ≡ family
  expected : List (List ℕ)
  numbers : whole.numbers ≡ numbers_in version
  spelled : text ≡ text_of (plan_rows version p whole)
  read : IsReadAt p version expected due.Ended whole

-- lines more were read
pub record AreReadOn (p : Problem) (s t : Progress) (lines : List (List ℕ)) : Type 0 where
  pub rows : text_of (rows_read p t.due.dialect t.due.stage t.plan) ≡ text_of (rows_read p s.due.dialect s.due.stage s.plan) ++ lines_text lines
  pub read : IsRead p t.due t.plan
  pub family : family_due t.due ≡ family_due s.due

-- one of them
step_on : (p : Problem) → IsProblem p → (s t : Progress) (line : List ℕ) (r : Result PlanLine PlanKind) → IsRead p s.due s.plan → line_at p s.due (exact_fields line) ≡ r → behind p s r ≡ Ok t → AreReadOn p s t (line ∷ [])
step_on p h s t line (Err kind) read e f = absurd (err_ok kind t f)
step_on p h s t line (Ok said) read e f =
    let on = line_on p h s.due s.plan (exact_fields line) said read e in
    let rows = rows_read p s.due.dialect s.due.stage s.plan in
    subst (λ (u : Progress). AreReadOn p s u (line ∷ [])) (same_ok (record { due = next p s.due said; plan = taken s.plan said }) t f) (record {
      rows = ap text_of on.rows ∙ text_of-append rows (exact_fields line ∷ []) ∙ ap (λ (x : List ℕ). text_of rows ++ (x ++ 10 ∷ [])) (split_joined 32 line) ∙ ap (λ (x : List ℕ). text_of rows ++ x) (sym (append-nil (line ++ 10 ∷ [])));
      read = on.read;
      family = on.family;
    })

pub lines_on : (p : Problem) → IsProblem p → (lines : List (List ℕ)) (s t : Progress) → IsRead p s.due s.plan → AreTaken (plan_lines p) s lines t → AreReadOn p s t lines
lines_on p h [] s t read right =
    subst (λ (u : Progress). AreReadOn p s u []) right (record { rows = sym (append-nil (text_of (rows_read p s.due.dialect s.due.stage s.plan))); read = read; family = refl })
lines_on p h (line ∷ lines) s t read right =
    let here = step_on p h s right.0 line _ read refl right.1 in
    let more = lines_on p h lines right.0 t here.read right.3 in
    record {
      rows = more.rows ∙ ap (λ (x : List ℕ). x ++ lines_text lines) here.rows ∙ simp append_assoc;
      read = more.read;
      family = more.family ∙ here.family;
    }

-- the numbers of what was read are those of its dialect
abbrev pub HasNumbers : Progress → Type 0
HasNumbers s = s.plan.numbers ≡ numbers_in s.due.dialect

numbers_behind : (p : Problem) (s : Progress) (said : PlanLine) → HasNumbers s → HasNumbers (record { due = next p s.due said; plan = taken s.plan said })
numbers_behind p s (Version v) e = refl
numbers_behind p s (Path q) e = e
numbers_behind p s (Chance v w) e = e
numbers_behind p s (Ceiling n) e = e
numbers_behind p s (Count n) e = e
numbers_behind p s (Node r) e = e
numbers_behind p s End e = e

numbers_step : (p : Problem) (s t : Progress) (r : Result PlanLine PlanKind) → HasNumbers s → behind p s r ≡ Ok t → HasNumbers t
numbers_step p s t (Err kind) e f = absurd (err_ok kind t f)
numbers_step p s t (Ok said) e f = subst HasNumbers (same_ok (record { due = next p s.due said; plan = taken s.plan said }) t f) (numbers_behind p s said e)

pub numbers_on : (p : Problem) (lines : List (List ℕ)) (s t : Progress) → HasNumbers s → AreTaken (plan_lines p) s lines t → HasNumbers t
numbers_on p [] s t e right = subst HasNumbers right e
numbers_on p (line ∷ lines) s t e right = numbers_on p lines right.0 t (numbers_step p s right.0 _ e right.1) right.3

-- the rows that were read, where the end was
whole_read : (p : Problem) (family : Family) (text : List ℕ) (t : Progress) → t.due.stage ≡ due.Ended → IsRead p t.due t.plan → HasNumbers t → family_due t.due ≡ family → text ≡ text_of (rows_read p t.due.dialect t.due.stage t.plan) → IsWhole p family text t.plan
whole_read p family text t ended read numbers same spelled =
    record {
      version = t.due.dialect;
      family_is = ap (family_at t.due.dialect) (sym ended) ∙ same;
      expected = t.due.expected;
      numbers = numbers;
      spelled = spelled ∙ ap (λ (s : Stage). text_of (rows_read p t.due.dialect s t.plan)) ended;
      read = subst (λ (s : Stage). IsReadAt p t.due.dialect t.due.expected s t.plan) ended read;
    }

-- what was read up to the line `end`, and nothing behind it
nothing_more : (number : ℕ) (rest : List ℕ) (plan whole : GapPlan) → unless_more number rest plan ≡ Ok whole → (rest ≡ []) × (plan ≡ whole)
nothing_more number [] plan whole e = (refl, same_ok plan whole e)
nothing_more number (c ∷ cs) plan whole e = absurd (err_ok (at_line_number number Rest) whole e)

front_told : (family : Family) (p : Problem) → IsProblem p → (text : List ℕ) (whole : GapPlan) (r : Result (Reached Progress) PlanFault) → front_of family p text ≡ r → alone text r ≡ Ok whole → IsWhole p family text whole
front_told family p h text whole (Err fault) e alone_is = absurd (err_ok fault whole alone_is)
front_told family p h text whole (Ok front) e alone_is =
    let read = read_told (plan_lines p) (unread family) 1 (whole_lines text) front refl e in
    let none = nothing_more (front.line + 1) (after_lines front.line text) front.state.plan whole alone_is in
    let on = lines_on p h read.read (unread family) front.state (refl, refl) read.right in
    let count : front.line ≡ length read.read = omega (arith, read.line) in
    let nothing : after_lines (length read.read) text ≡ [] = ap (λ (n : ℕ). after_lines n text) (sym count) ∙ none.0 in
    let spelled : text ≡ lines_text read.read = lines_first read.read read.behind text read.whole ∙ ap (λ (t : List ℕ). lines_text read.read ++ t) nothing ∙ append-nil (lines_text read.read) in
    subst (IsWhole p family text) none.1 (whole_read p family text front.state (ended_stage front.state.due.stage read.ends) on.read (numbers_on p read.read (unread family) front.state refl read.right) on.family (spelled ∙ sym on.rows))

-- what was read as a text of plans is the gap plan of a plan
kind_back : (v : Dialect) (kind : GapKind) → family_of v ≡ Plans → HasNodeLetter v kind → Closed (shape_of_kind kind) ≡ kind
kind_back v (Closed kind) e known = refl
kind_back v (Waiting n) e known = absurd (let never : has_open v ≡ false = none_waits v e in let bad : ⊥ = cc in bad)

nodes_back : (v : Dialect) (nodes : List GapNode) → family_of v ≡ Plans → All (λ r. HasNodeLetter v r.kind) nodes → map closed_node (map shape_of nodes) ≡ nodes
nodes_back v [] e known = refl
nodes_back v (r ∷ nodes) e known =
    let L : GapNode → Type 0 = λ x. HasNodeLetter v x.kind in
    let here : closed_node (shape_of r) ≡ r = ap (λ (k : GapKind). record { prefix = r.prefix; kind = k }) (kind_back v r.kind e (All-head L r nodes known)) in
    ap (λ (x : GapNode). x ∷ map closed_node (map shape_of nodes)) here ∙ ap (λ (xs : List GapNode). r ∷ xs) (nodes_back v nodes e (All-tail L r nodes known))

plan_back : (p : Problem) (v : Dialect) (expected : List (List ℕ)) (plan : GapPlan) → family_of v ≡ Plans → plan.numbers ≡ numbers_in v → IsReadAt p v expected due.Ended plan → gap_of Means (plan_of plan) ≡ plan
plan_back p v expected plan e numbers read =
    ap (λ (c : ℕ). record { standing = plan.standing; weight = plan.weight; ceiling = c; numbers = Means; nodes = map closed_node (map shape_of plan.nodes) }) (sym (ceiling_read v false plan.standing.value plan.ceiling (none_waits v e) read.0.ceiling_is))
    ∙ ap (λ (n : Numbers). record { standing = plan.standing; weight = plan.weight; ceiling = plan.ceiling; numbers = n; nodes = map closed_node (map shape_of plan.nodes) }) (numbers_back v e ∙ sym numbers)
    ∙ ap (λ (nodes : List GapNode). record { standing = plan.standing; weight = plan.weight; ceiling = plan.ceiling; numbers = plan.numbers; nodes = nodes }) (nodes_back v plan.nodes e read.1.lettered)

-- the number of a record that stands for a node is narrow
narrow_shape : (kind : GapKind) → IsNarrowNode kind → IsNarrowKind (shape_of_kind kind)
narrow_shape (Closed kind) narrow = narrow
narrow_shape (Waiting n) narrow = omega arith

-- and it has a letter
shape_letter : (v : Dialect) (kind : GapKind) → HasNodeLetter v kind → HasLetter v (shape_of_kind kind)
shape_letter v (Closed kind) known = known
shape_letter v (Waiting n) known = tt

few_plan : (v : Dialect) (n : ℕ) → family_of v ≡ Plans → n + 0 ≤ most_records (family_of v) → n ≤ most_records Plans
few_plan v n e few = subst (λ (family : Family). n ≤ most_records family) e (omega (arith, few))

printable_whole : (p : Problem) (v : Dialect) (expected : List (List ℕ)) (plan : GapPlan) → family_of v ≡ Plans → IsReadAt p v expected due.Ended plan → IsPrintable p (plan_of plan) × IsNarrow (plan_of plan)
printable_whole p v expected plan e read =
    let chance = read.0.chance in
    let tree = read.1 in
    let few = few_plan v (length plan.nodes) e tree.few in (
      record {
        some = chance.path.some;
        short = chance.path.short;
        positions = chance.path.positions;
        few = omega (arith, few, length-map plan.nodes shape_of);
        records = All-map (IsPrintableRecord p) shape_of plan.nodes tree.printable;
      },
      record {
        value = chance.value;
        weight = chance.weight_small;
        records = All-map (λ (r : TreeNode). IsNarrowKind r.kind) shape_of plan.nodes (All-weaker (λ (r : GapNode). IsNarrowNode r.kind) (λ (r : GapNode). IsNarrowKind (shape_of r).kind) (λ r narrow. narrow_shape r.kind narrow) plan.nodes tree.narrow);
      },
    )

-- the records have the prefixes that were expected, where none is expected any more
whole_in_place : (p : Problem) (expected : List (List ℕ)) (nodes : List GapNode) → IsPlaced p LeftOut expected nodes → expected ≡ [] → AreInPlace p ([] ∷ []) (map shape_of nodes)
whole_in_place p expected nodes placed none =
    let nothing_left : AreInPlace p expected [] = subst (λ (qs : List (List ℕ)). AreInPlace p qs []) (sym none) tt in
    subst (AreInPlace p ([] ∷ [])) (append-nil (map shape_of nodes)) (placed [] nothing_left)

-- where the dialect leaves prefixes out
have_places : (p : Problem) (w : Prefixes) (expected : List (List ℕ)) (nodes : List GapNode) → IsPlaced p w expected nodes → (w ≡ LeftOut → expected ≡ []) → HavePlaces w p ([] ∷ []) (map shape_of nodes)
have_places p Written expected nodes placed closed = tt
have_places p LeftOut expected nodes placed closed = whole_in_place p expected nodes placed (closed refl)

-- the text of the dialect that was read
text_told : (p : Problem) (v : Dialect) (expected : List (List ℕ)) (plan : GapPlan) (text : List ℕ) → family_of v ≡ Plans → plan.numbers ≡ numbers_in v → IsReadAt p v expected due.Ended plan → text ≡ text_in v p plan → IsTextOfPlan p (plan_of plan) text
text_told p v expected plan text e numbers read spelled =
    let parts = printable_whole p v expected plan e read in
    let tree = read.1 in
    let whole : gap_of (numbers_in v) (plan_of plan) ≡ plan = ap (λ (n : Numbers). gap_of n (plan_of plan)) (sym (numbers_back v e)) ∙ plan_back p v expected plan e numbers read in (
      v,
      e,
      record {
        printable = parts.0;
        narrow = parts.1;
        letters = All-map (λ (r : TreeNode). HasLetter v r.kind) shape_of plan.nodes (All-weaker (λ (r : GapNode). HasNodeLetter v r.kind) (λ (r : GapNode). HasLetter v (shape_of r).kind) (λ r known. shape_letter v r.kind known) plan.nodes tree.lettered);
        in_place = have_places p (prefixes_in v) expected plan.nodes tree.placed read.2;
        spelled = spelled ∙ ap (text_in v p) (sym whole);
      },
    )

-- a plan that was read is that of a gap plan
pub plan_told : (r : Result GapPlan PlanFault) (plan : Plan) → as_plan r ≡ Ok plan → (whole : GapPlan) × (r ≡ Ok whole) × (plan_of whole ≡ plan)
plan_told (Ok whole) plan e = (whole, refl, same_ok (plan_of whole) plan e)
plan_told (Err fault) plan e = absurd (err_ok fault plan e)

pub one_text_a_plan : OneTextAPlan
one_text_a_plan p plan text h e =
    let read = plan_told (text_at Plans p text) plan e in
    let whole = front_told Plans p h text read.0 (front_of Plans p text) refl read.1 in
    subst (λ (x : Plan). IsTextOfPlan p x text) read.2 (text_told p whole.version whole.expected read.0 text whole.family_is whole.numbers whole.read whole.spelled)

-- what the dialects of gap plans have in common, and what each has for itself
record IsGapDialect (v : Dialect) : Type 0 where
  left_out : prefixes_in v ≡ LeftOut
  ceiling : (value ceiling : ℕ) → IsCeiling v value ceiling → ceiling < 2 ^ 128
  alone : dialect_with (numbers_in v) ≡ v

gap_dialect : (v : Dialect) → family_of v ≡ Gaps → IsGapDialect v
gap_dialect PlanOne e = absurd (let bad : ⊥ = cc in bad)
gap_dialect PlanTwo e = absurd (let bad : ⊥ = cc in bad)
gap_dialect PlanThree e = absurd (let bad : ⊥ = cc in bad)
gap_dialect GapOne e = record { left_out = refl; ceiling = λ value ceiling is. is; alone = refl }
gap_dialect GapTwo e = record { left_out = refl; ceiling = λ value ceiling is. is; alone = refl }

-- the text of the gap plan that was read
gap_told : (p : Problem) (v : Dialect) (expected : List (List ℕ)) (plan : GapPlan) (text : List ℕ) → family_of v ≡ Gaps → plan.numbers ≡ numbers_in v → IsReadAt p v expected due.Ended plan → text ≡ text_in v p plan → IsGapText p plan text
gap_told p v expected plan text e numbers read spelled =
    let own = gap_dialect v e in
    let chance = read.0.chance in
    let tree = read.1 in
    let same : dialect_with plan.numbers ≡ v = ap dialect_with numbers ∙ own.alone in
    let few : length plan.nodes + 0 ≤ most_records Gaps = subst (λ (family : Family). length plan.nodes + 0 ≤ most_records family) e tree.few in
    record {
      printable = record {
        some = chance.path.some;
        short = chance.path.short;
        positions = chance.path.positions;
        few = omega (arith, few);
        kinds = All-weaker (λ (r : GapNode). IsPrintableRecord p (shape_of r)) (λ (r : GapNode). IsPrintableKind p (shape_of r).kind) (λ r k. k.kind) plan.nodes tree.printable;
        letters = subst (λ (x : Dialect). All (λ (r : GapNode). HasNodeLetter x r.kind) plan.nodes) (sym same) tree.lettered;
      };
      narrow = record { value = chance.value; weight = chance.weight_small; ceiling = own.ceiling plan.standing.value plan.ceiling read.0.ceiling_is; nodes = tree.narrow };
      in_place = whole_in_place p expected plan.nodes (subst (λ (w : Prefixes). IsPlaced p w expected plan.nodes) own.left_out tree.placed) (read.2 own.left_out);
      spelled = spelled ∙ ap (λ (x : Dialect). text_in x p plan) (sym same);
    }

pub one_text_a_gap : OneTextAGap
one_text_a_gap p plan text h e =
    let whole = front_told Gaps p h text plan (front_of Gaps p text) refl e in
    gap_told p whole.version whole.expected plan text whole.family_is whole.numbers whole.read whole.spelled
