-- A line that says something is the row of what it says.
use Rattle.std.proofs.Common.{◌≡◌, ℕ, zero, suc, ◌<◌, ◌≤◌, ◌+◌, ◌-◌, ◌^◌, true, false, List, [], ◌∷◌, ◌++◌, map, length, take, drop, Option, Some, None, Result, Ok, Err, refl, sym, ap, subst, ◌∙◌, arith, length-drop, length-append, ◌⊎◌, inl, inr}
use Rattle.std.specs.Prelude.{All, codes, nat_le, ◌&&◌, ◌==◌}
use Rattle.std.specs.Fmt.{decimal}
use Rattle.std.proofs.lemmas.Bool.{cond_both, and_parts, leb-true, eqb-true, eqb-false}
use Rattle.std.proofs.lemmas.List.{length-map, take-append-drop}
use Rattle.std.proofs.lemmas.List.Elements.{All-nil, All-cons, All-head, All-tail}
use Rattle.search_model.specs.Legal.{IsLegal}
use Rattle.search_model.proofs.PlainSteps.{positions_follow}
use Rattle.search_model.specs.Problem.{Problem, IsProblem, position_name, position_named}
use Rattle.bound_tree.specs.declared.node.Kind.TheVariants.{Branch}
use Rattle.bound_tree.specs.declared.gap.GapKind.{GapKind}
use Rattle.bound_tree.specs.declared.gap.GapKind.TheVariants.{Closed}
use Rattle.bound_tree.specs.declared.gap.GapNode.{GapNode}
use Rattle.bound_tree.specs.Gaps.{shape_of_kind, shape_of}
use Rattle.tree_format.specs.declared.kind.PlanKind.{PlanKind}
use Rattle.tree_format.specs.declared.kind.PlanKind.TheVariants.{BadLine, BadNumber, UnknownName, TooManyNodes, WrongCount, NoPlace, StillOpen}
use Rattle.tree_format.specs.declared.plan_line.Dialect.{Dialect}
use Rattle.tree_format.specs.declared.plan_line.Dialect.TheVariants.{PlanOne, PlanTwo, PlanThree, GapOne, GapTwo}
use Rattle.tree_format.specs.declared.plan_line.Family.{Family}
use Rattle.tree_format.specs.declared.plan_line.Family.TheVariants.{Plans, Gaps}
use Rattle.tree_format.specs.declared.plan_line.Prefixes.{Prefixes}
use Rattle.tree_format.specs.declared.plan_line.Prefixes.TheVariants.{Written, LeftOut}
use Rattle.tree_format.specs.Dialects.{family_of, dialects_of, word_of, version_of, version_row, prefixes_in}
use Rattle.tree_format.specs.declared.plan_line.PlanLine.{PlanLine}
use Rattle.tree_format.specs.declared.plan_line.PlanLine.TheVariants.{Version, Path, Chance, Ceiling, Count, Node, End}
use Rattle.tree_format.specs.declared.record_lines.Bounded.{Bounded}
use Rattle.tree_format.specs.declared.record_lines.Numbered.{Numbered}
use Rattle.tree_format.specs.Letters.{all_numbered, letter_for, has_numbered, referred, kind_with, numbered_by}
use Rattle.tree_format.specs.PlanText.{numbers, node_fields, written, chance_row, ceiling_row, count_row, ArePositions, IsPrintableKind, IsPrintableRecord, IsNarrowNode, HasNodeLetter}
use Rattle.tree_format.specs.Reading.{all_of, amount_in, place_in, version_said, version_line, path_said, path_line, chance_said, chance_line, ceiling_said, ceiling_line, count_said, count_line, most_positions, branch_of, branch_line, bounded_of, bounded_line, node_of, numbered_line, node_line, placed, node_said, is_end, ending, end_said, record_line}
use Rattle.text_rows.specs.Fields.{is_word}
use Rattle.tree_format.proofs.Letters.{numbered_row, numbered_printable, numbered_narrow, numbered_letter, letter_told}
use Rattle.tree_format.proofs.Told.{word_told, amount_told, places_told, names_told}
use Rattle.text_rows.proofs.Results.{err_ok, same_ok, let_through}

-- the first line of a text of the family
pub record IsVersionLine (family : Family) (fields : List (List ℕ)) (said : PlanLine) : Type 0 where
  pub dialect : Dialect
  pub row : fields ≡ version_row dialect
  pub is : said ≡ Version dialect
  pub family_is : family_of dialect ≡ family

-- those of a family are of the family
abbrev AreOf : Family → List Dialect → Type 0
AreOf family vs = All (λ v. family_of v ≡ family) vs

all_of_family : (family : Family) → AreOf family (dialects_of family)
all_of_family Plans =
    let F : Dialect → Type 0 = λ v. family_of v ≡ Plans in
    All-cons F PlanOne (PlanTwo ∷ PlanThree ∷ []) refl (All-cons F PlanTwo (PlanThree ∷ []) refl (All-cons F PlanThree [] refl (All-nil F)))
all_of_family Gaps =
    let F : Dialect → Type 0 = λ v. family_of v ≡ Gaps in
    All-cons F GapOne (GapTwo ∷ []) refl (All-cons F GapTwo [] refl (All-nil F))

-- the line of one of these dialects
dialect_told : (family : Family) (word number : List ℕ) (vs : List Dialect) (said : PlanLine) → word ≡ word_of family → AreOf family vs → version_said vs number ≡ Ok said → IsVersionLine family (word ∷ number ∷ []) said
dialect_told family word number [] said is of e = absurd (err_ok BadLine said e)
dialect_told family word number (v ∷ vs) said is of e =
    let F : Dialect → Type 0 = λ x. family_of x ≡ family in
    let here : family_of v ≡ family = All-head F v vs of in
    cond_both (is_word number (version_of v)) _ _ (λ (x : Result PlanLine PlanKind). x ≡ Ok said → IsVersionLine family (word ∷ number ∷ []) said)
    (λ which e'. record {
      dialect = v;
      row = ap (λ (w : List ℕ). w ∷ number ∷ []) (is ∙ ap word_of (sym here)) ∙ ap (λ (n : List ℕ). word_of (family_of v) ∷ n ∷ []) (word_told number (version_of v) which);
      is = sym (same_ok (Version v) said e');
      family_is = here;
    })
    (λ _ e'. dialect_told family word number vs said is (All-tail F v vs of) e') e

pub version_told : (family : Family) (fields : List (List ℕ)) (said : PlanLine) → version_line family fields ≡ Ok said → IsVersionLine family fields said
version_told family [] said e = absurd (err_ok BadLine said e)
version_told family (word ∷ []) said e = absurd (err_ok BadLine said e)
version_told family (word ∷ number ∷ []) said e =
    let through = let_through (is_word word (word_of family)) BadLine (version_said (dialects_of family) number) said e in
    dialect_told family word number (dialects_of family) said (word_told word (word_of family) through.0) (all_of_family family) through.1
version_told family (word ∷ number ∷ more ∷ rest) said e = absurd (err_ok BadLine said e)

-- `path NAME ..`
pub record IsPathLine (p : Problem) (fields : List (List ℕ)) (said : PlanLine) : Type 0 where
  pub path : List ℕ
  pub row : fields ≡ codes "path" ∷ map (position_name p) path
  pub is : said ≡ Path path
  pub positions : ArePositions p path
  pub some : 1 ≤ length path
  pub short : length path ≤ 32

path_of_names : (p : Problem) → IsProblem p → (word : List ℕ) (names : List (List ℕ)) (o : Option (List ℕ)) (said : PlanLine) → word ≡ codes "path" → 1 ≤ length names → length names ≤ 32 → all_of (position_named p) names ≡ o → path_said o ≡ Ok said → IsPathLine p (word ∷ names) said
path_of_names p h word names None said is some short all e = absurd (err_ok UnknownName said e)
path_of_names p h word names (Some q) said is some short all e =
    let told = names_told p h names q all in
    let long : length names ≡ length q = ap length told.0 ∙ length-map q (position_name p) in
    record {
      path = q;
      row = rw is (ap (λ (x : List (List ℕ)). codes "path" ∷ x) told.0);
      is = sym (same_ok (Path q) said e);
      positions = told.1;
      some = omega (arith, long, some);
      short = omega (arith, long, short);
    }

pub path_told : (p : Problem) → IsProblem p → (fields : List (List ℕ)) (said : PlanLine) → path_line p fields ≡ Ok said → IsPathLine p fields said
path_told p h [] said e = absurd (err_ok BadLine said e)
path_told p h (word ∷ names) said e =
    let through = let_through (is_word word (codes "path") && (nat_le 1 (length names) && nat_le (length names) 32)) BadLine (path_said (all_of (position_named p) names)) said e in
    let parts = and_parts (is_word word (codes "path")) _ through.0 in
    let within = and_parts (nat_le 1 (length names)) (nat_le (length names) 32) parts.1 in
    path_of_names p h word names (all_of (position_named p) names) said (word_told word (codes "path") parts.0) (leb-true _ _ within.0) (leb-true _ _ within.1) refl through.1

-- `chance V W`
pub record IsChanceLine (fields : List (List ℕ)) (said : PlanLine) : Type 0 where
  pub value : ℕ
  pub weight : ℕ
  pub row : fields ≡ chance_row value weight
  pub is : said ≡ Chance value weight
  pub narrow : value < 2 ^ 128
  pub narrow_weight : weight < 2 ^ 128

chance_of : (word value weight : List ℕ) (v w : Option ℕ) (said : PlanLine) → word ≡ codes "chance" → amount_in value ≡ v → amount_in weight ≡ w → chance_said v w ≡ Ok said → IsChanceLine (word ∷ value ∷ weight ∷ []) said
chance_of word value weight None w said is a b e = absurd (err_ok BadNumber said e)
chance_of word value weight (Some v) None said is a b e = absurd (err_ok BadNumber said e)
chance_of word value weight (Some v) (Some w) said is a b e =
    let left = amount_told value v a in
    let right = amount_told weight w b in
    record {
      value = v;
      weight = w;
      row = rw (is, left.0, right.0) refl;
      is = sym (same_ok (Chance v w) said e);
      narrow = left.1;
      narrow_weight = right.1;
    }

pub chance_told : (fields : List (List ℕ)) (said : PlanLine) → chance_line fields ≡ Ok said → IsChanceLine fields said
chance_told [] said e = absurd (err_ok BadLine said e)
chance_told (word ∷ []) said e = absurd (err_ok BadLine said e)
chance_told (word ∷ value ∷ []) said e = absurd (err_ok BadLine said e)
chance_told (word ∷ value ∷ weight ∷ []) said e =
    let through = let_through (is_word word (codes "chance")) BadLine (chance_said (amount_in value) (amount_in weight)) said e in
    chance_of word value weight (amount_in value) (amount_in weight) said (word_told word (codes "chance") through.0) refl refl through.1
chance_told (word ∷ value ∷ weight ∷ more ∷ rest) said e = absurd (err_ok BadLine said e)

-- `ceiling N`
pub record IsCeilingLine (fields : List (List ℕ)) (said : PlanLine) : Type 0 where
  pub ceiling : ℕ
  pub row : fields ≡ ceiling_row ceiling
  pub is : said ≡ Ceiling ceiling
  pub narrow : ceiling < 2 ^ 128

ceiling_of : (word n : List ℕ) (o : Option ℕ) (said : PlanLine) → word ≡ codes "ceiling" → amount_in n ≡ o → ceiling_said o ≡ Ok said → IsCeilingLine (word ∷ n ∷ []) said
ceiling_of word n None said is a e = absurd (err_ok BadNumber said e)
ceiling_of word n (Some k) said is a e =
    let told = amount_told n k a in
    record {
      ceiling = k;
      row = rw (is, told.0) refl;
      is = sym (same_ok (Ceiling k) said e);
      narrow = told.1;
    }

pub ceiling_told : (fields : List (List ℕ)) (said : PlanLine) → ceiling_line fields ≡ Ok said → IsCeilingLine fields said
ceiling_told [] said e = absurd (err_ok BadLine said e)
ceiling_told (word ∷ []) said e = absurd (err_ok BadLine said e)
ceiling_told (word ∷ n ∷ []) said e =
    let through = let_through (is_word word (codes "ceiling")) BadLine (ceiling_said (amount_in n)) said e in
    ceiling_of word n (amount_in n) said (word_told word (codes "ceiling") through.0) refl through.1
ceiling_told (word ∷ n ∷ more ∷ rest) said e = absurd (err_ok BadLine said e)

-- `nodes N`
pub record IsCountLine (most : ℕ) (fields : List (List ℕ)) (said : PlanLine) : Type 0 where
  pub count : ℕ
  pub row : fields ≡ count_row count
  pub is : said ≡ Count count
  pub few : count ≤ most

count_of : (most : ℕ) (word n : List ℕ) (o : Option ℕ) (said : PlanLine) → word ≡ codes "nodes" → amount_in n ≡ o → count_said most o ≡ Ok said → IsCountLine most (word ∷ n ∷ []) said
count_of most word n None said is a e = absurd (err_ok BadNumber said e)
count_of most word n (Some k) said is a e =
    let through = let_through (nat_le k most) TooManyNodes (Ok (Count k)) said e in
    record {
      count = k;
      row = rw (is, (amount_told n k a).0) refl;
      is = sym (same_ok (Count k) said through.1);
      few = leb-true k most through.0;
    }

pub count_told : (most : ℕ) (fields : List (List ℕ)) (said : PlanLine) → count_line most fields ≡ Ok said → IsCountLine most fields said
count_told most [] said e = absurd (err_ok BadLine said e)
count_told most (word ∷ []) said e = absurd (err_ok BadLine said e)
count_told most (word ∷ n ∷ []) said e =
    let through = let_through (is_word word (codes "nodes")) BadLine (count_said most (amount_in n)) said e in
    count_of most word n (amount_in n) said (word_told word (codes "nodes") through.0) refl through.1
count_told most (word ∷ n ∷ more ∷ rest) said e = absurd (err_ok BadLine said e)

-- Records.

pub record IsNodeLine (p : Problem) (v : Dialect) (w : Prefixes) (fields : List (List ℕ)) (r : GapNode) : Type 0 where
  pub row : fields ≡ node_fields r.prefix r.kind
  pub positions : ArePositions p r.prefix
  pub short : length r.prefix ≤ most_positions p w
  pub kind : IsPrintableKind p (shape_of_kind r.kind)
  pub narrow : IsNarrowNode r.kind
  pub lettered : HasNodeLetter v r.kind

-- a record of this kind, whose prefix the last fields spell
node_made : (p : Problem) → IsProblem p → (v : Dialect) (w : Prefixes) (fields : List (List ℕ)) (q : List ℕ) (kind : GapKind) (r : GapNode) → fields ≡ node_fields q kind → ArePositions p q → length q ≤ most_positions p w → IsPrintableKind p (shape_of_kind kind) → IsNarrowNode kind → HasNodeLetter v kind → ◌≡◌ {A = Result GapNode PlanKind} (Ok (record { prefix = q; kind = kind })) (Ok r) → IsNodeLine p v w fields r
node_made p h v w fields q kind r row positions short k narrow letter e =
    let made : GapNode = record { prefix = q; kind = kind } in
    subst (IsNodeLine p v w fields) (same_ok made r e) (record { row = row; positions = positions; short = short; kind = k; narrow = narrow; lettered = letter })

-- `B`
branch_made : (p : Problem) → IsProblem p → (v : Dialect) (w : Prefixes) (letter : List ℕ) (cells : List (List ℕ)) (o : Option (List ℕ)) (r : GapNode) → letter ≡ codes "B" → length cells ≤ most_positions p w → all_of (place_in p) cells ≡ o → branch_of o ≡ Ok r → IsNodeLine p v w (letter ∷ cells) r
branch_made p h v w letter cells None r is short all e = absurd (err_ok BadNumber r e)
branch_made p h v w letter cells (Some q) r is short all e =
    let told = places_told p h cells q all in
    let long : length cells ≡ length q = ap length told.0 ∙ length-map q decimal in
    node_made p h v w (letter ∷ cells) q (Closed Branch) r (rw is (ap (λ (x : List (List ℕ)). codes "B" ∷ x) told.0)) told.1 (omega (arith, long, short)) tt tt tt e

branch_told : (p : Problem) → IsProblem p → (v : Dialect) (w : Prefixes) (letter : List ℕ) (cells : List (List ℕ)) (r : GapNode) → letter ≡ codes "B" → branch_line p (most_positions p w) cells ≡ Ok r → IsNodeLine p v w (letter ∷ cells) r
branch_told p h v w letter cells r is e =
    let through = let_through (nat_le (length cells) (most_positions p w)) BadLine (branch_of (all_of (place_in p) cells)) r e in
    branch_made p h v w letter cells (all_of (place_in p) cells) r is (leb-true _ _ through.0) refl through.1

-- the others
record IsBounded (p : Problem) (most long : ℕ) (fields : List (List ℕ)) (b : Bounded) : Type 0 where
  row : fields ≡ decimal b.bound ∷ (numbers b.prefix ++ numbers b.reference)
  positions : ArePositions p b.prefix
  short : length b.prefix ≤ most
  narrow : b.bound < 2 ^ 128
  refers : ArePositions p b.reference
  all : length b.reference ≡ long

bounded_made : (p : Problem) → IsProblem p → (most long : ℕ) (bound : List ℕ) (cells : List (List ℕ)) (n : Option ℕ) (o u : Option (List ℕ)) (b : Bounded) → long ≤ length cells → length cells ≤ most + long → amount_in bound ≡ n → all_of (place_in p) (take (length cells - long) cells) ≡ o → all_of (place_in p) (drop (length cells - long) cells) ≡ u → bounded_of n o u ≡ Ok b → IsBounded p most long (bound ∷ cells) b
bounded_made p h most long bound cells None o u b low high a front back e = absurd (err_ok BadNumber b e)
bounded_made p h most long bound cells (Some n) None u b low high a front back e = absurd (err_ok BadNumber b e)
bounded_made p h most long bound cells (Some n) (Some q) None b low high a front back e = absurd (err_ok BadNumber b e)
bounded_made p h most long bound cells (Some n) (Some q) (Some x) b low high a front back e =
    let k = length cells - long in
    let own = places_told p h (take k cells) q front in
    let reference = places_told p h (drop k cells) x back in
    let number = amount_told bound n a in
    let whole : cells ≡ numbers q ++ numbers x = sym (take-append-drop k cells) ∙ ap (λ (y : List (List ℕ)). y ++ drop k cells) own.0 ∙ ap (λ (y : List (List ℕ)). numbers q ++ y) reference.0 in
    let behind : length x ≡ length cells - k = sym (length-map x decimal) ∙ sym (ap length reference.0) ∙ length-drop k cells in
    let both : length cells ≡ length q + length x = ap length whole ∙ simp (length-append, length-map) in
    let made : Bounded = record { bound = n; prefix = q; reference = x } in
    subst (IsBounded p most long (bound ∷ cells)) (same_ok made b e) (record {
      row = ap (λ (y : List ℕ). y ∷ cells) number.0 ∙ ap (λ (y : List (List ℕ)). decimal n ∷ y) whole;
      positions = own.1;
      short = omega (arith, behind, both, low, high);
      narrow = number.1;
      refers = reference.1;
      all = omega (arith, behind, low);
    })

bounded_told : (p : Problem) → IsProblem p → (most long : ℕ) (fields : List (List ℕ)) (b : Bounded) → bounded_line p most long fields ≡ Ok b → IsBounded p most long fields b
bounded_told p h most long [] b e = absurd (err_ok BadLine b e)
bounded_told p h most long (bound ∷ cells) b e =
    let k = length cells - long in
    let through = let_through (nat_le long (length cells) && nat_le (length cells) (most + long)) BadLine _ b e in
    let within = and_parts (nat_le long (length cells)) (nat_le (length cells) (most + long)) through.0 in
    bounded_made p h most long bound cells (amount_in bound) (all_of (place_in p) (take k cells)) (all_of (place_in p) (drop k cells)) b (leb-true _ _ within.0) (leb-true _ _ within.1) refl refl refl through.1

bounded_node : (p : Problem) → IsProblem p → (v : Dialect) (w : Prefixes) (letter : List ℕ) (fields : List (List ℕ)) (kind : Numbered) (o : Result Bounded PlanKind) (r : GapNode) → letter ≡ letter_for kind → has_numbered v kind ≡ true → bounded_line p (most_positions p w) (referred p kind) fields ≡ o → node_of kind o ≡ Ok r → IsNodeLine p v w (letter ∷ fields) r
bounded_node p h v w letter fields kind (Err k) r is has line e = absurd (err_ok k r e)
bounded_node p h v w letter fields kind (Ok b) r is has line e =
    let told = bounded_told p h (most_positions p w) (referred p kind) fields b line in
    node_made p h v w (letter ∷ fields) b.prefix (kind_with kind b.bound b.reference) r
    (ap (λ (x : List ℕ). x ∷ fields) is ∙ ap (λ (x : List (List ℕ)). letter_for kind ∷ x) told.row ∙ sym (numbered_row p kind b.prefix b.bound b.reference told.all))
    told.positions told.short (numbered_printable p kind b.bound b.reference told.all told.refers) (numbered_narrow kind b.bound b.reference told.narrow) (numbered_letter v kind b.bound b.reference has) e

numbered_node : (p : Problem) → IsProblem p → (v : Dialect) (w : Prefixes) (letter : List ℕ) (fields : List (List ℕ)) (kind : Option Numbered) (r : GapNode) → numbered_by v letter ≡ kind → numbered_line p (most_positions p w) kind fields ≡ Ok r → IsNodeLine p v w (letter ∷ fields) r
numbered_node p h v w letter fields None r is e = absurd (err_ok BadLine r e)
numbered_node p h v w letter fields (Some kind) r is e =
    let told = letter_told v all_numbered letter kind is in
    bounded_node p h v w letter fields kind (bounded_line p (most_positions p w) (referred p kind) fields) r told.0 told.1 refl e

pub node_told : (p : Problem) → IsProblem p → (v : Dialect) (fields : List (List ℕ)) (r : GapNode) → node_line p v fields ≡ Ok r → IsNodeLine p v (prefixes_in v) fields r
node_told p h v [] r e = absurd (err_ok BadLine r e)
node_told p h v (letter ∷ fields) r e =
    let w = prefixes_in v in
    cond_both (is_word letter (codes "B")) (branch_line p (most_positions p w) fields) (numbered_line p (most_positions p w) (numbered_by v letter) fields) (λ (x : Result GapNode PlanKind). x ≡ Ok r → IsNodeLine p v w (letter ∷ fields) r)
    (λ is. branch_told p h v w letter fields r (word_told letter (codes "B") is))
    (λ _. numbered_node p h v w letter fields (numbered_by v letter) r refl) e

-- a record has the prefix that is expected next, where the text leaves prefixes out
abbrev pub HasPlace : Prefixes → List (List ℕ) → List ℕ → Type 0
HasPlace Written expected q = Unit {0}
HasPlace LeftOut [] q = ⊥
HasPlace LeftOut (x ∷ expected) q = q ≡ x

-- where it has them, they are right in themselves
abbrev pub IsWritten : Prefixes → Problem → List ℕ → Type 0
IsWritten Written p q = ArePositions p q × (length q ≤ p.horizon)
IsWritten LeftOut p q = Unit {0}

-- a record where one is left
pub record IsRecordIn (p : Problem) (v : Dialect) (w : Prefixes) (left : ℕ) (expected fields : List (List ℕ)) (said : PlanLine) : Type 0 where
  pub node : GapNode
  pub row : fields ≡ node_fields (written w node.prefix) node.kind
  pub wrote : IsWritten w p node.prefix
  pub place : HasPlace w expected node.prefix
  pub kind : IsPrintableKind p (shape_of_kind node.kind)
  pub narrow : IsNarrowNode node.kind
  pub lettered : HasNodeLetter v node.kind
  pub is : said ≡ Node node
  pub more : 1 ≤ left

abbrev pub IsRecordLine : Problem → Dialect → ℕ → List (List ℕ) → List (List ℕ) → PlanLine → Type 0
IsRecordLine p v left expected fields said = IsRecordIn p v (prefixes_in v) left expected fields said

-- so it can be printed, where what is expected is legal
record_in_printable : (p : Problem) → IsProblem p → (v : Dialect) (w : Prefixes) (left : ℕ) (expected fields : List (List ℕ)) (said : PlanLine) → All (IsLegal p) expected → (line : IsRecordIn p v w left expected fields said) → IsPrintableRecord p (shape_of line.node)
record_in_printable p h v Written left expected fields said legal line = record { positions = line.wrote.0; short = line.wrote.1; kind = line.kind }
record_in_printable p h v LeftOut left [] fields said legal line = absurd line.place
record_in_printable p h v LeftOut left (q ∷ expected) fields said legal line =
    let first : IsLegal p q = All-head (IsLegal p) q expected legal in
    let here : IsLegal p line.node.prefix = subst (IsLegal p) (sym line.place) first in
    record {
      positions = positions_follow p h p.start (omega (arith, h.start, h.grid_positions)) line.node.prefix here.follows;
      short = here.short;
      kind = line.kind;
    }

pub record_printable : (p : Problem) → IsProblem p → (v : Dialect) (left : ℕ) (expected fields : List (List ℕ)) (said : PlanLine) → All (IsLegal p) expected → (line : IsRecordLine p v left expected fields said) → IsPrintableRecord p (shape_of line.node)
record_printable p h v left expected fields said legal line = record_in_printable p h v (prefixes_in v) left expected fields said legal line

-- or `end` where none is
pub record IsEndLine (w : Prefixes) (left : ℕ) (expected fields : List (List ℕ)) (said : PlanLine) : Type 0 where
  pub row : fields ≡ codes "end" ∷ []
  pub is : said ≡ End
  pub none : left ≡ 0
  pub closed : w ≡ LeftOut → expected ≡ []

end_fields : (fields : List (List ℕ)) → is_end fields ≡ true → fields ≡ codes "end" ∷ []
end_fields [] e = absurd (let bad : ⊥ = cc in bad)
end_fields (word ∷ []) e = ap (λ (x : List ℕ). x ∷ []) (word_told word (codes "end") e)
end_fields (word ∷ more ∷ rest) e = absurd (let bad : ⊥ = cc in bad)

positive : (n : ℕ) → (n == 0) ≡ false → 1 ≤ n
positive zero none = absurd (eqb-false 0 0 none refl)
positive (suc n) none = omega arith

no_cells : (q : List ℕ) → length q ≤ 0 → q ≡ []
no_cells [] short = refl
no_cells (a ∷ q) short = absurd (omega (arith, short))

-- a record of a line that has a place
node_placed : (p : Problem) (v : Dialect) (w : Prefixes) (left : ℕ) (expected fields : List (List ℕ)) (r : GapNode) (said : PlanLine) → IsNodeLine p v w fields r → 1 ≤ left → placed w expected r ≡ Ok said → IsRecordIn p v w left expected fields said
node_placed p v Written left expected fields r said line some e = record {
  node = r;
  row = line.row;
  wrote = (line.positions, line.short);
  place = tt;
  kind = line.kind;
  narrow = line.narrow;
  lettered = line.lettered;
  is = sym (same_ok (Node r) said e);
  more = some;
}
node_placed p v LeftOut left [] fields r said line some e = absurd (err_ok NoPlace said e)
node_placed p v LeftOut left (q ∷ expected) fields r said line some e =
    let here : GapNode = record { prefix = q; kind = r.kind } in
    record {
      node = here;
      row = line.row ∙ ap (λ (x : List ℕ). node_fields x r.kind) (no_cells r.prefix line.short);
      wrote = tt;
      place = refl;
      kind = line.kind;
      narrow = line.narrow;
      lettered = line.lettered;
      is = sym (same_ok (Node here) said e);
      more = some;
    }

node_left : (p : Problem) → IsProblem p → (v : Dialect) (left : ℕ) (expected fields : List (List ℕ)) (o : Result GapNode PlanKind) (said : PlanLine) → node_line p v fields ≡ o → node_said (prefixes_in v) left expected o ≡ Ok said → IsRecordLine p v left expected fields said
node_left p h v left expected fields (Err kind) said line e = absurd (err_ok kind said e)
node_left p h v left expected fields (Ok r) said line e =
    cond_both (left == 0) (Err WrongCount) (placed (prefixes_in v) expected r) (λ (x : Result PlanLine PlanKind). x ≡ Ok said → IsRecordLine p v left expected fields said)
    (λ _ e'. absurd (err_ok WrongCount said e'))
    (λ some e'. node_placed p v (prefixes_in v) left expected fields r said (node_told p h v fields r line) (positive left some) e') e

end_closed : (w : Prefixes) (expected : List (List ℕ)) (said : PlanLine) → ending w expected ≡ Ok said → (said ≡ End) × (w ≡ LeftOut → expected ≡ [])
end_closed Written expected said e = (sym (same_ok End said e), λ out. absurd (let bad : ⊥ = cc in bad))
end_closed LeftOut [] said e = (sym (same_ok End said e), λ _. refl)
end_closed LeftOut (q ∷ expected) said e = absurd (err_ok StillOpen said e)

end_left : (w : Prefixes) (left : ℕ) (expected fields : List (List ℕ)) (said : PlanLine) → is_end fields ≡ true → end_said w left expected ≡ Ok said → IsEndLine w left expected fields said
end_left w left expected fields said is e =
    let through = let_through (left == 0) WrongCount (ending w expected) said e in
    let closed = end_closed w expected said through.1 in
    record { row = end_fields fields is; is = closed.0; none = eqb-true left 0 through.0; closed = closed.1 }

pub record_told : (p : Problem) → IsProblem p → (v : Dialect) (left : ℕ) (expected fields : List (List ℕ)) (said : PlanLine) → record_line p v left expected fields ≡ Ok said → IsRecordLine p v left expected fields said ⊎ IsEndLine (prefixes_in v) left expected fields said
record_told p h v left expected fields said e =
    cond_both (is_end fields) (end_said (prefixes_in v) left expected) (node_said (prefixes_in v) left expected (node_line p v fields)) (λ (x : Result PlanLine PlanKind). x ≡ Ok said → IsRecordLine p v left expected fields said ⊎ IsEndLine (prefixes_in v) left expected fields said)
    (λ is e'. inr (end_left (prefixes_in v) left expected fields said is e')) (λ _ e'. inl (node_left p h v left expected fields (node_line p v fields) said refl e')) e
