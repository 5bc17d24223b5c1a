-- A line is judged by the first 40 bytes of each of its first 70 fields.
use Rattle.std.proofs.Common.{◌≡◌, ℕ, ◌<◌, ◌≤◌, ◌-◌, ◌+◌, ◌^◌, Bool, false, cond, List, [], ◌∷◌, map, length, get_or, take, drop, Option, Some, None, Result, Err, refl, sym, ap, subst, ◌∙◌, arith, inl, inr}
use Rattle.std.specs.Prelude.{codes, nat_le, ◌==◌}
use Rattle.std.specs.List.{list_any}
use Rattle.std.specs.Str.{bytes_eq}
use Rattle.std.proofs.lemmas.Bool.{cases_lt, cond_both, lt-leb, ne_eqb, false_from_ne_true}
use Rattle.std.proofs.Math.Bool.{and-false}
use Rattle.std.proofs.lemmas.List.{take_all, length-map, length-take-le, take-map, drop-map}
use Rattle.std.proofs.lemmas.List.Elements.{All-get_or}
use Rattle.std.proofs.lemmas.Slice.Eq.{bytes_eq-Decides}
use Rattle.exact_parts.specs.declared.number.Number.{Number}
use Rattle.exact_parts.specs.declared.number.Number.TheVariants.{NotPlain, Above, Of}
use Rattle.exact_parts.specs.Decimal.{Spells, number_at}
use Rattle.exact_parts.proofs.Decimals.{digits_fit, spells-number_at, spelled_text}
use Rattle.search_model.specs.Names.{IsName}
use Rattle.search_model.specs.Problem.{Problem, IsProblem, position_named}
use Rattle.bound_tree.specs.declared.gap.GapNode.{GapNode}
use Rattle.tree_format.specs.declared.kind.PlanKind.{PlanKind}
use Rattle.tree_format.specs.declared.kind.PlanKind.TheVariants.{BadLine}
use Rattle.tree_format.specs.declared.due.Due.{Due}
use Rattle.tree_format.specs.declared.plan_line.Dialect.{Dialect}
use Rattle.tree_format.specs.declared.plan_line.Family.{Family}
use Rattle.tree_format.specs.declared.plan_line.Family.TheVariants.{Plans, Gaps}
use Rattle.tree_format.specs.declared.plan_line.Prefixes.{Prefixes}
use Rattle.tree_format.specs.declared.plan_line.Prefixes.TheVariants.{Written, LeftOut}
use Rattle.tree_format.specs.declared.plan_line.Dialect.TheVariants.{PlanOne, PlanTwo, PlanThree, GapOne, GapTwo}
use Rattle.tree_format.specs.Dialects.{family_of, dialects_of, word_of, version_of, most_records, prefixes_in}
use Rattle.tree_format.specs.declared.record_lines.Numbered.{Numbered}
use Rattle.tree_format.specs.declared.record_lines.Numbered.TheVariants.{Whole, Mean, Tangent, Edge, Exchange, TwoLooks, Waiting}
use Rattle.tree_format.specs.Letters.{all_numbered, letter_for, referred, kind_among, numbered_by}
use Rattle.tree_format.proofs.Letters.{letter_short}
use Rattle.tree_format.specs.declared.plan_line.Stage.{Stage}
use Rattle.tree_format.specs.declared.plan_line.Stage.TheVariants as due
use Rattle.tree_format.specs.declared.plan_line.PlanLine.{PlanLine}
use Rattle.tree_format.specs.Reading.{said, amount_in, place_in, all_of, version_said, version_line, path_line, chance_line, ceiling_line, count_line, most_positions, branch_line, bounded_line, node_of, numbered_line, node_line, is_end, record_line, stage_line, line_at}
use Rattle.text_rows.specs.Fields.{is_word}
use Rattle.list_laws.proofs.Firsts.{position-none}
use Rattle.tree_format.specs.ReadingLaws.{SummaryDecides}

abbrev front : List ℕ → List ℕ
front f = take 40 f

-- what a field says by its front, where long fields say nothing
by_front : {X : Type 0} (says : List ℕ → X) (f : List ℕ) (x : X) → ((g : List ℕ) → 40 ≤ length g → says g ≡ x) → says (front f) ≡ says f
by_front says f x long = elim (cases_lt 40 (length f)) [
  | inl lt ↦ long (front f) (omega (arith, length-take-le 40 f (omega arith))) ∙ sym (long f (omega arith))
  | inr le ↦ ap says (take_all 40 f le)
]

front_word : (f word : List ℕ) → length word < 40 → is_word (front f) word ≡ is_word f word
front_word f word short = by_front (λ g. bytes_eq g word) f false (λ g long. false_from_ne_true _ (λ e. let same = ap length ((bytes_eq-Decides g word).0 e) in omega (arith, same, long)))

none_said : (r : Number) → ((n : ℕ) → r ≡ Of n → ⊥) → said r ≡ None
none_said NotPlain h = refl
none_said Above h = refl
none_said (Of n) h = absurd (h n refl)

long_number : (most : ℕ) (f : List ℕ) → most < 2 ^ 128 → 40 ≤ length f → said (number_at most f) ≡ None
long_number most f wide long = none_said (number_at most f) (λ n e.
    let spells : Spells most f (Of n) = subst (Spells most f) e (spells-number_at most f) in
    let same = ap length (spelled_text most n f wide spells) in
    omega (arith, same, long, digits_fit n (omega (arith, spells.2))))

front_number : (most : ℕ) (f : List ℕ) → most < 2 ^ 128 → said (number_at most (front f)) ≡ said (number_at most f)
front_number most f wide = by_front (λ g. said (number_at most g)) f None (λ g long. long_number most g wide long)

front_amount : (f : List ℕ) → amount_in (front f) ≡ amount_in f
front_amount f = front_number 340282366920938463463374607431768211455 f (omega arith)

-- fields that say something by their fronts
front_all : (says : List ℕ → Option ℕ) → ((f : List ℕ) → says (front f) ≡ says f) → (fs : List (List ℕ)) → all_of says (map front fs) ≡ all_of says fs
unfolding all_of
front_all says each [] = refl
front_all says each (f ∷ fs) = rw (each f, front_all says each fs) refl

front_empty : (f : List ℕ) → (length (front f) == 0) ≡ (length f == 0)
front_empty f = by_front (λ g. length g == 0) f false (λ g long. ne_eqb (length g) 0 (λ e. omega (arith, e, long)))

front_any : (fs : List (List ℕ)) → list_any (λ f. length f == 0) (map front fs) ≡ list_any (λ f. length f == 0) fs
front_any [] = refl
front_any (f ∷ fs) = rw (front_empty f, front_any fs) refl

-- the words of first lines are short
word_short : (family : Family) → length (word_of family) < 40
word_short Plans = omega arith
word_short Gaps = omega arith

version_short : (v : Dialect) → length (version_of v) < 40
version_short PlanOne = omega arith
version_short PlanTwo = omega arith
version_short PlanThree = omega arith
version_short GapOne = omega arith
version_short GapTwo = omega arith

module _ (p : Problem) (h : IsProblem p) where
  front_place : (f : List ℕ) → place_in p (front f) ≡ place_in p f
  front_place f = front_number (p.positions - 1) f (omega (arith, h.positions.1))

  front_name : (f : List ℕ) → position_named p (front f) ≡ position_named p f
  front_name f = by_front (λ g. position_named p g) f None (λ g long. position-none (λ n. bytes_eq n g) p.position_names [] (λ k lt. false_from_ne_true _ (λ e.
      let same = ap length ((bytes_eq-Decides (get_or p.position_names k []) g).0 e) in
      let name : IsName (get_or p.position_names k []) = All-get_or IsName p.position_names k [] lt h.position_names.each in
      omega (arith, same, long, name.short))))

  front_places : (fs : List (List ℕ)) → all_of (place_in p) (map front fs) ≡ all_of (place_in p) fs
  front_places fs = front_all (place_in p) front_place fs

  front_said : (number : List ℕ) (vs : List Dialect) → version_said vs (front number) ≡ version_said vs number
  front_said number [] = refl
  front_said number (v ∷ vs) = rw (front_word number (version_of v) (version_short v), front_said number vs) refl

  front_version : (family : Family) (fs : List (List ℕ)) → version_line family (map front fs) ≡ version_line family fs
  front_version family [] = refl
  front_version family (f ∷ []) = refl
  front_version family (f ∷ g ∷ []) = rw (front_word f (word_of family) (word_short family), front_said g (dialects_of family)) refl
  front_version family (f ∷ g ∷ more ∷ rest) = refl

  front_path : (fs : List (List ℕ)) → path_line p (map front fs) ≡ path_line p fs
  front_path [] = refl
  front_path (f ∷ names) = rw (front_word f (codes "path") (omega arith), length-map names front, front_all (position_named p) front_name names) refl

  front_chance : (fs : List (List ℕ)) → chance_line (map front fs) ≡ chance_line fs
  front_chance [] = refl
  front_chance (f ∷ []) = refl
  front_chance (f ∷ v ∷ []) = refl
  front_chance (f ∷ v ∷ w ∷ []) = rw (front_word f (codes "chance") (omega arith), front_amount v, front_amount w) refl
  front_chance (f ∷ v ∷ w ∷ more ∷ rest) = refl

  front_ceiling : (fs : List (List ℕ)) → ceiling_line (map front fs) ≡ ceiling_line fs
  front_ceiling [] = refl
  front_ceiling (f ∷ []) = refl
  front_ceiling (f ∷ n ∷ []) = rw (front_word f (codes "ceiling") (omega arith), front_amount n) refl
  front_ceiling (f ∷ n ∷ more ∷ rest) = refl

  front_count : (most : ℕ) (fs : List (List ℕ)) → count_line most (map front fs) ≡ count_line most fs
  front_count most [] = refl
  front_count most (f ∷ []) = refl
  front_count most (f ∷ n ∷ []) = rw (front_word f (codes "nodes") (omega arith), front_amount n) refl
  front_count most (f ∷ n ∷ more ∷ rest) = refl

  front_branch : (most : ℕ) (fs : List (List ℕ)) → branch_line p most (map front fs) ≡ branch_line p most fs
  front_branch most fs = rw (length-map fs front, front_places fs) refl

  front_bounded : (most long : ℕ) (fs : List (List ℕ)) → bounded_line p most long (map front fs) ≡ bounded_line p most long fs
  front_bounded most long [] = refl
  front_bounded most long (n ∷ fs) =
      let k = length fs - long in
      rw (length-map fs front, front_amount n, take-map front k fs, drop-map front k fs, front_places (take k fs), front_places (drop k fs)) refl

  front_letter : (v : Dialect) (all : List Numbered) (f : List ℕ) → kind_among v all (front f) ≡ kind_among v all f
  front_letter v [] f = refl
  front_letter v (kind ∷ all) f = rw (front_word f (letter_for kind) (letter_short kind), front_letter v all f) refl

  front_numbered : (most : ℕ) (kind : Option Numbered) (fs : List (List ℕ)) → numbered_line p most kind (map front fs) ≡ numbered_line p most kind fs
  front_numbered most None fs = refl
  front_numbered most (Some kind) fs = ap (node_of kind) (front_bounded most (referred p kind) fs)

  front_node : (v : Dialect) (fs : List (List ℕ)) → node_line p v (map front fs) ≡ node_line p v fs
  front_node v [] = refl
  front_node v (f ∷ fs) =
      let most = most_positions p (prefixes_in v) in
      let branch = branch_line p most (map front fs) in
      ap (λ (b : Bool). cond b branch (numbered_line p most (numbered_by v (front f)) (map front fs))) (front_word f (codes "B") (omega arith))
      ∙ ap (λ (kind : Option Numbered). cond (is_word f (codes "B")) branch (numbered_line p most kind (map front fs))) (front_letter v all_numbered f)
      ∙ ap (cond (is_word f (codes "B")) branch) (front_numbered most (numbered_by v f) fs)
      ∙ ap (λ (line : Result GapNode PlanKind). cond (is_word f (codes "B")) line (numbered_line p most (numbered_by v f) fs)) (front_branch most fs)

  front_end : (fs : List (List ℕ)) → is_end (map front fs) ≡ is_end fs
  front_end [] = refl
  front_end (f ∷ []) = front_word f (codes "end") (omega arith)
  front_end (f ∷ more ∷ rest) = refl

  front_stage : (v : Dialect) (stage : Stage) (expected fs : List (List ℕ)) → stage_line p v stage expected (map front fs) ≡ stage_line p v stage expected fs
  front_stage v (due.Version family) expected fs = front_version family fs
  front_stage v due.Path expected fs = front_path fs
  front_stage v due.Chance expected fs = front_chance fs
  front_stage v due.Ceiling expected fs = front_ceiling fs
  front_stage v due.Count expected fs = front_count (most_records (family_of v)) fs
  front_stage v (due.Records left) expected fs = rw (front_end fs, front_node v fs) refl
  front_stage v due.Ended expected fs = refl

  front_line : (d : Due) (fs : List (List ℕ)) → line_at p d (map front fs) ≡ line_at p d fs
  unfolding line_at
  front_line d fs = rw (front_any fs, front_stage d.dialect d.stage d.expected fs) refl

  -- No line has so many fields.
  no_path : (fs : List (List ℕ)) → 67 ≤ length fs → path_line p fs ≡ Err BadLine
  no_path [] long = absurd (omega arith)
  no_path (f ∷ fs) long =
      rw (lt-leb (length fs) 32 (omega (arith, long)), and-false (nat_le 1 (length fs)), and-false (is_word f (codes "path"))) refl

  no_branch : (most : ℕ) → most ≤ 32 → (fs : List (List ℕ)) → 66 ≤ length fs → branch_line p most fs ≡ Err BadLine
  no_branch most few fs long = rw (lt-leb (length fs) most (omega (arith, long, few))) refl

  no_bounded : (most long : ℕ) → most ≤ 32 → long ≤ 32 → (fs : List (List ℕ)) → 66 ≤ length fs → bounded_line p most long fs ≡ Err BadLine
  no_bounded most long few fewer [] many = absurd (omega arith)
  no_bounded most long few fewer (n ∷ fs) many = rw (lt-leb (length fs) (most + long) (omega (arith, many, few, fewer)), and-false (nat_le long (length fs))) refl

  few_referred : (kind : Numbered) → referred p kind ≤ 32
  few_referred Whole = omega arith
  few_referred Mean = omega arith
  few_referred Tangent = h.horizon.1
  few_referred Edge = omega arith
  few_referred Exchange = omega arith
  few_referred TwoLooks = omega arith
  few_referred Waiting = omega arith

  no_numbered : (most : ℕ) → most ≤ 32 → (kind : Option Numbered) (fs : List (List ℕ)) → 66 ≤ length fs → numbered_line p most kind fs ≡ Err BadLine
  no_numbered most few None fs long = refl
  no_numbered most few (Some kind) fs long = ap (node_of kind) (no_bounded most (referred p kind) few (few_referred kind) fs long)

  few_cells : (w : Prefixes) → most_positions p w ≤ 32
  few_cells Written = h.horizon.1
  few_cells LeftOut = omega arith

  no_node : (v : Dialect) (fs : List (List ℕ)) → 67 ≤ length fs → node_line p v fs ≡ Err BadLine
  no_node v [] long = absurd (omega arith)
  no_node v (f ∷ fs) long =
      let most = most_positions p (prefixes_in v) in
      let few = few_cells (prefixes_in v) in
      let more : 66 ≤ length fs = omega (arith, long) in
      cond_both (is_word f (codes "B")) (branch_line p most fs) (numbered_line p most (numbered_by v f) fs) (λ (x : Result GapNode PlanKind). x ≡ Err BadLine) (λ _. no_branch most few fs more) (λ _. no_numbered most few (numbered_by v f) fs more)

  no_record : (v : Dialect) (left : ℕ) (expected fs : List (List ℕ)) → 67 ≤ length fs → record_line p v left expected fs ≡ Err BadLine
  no_record v left expected [] long = absurd (omega arith)
  no_record v left expected (f ∷ []) long = absurd (omega arith)
  no_record v left expected (f ∷ g ∷ fs) long = rw (no_node v (f ∷ g ∷ fs) long) refl

  no_version : (family : Family) (fs : List (List ℕ)) → 67 ≤ length fs → version_line family fs ≡ Err BadLine
  no_version Plans [] long = refl
  no_version Plans (f ∷ []) long = refl
  no_version Plans (f ∷ g ∷ []) long = absurd (omega arith)
  no_version Plans (f ∷ g ∷ more ∷ rest) long = refl
  no_version Gaps [] long = refl
  no_version Gaps (f ∷ []) long = refl
  no_version Gaps (f ∷ g ∷ []) long = absurd (omega arith)
  no_version Gaps (f ∷ g ∷ more ∷ rest) long = refl

  no_chance : (fs : List (List ℕ)) → 67 ≤ length fs → chance_line fs ≡ Err BadLine
  no_chance [] long = refl
  no_chance (f ∷ []) long = refl
  no_chance (f ∷ v ∷ []) long = refl
  no_chance (f ∷ v ∷ w ∷ []) long = absurd (omega arith)
  no_chance (f ∷ v ∷ w ∷ more ∷ rest) long = refl

  no_ceiling : (fs : List (List ℕ)) → 67 ≤ length fs → ceiling_line fs ≡ Err BadLine
  no_ceiling [] long = refl
  no_ceiling (f ∷ []) long = refl
  no_ceiling (f ∷ n ∷ []) long = absurd (omega arith)
  no_ceiling (f ∷ n ∷ more ∷ rest) long = refl

  no_count : (most : ℕ) (fs : List (List ℕ)) → 67 ≤ length fs → count_line most fs ≡ Err BadLine
  no_count most [] long = refl
  no_count most (f ∷ []) long = refl
  no_count most (f ∷ n ∷ []) long = absurd (omega arith)
  no_count most (f ∷ n ∷ more ∷ rest) long = refl

  no_stage : (v : Dialect) (stage : Stage) (expected fs : List (List ℕ)) → 67 ≤ length fs → stage_line p v stage expected fs ≡ Err BadLine
  no_stage v (due.Version family) expected fs long = no_version family fs long
  no_stage v due.Path expected fs long = no_path fs long
  no_stage v due.Chance expected fs long = no_chance fs long
  no_stage v due.Ceiling expected fs long = no_ceiling fs long
  no_stage v due.Count expected fs long = no_count (most_records (family_of v)) fs long
  no_stage v (due.Records left) expected fs long = no_record v left expected fs long
  no_stage v due.Ended expected fs long = refl

  no_line : (d : Due) (fs : List (List ℕ)) → 67 ≤ length fs → line_at p d fs ≡ Err BadLine
  unfolding line_at
  no_line d fs long =
      cond_both (list_any (λ f. length f == 0) fs) (Err BadLine) (stage_line p d.dialect d.stage d.expected fs) (λ (x : Result PlanLine PlanKind). x ≡ Err BadLine) (λ _. refl) (λ _. no_stage d.dialect d.stage d.expected fs long)

  first_decide : (d : Due) (fs : List (List ℕ)) → line_at p d (take 70 fs) ≡ line_at p d fs
  first_decide d fs = elim (cases_lt 70 (length fs)) [
    | inl lt ↦ no_line d (take 70 fs) (omega (arith, length-take-le 70 fs (omega arith))) ∙ sym (no_line d fs (omega arith))
    | inr le ↦ ap (line_at p d) (take_all 70 fs le)
  ]

pub summary_decides : SummaryDecides
summary_decides p d fields h = front_line p h d (take 70 fields) ∙ first_decide p h d fields
