-- The bytes fed decide the items and the fault.
use Rattle.std.proofs.Common.{◌≡◌, ℕ, suc, ◌≤◌, ◌+◌, Bool, true, false, List, [], ◌∷◌, ◌++◌, length, take, drop, Some, Result, Ok, Err, refl, sym, ap, subst, ◌∙◌, arith, append_assoc, length-append, ◌⊎◌, inl, inr}
use Rattle.std.specs.Prelude.{All}
use Rattle.std.proofs.lemmas.List.{append-nil, take-append-drop}
use Rattle.std.proofs.lemmas.List.Elements.{All-nil, All-push, All-head, All-tail}
use Rattle.search_model.specs.Problem.{Problem, IsProblem}
use Rattle.bound_tree.specs.declared.gap.GapPlan.{GapPlan}
use Rattle.tree_format.specs.declared.plan_line.Family.{Family}
use Rattle.tree_format.specs.Dialects.{family_of, most_records}
use Rattle.tree_format.specs.declared.kind.PlanKind.{PlanKind}
use Rattle.tree_format.specs.declared.kind.PlanKind.TheVariants.{BadLine, BadNumber, UnknownName, TooManyNodes, WrongCount, EarlyEnd, NoPlace, StillOpen}
use Rattle.tree_format.specs.declared.kind.PlanFault.{PlanFault}
use Rattle.tree_format.specs.declared.due.Due.{Due}
use Rattle.tree_format.specs.declared.plan_line.Stage.{Stage}
use Rattle.tree_format.specs.declared.plan_line.Dialect.{Dialect}
use Rattle.tree_format.specs.declared.plan_line.Stage.TheVariants as due
use Rattle.tree_format.specs.declared.plan_line.PlanLine.{PlanLine}
use Rattle.tree_format.specs.declared.plan_item.PlanItem.{PlanItem}
use Rattle.tree_format.specs.declared.plan_item.Step.{Step}
use Rattle.tree_format.specs.declared.plan_item.Step.TheVariants.{More, Item, Fault}
use Rattle.text_rows.specs.Lines.{pieces_of, HasNoFeed, lines_text}
use Rattle.text_rows.specs.Fields.{exact_fields}
use Rattle.text_rows.specs.LineMachine.{AreTaken}
use Rattle.text_rows.proofs.LineMachine.{taken_once, taken_last}
use Rattle.text_rows.proofs.Splits.{split_piece, split_whole}
use Rattle.tree_format.specs.Reading.{line_at, at_start, next, taken, is_ended, at_line_number, Progress, unread, behind, plan_lines, text_at}
use Rattle.text_rows.specs.Kinds.{first_kind, fault_of}
use Rattle.tree_format.specs.FeedSteps.{Stand, stand_at, byte_fed}
use Rattle.tree_format.specs.Feeding.{items_of, told, HasRead, Tells, IsDecided, IsWhole, IsCutOff, GoesOn}
use Rattle.tree_format.specs.FeedLaws.{CutAnywhere, ItemsOfThePlan, EachFaultIsMet, FaultIsLast, AreInOrder, ItemsInOrder, GatheredIsSummary}
use Rattle.tree_format.proofs.AtLines.{ended_stage, unended_stage, unended, at_fault, at_early, at_end}
use Rattle.tree_format.proofs.Spelled.{IsReadAt, family_at, lines_on}
use Rattle.tree_format.proofs.Tables.{kinds_by_table}
use Rattle.tree_format.proofs.Gatherings.{gathered_summary}
use Rattle.tree_format.proofs.Feedings.{lines_more, text_more}
use Rattle.tree_format.proofs.BytesFed.{byte_read}
use Rattle.tree_format.proofs.FedPieces.{nothing_read, read_whole, read_early}

pub gathered_is_summary : GatheredIsSummary
gathered_is_summary line = gathered_summary line

-- The bytes decide the lines.

pieces_lines : (before : List (List ℕ)) (begun : List ℕ) → All HasNoFeed before → HasNoFeed begun → pieces_of (lines_text before ++ begun) ≡ before ++ begun ∷ []
pieces_lines [] begun feeds free = split_whole 10 begun free
pieces_lines (line ∷ before) begun feeds free =
    let begins : lines_text (line ∷ before) ++ begun ≡ line ++ 10 ∷ (lines_text before ++ begun) = simp append_assoc in
    ap pieces_of begins ∙ split_piece 10 line (lines_text before ++ begun) (All-head HasNoFeed line before feeds) ∙ ap (λ (xs : List (List ℕ)). line ∷ xs) (pieces_lines before begun (All-tail HasNoFeed line before feeds) free)

heads_same : {X : Type 0} (x y : X) (xs ys : List X) → x ∷ xs ≡ y ∷ ys → (x ≡ y) × (xs ≡ ys)
heads_same x y xs ys e = (cc, cc)

ends_same : {X : Type 0} (xs ys : List X) (x y : X) → xs ++ x ∷ [] ≡ ys ++ y ∷ [] → (xs ≡ ys) × (x ≡ y)
ends_same [] [] x y e = (refl, (heads_same x y [] [] e).0)
ends_same [] (b ∷ ys) x y e = let same = ap length e in absurd (omega (arith, same, length-append ys (y ∷ [])))
ends_same (a ∷ xs) [] x y e = let same = ap length e in absurd (omega (arith, same, length-append xs (x ∷ [])))
ends_same {X = X} (a ∷ xs) (b ∷ ys) x y e =
    let heads = heads_same a b (xs ++ x ∷ []) (ys ++ y ∷ []) e in
    let rest = ends_same xs ys x y heads.1 in
    (ap (λ (c : X). c ∷ xs) heads.0 ∙ ap (λ (cs : List X). b ∷ cs) rest.0, rest.1)

pub cut_anywhere : CutAnywhere
cut_anywhere family p fed items others feed other a b =
    let text : lines_text a.before ++ a.begun ≡ lines_text b.before ++ b.begun = sym a.whole ∙ b.whole in
    let pieces = ends_same a.before b.before a.begun b.begun (sym (pieces_lines a.before a.begun a.feeds a.open_line) ∙ ap pieces_of text ∙ pieces_lines b.before b.begun b.feeds b.open_line) in
    let same = taken_once (plan_lines p) b.before (unread family) a.reached b.reached (subst (λ (lines : List (List ℕ)). AreTaken (plan_lines p) (unread family) lines a.reached) pieces.0 a.right) b.right in (
      a.tell ∙ ap (λ (s : Progress). told s.due.stage s.plan) same ∙ sym b.tell,
      a.stand
          ∙ ap (λ (lines : List (List ℕ)). stand_at (1 + length lines) a.reached.due a.reached.plan a.begun) pieces.0
          ∙ ap (λ (line : List ℕ). stand_at (1 + length b.before) a.reached.due a.reached.plan line) pieces.1
          ∙ ap (λ (s : Progress). stand_at (1 + length b.before) s.due s.plan b.begun) same
          ∙ sym b.stand,
    )

-- No fault is decided where the lines are right so far.

table_early : (a b c d e f g : Bool) → first_kind ((a, BadLine) ∷ (b, BadNumber) ∷ (c, UnknownName) ∷ (d, TooManyNodes) ∷ (e, WrongCount) ∷ (f, NoPlace) ∷ (g, StillOpen) ∷ []) ≡ Some EarlyEnd → ⊥
table_early true b c d e f g is = let bad : ⊥ = cc in bad
table_early false true c d e f g is = let bad : ⊥ = cc in bad
table_early false false true d e f g is = let bad : ⊥ = cc in bad
table_early false false false true e f g is = let bad : ⊥ = cc in bad
table_early false false false false true f g is = let bad : ⊥ = cc in bad
table_early false false false false false true g is = let bad : ⊥ = cc in bad
table_early false false false false false false true is = let bad : ⊥ = cc in bad
table_early false false false false false false false is = let bad : ⊥ = cc in bad

-- a whole line doesn't end early
never_early : (p : Problem) (d : Due) (fields : List (List ℕ)) → line_at p d fields ≡ Err EarlyEnd → ⊥
never_early p d fields e = table_early _ _ _ _ _ _ _ (sym (kinds_by_table p d fields) ∙ ap fault_of e)

by_test : (b : Bool) → (b ≡ true → ⊥) → (b ≡ false → ⊥) → ⊥
by_test true t f = t refl
by_test false t f = f refl

same_fault : (f g : PlanFault) → ◌≡◌ {A = Result GapPlan PlanFault} (Err f) (Err g) → f ≡ g
same_fault f g e = cc

no_both : (plan : GapPlan) (f : PlanFault) → ◌≡◌ {A = Result GapPlan PlanFault} (Err f) (Ok plan) → ⊥
no_both plan f e = let bad : ⊥ = cc in bad

module _ (family : Family) (p : Problem) (fed : List ℕ) (items : List PlanItem) (feed : Stand) (read : HasRead family p fed items feed) (goes : read.reached.due.stage ≡ due.Ended → ⊥) where
  abbrev number : ℕ
  number = 1 + length read.before

  -- with its line feed the line has another fault, or none
  fed_said : (said : PlanLine) → line_at p read.reached.due (exact_fields read.begun) ≡ Ok said → text_at family p (lines_text read.before ++ (read.begun ++ 10 ∷ [])) ≡ Err (at_line_number number EarlyEnd) → ⊥
  fed_said said e early =
      let lines = read.before ++ read.begun ∷ [] in
      let t : Progress = record { due = next p read.reached.due said; plan = taken read.reached.plan said } in
      let feeds = All-push HasNoFeed read.before read.begun read.feeds read.open_line in
      let right = taken_last (plan_lines p) read.before (unread family) read.reached t read.begun read.right (ap (behind p read.reached) e) (unended read.reached.due.stage goes) in
      let text = ap (text_at family p) (lines_more read.before read.begun []) ∙ early in
      by_test (is_ended t.due.stage)
      (λ ended. no_both t.plan (at_line_number number EarlyEnd) (sym text ∙ at_end family p lines t feeds right [] (ended_stage t.due.stage ended)))
      (λ unended.
      let again = same_fault _ _ (sym text ∙ at_early family p lines t feeds right [] (unended_stage t.due.stage unended) (All-nil (λ (b : ℕ). b ≡ 10 → ⊥))) in
      let same = ap (λ (f : PlanFault). f.line) again in
      omega (arith, same, length-append read.before (read.begun ∷ [])))

  line_fed : (r : Result PlanLine PlanKind) → line_at p read.reached.due (exact_fields read.begun) ≡ r → text_at family p (lines_text read.before ++ (read.begun ++ 10 ∷ [])) ≡ Err (at_line_number number EarlyEnd) → ⊥
  line_fed (Ok said) e early = fed_said said e early
  line_fed (Err kind) e early =
      let wrong = at_fault family p read.before read.reached read.feeds read.right kind read.begun [] goes read.open_line e in
      let same = ap (λ (f : PlanFault). f.kind) (same_fault _ _ (sym wrong ∙ early)) in
      never_early p read.reached.due (exact_fields read.begun) (e ∙ ap Err same)

pub fault_is_last : FaultIsLast
fault_is_last family p fed items fault (feed, read) decided =
    let at_once : text_at family p fed ≡ Err fault = ap (text_at family p) (sym (append-nil fed)) ∙ decided [] in
    let due_is : feed.due.stage ≡ read.reached.due.stage = ap (λ (s : Stand). s.due.stage) read.stand in
    by_test (is_ended read.reached.due.stage)
    (λ ended. let whole = read_whole family p fed items feed read (due_is ∙ ended_stage read.reached.due.stage ended) in no_both whole.plan fault (sym at_once ∙ whole.spelled))
    (λ unended.
    let goes = unended_stage read.reached.due.stage unended in
    let early = read_early family p fed items feed read (λ over. goes (sym due_is ∙ over)) in
    let same : fault ≡ at_line_number (1 + length read.before) EarlyEnd = same_fault _ _ (sym at_once ∙ early.first) ∙ ap (λ (s : Stand). at_line_number s.number EarlyEnd) read.stand in
    line_fed family p fed items feed read goes _ refl (ap (text_at family p) (sym (text_more fed read.begun read.before 10 [] read.whole) ∙ append_assoc fed (10 ∷ []) []) ∙ decided (10 ∷ []) ∙ ap Err same))

-- A step is what the bytes decide.

longer : {X : Type 0} (xs : List X) (x : X) → xs ≡ xs ++ x ∷ [] → ⊥
longer xs x e = let same = ap length e in omega (arith, same, length-append xs (x ∷ []))

-- a fault that is decided is answered
pub fault_answered : (family : Family) (p : Problem) (bytes : List ℕ) (items : List PlanItem) (step : Step) (feed : Stand) → GoesOn family p bytes items step feed → (fault : PlanFault) → IsDecided family p bytes fault → step ≡ Fault fault
fault_answered family p bytes items More feed goes fault decided = absurd (fault_is_last family p bytes items fault (feed, goes) decided)
fault_answered family p bytes items (Item told) feed goes fault decided = absurd (fault_is_last family p bytes (items ++ told ∷ []) fault (feed, goes.0) decided)
fault_answered family p bytes items (Fault found) feed goes fault decided = ap Fault (same_fault found fault (sym (goes []) ∙ decided []))

-- and an item that is complete
pub item_answered : (family : Family) (p : Problem) (bytes : List ℕ) (items : List PlanItem) (step : Step) (feed : Stand) → GoesOn family p bytes items step feed → (told : PlanItem) → Tells family p bytes (items ++ told ∷ []) → step ≡ Item told
item_answered family p bytes items More feed goes told (other, tells) = absurd (longer items told (cut_anywhere family p bytes items (items ++ told ∷ []) feed other goes tells).0)
item_answered family p bytes items (Item found) feed goes told (other, tells) =
    let same = (cut_anywhere family p bytes (items ++ found ∷ []) (items ++ told ∷ []) feed other goes.0 tells).0 in
    ap Item (ends_same items items found told same).1
item_answered family p bytes items (Fault found) feed goes told tells = absurd (fault_is_last family p bytes (items ++ told ∷ []) found tells goes)

-- Whole texts.

-- so many bytes more decide a fault
record Decides (family : Family) (p : Problem) (fed more : List ℕ) : Type 0 where
  count : ℕ
  fault : PlanFault
  within : count ≤ length more
  decided : IsDecided family p (fed ++ take count more) fault

-- these bytes more tell these items more
record TellsMore (family : Family) (p : Problem) (fed more : List ℕ) (items : List PlanItem) : Type 0 where
  later : List PlanItem
  feed : Stand
  read : HasRead family p (fed ++ more) (items ++ later) feed

abbrev Runs : Family → Problem → List ℕ → List ℕ → List PlanItem → Type 0
Runs family p fed more items = Decides family p fed more ⊎ TellsMore family p fed more items

-- behind a byte more
runs_behind : (family : Family) (p : Problem) (fed more : List ℕ) (c : ℕ) (items new later : List PlanItem) → new ≡ items ++ later → Runs family p (fed ++ c ∷ []) more new → Runs family p fed (c ∷ more) items
runs_behind family p fed more c items new later same runs = elim runs [
  | inl found ↦ inl (record {
    count = suc found.count;
    fault = found.fault;
    within = omega (arith, found.within);
    decided = subst (λ (t : List ℕ). IsDecided family p t found.fault) (append_assoc fed (c ∷ []) (take found.count more)) found.decided;
  })
  | inr told ↦ inr (record {
    later = later ++ told.later;
    feed = told.feed;
    read = subst (λ (t : List ℕ). HasRead family p t (items ++ (later ++ told.later)) told.feed) (append_assoc fed (c ∷ []) more)
        (subst (λ (xs : List PlanItem). HasRead family p ((fed ++ c ∷ []) ++ more) xs told.feed) (ap (λ (xs : List PlanItem). xs ++ told.later) same ∙ append_assoc items later told.later) told.read);
  })
]

run_step : (family : Family) (p : Problem) (fed more : List ℕ) (c : ℕ) (items : List PlanItem) (step : Step) (feed : Stand) → GoesOn family p (fed ++ c ∷ []) items step feed → ((new : List PlanItem) → HasRead family p (fed ++ c ∷ []) new feed → Runs family p (fed ++ c ∷ []) more new) → Runs family p fed (c ∷ more) items
run_step family p fed more c items More feed goes later = runs_behind family p fed more c items items [] (sym (append-nil items)) (later items goes)
run_step family p fed more c items (Item told) feed goes later = runs_behind family p fed more c items (items ++ told ∷ []) (told ∷ []) refl (later (items ++ told ∷ []) goes.0)
run_step family p fed more c items (Fault fault) feed goes later = inl (record { count = 1; fault = fault; within = omega arith; decided = goes })

run : (family : Family) (p : Problem) → IsProblem p → (more fed : List ℕ) (items : List PlanItem) (feed : Stand) → HasRead family p fed items feed → Runs family p fed more items
run family p h [] fed items feed read = inr (record {
  later = [];
  feed = feed;
  read = subst (λ (t : List ℕ). HasRead family p t (items ++ []) feed) (sym (append-nil fed)) (subst (λ (xs : List PlanItem). HasRead family p fed xs feed) (sym (append-nil items)) read);
})
run family p h (c ∷ more) fed items feed read =
    run_step family p fed more c items (byte_fed p c feed).step (byte_fed p c feed).stand (byte_read family p h fed items feed read c) (λ new read'. run family p h more (fed ++ c ∷ []) new (byte_fed p c feed).stand read')

-- bytes that are right so far are the text of a plan or end early
whole_or_early : (family : Family) (p : Problem) (fed : List ℕ) (items : List PlanItem) (feed : Stand) → HasRead family p fed items feed → IsWhole family p fed items ⊎ ((fault : PlanFault) × IsCutOff family p fed fault)
whole_or_early family p fed items feed read = by_end (is_ended feed.due.stage) (λ ended. read_whole family p fed items feed read (ended_stage feed.due.stage ended)) (λ unended. read_early family p fed items feed read (unended_stage feed.due.stage unended))
  where
    by_end : (b : Bool) → (b ≡ true → IsWhole family p fed items) → (b ≡ false → IsCutOff family p fed (at_line_number feed.number EarlyEnd)) → IsWhole family p fed items ⊎ ((fault : PlanFault) × IsCutOff family p fed fault)
    by_end true w e = inl (w refl)
    by_end false w e = inr (at_line_number feed.number EarlyEnd, e refl)

same_plan : (a b : GapPlan) → ◌≡◌ {A = Result GapPlan PlanFault} (Ok a) (Ok b) → a ≡ b
same_plan a b e = cc

pub items_of_the_plan : ItemsOfThePlan
items_of_the_plan family p fed more items plan h (feed, read) e = elim (run family p h more fed items feed read) [
  | inl found ↦
      let text : (fed ++ take found.count more) ++ drop found.count more ≡ fed ++ more = append_assoc fed (take found.count more) (drop found.count more) ∙ ap (λ (t : List ℕ). fed ++ t) (take-append-drop found.count more) in
      absurd (no_both plan found.fault (sym (found.decided (drop found.count more)) ∙ ap (text_at family p) text ∙ e))
  | inr told ↦ elim (whole_or_early family p (fed ++ more) (items ++ told.later) told.feed told.read) [
    | inl whole ↦ (told.later, whole.tell ∙ ap items_of (same_plan whole.plan plan (sym whole.spelled ∙ e)))
    | inr early ↦ absurd (no_both plan early.0 (sym early.1.first ∙ e))
  ]
]

pub each_fault_is_met : EachFaultIsMet
each_fault_is_met family p text fault h e =
    elim (run family p h text [] [] _ (nothing_read family p (at_start family) [] _ refl refl refl)) [
      | inl found ↦
          let again = found.decided (drop found.count text) ∙ refl in
          let same = same_fault found.fault fault (sym again ∙ ap (text_at family p) (take-append-drop found.count text) ∙ e) in
          inl (record { count = found.count; within = found.within; decided = subst (IsDecided family p (take found.count text)) same found.decided })
      | inr told ↦ elim (whole_or_early family p text told.later told.feed told.read) [
        | inl whole ↦ absurd (no_both whole.plan fault (sym e ∙ whole.spelled))
        | inr early ↦ inr (told.later, (told.feed, told.read), subst (IsCutOff family p text) (same_fault early.0 fault (sym early.1.first ∙ e)) early.1)
      ]
    ]

-- as many records as there may be
few_told : (family : Family) (v : Dialect) (n : ℕ) → family_of v ≡ family → n ≤ most_records (family_of v) → n ≤ most_records family
few_told family v n e few = subst (λ (f : Family). n ≤ most_records f) e few

in_order : (family : Family) (p : Problem) (v : Dialect) (expected : List (List ℕ)) (stage : Stage) (plan : GapPlan) → family_at v stage ≡ family → IsReadAt p v expected stage plan → (told stage plan ≡ []) ⊎ AreInOrder family (told stage plan)
in_order family p v expected (due.Version f) plan e read = inl refl
in_order family p v expected due.Path plan e read = inl refl
in_order family p v expected due.Chance plan e read = inl refl
in_order family p v expected due.Ceiling plan e read = inl refl
in_order family p v expected due.Count plan e read = inl refl
in_order family p v expected (due.Records left) plan e read = inr (record {
  standing = plan.standing;
  weight = plan.weight;
  ceiling = plan.ceiling;
  numbers = plan.numbers;
  nodes = length plan.nodes + left;
  records = plan.nodes;
  few = few_told family v (length plan.nodes + left) e read.1.few;
  within = omega arith;
  order = inl refl;
})
in_order family p v expected due.Ended plan e read = inr (record {
  standing = plan.standing;
  weight = plan.weight;
  ceiling = plan.ceiling;
  numbers = plan.numbers;
  nodes = length plan.nodes;
  records = plan.nodes;
  few = few_told family v (length plan.nodes) e (let few = read.1.few in omega (arith, few));
  within = omega arith;
  order = inr (refl, refl);
})

pub items_in_order : ItemsInOrder
items_in_order family p fed items h (feed, read) =
    let on = lines_on p h read.before (unread family) read.reached (refl, refl) read.right in
    let d = read.reached.due in
    subst (λ (xs : List PlanItem). (xs ≡ []) ⊎ AreInOrder family xs) (sym read.tell) (in_order family p d.dialect d.expected d.stage read.reached.plan on.family on.read)
