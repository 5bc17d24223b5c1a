-- What a byte more of a plan's text brings, or bytes of a line and its line feed.
use Rattle.std.proofs.Common.{◌≡◌, ℕ, ◌+◌, ◌-◌, Bool, true, false, cond, List, [], ◌∷◌, ◌++◌, map, length, take, Result, Ok, Err, refl, sym, ap, subst, ◌∙◌, arith, append_assoc, length-append, inl, inr}
use Rattle.std.specs.Prelude.{All, ◌==◌}
use Rattle.std.proofs.lemmas.Bool.{cond_both, eqb-true, eqb-false}
use Rattle.std.proofs.lemmas.List.{map-append}
use Rattle.std.proofs.lemmas.List.Elements.{All-nil, All-cons, All-push, All-append, All-take}
use Rattle.search_model.specs.Problem.{Problem, IsProblem}
use Rattle.bound_tree.specs.declared.gap.GapKind.{GapKind}
use Rattle.bound_tree.specs.declared.gap.GapKind.TheVariants.{Closed, Waiting}
use Rattle.bound_tree.specs.declared.gap.GapNode.{GapNode}
use Rattle.bound_tree.specs.declared.gap.Numbers.{Numbers}
use Rattle.bound_tree.specs.declared.gap.GapPlan.{GapPlan}
use Rattle.tree_format.specs.declared.kind.PlanKind.{PlanKind}
use Rattle.tree_format.specs.declared.kind.PlanKind.TheVariants.{BadLine, Rest}
use Rattle.search_model.specs.Legal.{IsLegal}
use Rattle.tree_format.specs.declared.due.Due.{Due}
use Rattle.tree_format.specs.declared.plan_line.Dialect.{Dialect}
use Rattle.tree_format.specs.declared.plan_line.Family.{Family}
use Rattle.tree_format.specs.declared.plan_line.Family.TheVariants.{Plans, Gaps}
use Rattle.tree_format.specs.Dialects.{family_of, most_records, has_open, prefixes_in, numbers_in}
use Rattle.tree_format.specs.declared.plan_line.Stage.{Stage}
use Rattle.tree_format.specs.declared.plan_line.Stage.TheVariants as due
use Rattle.tree_format.specs.declared.plan_line.PlanLine.{PlanLine}
use Rattle.tree_format.specs.declared.plan_line.PlanLine.TheVariants.{Version, Path, Chance, Ceiling, Count, Node, End}
use Rattle.tree_format.specs.declared.plan_item.PlanItem.{PlanItem}
use Rattle.tree_format.specs.declared.plan_item.PlanItem.TheVariants as item
use Rattle.tree_format.specs.declared.plan_item.Step.{Step}
use Rattle.tree_format.specs.declared.plan_item.Step.TheVariants.{More, Item, Fault}
use Rattle.text_rows.specs.Fields.{exact_fields}
use Rattle.text_rows.specs.Lines.{HasNoFeed, lines_text}
use Rattle.text_rows.proofs.LineMachine.{taken_last}
use Rattle.text_rows.proofs.Results.{err_ok}
use Rattle.tree_format.specs.Reading.{line_at, stage_line, next, taken, is_ended, at_line_number, unread, behind, plan_lines, unless_more, text_at}
use Rattle.tree_format.specs.Gathering.{Gathered, nothing_gathered, gathered}
use Rattle.tree_format.specs.FeedSteps.{Stand, Moved, stand_at, moved, step_of, line_ended, line_begun, byte_fed}
use Rattle.tree_format.specs.PlanText.{HasNodeLetter}
use Rattle.tree_format.proofs.Families.{none_waits}
use Rattle.tree_format.specs.Feeding.{told, HasRead, Tells, IsDecided, IsKindOf, IsItem, GoesOn}
use Rattle.tree_format.proofs.AtLines.{ended_stage, unended_stage, unended, at_fault, at_end}
use Rattle.tree_format.proofs.SpelledLines.{version_told, path_told, chance_told, ceiling_told, count_told, record_told, IsRecordLine, record_printable, IsEndLine}
use Rattle.tree_format.proofs.Spelled.{IsReadAt, IsRead, family_due, expected_legal, lines_on, numbers_on}
use Rattle.tree_format.proofs.Gatherings.{gathered_append, gathered_judged}
use Rattle.tree_format.proofs.Feedings.{lines_more, text_more}

-- the items with a step more
abbrev StepTells : Family → Problem → List PlanItem → Step → List PlanItem → Type 0
StepTells family p old More new = new ≡ old
StepTells family p old (Item told) new = (new ≡ old ++ told ∷ []) × IsItem family p told
StepTells family p old (Fault fault) new = ⊥

-- at the end of a line that says this
abbrev LineTells : Problem → ℕ → Due → GapPlan → List ℕ → PlanLine → Type 0
LineTells p number d plan begun said =
    StepTells (family_due d) p (told d.stage plan) (step_of (stand_at number d plan begun) said) (told (next p d said).stage (taken plan said))

-- a kind for which a dialect has a letter may stand in its family
known_in : (v : Dialect) (family : Family) (kind : GapKind) → family_of v ≡ family → HasNodeLetter v kind → IsKindOf family kind
known_in v Plans (Closed kind) e known = tt
known_in v Plans (Waiting n) e known = absurd (let never : has_open v ≡ false = none_waits v e in let bad : ⊥ = cc in bad)
known_in v Gaps kind e known = tt

known_kind : (v : Dialect) (kind : GapKind) → HasNodeLetter v kind → IsKindOf (family_of v) kind
known_kind v kind known = known_in v (family_of v) kind refl known

-- no item is told by the line of the chance
nothing_told : (b : Bool) (plan : GapPlan) → told (cond b due.Ceiling due.Count) plan ≡ []
nothing_told true plan = refl
nothing_told false plan = refl

module _ (p : Problem) (h : IsProblem p) (number : ℕ) (plan : GapPlan) (begun : List ℕ) (v : Dialect) (expected fields : List (List ℕ)) (said : PlanLine) where
  abbrev at_stage : Stage → Due
  at_stage stage = record { dialect = v; stage = stage; expected = expected }

  record_tells : (left : ℕ) → All (IsLegal p) expected → IsRecordLine p v left expected fields said → LineTells p number (at_stage (due.Records left)) plan begun said
  record_tells left legal line =
      let r = line.node in
      let tree = plan.nodes in
      let head : ℕ → PlanItem = λ n. item.Head plan.standing plan.weight plan.ceiling plan.numbers n in
      let nodes : List GapNode → List PlanItem = map (λ r. item.Node r) in
      let long : length (tree ++ r ∷ []) + (left - 1) ≡ length tree + left = omega (arith, length-append tree (r ∷ []), line.more) in
      subst (LineTells p number (at_stage (due.Records left)) plan begun) (sym line.is) (
        ap (λ (n : ℕ). head n ∷ nodes (tree ++ r ∷ [])) long ∙ ap (λ (xs : List PlanItem). head (length tree + left) ∷ xs) (map-append (λ r. item.Node r) tree (r ∷ [])),
        record { printable = record_printable p h v left expected fields said legal line; kind = known_kind v r.kind line.lettered },
      )

  end_tells : (left : ℕ) → IsEndLine (prefixes_in v) left expected fields said → LineTells p number (at_stage (due.Records left)) plan begun said
  end_tells left line =
      let long : length plan.nodes ≡ length plan.nodes + left = omega (arith, line.none) in
      subst (LineTells p number (at_stage (due.Records left)) plan begun) (sym line.is) (
        ap (λ (n : ℕ). item.Head plan.standing plan.weight plan.ceiling plan.numbers n ∷ (map (λ r. item.Node r) plan.nodes ++ item.End ∷ [])) long,
        tt,
      )

  stage_tells : (stage : Stage) → plan.numbers ≡ numbers_in v → IsReadAt p v expected stage plan → stage_line p v stage expected fields ≡ Ok said → LineTells p number (at_stage stage) plan begun said
  stage_tells (due.Version family) numbers read e = subst (LineTells p number (at_stage (due.Version family)) plan begun) (sym (version_told family fields said e).is) refl
  stage_tells due.Path numbers read e = subst (LineTells p number (at_stage due.Path) plan begun) (sym (path_told p h fields said e).is) refl
  stage_tells due.Chance numbers read e = subst (LineTells p number (at_stage due.Chance) plan begun) (sym (chance_told fields said e).is) (nothing_told (has_open v) _)
  stage_tells due.Ceiling numbers read e = subst (LineTells p number (at_stage due.Ceiling) plan begun) (sym (ceiling_told fields said e).is) refl
  stage_tells due.Count numbers read e =
      let line = count_told (most_records (family_of v)) fields said e in
      let n = line.count in
      let (heading, (empty, nothing)) = read in
      let path = heading.chance.path in
      let head : ℕ → PlanItem = λ k. item.Head plan.standing plan.weight plan.ceiling plan.numbers k in
      let none : length {A = GapNode} [] + n ≡ n = omega arith in
      subst (LineTells p number (at_stage due.Count) plan begun) (sym line.is) (
        ap (λ (tree : List GapNode). head (length tree + n) ∷ map (λ r. item.Node r) tree) nothing
            ∙ ap (λ (k : ℕ). head k ∷ []) none
            ∙ ap (λ (own : Numbers). item.Head plan.standing plan.weight plan.ceiling own n ∷ []) numbers,
        record { positions = path.positions; some = path.some; short = path.short; few = line.few },
      )
  stage_tells (due.Records left) numbers read e = elim (record_told p h v left expected fields said e) [
    | inl line ↦ record_tells left read.1.legal line
    | inr line ↦ end_tells left line
  ]
  stage_tells due.Ended numbers read e = absurd (err_ok BadLine said e)

line_tells : (p : Problem) → IsProblem p → (number : ℕ) (plan : GapPlan) (begun : List ℕ) (d : Due) (fields : List (List ℕ)) (said : PlanLine) → plan.numbers ≡ numbers_in d.dialect → IsRead p d plan → line_at p d fields ≡ Ok said → LineTells p number d plan begun said
unfolding line_at
line_tells p h number plan begun d fields said numbers read e =
    cond_both _ _ _ (λ (x : Result PlanLine PlanKind). x ≡ Ok said → LineTells p number d plan begun said) (λ _ e'. absurd (err_ok BadLine said e')) (λ _ e'. stage_tells p h number plan begun d.dialect d.expected fields said d.stage numbers read e') e

moved_at : (p : Problem) (number : ℕ) (d : Due) (plan : GapPlan) (begun : List ℕ) (said : PlanLine) → moved p (stand_at number d plan begun) said ≡ stand_at (number + 1) (next p d said) (taken plan said) []
unfolding gathered
moved_at p number d plan begun (Version v) = refl
moved_at p number d plan begun (Path q) = refl
moved_at p number d plan begun (Chance v w) = refl
moved_at p number d plan begun (Ceiling n) = refl
moved_at p number d plan begun (Count n) = refl
moved_at p number d plan begun (Node r) = refl
moved_at p number d plan begun End = refl

-- what follows from a step, by the items that there are then
goes_on : (family : Family) (p : Problem) (fed : List ℕ) (items new : List PlanItem) (step : Step) (feed : Stand) → StepTells family p items step new → HasRead family p fed new feed → GoesOn family p fed items step feed
goes_on family p fed items new More feed tells read = subst (λ (xs : List PlanItem). HasRead family p fed xs feed) tells read
goes_on family p fed items new (Item told) feed tells read = (subst (λ (xs : List PlanItem). HasRead family p fed xs feed) tells.0 read, tells.1)
goes_on family p fed items new (Fault fault) feed tells read = absurd tells

-- whatever is kept of the line
abbrev pub with_line : Gathered → Stand → Stand
with_line g s = record { number = s.number; due = s.due; standing = s.standing; weight = s.weight; ceiling = s.ceiling; line = g }

-- what a line tells isn't what is kept of it
step_same : (s : Stand) (g : Gathered) (said : PlanLine) → step_of (with_line g s) said ≡ step_of s said
step_same s g (Version v) = refl
step_same s g (Path q) = refl
step_same s g (Chance v w) = refl
step_same s g (Ceiling n) = refl
step_same s g (Count n) = refl
step_same s g (Node r) = refl
step_same s g End = refl

-- what follows from a line feed
abbrev IsEnded : Family → Problem → List ℕ → List PlanItem → Stand → Result PlanLine PlanKind → Type 0
IsEnded family p fed items s r = GoesOn family p fed items (line_ended p s r).step (line_ended p s r).stand

same_ended : (family : Family) (p : Problem) (fed : List ℕ) (items : List PlanItem) (s : Stand) (g : Gathered) (r : Result PlanLine PlanKind) → IsEnded family p fed items s r → IsEnded family p fed items (with_line g s) r
same_ended family p fed items s g (Err kind) ended = ended
same_ended family p fed items s g (Ok said) ended = subst (λ (step : Step). GoesOn family p fed items step (moved p s said)) (sym (step_same s g said)) ended

module _ (family : Family) (p : Problem) (h : IsProblem p) (fed : List ℕ) (items : List PlanItem) (s : Stand) (read : HasRead family p fed items s) where
  abbrev d : Due
  d = read.reached.due

  abbrev plan : GapPlan
  plan = read.reached.plan

  abbrev number : ℕ
  number = 1 + length read.before

  abbrev here : Stand
  here = stand_at number d plan read.begun

  -- a byte behind the end
  byte_behind : (c : ℕ) → d.stage ≡ due.Ended → IsDecided family p (fed ++ c ∷ []) (at_line_number number Rest)
  byte_behind c ended = λ more.
      ap (text_at family p) (text_more fed read.begun read.before c more read.whole)
      ∙ at_end family p read.before read.reached read.feeds read.right (read.begun ++ c ∷ more) ended
      ∙ ap (λ (b : List ℕ). unless_more number (b ++ c ∷ more) plan) (read.behind_end ended)

  -- a line that says something
  line_said : (said : PlanLine) → (d.stage ≡ due.Ended → ⊥) → line_at p d (exact_fields read.begun) ≡ Ok said → HasRead family p (fed ++ 10 ∷ []) (told (next p d said).stage (taken plan said)) (moved p here said)
  line_said said goes e =
      let lines = read.before ++ read.begun ∷ [] in
      let later : number + 1 ≡ 1 + length lines = omega (arith, length-append read.before (read.begun ∷ [])) in
      record {
        before = lines;
        reached = record { due = next p d said; plan = taken plan said };
        begun = [];
        whole = ap (λ (t : List ℕ). t ++ 10 ∷ []) read.whole ∙ append_assoc (lines_text read.before) read.begun (10 ∷ []) ∙ sym (lines_more read.before read.begun []);
        feeds = All-push HasNoFeed read.before read.begun read.feeds read.open_line;
        open_line = All-nil (λ (b : ℕ). b ≡ 10 → ⊥);
        right = taken_last (plan_lines p) read.before (unread family) read.reached _ read.begun read.right (ap (behind p read.reached) e) (unended d.stage goes);
        behind_end = λ _. refl;
        tell = refl;
        stand = moved_at p number d plan read.begun said ∙ ap (λ (n : ℕ). stand_at n (next p d said) (taken plan said) []) later;
      }

  line_end : (r : Result PlanLine PlanKind) → (d.stage ≡ due.Ended → ⊥) → line_at p d (exact_fields read.begun) ≡ r → GoesOn family p (fed ++ 10 ∷ []) items (line_ended p here r).step (line_ended p here r).stand
  line_end (Err kind) goes e = λ more.
      ap (text_at family p) (text_more fed read.begun read.before 10 more read.whole) ∙ at_fault family p read.before read.reached read.feeds read.right kind read.begun more goes read.open_line e
  line_end (Ok said) goes e =
      let on = lines_on p h read.before (unread family) read.reached (refl, refl) read.right in
      let ends = told (next p d said).stage (taken plan said) in
      let tells : StepTells family p items (step_of here said) ends =
      subst (λ (xs : List PlanItem). StepTells family p xs (step_of here said) ends) (sym read.tell)
      (subst (λ (f : Family). StepTells f p (told d.stage plan) (step_of here said) ends) on.family (line_tells p h number plan read.begun d (exact_fields read.begun) said (numbers_on p read.before (unread family) read.reached refl read.right) on.read e)) in
      goes_on family p (fed ++ 10 ∷ []) items ends (step_of here said) (moved p here said) tells (line_said said goes e)

  -- bytes of the line that is due
  run_begun : (run : List ℕ) → (d.stage ≡ due.Ended → ⊥) → HasNoFeed run → HasRead family p (fed ++ run) items (with_line (gathered here.line run) here)
  run_begun run goes free = record {
    before = read.before;
    reached = read.reached;
    begun = read.begun ++ run;
    whole = ap (λ (t : List ℕ). t ++ run) read.whole ∙ append_assoc (lines_text read.before) read.begun run;
    feeds = read.feeds;
    open_line = All-append (λ (b : ℕ). b ≡ 10 → ⊥) read.begun run read.open_line free;
    right = read.right;
    behind_end = λ ended. absurd (goes ended);
    tell = read.tell;
    stand = ap (λ (g : Gathered). with_line g here) (sym (gathered_append read.begun run nothing_gathered));
  }

  byte_begun : (c : ℕ) → (d.stage ≡ due.Ended → ⊥) → (c ≡ 10 → ⊥) → HasRead family p (fed ++ c ∷ []) items (line_begun c here).stand
  unfolding gathered
  byte_begun c goes other = run_begun (c ∷ []) goes (All-cons (λ (b : ℕ). b ≡ 10 → ⊥) c [] other (All-nil (λ (b : ℕ). b ≡ 10 → ⊥)))

  byte_here : (c : ℕ) → GoesOn family p (fed ++ c ∷ []) items (byte_fed p c here).step (byte_fed p c here).stand
  byte_here c =
      let G : Moved → Type 0 = λ m. GoesOn family p (fed ++ c ∷ []) items m.step m.stand in
      cond_both (is_ended d.stage) _ _ G (λ ended. byte_behind c (ended_stage d.stage ended))
      (λ unended.
      let goes = unended_stage d.stage unended in
      cond_both (c == 10) _ (line_begun c here) G
      (λ feed. subst (λ (b : ℕ). GoesOn family p (fed ++ b ∷ []) items (line_ended p here (line_at p d (exact_fields here.line.text))).step (line_ended p here (line_at p d (exact_fields here.line.text))).stand) (sym (eqb-true c 10 feed))
      (line_end _ goes (sym (gathered_judged p h d read.begun))))
      (λ other. byte_begun c goes (eqb-false c 10 other)))

  pub byte_read : (c : ℕ) → GoesOn family p (fed ++ c ∷ []) items (byte_fed p c s).step (byte_fed p c s).stand
  byte_read c = subst (λ (t : Stand). GoesOn family p (fed ++ c ∷ []) items (byte_fed p c t).step (byte_fed p c t).stand) (sym read.stand) (byte_here c)

  stages : s.due.stage ≡ d.stage
  stages = ap (λ (t : Stand). t.due.stage) read.stand

  -- a byte behind the end
  pub behind_read : (c : ℕ) → s.due.stage ≡ due.Ended → IsDecided family p (fed ++ c ∷ []) (at_line_number s.number Rest)
  behind_read c ended = subst (λ (t : Stand). IsDecided family p (fed ++ c ∷ []) (at_line_number t.number Rest)) (sym read.stand) (byte_behind c (sym stages ∙ ended))

  -- bytes of the line that is due
  pub run_read : (run : List ℕ) → (s.due.stage ≡ due.Ended → ⊥) → HasNoFeed run → HasRead family p (fed ++ run) items (with_line (gathered s.line run) s)
  run_read run goes free = subst (λ (t : Stand). HasRead family p (fed ++ run) items (with_line (gathered t.line run) t)) (sym read.stand) (run_begun run (λ ended. goes (stages ∙ ended)) free)

  -- and each front of them
  pub run_tells : (run : List ℕ) → (s.due.stage ≡ due.Ended → ⊥) → HasNoFeed run → (rest : List ℕ) (n : ℕ) → take n rest ≡ take n run → Tells family p (fed ++ take n rest) items
  run_tells run goes free rest n same = subst (λ (bytes : List ℕ). Tells family p (fed ++ bytes) items) (sym same) (_, run_read (take n run) goes (All-take (λ (b : ℕ). b ≡ 10 → ⊥) n run free))

  -- its line feed
  feed_read : (r : Result PlanLine PlanKind) → (s.due.stage ≡ due.Ended → ⊥) → line_at p s.due (exact_fields s.line.text) ≡ r → IsEnded family p (fed ++ 10 ∷ []) items s r
  feed_read r goes e =
      let judged = gathered_judged p h d read.begun in
      let same = ap (λ (t : Stand). line_at p t.due (exact_fields t.line.text)) read.stand in
      subst (λ (t : Stand). IsEnded family p (fed ++ 10 ∷ []) items t r) (sym read.stand) (line_end r (λ ended. goes (stages ∙ ended)) (sym judged ∙ sym same ∙ e))

-- the last bytes of a line and its line feed, whatever is kept of them
pub line_read : (family : Family) (p : Problem) → IsProblem p → (fed : List ℕ) (items : List PlanItem) (s : Stand) → HasRead family p fed items s → (last : List ℕ) (g : Gathered) (r : Result PlanLine PlanKind) → (s.due.stage ≡ due.Ended → ⊥) → HasNoFeed last → line_at p s.due (exact_fields (gathered s.line last).text) ≡ r → IsEnded family p (fed ++ (last ++ 10 ∷ [])) items (with_line g s) r
line_read family p h fed items s read last g r goes free e =
    let t : Stand = with_line (gathered s.line last) s in
    let run = run_read family p h fed items s read last goes free in
    let ended = feed_read family p h (fed ++ last) items t run r goes e in
    same_ended family p (fed ++ (last ++ 10 ∷ [])) items t g r (subst (λ (bytes : List ℕ). IsEnded family p bytes items t r) (append_assoc fed last (10 ∷ [])) ended)

-- what is expected where bytes were read is legal
pub fed_legal : (family : Family) (p : Problem) → IsProblem p → (fed : List ℕ) (items : List PlanItem) (s : Stand) → HasRead family p fed items s → All (IsLegal p) s.due.expected
fed_legal family p h fed items s read =
    let on = lines_on p h read.before (unread family) read.reached (refl, refl) read.right in
    subst (λ (t : Stand). All (IsLegal p) t.due.expected) (sym read.stand) (expected_legal p read.reached.due read.reached.plan on.read)
