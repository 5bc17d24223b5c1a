-- Reading a scenario's front ignores what follows a line with the one word `end`.
use Rattle.std.proofs.Common.{◌≡◌, ℕ, zero, suc, ◌+◌, ◌≤◌, Bool, true, false, List, [], ◌∷◌, ◌++◌, length, Some, None, Ok, Err, refl, sym, ap, ◌∙◌, subst, arith, append_assoc, length-append}
use Rattle.std.specs.Prelude.{codes, not, nat_lt, ◌==◌, if◌then◌else◌}
use Rattle.std.specs.List.{list_all, onto_first}
use Rattle.scenario_text.specs.declared.draft.Stage.{Stage}
use Rattle.scenario_text.specs.declared.draft.Stage.TheVariants as due
use Rattle.scenario_text.specs.declared.draft.TextVersion.{TextVersion}
use Rattle.scenario_text.specs.declared.draft.TextVersion.TheVariants.{One, Two}
use Rattle.scenario_text.specs.declared.line.Line.TheVariants.{End}
use Rattle.scenario_text.specs.declared.kind.TextKind.TheVariants.{NotText, BadLine}
use Rattle.text_rows.specs.Lines.{lines_of, after_lines}
use Rattle.text_rows.specs.Fields.{fields_of, is_text_byte}
use Rattle.scenario_text.specs.Fields.{says_nothing}
use Rattle.scenario_text.specs.State.{State, blank_state}
use Rattle.text_rows.specs.LineMachine.{read_from}
use Rattle.text_rows.proofs.LineMachine.{end_cuts}
use Rattle.scenario_text.specs.Reading.{Front, line_at, is_ended, scenario_lines, front_of}
use Rattle.scenario_text.specs.KindTable.{line_due, tests}
use Rattle.scenario_text.specs.Grammar.{added, unless_any, row_at, fields_at}
use Rattle.scenario_text.proofs.Passed.{passed}
use Rattle.scenario_text.specs.Laws.{EndsWithEnd, FrontIgnoresRest}
use Rattle.scenario_text.proofs.SoundFields.{not_refused}
use Rattle.text_rows.proofs.Results.{err_ok}
use Rattle.scenario_text.proofs.FrontLines.{front_line}

-- Such a line is the last one, or has a fault.

ended : (s t : State) → row_at End s [] ≡ Ok t → t.stage ≡ due.Ended
ended s t e = ap (λ (u : State). u.stage) (sym (passed (tests s (Some End) []) (record s { stage = due.Ended }) t s e).0)

no_end : (s t : State) → unless_any (tests s None []) s ≡ Ok t → t.stage ≡ due.Ended
no_end s t e = absurd (err_ok BadLine t e)

stage_ends : (version : TextVersion) (stage : Stage) (named : Bool) (s t : State) → unless_any (tests s (line_due version stage named (codes "end")) []) (added (line_due version stage named (codes "end")) s []) ≡ Ok t → t.stage ≡ due.Ended
stage_ends v due.Version named s t e = no_end s t e
stage_ends v due.Horizon named s t e = no_end s t e
stage_ends v due.Parts named s t e = no_end s t e
stage_ends One due.Cells true s t e = no_end s t e
stage_ends One due.Cells false s t e = no_end s t e
stage_ends Two due.Cells true s t e = no_end s t e
stage_ends Two due.Cells false s t e = no_end s t e
stage_ends One due.Positions named s t e = no_end s t e
stage_ends Two due.Positions named s t e = no_end s t e
stage_ends v due.Start named s t e = no_end s t e
stage_ends v due.First named s t e = no_end s t e
stage_ends One due.Rows named s t e = ended s t e
stage_ends Two due.Rows named s t e = ended s t e
stage_ends v due.Ended named s t e = no_end s t e

line_ends : (s t : State) (line : List ℕ) → fields_of line ≡ codes "end" ∷ [] → line_at s line ≡ Ok t → t.stage ≡ due.Ended
unfolding line_at
line_ends s t line word e =
    let reads : List (List ℕ) → Type 0 =
    λ fields. (if says_nothing fields then Ok s else (if not (list_all is_text_byte line) then Err NotText else fields_at s fields)) ≡ Ok t in
    stage_ends s.version s.stage (nat_lt 0 (length s.names)) s t (not_refused (not (list_all is_text_byte line)) NotText _ t (subst reads word e)).1

-- Lines behind a line feed.

onto_some : (c : ℕ) (pieces : List (List ℕ)) → 1 ≤ length pieces → length (onto_first c pieces) ≡ length pieces
onto_some c [] some = absurd (omega arith)
onto_some c (piece ∷ pieces) some = refl

onto_join : (c : ℕ) (pieces more : List (List ℕ)) → 1 ≤ length pieces → onto_first c (pieces ++ more) ≡ onto_first c pieces ++ more
onto_join c [] more some = absurd (omega arith)
onto_join c (piece ∷ pieces) more some = refl

some_by : (b : Bool) (c : ℕ) (pieces : List (List ℕ)) → 1 ≤ length pieces → 1 ≤ length (if b then [] ∷ pieces else onto_first c pieces)
some_by true c pieces some = omega arith
some_by false c pieces some = omega (arith, some, onto_some c pieces some)

some_lines : (start : List ℕ) → 1 ≤ length (lines_of (start ++ 10 ∷ []))
unfolding lines_of
some_lines [] = omega arith
some_lines (c ∷ start) = some_by (c == 10) c (lines_of (start ++ 10 ∷ [])) (some_lines start)

join_by : (b : Bool) (c : ℕ) (pieces more whole : List (List ℕ)) → 1 ≤ length pieces → whole ≡ pieces ++ more → (if b then [] ∷ whole else onto_first c whole) ≡ (if b then [] ∷ pieces else onto_first c pieces) ++ more
join_by true c pieces more whole some e = ap (λ (ls : List (List ℕ)). [] ∷ ls) e
join_by false c pieces more whole some e = ap (onto_first c) e ∙ onto_join c pieces more some

pub lines_join : (start rest : List ℕ) → lines_of (start ++ 10 ∷ rest) ≡ lines_of (start ++ 10 ∷ []) ++ lines_of rest
unfolding lines_of
lines_join [] rest = refl
lines_join (c ∷ start) rest = join_by (c == 10) c (lines_of (start ++ 10 ∷ [])) (lines_of rest) (lines_of (start ++ 10 ∷ rest)) (some_lines start) (lines_join start rest)

fewer_by : (b : Bool) (c n : ℕ) (pieces : List (List ℕ)) {P : Type 0} → 1 ≤ length pieces → suc n ≤ length (if b then [] ∷ pieces else onto_first c pieces) → (b ≡ true → n ≤ length pieces → P) → (b ≡ false → suc n ≤ length pieces → P) → P
fewer_by true c n pieces some le here further = here refl (omega (arith, le))
fewer_by false c n pieces some le here further = further refl (omega (arith, le, onto_some c pieces some))

pub after_join : (n : ℕ) (start rest : List ℕ) → n ≤ length (lines_of (start ++ 10 ∷ [])) → after_lines n (start ++ 10 ∷ rest) ≡ after_lines n (start ++ 10 ∷ []) ++ rest
unfolding lines_of after_lines
after_join zero start rest le = sym (append_assoc start (10 ∷ []) rest)
after_join (suc zero) [] rest le = refl
after_join (suc (suc n)) [] rest le = absurd (omega (arith, le))
after_join (suc n) (c ∷ start) rest le =
    fewer_by (c == 10) c n (lines_of (start ++ 10 ∷ [])) (some_lines start) le
    (λ feed less. rw feed (after_join n start rest less))
    (λ other less. rw other (after_join (suc n) start rest less))

-- The front, and its length.

same_front : (front rest : List ℕ) → EndsWithEnd front → front_of (front ++ rest) ≡ front_of front
same_front front rest h =
    let start = h.feed.0 in
    let lines : lines_of (front ++ rest) ≡ h.before ++ h.last ∷ lines_of rest =
    ap (λ (t : List ℕ). lines_of (t ++ rest)) h.feed.1
    ∙ ap lines_of (append_assoc start (10 ∷ []) rest)
    ∙ lines_join start rest
    ∙ ap (λ (t : List ℕ). lines_of t ++ lines_of rest) (sym h.feed.1)
    ∙ ap (λ (ls : List (List ℕ)). ls ++ lines_of rest) h.lines
    ∙ append_assoc h.before (h.last ∷ []) (lines_of rest) in
    ap (read_from scenario_lines blank_state 1) lines
    ∙ end_cuts scenario_lines h.before blank_state 1 h.last (lines_of rest) [] (λ s t e. ap is_ended (line_ends s t h.last h.word e))
    ∙ ap (read_from scenario_lines blank_state 1) (sym h.lines)

same_rest : (front rest : List ℕ) (read : Front) → EndsWithEnd front → front_of front ≡ Ok read → after_lines read.line (front ++ rest) ≡ after_lines read.line front ++ rest
same_rest front rest read h reads =
    let start = h.feed.0 in
    let within : read.line ≤ length (lines_of (start ++ 10 ∷ [])) = subst (λ (t : List ℕ). read.line ≤ length (lines_of t)) h.feed.1 (front_line front read reads) in
    ap (λ (t : List ℕ). after_lines read.line (t ++ rest)) h.feed.1
    ∙ ap (after_lines read.line) (append_assoc start (10 ∷ []) rest)
    ∙ after_join read.line start rest within
    ∙ ap (λ (t : List ℕ). after_lines read.line t ++ rest) (sym h.feed.1)

same_length : (front rest : List ℕ) (read : Front) → EndsWithEnd front → front_of front ≡ Ok read → length (after_lines read.line (front ++ rest)) ≡ length (after_lines read.line front) + length rest
same_length front rest read h reads = ap (λ (t : List ℕ). length t) (same_rest front rest read h reads) ∙ length-append (after_lines read.line front) rest

pub front_ignores_rest : FrontIgnoresRest
front_ignores_rest front rest h = (
  same_front front rest h,
  λ p n. (
    λ g. record {
      front = g.front;
      read = same_front front rest h ∙ g.read;
      says = g.says;
      bytes = omega (arith, g.bytes, same_length front rest g.front h g.read, length-append front rest);
    },
    λ g. let read : front_of front ≡ Ok g.front = sym (same_front front rest h) ∙ g.read in record {
      front = g.front;
      read = read;
      says = g.says;
      bytes = omega (arith, g.bytes, same_length front rest g.front h read, length-append front rest);
    },
  ),
)
