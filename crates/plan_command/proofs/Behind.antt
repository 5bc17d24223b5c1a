-- What stands behind the text of a scenario alone.
use Rattle.std.proofs.Common.{ℕ, zero, suc, ◌≡◌, ◌+◌, ◌≤◌, Bool, true, false, List, [], ◌∷◌, ◌++◌, length, drop, Option, Some, None, Result, Ok, Err, refl, sym, ap, ◌∙◌, subst, arith, append_assoc, length-append}
use Rattle.std.specs.Prelude.{◌||◌, ◌==◌, if◌then◌else◌}
use Rattle.std.specs.List.{list_all, onto_first}
use Rattle.std.proofs.lemmas.Bool.{and_parts, eqb-true}
use Rattle.std.proofs.Math.Seq.{drop-append_seam}
use Rattle.search_model.specs.Problem.{Problem}
use Rattle.text_rows.specs.Lines.{lines_of, after_lines}
use Rattle.text_rows.specs.Fields.{is_blank}
use Rattle.text_rows.specs.LineMachine.{read_from}
use Rattle.text_rows.proofs.LineMachine.{read_told, reads_to}
use Rattle.scenario_text.specs.declared.kind.TextFault.{TextFault}
use Rattle.scenario_text.specs.State.{blank_state}
use Rattle.scenario_text.specs.Reading.{Front, scenario_lines, first_said, unless_more, alone, front_of}
use Rattle.scenario_text.specs.Scenarios.{IsFront, IsTextOf}
use Rattle.scenario_text.proofs.EndLines.{lines_join, after_join}
use Rattle.scenario_text.proofs.FrontLines.{front_line}
use Rattle.plan_command.specs.Plans.{BeginsWith}
use Rattle.plan_command.specs.Spaces.{is_space}
use Rattle.plan_command.specs.Laws.{EndsInFeed}

-- Where nothing is said, all bytes are blanks and line feeds.

blank_space : (a b c d : Bool) → (a || (b || c)) ≡ true → ((a || b) || (c || d)) ≡ true
blank_space true b c d blank = refl
blank_space false true c d blank = refl
blank_space false false true d blank = refl
blank_space false false false d blank = let bad : ⊥ = cc in absurd bad

abbrev is_quiet : List ℕ → Bool
is_quiet line = list_all is_blank line

quiet_first : (c : ℕ) (lines : List (List ℕ)) → list_all is_quiet (onto_first c lines) ≡ true → (is_blank c ≡ true) × (list_all is_quiet lines ≡ true)
quiet_first c [] quiet = ((and_parts (is_blank c) true (and_parts (is_quiet (c ∷ [])) true quiet).0).0, refl)
quiet_first c (line ∷ lines) quiet =
    let parts = and_parts (is_quiet (c ∷ line)) (list_all is_quiet lines) quiet in
    let bytes = and_parts (is_blank c) (is_quiet line) parts.0 in
    (bytes.0, rw (bytes.1, parts.1) refl)

quiet_by : (b : Bool) (c : ℕ) (cs : List ℕ) (lines : List (List ℕ)) → (c == 10) ≡ b → (list_all is_quiet lines ≡ true → list_all is_space cs ≡ true) →
    list_all is_quiet (if b then [] ∷ lines else onto_first c lines) ≡ true → list_all is_space (c ∷ cs) ≡ true
quiet_by true c cs lines feed rest quiet = rw (eqb-true c 10 feed, rest quiet) refl
quiet_by false c cs lines other rest quiet =
    let parts = quiet_first c lines quiet in
    rw (blank_space (c == 32) (c == 9) (c == 13) (c == 10) parts.0, rest parts.1) refl

quiet_bytes : (text : List ℕ) → list_all is_quiet (lines_of text) ≡ true → list_all is_space text ≡ true
unfolding lines_of
quiet_bytes [] quiet = refl
quiet_bytes (c ∷ cs) quiet = quiet_by (c == 10) c cs (lines_of cs) refl (quiet_bytes cs) quiet

said_by : (b : Bool) (number : ℕ) (lines : List (List ℕ)) (more : Option ℕ) → (more ≡ None → list_all is_quiet lines ≡ true) → (if b then more else Some number) ≡ None → (b ≡ true) × (list_all is_quiet lines ≡ true)
said_by true number lines more rest none = (refl, rest none)
said_by false number lines more rest none = let bad : ⊥ = cc in absurd bad

quiet_lines : (lines : List (List ℕ)) (number : ℕ) → first_said number lines ≡ None → list_all is_quiet lines ≡ true
unfolding first_said
quiet_lines [] number none = refl
quiet_lines (line ∷ lines) number none =
    let parts = said_by (is_quiet line) number lines (first_said (number + 1) lines) (quiet_lines lines (number + 1)) none in
    rw (parts.0, parts.1) refl

-- A text is read alone.

more_none : (said : Option ℕ) (front read : Front) → unless_more said front ≡ Ok read → (said ≡ None) × (front ≡ read)
more_none None front read is = (refl, cc)
more_none (Some number) front read is = let bad : ⊥ = cc in absurd bad

abbrev IsSilentBehind : List ℕ → Front → Type 0
IsSilentBehind text read = (front_of text ≡ Ok read) × (first_said (read.line + 1) (lines_of (after_lines read.line text)) ≡ None)

alone_parts : (text : List ℕ) (read : Front) (r : Result Front TextFault) → front_of text ≡ r → alone text r ≡ Ok read → IsSilentBehind text read
alone_parts text read (Err fault) is same = let bad : ⊥ = cc in absurd bad
alone_parts text read (Ok front) is same =
    let (none, one) = more_none (first_said (front.line + 1) (lines_of (after_lines front.line text))) front read same in
    subst (IsSilentBehind text) one (is, none)

-- What follows the line feed at its end.

-- the same is read at the front
same_read : (text start more : List ℕ) (front : Front) → text ≡ start ++ 10 ∷ [] → front_of text ≡ Ok front → front_of (text ++ more) ≡ Ok front
same_read text start more front feed reads =
    let told = read_told scenario_lines blank_state 1 (lines_of text) front refl reads in
    let joined : lines_of (text ++ more) ≡ lines_of text ++ lines_of more =
    ap (λ (t : List ℕ). lines_of (t ++ more)) feed
    ∙ ap lines_of (append_assoc start (10 ∷ []) more)
    ∙ lines_join start more
    ∙ ap (λ (t : List ℕ). lines_of t ++ lines_of more) (sym feed) in
    let lines : lines_of (text ++ more) ≡ told.read ++ (told.behind ++ lines_of more) =
    joined ∙ ap (λ (ls : List (List ℕ)). ls ++ lines_of more) told.whole ∙ append_assoc told.read told.behind (lines_of more) in
    ap (read_from scenario_lines blank_state 1) lines
    ∙ reads_to scenario_lines told.read (told.behind ++ lines_of more) blank_state front.state 1 front.line told.right refl told.ends told.line

-- and what follows its line `end` there is what follows it alone, and more
same_after : (text start more : List ℕ) (n : ℕ) → text ≡ start ++ 10 ∷ [] → n ≤ length (lines_of text) → after_lines n (text ++ more) ≡ after_lines n text ++ more
same_after text start more n feed within =
    ap (λ (t : List ℕ). after_lines n (t ++ more)) feed
    ∙ ap (after_lines n) (append_assoc start (10 ∷ []) more)
    ∙ after_join n start more (subst (λ (t : List ℕ). n ≤ length (lines_of t)) feed within)
    ∙ ap (λ (t : List ℕ). after_lines n t ++ more) (sym feed)

-- it is the end of the text
suffix_by : (b : Bool) (c : ℕ) (cs xs ys : List ℕ) → ((front : List ℕ) × (cs ≡ front ++ xs)) → ((front : List ℕ) × (cs ≡ front ++ ys)) → (front : List ℕ) × (c ∷ cs ≡ front ++ (if b then xs else ys))
suffix_by true c cs xs ys here further = (c ∷ here.0, ap (λ (t : List ℕ). c ∷ t) here.1)
suffix_by false c cs xs ys here further = (c ∷ further.0, ap (λ (t : List ℕ). c ∷ t) further.1)

after_suffix : (n : ℕ) (text : List ℕ) → (front : List ℕ) × (text ≡ front ++ after_lines n text)
unfolding after_lines
after_suffix zero text = ([], refl)
after_suffix (suc n) [] = ([], refl)
after_suffix (suc n) (c ∷ cs) = suffix_by (c == 10) c cs (after_lines n cs) (after_lines (suc n) cs) (after_suffix n cs) (after_suffix (suc n) cs)

-- the scenario stands at the front of both, and blanks and line feeds before what was added
pub record StandsBehind (p : Problem) (text more : List ℕ) : Type 0 where
  pub blanks : List ℕ
  pub only : list_all is_space blanks ≡ true
  pub short : length blanks ≤ length text
  pub begins : BeginsWith p (text ++ more) (blanks ++ more)
  pub fits : begins.bytes + length blanks ≡ length text

pub stands_behind : (p : Problem) (text more : List ℕ) → IsTextOf p text → EndsInFeed text → StandsBehind p text more
stands_behind p text more is (start, feed) =
    let (reads, silent) = alone_parts text is.front (front_of text) refl is.read in
    let n = is.front.line in
    let blanks = after_lines n text in
    let (front, whole) = after_suffix n text in
    let after = same_after text start more n feed (front_line text is.front reads) in
    let both : text ++ more ≡ front ++ (blanks ++ more) = ap (λ (t : List ℕ). t ++ more) whole ∙ append_assoc front blanks more in
    let long : length text ≡ length front + length blanks = ap length whole ∙ length-append front blanks in
    let bytes : length front + length (after_lines n (text ++ more)) ≡ length (text ++ more) =
    omega (arith, ap length after, length-append blanks more, length-append text more, long) in
    let stands : IsFront (text ++ more) p (length front) = record { front = is.front; read = same_read text start more is.front feed reads; says = is.says; bytes = bytes } in
    record {
      blanks = blanks;
      only = quiet_bytes blanks (quiet_lines (lines_of blanks) (n + 1) silent);
      short = omega (arith, long);
      begins = record { bytes = length front; front = stands; follows = sym (drop-append_seam front (blanks ++ more)) ∙ ap (drop (length front)) (sym both) };
      fits = sym long;
    }
