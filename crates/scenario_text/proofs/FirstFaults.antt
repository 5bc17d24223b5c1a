-- The fault that reading gives is the first one.
use Rattle.std.proofs.Common.{◌≡◌, ℕ, ◌+◌, true, false, List, [], ◌∷◌, ◌++◌, length, Option, Some, None, Result, Ok, Err, refl, sym, ap, ◌∙◌, arith, inl, inr}
use Rattle.std.specs.Prelude.{All}
use Rattle.std.specs.List.{list_all}
use Rattle.std.proofs.lemmas.Bool.{cond_both}
use Rattle.std.proofs.lemmas.List.Elements.{All-nil, All-cons, All-head, All-tail}
use Rattle.scenario_text.specs.declared.kind.TextKind.{TextKind}
use Rattle.scenario_text.specs.declared.kind.TextKind.TheVariants.{Rest}
use Rattle.scenario_text.specs.declared.kind.TextFault.{TextFault}
use Rattle.text_rows.specs.Lines.{lines_of, after_lines}
use Rattle.text_rows.specs.Fields.{is_blank}
use Rattle.scenario_text.specs.State.{blank_state}
use Rattle.text_rows.proofs.LineMachine as machine
use Rattle.scenario_text.specs.Reading.{Front, line_at, scenario_lines, front_of, first_said, unless_more, alone, alone_of}
use Rattle.scenario_text.specs.Faults.{IsRest, IsFirstFaultAlone}
use Rattle.scenario_text.specs.ReadingLaws.{SilentLinesAddNothing, FirstFaultDecides, FirstFaultDecidesAlone}
use Rattle.scenario_text.proofs.Loop.{said_next, said_here}

pub silent_lines_add_nothing : SilentLinesAddNothing
unfolding line_at
silent_lines_add_nothing s line e = rw e refl

pub first_fault_decides : FirstFaultDecides
first_fault_decides text fault = machine.first_fault_decides scenario_lines blank_state 1 (lines_of text) fault refl

-- Behind the line `end`.

-- the first line that says anything
record IsSaidAt (number : ℕ) (lines : List (List ℕ)) (at : ℕ) : Type 0 where
  silent : List (List ℕ)
  said : List ℕ
  more : List (List ℕ)
  behind : lines ≡ silent ++ said ∷ more
  blank : All (λ line. list_all is_blank line ≡ true) silent
  speaks : list_all is_blank said ≡ false
  line : at ≡ number + length silent

said_from : (silent : List (List ℕ)) (number : ℕ) (said : List ℕ) (more : List (List ℕ)) → All (λ line. list_all is_blank line ≡ true) silent → list_all is_blank said ≡ false → first_said number (silent ++ said ∷ more) ≡ Some (number + length silent)
said_from [] number said more blank speaks = said_here number said more (said ∷ more) refl speaks ∙ ap Some (omega arith)
said_from (first ∷ silent) number said more blank speaks =
    said_next number first (silent ++ said ∷ more) (first ∷ (silent ++ said ∷ more)) refl (All-head (λ line. list_all is_blank line ≡ true) first silent blank)
    ∙ said_from silent (number + 1) said more (All-tail (λ line. list_all is_blank line ≡ true) first silent blank) speaks
    ∙ ap Some (omega arith)

said_told : (lines : List (List ℕ)) (number at : ℕ) → first_said number lines ≡ Some at → IsSaidAt number lines at
unfolding first_said
said_told [] number at e = absurd (let bad : ⊥ = cc in bad)
said_told (line ∷ lines) number at e =
    let G : Option ℕ → Type 0 = λ o. o ≡ Some at → IsSaidAt number (line ∷ lines) at in
    cond_both (list_all is_blank line) (first_said (number + 1) lines) (Some number) G
    (λ blank e'. let more = said_told lines (number + 1) at e' in record {
      silent = line ∷ more.silent;
      said = more.said;
      more = more.more;
      behind = ap (λ (ls : List (List ℕ)). line ∷ ls) more.behind;
      blank = All-cons (λ l. list_all is_blank l ≡ true) line more.silent blank more.blank;
      speaks = more.speaks;
      line = omega (arith, more.line);
    })
    (λ speaks e'. let here : number ≡ at = cc in record {
      silent = [];
      said = line;
      more = lines;
      behind = refl;
      blank = All-nil (λ l. list_all is_blank l ≡ true);
      speaks = speaks;
      line = omega (arith, here);
    }) e

-- a text whose scenario is read has this fault behind it
more_told : (o : Option ℕ) (front : Front) (fault : TextFault) → unless_more o front ≡ Err fault → (at : ℕ) × (o ≡ Some at) × (fault.line ≡ at) × (fault.kind ≡ Rest)
more_told None front fault e = absurd (let bad : ⊥ = cc in bad)
more_told (Some at) front fault e =
    let here : TextFault = record { line = at; kind = Rest } in
    let same : here ≡ fault = cc in
    (at, refl, ap (λ (f : TextFault). f.line) (sym same), ap (λ (f : TextFault). f.kind) (sym same))

rest_told : (text : List ℕ) (front : Front) (fault : TextFault) → front_of text ≡ Ok front → unless_more (first_said (front.line + 1) (lines_of (after_lines front.line text))) front ≡ Err fault → IsRest text fault
rest_told text front fault reads e =
    let more = more_told (first_said (front.line + 1) (lines_of (after_lines front.line text))) front fault e in
    let there = said_told (lines_of (after_lines front.line text)) (front.line + 1) more.0 more.1 in
    record {
      front = front;
      reads = reads;
      silent = there.silent;
      said = there.said;
      more = there.more;
      behind = there.behind;
      blank = there.blank;
      speaks = there.speaks;
      kind = more.3;
      line = more.2 ∙ there.line;
    }

alone_told : (text : List ℕ) (fault : TextFault) (r : Result Front TextFault) → front_of text ≡ r → alone text r ≡ Err fault → IsFirstFaultAlone text fault
alone_told text fault (Err other) is e = let same : other ≡ fault = cc in inl ((first_fault_decides text fault).0 (is ∙ ap Err same))
alone_told text fault (Ok front) is e = inr (rest_told text front fault is e)

abbrev fault_of : ℕ → TextKind → TextFault
fault_of number kind = record { line = number; kind = kind }

rest_given : (text : List ℕ) (fault : TextFault) → IsRest text fault → alone_of text ≡ Err fault
rest_given text fault h =
    let said : first_said (h.front.line + 1) (lines_of (after_lines h.front.line text)) ≡ Some (h.front.line + 1 + length h.silent) =
    ap (first_said (h.front.line + 1)) h.behind ∙ said_from h.silent (h.front.line + 1) h.said h.more h.blank h.speaks in
    let same : fault_of (h.front.line + 1 + length h.silent) Rest ≡ fault_of fault.line fault.kind = rw (h.line, h.kind) refl in
    ap (alone text) h.reads ∙ ap (λ (o : Option ℕ). unless_more o h.front) said ∙ ap Err same

pub first_fault_decides_alone : FirstFaultDecidesAlone
first_fault_decides_alone text fault = (
  λ e. alone_told text fault (front_of text) refl e,
  λ h. elim h [
    | inl first ↦ ap (alone text) ((first_fault_decides text fault).1 first)
    | inr rest ↦ rest_given text fault rest
  ],
)
