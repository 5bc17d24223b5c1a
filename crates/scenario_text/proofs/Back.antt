-- The canonical text of a problem reads back.
use Rattle.std.proofs.Common.{◌≡◌, ℕ, ◌+◌, List, [], ◌++◌, length, false, inl, inr, None, Ok, refl, sym, ap, ◌∙◌, subst, arith}
use Rattle.std.specs.Prelude.{codes}
use Rattle.std.proofs.lemmas.Bool.{cases_Bool}
use Rattle.std.proofs.lemmas.List.{append-nil, length-append}
use Rattle.search_model.specs.Problem.{Problem, IsProblem}
use Rattle.text_rows.specs.Lines.{lines_of, after_lines}
use Rattle.text_rows.proofs.RowTexts.{word}
use Rattle.scenario_text.specs.declared.draft.Stage.TheVariants as due
use Rattle.scenario_text.specs.declared.draft.TextVersion.{TextVersion}
use Rattle.scenario_text.specs.declared.draft.TextVersion.TheVariants.{One, Two}
use Rattle.scenario_text.specs.State.{State, blank_state}
use Rattle.scenario_text.specs.StateRows.{version_row, state_rows}
use Rattle.scenario_text.specs.Reading.{first_said, front_of}
use Rattle.scenario_text.specs.Sound.{IsSound}
use Rattle.scenario_text.specs.Canonical.{is_plain, canonical_text, state_of_problem, front_of_problem}
use Rattle.scenario_text.specs.Laws.{CanonicalFrontReadsBack, CanonicalReadsBack}
use Rattle.scenario_text.proofs.CanonicalSame.{same_said}
use Rattle.scenario_text.proofs.CanonicalState.{full_sound, plain_sound}
use Rattle.scenario_text.proofs.HeadsBack.{Reads-begun}
use Rattle.scenario_text.proofs.Plain.{plain_names, state_plain, state_full}
use Rattle.scenario_text.proofs.RowsRead.{Takes, Reads, Reads-row}

Takes-version : (version : TextVersion) → Takes blank_state (version_row version) (record blank_state { stage = due.Horizon; version = version })
Takes-version One = record { fields = (word (codes "scenario") (omega arith) refl, (word (codes "1") (omega arith) refl, tt)); says = refl; taken = refl }
Takes-version Two = record { fields = (word (codes "scenario") (omega arith) refl, (word (codes "2") (omega arith) refl, tt)); says = refl; taken = refl }

-- the rows that say a whole state are read as it is
Reads-state : (s : State) → IsSound s → s.stage ≡ due.Ended → s.gridded ≡ false → Reads blank_state (state_rows s) s
Reads-state s h ended ungridded = Reads-row _ _ _ _ _ (Takes-version s.version) refl (Reads-begun s h ended ungridded)

sound : (p : Problem) → IsProblem p → IsSound (state_of_problem p)
sound p h = elim (cases_Bool (is_plain p)) [
  | inl plain ↦ subst IsSound (sym (state_plain p plain)) (plain_sound p h (plain_names p plain))
  | inr full ↦ subst IsSound (sym (state_full p full)) (full_sound p h)
]

ended : (p : Problem) → (state_of_problem p).stage ≡ due.Ended
ended p = elim (cases_Bool (is_plain p)) [
  | inl plain ↦ ap (λ (s : State). s.stage) (state_plain p plain)
  | inr full ↦ ap (λ (s : State). s.stage) (state_full p full)
]

ungridded : (p : Problem) → (state_of_problem p).gridded ≡ false
ungridded p = elim (cases_Bool (is_plain p)) [
  | inl plain ↦ ap (λ (s : State). s.gridded) (state_plain p plain)
  | inr full ↦ ap (λ (s : State). s.gridded) (state_full p full)
]

Reads-problem : (p : Problem) → IsProblem p → Reads blank_state (state_rows (state_of_problem p)) (state_of_problem p)
Reads-problem p h = Reads-state (state_of_problem p) (sound p h) (ended p) (ungridded p)

-- the canonical text is read up to its end, and cut off, whatever follows it
front_read : (p : Problem) (rest : List ℕ) → IsProblem p → front_of (canonical_text p ++ rest) ≡ Ok (front_of_problem p)
unfolding canonical_text
front_read p rest h = (Reads-problem p h).lines 1 (length (state_rows (state_of_problem p))) rest (omega arith)

front_cut : (p : Problem) (rest : List ℕ) → IsProblem p → after_lines (length (state_rows (state_of_problem p))) (canonical_text p ++ rest) ≡ rest
unfolding canonical_text
front_cut p rest h = (Reads-problem p h).cut rest

pub canonical_front_reads_back : CanonicalFrontReadsBack
canonical_front_reads_back p rest h =
    let said = same_said p h in (
      said.0,
      said.1,
      record {
        front = front_of_problem p;
        read = front_read p rest h;
        says = said.2;
        bytes = ap (λ (t : List ℕ). length (canonical_text p) + length t) (front_cut p rest h) ∙ sym (length-append (canonical_text p) rest);
      },
    )

nothing_more : (number : ℕ) → first_said number (lines_of []) ≡ None
unfolding first_said lines_of
nothing_more number = refl

pub canonical_reads_back : CanonicalReadsBack
canonical_reads_back p h =
    let said = same_said p h in
    let text : canonical_text p ++ [] ≡ canonical_text p = append-nil (canonical_text p) in
    let read : front_of (canonical_text p) ≡ Ok (front_of_problem p) = rw text at (front_read p [] h) in
    let cut : after_lines (length (state_rows (state_of_problem p))) (canonical_text p) ≡ [] = rw text at (front_cut p [] h) in (
      said.0,
      said.1,
      record {
        front = front_of_problem p;
        read = rw (read, cut, nothing_more (length (state_rows (state_of_problem p)) + 1)) refl;
        says = said.2;
      },
    )
