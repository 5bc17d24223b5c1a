-- Each line keeps what holds of all that lines give.
use Rattle.std.proofs.Common.{◌≡◌, ℕ, ◌≤◌, List, [], ◌∷◌, length, Option, Some, None, Result, Ok, refl, subst, arith, ◌⊎◌}
use Rattle.std.specs.Prelude.{not, All, nat_lt}
use Rattle.std.proofs.lemmas.Bool.{cond_both}
use Rattle.std.specs.List.{list_all}
use Rattle.std.proofs.lemmas.List.Elements.{All-nil, All-tail}
use Rattle.search_model.specs.Names.{IsName}
use Rattle.scenario_text.specs.declared.kind.TextKind.TheVariants.{BadLine, NotText}
use Rattle.text_rows.specs.Fields.{fields_of, is_text_byte, behind_first}
use Rattle.text_rows.proofs.FieldCuts.{fields_some}
use Rattle.text_rows.proofs.Results.{err_ok}
use Rattle.scenario_text.specs.Fields.{says_nothing}
use Rattle.scenario_text.specs.State.{State, blank_state}
use Rattle.scenario_text.specs.Reading.{line_at, scenario_lines}
use Rattle.scenario_text.specs.declared.line.Line.{Line}
use Rattle.scenario_text.specs.declared.line.Line.TheVariants.{Scenario, Horizon, Parts, Cell, Position, Grid, Start, First, Moves, Drift, DriftIn, Overlook, Spread, Rate, Look, LookIn, End}
use Rattle.scenario_text.specs.declared.kind.TextKind.{TextKind}
use Rattle.scenario_text.specs.KindTable.{line_due, line_of, tests, tests_of}
use Rattle.scenario_text.specs.Grammar.{added, unless_any, row_at, fields_at}
use Rattle.scenario_text.proofs.Due.{place_due}
use Rattle.scenario_text.specs.Order.{IsPlace}
use Rattle.scenario_text.specs.Sound.{AreEntries, AreLooks, AreMoves, IsPart, IsLook, IsSound}
use Rattle.text_rows.specs.LineMachine.{AreTaken}
use Rattle.scenario_text.specs.InRows.{IsReached}
use Rattle.scenario_text.proofs.SoundFields.{not_refused}
use Rattle.scenario_text.proofs.SoundHeads.{sound_ok, version_sound, horizon_sound, parts_sound, none_period, cell_sound, position_sound, grid_sound, start_sound, first_sound}
use Rattle.scenario_text.proofs.SoundLines.{moves_sound, drift_sound, drift_in_sound, overlook_sound, spread_sound, rate_sound, look_sound, look_in_sound, end_sound}

-- what no line has given
pub blank_sound : IsSound blank_state
blank_sound = record {
  settled = record { horizon = λ le. absurd (omega arith); total = λ le. absurd (omega arith); drift = λ le. absurd (omega arith); look = λ le. absurd (omega arith) };
  few = omega arith;
  names = All-nil IsName;
  differ = λ c again. let lt = again.0 in absurd (omega arith);
  positions = record {
    few = omega arith;
    names = All-nil IsName;
    differ = λ q again. let lt = again.0 in absurd (omega arith);
    looks_length = refl;
    covered = All-nil (IsLook 0 0);
    empty = λ le. refl;
    cells_alone = λ one. refl;
  };
  moves_length = refl;
  parts_length = refl;
  overlook_length = refl;
  start = λ le. absurd (omega arith);
  first = λ le. absurd (omega arith);
  moves = All-nil (λ row. (length row ≡ 0) ⊎ AreMoves 0 row);
  empty = λ le. refl;
  cells = λ is. absurd (let bad : ⊥ = cc in bad);
  own = λ is c lt. absurd (omega arith);
  parts = All-nil (λ row. (length row ≡ 0) ⊎ AreEntries 0 0 row);
  overlook = All-nil (IsPart 0);
  changes = record { early = λ le. (refl, refl); every_period = λ one. (refl, refl); drifts = none_period 0 0 (AreEntries 0 0); looks = none_period 0 0 (AreLooks 0 0) };
  whole = λ e. absurd (let bad : ⊥ = cc in bad);
  fits = λ e. absurd (let bad : ⊥ = cc in bad);
}

-- the row of each line
row_sound : (line : Line) (s : State) (fields : List (List ℕ)) (t : State) → IsPlace line s.version s.stage → IsSound s → All (λ f. 1 ≤ length f) fields → row_at line s fields ≡ Ok t → IsSound t
row_sound Scenario s fields t at h some e = version_sound s fields t at h e
row_sound Horizon s fields t at h some e = horizon_sound s fields t at h e
row_sound Parts s fields t at h some e = parts_sound s fields t at h e
row_sound Cell s fields t at h some e = cell_sound s fields t at h some e
row_sound Position s fields t at h some e = position_sound s fields t at h some e
row_sound Grid s fields t at h some e = grid_sound s fields t at h e
row_sound Start s fields t at h some e = start_sound s fields t at h e
row_sound First s fields t at h some e = first_sound s fields t at h e
row_sound Moves s fields t at h some e = moves_sound s fields t at h e
row_sound Drift s fields t at h some e = drift_sound s fields t at h e
row_sound DriftIn s fields t at h some e = drift_in_sound s fields t at h e
row_sound Overlook s fields t at h some e = overlook_sound s fields t at h e
row_sound Spread s fields t at h some e = spread_sound s fields t at h e
row_sound Rate s fields t at h some e = rate_sound s fields t at h e
row_sound Look s fields t at h some e = look_sound s fields t at.1 h e
row_sound LookIn s fields t at h some e = look_in_sound s fields t at h e
row_sound End s fields t at h some e = end_sound s fields t at h e

-- of the line that is due
due_sound : (o : Option Line) (s : State) (word : List ℕ) (fields : List (List ℕ)) (t : State) → line_due s.version s.stage (nat_lt 0 (length s.names)) word ≡ o → IsSound s → All (λ f. 1 ≤ length f) fields → unless_any (tests s o fields) (added o s fields) ≡ Ok t → IsSound t
due_sound None s word fields t is h some e = absurd (err_ok BadLine t e)
due_sound (Some line) s word fields t is h some e = row_sound line s fields t (place_due s.version s.stage (nat_lt 0 (length s.names)) word line is) h some e

fields_sound : (s : State) (fields : List (List ℕ)) (t : State) → IsSound s → All (λ f. 1 ≤ length f) fields → fields_at s fields ≡ Ok t → IsSound t
fields_sound s [] t h some e = absurd (err_ok BadLine t e)
fields_sound s (word ∷ fields) t h some e = due_sound (line_due s.version s.stage (nat_lt 0 (length s.names)) word) s word fields t refl h (All-tail (λ f. 1 ≤ length f) word fields some) e

pub line_sound : (s t : State) (line : List ℕ) → IsSound s → line_at s line ≡ Ok t → IsSound t
unfolding line_at
line_sound s t line h e =
    cond_both (says_nothing (fields_of line)) (Ok s) (unless_any (tests_of s line) (added (line_of s (fields_of line)) s (behind_first (fields_of line)))) (λ (r : Result State TextKind). r ≡ Ok t → IsSound t)
    (λ _ same. sound_ok s t same h)
    (λ _ e'. fields_sound s (fields_of line) t h (fields_some line) (not_refused (not (list_all is_text_byte line)) NotText (fields_at s (fields_of line)) t e').1) e

-- and so what some right lines say
pub taken_sound : (lines : List (List ℕ)) (s t : State) → IsSound s → AreTaken scenario_lines s lines t → IsSound t
taken_sound [] s t h taken = subst IsSound taken h
taken_sound (line ∷ lines) s t h taken = taken_sound lines taken.0 t (line_sound s taken.0 line h taken.1) taken.3

pub reached_sound : (s : State) → IsReached s → IsSound s
reached_sound s reached = taken_sound reached.0 blank_state s blank_sound reached.1
