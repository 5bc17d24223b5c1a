-- Each line stands where it may stand.
use Rattle.std.proofs.Common.{◌≡◌, ℕ, Bool, true, false, cond, List, Option, Some, None, refl, subst}
use Rattle.scenario_text.specs.declared.draft.Stage.{Stage}
use Rattle.scenario_text.specs.declared.draft.Stage.TheVariants as due
use Rattle.scenario_text.specs.declared.line.Line.{Line}
use Rattle.scenario_text.specs.declared.line.Line.TheVariants.{Scenario, Horizon, Parts, Cell, Position, Grid, Start, First, Moves, Drift, DriftIn, Overlook, Spread, Rate, Look, LookIn, End}
use Rattle.scenario_text.specs.declared.draft.TextVersion.{TextVersion}
use Rattle.scenario_text.specs.declared.draft.TextVersion.TheVariants.{One, Two}
use Rattle.scenario_text.specs.KindTable.{line_due}
use Rattle.scenario_text.specs.Order.{IsPlace}

module _ (P : Line → Type 0) (l : Line) where
  this_or : (b : Bool) (line : Line) (others : Option Line) → P line → (others ≡ Some l → P l) → cond b (Some line) others ≡ Some l → P l
  this_or true line others here there e = let same : line ≡ l = cc in subst P same here
  this_or false line others here there e = there e

  this_only : (b : Bool) (line : Line) → P line → cond b (Some line) None ≡ Some l → P l
  this_only true line here e = let same : line ≡ l = cc in subst P same here
  this_only false line here e = absurd (let bad : ⊥ = cc in bad)

pub place_due : (version : TextVersion) (stage : Stage) (named : Bool) (word : List ℕ) (l : Line) → line_due version stage named word ≡ Some l → IsPlace l version stage
place_due v due.Version named word l e = this_only (λ x. IsPlace x v due.Version) l _ Scenario refl e
place_due v due.Horizon named word l e = this_only (λ x. IsPlace x v due.Horizon) l _ Horizon refl e
place_due v due.Parts named word l e = this_only (λ x. IsPlace x v due.Parts) l _ Parts refl e
place_due One due.Cells true word l e = this_or (λ x. IsPlace x One due.Cells) l _ Cell _ refl (this_only (λ x. IsPlace x One due.Cells) l _ Start refl) e
place_due One due.Cells false word l e = this_or (λ x. IsPlace x One due.Cells) l _ Cell _ refl (this_only (λ x. IsPlace x One due.Cells) l _ Grid (refl, refl)) e
place_due Two due.Cells true word l e = this_or (λ x. IsPlace x Two due.Cells) l _ Cell _ refl (this_only (λ x. IsPlace x Two due.Cells) l _ Position (refl, refl)) e
place_due Two due.Cells false word l e = this_only (λ x. IsPlace x Two due.Cells) l _ Cell refl e
place_due One due.Positions named word l e = absurd (let bad : ⊥ = cc in bad)
place_due Two due.Positions named word l e = this_or (λ x. IsPlace x Two due.Positions) l _ Position _ (refl, refl) (this_only (λ x. IsPlace x Two due.Positions) l _ Start refl) e
place_due v due.Start named word l e = this_only (λ x. IsPlace x v due.Start) l _ Start refl e
place_due v due.First named word l e = this_only (λ x. IsPlace x v due.First) l _ First refl e
place_due One due.Rows named word l e =
    let P : Line → Type 0 = λ x. IsPlace x One due.Rows in
    this_or P l _ Moves _ refl
    (this_or P l _ Drift _ refl
    (this_or P l _ Overlook _ (refl, refl)
    (this_or P l _ Spread _ (refl, refl)
    (this_or P l _ Rate _ (refl, refl)
    (this_only P l _ End refl))))) e
place_due Two due.Rows named word l e =
    let P : Line → Type 0 = λ x. IsPlace x Two due.Rows in
    this_or P l _ Moves _ refl
    (this_or P l _ Drift _ refl
    (this_or P l _ DriftIn _ (refl, refl)
    (this_or P l _ Look _ (refl, refl)
    (this_or P l _ LookIn _ (refl, refl)
    (this_only P l _ End refl))))) e
place_due v due.Ended named word l e = absurd (let bad : ⊥ = cc in bad)
