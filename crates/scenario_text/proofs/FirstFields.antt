-- The first fields of a line say what the line says, but for pairs.
use Rattle.std.proofs.Common.{◌≡◌, ℕ, suc, ◌≤◌, ◌-◌, true, false, Bool, ◌<◌, List, [], ◌∷◌, map, get_or, length, take, drop, Result, Err, refl, sym, ap, ◌∙◌, arith, subst, inl, inr}
use Rattle.std.proofs.lemmas.Bool.{lt-ltb, cases_order}
use Rattle.std.proofs.lemmas.List.{length-take-le, take_all}
use Rattle.scenario_text.specs.declared.draft.Draft.{Draft}
use Rattle.scenario_text.specs.declared.kind.TextKind.TheVariants.{BadLine}
use Rattle.scenario_text.specs.declared.stop.LineStop.{LineStop}
use Rattle.scenario_text.specs.Gives.{TakesLine}
use Rattle.scenario_text.specs.State.{State}
use Rattle.scenario_text.specs.Grammar.{row_at, fields_at}
use Rattle.scenario_text.specs.declared.line.Line.{Line}
use Rattle.scenario_text.specs.declared.line.Line.TheVariants.{Scenario, Horizon, Parts, Cell, Position, Grid, Start, First, Moves, Drift, DriftIn, Overlook, Spread, Rate, Look, LookIn, End}

-- Lists of which a front is known.

pub front_none : {X : Type 0} (n : ℕ) (fs : List X) → [] ≡ take (suc n) fs → fs ≡ []
front_none n [] e = refl
front_none n (f ∷ fs) e = absurd cc

pub front_some : {X : Type 0} (n : ℕ) (w : X) (ws fs : List X) → w ∷ ws ≡ take (suc n) fs → fs ≡ w ∷ drop 1 fs
front_some n w ws [] e = absurd cc
front_some n w ws (f ∷ fs) e = let head : f ≡ w = cc in ap (λ x. x ∷ fs) head

pub front_rest : {X : Type 0} (n : ℕ) (w : X) (ws fs : List X) → w ∷ ws ≡ take (suc n) fs → ws ≡ take n (drop 1 fs)
front_rest n w ws [] e = absurd cc
front_rest n w ws (f ∷ fs) e = cc

-- Lines whose fields past the first few make them bad.

-- but for pairs, which may be many
abbrev is_short : Line → Bool
is_short First = false
is_short Drift = false
is_short DriftIn = false
is_short Look = false
is_short LookIn = false
is_short _ = true

-- a row of more than 64 moves is too long, however long it is
moves_cut : (s : State) (name : List ℕ) (moves : List (List ℕ)) → row_at Moves s (take 66 (name ∷ moves)) ≡ row_at Moves s (name ∷ moves)
moves_cut s name moves =
    elim (cases_order (length moves) 65) [
      | inl same ↦ short (omega arith)
      | inr (inl below) ↦ short (omega arith)
      | inr (inr above) ↦
          let cut : length (take 65 moves) ≡ 65 = length-take-le 65 moves (omega arith) in
          let front = lt-ltb 64 (length (take 65 moves)) (omega arith) in
          let whole = lt-ltb 64 (length moves) (omega arith) in
          rw (front, whole) refl
    ]
  where
    short : length moves ≤ 65 → row_at Moves s (take 66 (name ∷ moves)) ≡ row_at Moves s (name ∷ moves)
    short le = ap (λ (ms : List (List ℕ)). row_at Moves s (name ∷ ms)) (take_all 65 moves le)

-- no other line has more than three fields
long_cut : (line : Line) (s : State) (a b c d : List ℕ) (fs : List (List ℕ)) → is_short line ≡ true → row_at line s (take 66 (a ∷ b ∷ c ∷ d ∷ fs)) ≡ row_at line s (a ∷ b ∷ c ∷ d ∷ fs)
long_cut Scenario s a b c d fs short = refl
long_cut Horizon s a b c d fs short = refl
long_cut Parts s a b c d fs short = refl
long_cut Cell s a b c d fs short = refl
long_cut Position s a b c d fs short = refl
long_cut Grid s a b c d fs short = refl
long_cut Start s a b c d fs short = refl
long_cut Overlook s a b c d fs short = refl
long_cut Spread s a b c d fs short = refl
long_cut Rate s a b c d fs short = refl
long_cut End s a b c d fs short = refl
long_cut Moves s a b c d fs short = moves_cut s a (b ∷ c ∷ d ∷ fs)
long_cut First s a b c d fs short = absurd (let bad : ⊥ = cc in bad)
long_cut Drift s a b c d fs short = absurd (let bad : ⊥ = cc in bad)
long_cut DriftIn s a b c d fs short = absurd (let bad : ⊥ = cc in bad)
long_cut Look s a b c d fs short = absurd (let bad : ⊥ = cc in bad)
long_cut LookIn s a b c d fs short = absurd (let bad : ⊥ = cc in bad)

row_cut : (line : Line) (s : State) (fs : List (List ℕ)) → is_short line ≡ true → row_at line s (take 66 fs) ≡ row_at line s fs
row_cut line s [] short = refl
row_cut line s (a ∷ []) short = refl
row_cut line s (a ∷ b ∷ []) short = refl
row_cut line s (a ∷ b ∷ c ∷ []) short = refl
row_cut line s (a ∷ b ∷ c ∷ d ∷ fs) short = long_cut line s a b c d fs short

-- What was taken of the first fields was taken of the line.

module _ (new : Draft) (result : Result (Unit {0}) LineStop) (s : State) where
  pub front_taken : (line own : Line) (fs ws : List (List ℕ)) → line ≡ own → is_short own ≡ true → ws ≡ take 66 fs → TakesLine new result (row_at own s ws) → TakesLine new result (row_at line s fs)
  front_taken line own fs ws same short front taken =
      subst (TakesLine new result) (ap (row_at own s) front ∙ row_cut own s fs short ∙ ap (λ (l : Line). row_at l s fs) (sym same)) taken

  pub fields_taken : (w : List ℕ) (ws fs more : List (List ℕ)) → w ∷ ws ≡ take 67 fs → more ≡ drop 1 fs → TakesLine new result (fields_at s (w ∷ more)) → TakesLine new result (fields_at s fs)
  fields_taken w ws fs more front behind taken =
      let whole : fs ≡ w ∷ more = front_some 66 w ws fs front ∙ ap (λ (x : List (List ℕ)). w ∷ x) (sym behind) in
      subst (TakesLine new result) (ap (fields_at s) (sym whole)) taken

-- A line of one field, and one of a field and others.
module _ {X : Type 0} (view : X → List ℕ) (line : Line) (new : Draft) (result : Result (Unit {0}) LineStop) (s : State) where
  pub one_taken : (fs : List X) (d : X) → 1 ≤ length fs → length fs < 2 → TakesLine new result (row_at line s (view (get_or fs 0 d) ∷ [])) → TakesLine new result (row_at line s (map view fs))
  one_taken [] d some few taken = absurd (omega (arith, some))
  one_taken (f ∷ []) d some few taken = taken
  one_taken (f ∷ g ∷ fs) d some few taken = absurd (omega (arith, few))

  pub some_taken : (fs : List X) (d : X) → 1 ≤ length fs → TakesLine new result (row_at line s (view (get_or fs 0 d) ∷ map view (take (length fs - 1) (drop 1 fs)))) → TakesLine new result (row_at line s (map view fs))
  some_taken [] d some taken = absurd (omega (arith, some))
  some_taken (f ∷ fs) d some taken = subst (λ (gs : List X). TakesLine new result (row_at line s (view f ∷ map view gs))) (take_all (length (f ∷ fs) - 1) fs (omega arith)) taken

pub fields_front : (w : List ℕ) (ws fs more : List (List ℕ)) → w ∷ ws ≡ take 67 fs → more ≡ drop 1 fs → ws ≡ take 66 more
fields_front w ws fs more front behind = front_rest 66 w ws fs front ∙ ap (take 66) (sym behind)

pub no_fields : (s : State) (fs : List (List ℕ)) → [] ≡ take 67 fs → fields_at s fs ≡ Err BadLine
no_fields s fs front = ap (fields_at s) (front_none 66 fs front)

pub ruleset fields_steps = (fields_taken, fields_front, no_fields)
