-- What is read line by line, and its first fault.
use Rattle.std.proofs.Common.{◌≡◌, ℕ, ◌+◌, Bool, true, false, List, [], ◌∷◌, ◌++◌, length, Result, Ok, Err, refl, sym, ap, subst, ◌∙◌, arith, inl, inr}
use Rattle.std.specs.Prelude.{◌↔◌}
use Rattle.text_rows.specs.LineMachine.{LineMachine, Reached, unless_ended, go_on, read_from, AreTaken, HasFault, IsFaultFrom}

-- right lines, of which the last ends the text
pub record IsReadTo {S K F : Type 0} (m : LineMachine S K F) (s : S) (number : ℕ) (lines : List (List ℕ)) (front : Reached S) : Type 0 where
  pub read : List (List ℕ)
  pub behind : List (List ℕ)
  pub whole : lines ≡ read ++ behind
  pub right : AreTaken m s read front.state
  pub ends : m.ended front.state ≡ true
  pub line : front.line + 1 ≡ number + length read

module _ {S K F : Type 0} (m : LineMachine S K F) where
  -- no line is left
  pub at_early : (s : S) (number : ℕ) (lines : List (List ℕ)) → lines ≡ [] → read_from m s number lines ≡ Err (m.fault number m.early)
  unfolding read_from
  at_early s number lines none = rw none refl

  -- a line with a fault
  pub at_fault : (s : S) (number : ℕ) (line : List ℕ) (lines ls : List (List ℕ)) (kind : K) → ls ≡ line ∷ lines → m.step s line ≡ Err kind → read_from m s number ls ≡ Err (m.fault number kind)
  unfolding read_from
  at_fault s number line lines ls kind e f = rw (e, f) refl

  -- a line that is taken, and isn't the last one
  pub at_line : (s t : S) (number : ℕ) (line : List ℕ) (lines ls : List (List ℕ)) → ls ≡ line ∷ lines → m.step s line ≡ Ok t → m.ended t ≡ false → read_from m s number ls ≡ read_from m t (number + 1) lines
  unfolding read_from
  at_line s t number line lines ls e f goes = rw (e, f, goes) refl

  -- the last line
  pub at_last : (s t : S) (number : ℕ) (line : List ℕ) (lines ls : List (List ℕ)) → ls ≡ line ∷ lines → m.step s line ≡ Ok t → m.ended t ≡ true → read_from m s number ls ≡ Ok (record { state = t; line = number })
  unfolding read_from
  at_last s t number line lines ls e f ended = rw (e, f, ended) refl

  -- Right lines.

  -- and right lines behind them
  pub taken_behind : (lines more : List (List ℕ)) (s t u : S) → AreTaken m s lines t → AreTaken m t more u → AreTaken m s (lines ++ more) u
  taken_behind [] more s t u taken behind = subst (λ (x : S). AreTaken m x more u) (sym taken) behind
  taken_behind (line ∷ lines) more s t u taken behind = (taken.0, taken.1, taken.2, taken_behind lines more taken.0 t u taken.3 behind)

  -- the last of them
  pub taken_last : (lines : List (List ℕ)) (s t u : S) (line : List ℕ) → AreTaken m s lines t → m.step t line ≡ Ok u → m.ended t ≡ false → AreTaken m s (lines ++ line ∷ []) u
  taken_last lines s t u line taken step goes = taken_behind lines (line ∷ []) s t u taken (u, step, goes, refl)

  -- what they say is one
  pub taken_once : (lines : List (List ℕ)) (s t u : S) → AreTaken m s lines t → AreTaken m s lines u → t ≡ u
  taken_once [] s t u taken again = sym taken ∙ again
  taken_once (line ∷ lines) s t u taken again =
      let both : ◌≡◌ {A = Result S K} (Ok again.0) (Ok taken.0) = sym again.1 ∙ taken.1 in
      let same : again.0 ≡ taken.0 = cc in
      taken_once lines taken.0 t u taken.3 (subst (λ (x : S). AreTaken m x lines u) same again.3)

  -- the text hadn't ended before them
  not_before : (lines : List (List ℕ)) (s t : S) → AreTaken m s lines t → m.ended t ≡ false → m.ended s ≡ false
  not_before [] s t taken goes = ap m.ended taken ∙ goes
  not_before (line ∷ lines) s t taken goes = taken.2

  -- reading goes on behind them
  reads_on : (before lines : List (List ℕ)) (s t : S) (number : ℕ) → AreTaken m s before t → m.ended t ≡ false → read_from m s number (before ++ lines) ≡ read_from m t (number + length before) lines
  reads_on [] lines s t number right goes =
      let same : number ≡ number + 0 = omega arith in
      ap (λ (u : S). read_from m u number lines) right ∙ ap (λ (n : ℕ). read_from m t n lines) same
  reads_on (line ∷ before) lines s t number right goes =
      let later : number + 1 + length before ≡ number + length (line ∷ before) = omega arith in
      at_line s right.0 number line (before ++ lines) _ refl right.1 (not_before before right.0 t right.3 goes)
      ∙ reads_on before lines right.0 t (number + 1) right.3 goes
      ∙ ap (λ (n : ℕ). read_from m t n lines) later

  -- up to the end
  pub reads_to : (read behind : List (List ℕ)) (s t : S) (number last : ℕ) → AreTaken m s read t → m.ended s ≡ false → m.ended t ≡ true → last + 1 ≡ number + length read → read_from m s number (read ++ behind) ≡ Ok (record { state = t; line = last })
  reads_to [] behind s t number last right goes ends long = absurd (let bad : true ≡ false = sym ends ∙ ap m.ended (sym right) ∙ goes in let none : ⊥ = cc in none)
  reads_to (line ∷ []) behind s t number last right goes ends long =
      let here : number ≡ last = omega (arith, long) in
      at_last s t number line behind _ refl (right.1 ∙ ap Ok right.3) ends ∙ ap (λ (n : ℕ). Ok (record { state = t; line = n })) here
  reads_to (line ∷ next ∷ read) behind s t number last right goes ends long =
      at_line s right.0 number line ((next ∷ read) ++ behind) _ refl right.1 right.3.2 ∙ reads_to (next ∷ read) behind right.0 t (number + 1) last right.3 right.3.2 ends (omega (arith, long))

  -- What reading gives is right.

  abbrev IsTold : S → ℕ → List (List ℕ) → Result (Reached S) F → Type 0
  IsTold s number lines (Ok front) = IsReadTo m s number lines front
  IsTold s number lines (Err fault) = IsFaultFrom m s number lines fault

  -- a line before it
  line_before : (s t : S) (number : ℕ) (line : List ℕ) (lines : List (List ℕ)) (r : Result (Reached S) F) → m.step s line ≡ Ok t → m.ended s ≡ false → IsTold t (number + 1) lines r → IsTold s number (line ∷ lines) r
  line_before s t number line lines (Ok front) taken goes h = record {
    read = line ∷ h.read;
    behind = h.behind;
    whole = ap (λ (ls : List (List ℕ)). line ∷ ls) h.whole;
    right = (t, taken, goes, h.right);
    ends = h.ends;
    line = omega (arith, h.line);
  }
  line_before s t number line lines (Err fault) taken goes h =
      let later : number + 1 + length h.before ≡ number + length (line ∷ h.before) = omega arith in
      record {
        before = line ∷ h.before;
        left = h.left;
        reached = h.reached;
        kind = h.kind;
        whole = ap (λ (ls : List (List ℕ)). line ∷ ls) h.whole;
        right = (t, taken, goes, h.right);
        goes = h.goes;
        here = h.here;
        is = h.is ∙ ap (λ (n : ℕ). m.fault n h.kind) later;
      }

  line_taken : (s t : S) (number : ℕ) (line : List ℕ) (lines : List (List ℕ)) (b : Bool) (r : Result (Reached S) F) → m.step s line ≡ Ok t → m.ended s ≡ false → m.ended t ≡ b → (m.ended t ≡ false → IsTold t (number + 1) lines r) → IsTold s number (line ∷ lines) (unless_ended b t number r)
  line_taken s t number line lines true r taken goes ends h = record {
    read = line ∷ [];
    behind = lines;
    whole = refl;
    right = (t, taken, goes, refl);
    ends = ends;
    line = omega arith;
  }
  line_taken s t number line lines false r taken goes on h = line_before s t number line lines r taken goes (h on)

  -- a fault with no line before it
  none_before : (s : S) (number : ℕ) (lines : List (List ℕ)) (kind : K) → m.ended s ≡ false → HasFault m s lines kind → IsFaultFrom m s number lines (m.fault number kind)
  none_before s number lines kind goes here =
      let same : number ≡ number + 0 = omega arith in
      record {
        before = [];
        left = lines;
        reached = s;
        kind = kind;
        whole = refl;
        right = refl;
        goes = goes;
        here = here;
        is = ap (λ (n : ℕ). m.fault n kind) same;
      }

  line_told : (s : S) (number : ℕ) (line : List ℕ) (lines : List (List ℕ)) (r : Result S K) → m.step s line ≡ r → m.ended s ≡ false → ((t : S) → m.ended t ≡ false → IsTold t (number + 1) lines (read_from m t (number + 1) lines)) →
      IsTold s number (line ∷ lines) (go_on m number r (λ t. read_from m t (number + 1) lines))
  line_told s number line lines (Err kind) e goes more = none_before s number (line ∷ lines) kind goes (inr (record { line = line; more = lines; whole = refl; wrong = e }))
  line_told s number line lines (Ok t) e goes more = line_taken s t number line lines (m.ended t) _ e goes refl (more t)

  all_told : (lines : List (List ℕ)) (s : S) (number : ℕ) → m.ended s ≡ false → IsTold s number lines (read_from m s number lines)
  unfolding read_from
  all_told [] s number goes = none_before s number [] m.early goes (inl (refl, refl))
  all_told (line ∷ lines) s number goes = line_told s number line lines (m.step s line) refl goes (λ t on. all_told lines t (number + 1) on)

  pub read_told : (s : S) (number : ℕ) (lines : List (List ℕ)) (front : Reached S) → m.ended s ≡ false → read_from m s number lines ≡ Ok front → IsReadTo m s number lines front
  read_told s number lines front goes e = subst (IsTold s number lines) e (all_told lines s number goes)

  fault_here : (s : S) (number : ℕ) (lines : List (List ℕ)) (kind : K) → HasFault m s lines kind → read_from m s number lines ≡ Err (m.fault number kind)
  fault_here s number lines kind here = elim here [
    | inl early ↦ at_early s number lines early.1 ∙ ap (λ (k : K). Err (m.fault number k)) (sym early.0)
    | inr wrong ↦ at_fault s number wrong.line wrong.more lines kind wrong.whole wrong.wrong
  ]

  -- the fault that is given is the first one
  pub first_fault_decides : (s : S) (number : ℕ) (lines : List (List ℕ)) (fault : F) → m.ended s ≡ false → (read_from m s number lines ≡ Err fault) ↔ IsFaultFrom m s number lines fault
  first_fault_decides s number lines fault goes = (
    λ e. subst (IsTold s number lines) e (all_told lines s number goes),
    λ h. ap (read_from m s number) h.whole ∙ reads_on h.before h.left s h.reached number h.right h.goes ∙ fault_here h.reached (number + length h.before) h.left h.kind h.here ∙ ap Err (sym h.is),
  )

  -- What follows a line that ends the text isn't looked at.

  last_goes : (number : ℕ) (r : Result S K) (f g : S → Result (Reached S) F) → ((t : S) → r ≡ Ok t → m.ended t ≡ true) → go_on m number r f ≡ go_on m number r g
  last_goes number (Err kind) f g ends = refl
  last_goes number (Ok t) f g ends = rw (ends t refl) refl

  go_alike : (number : ℕ) (r : Result S K) (f g : S → Result (Reached S) F) → ((t : S) → f t ≡ g t) → go_on m number r f ≡ go_on m number r g
  go_alike number (Err kind) f g same = refl
  go_alike number (Ok t) f g same = ap (unless_ended (m.ended t) t number) (same t)

  pub end_cuts : (before : List (List ℕ)) (s : S) (number : ℕ) (last : List ℕ) (more others : List (List ℕ)) → ((u t : S) → m.step u last ≡ Ok t → m.ended t ≡ true) → read_from m s number (before ++ last ∷ more) ≡ read_from m s number (before ++ last ∷ others)
  unfolding read_from
  end_cuts [] s number last more others ends = last_goes number (m.step s last) _ _ (λ t e. ends s t e)
  end_cuts (line ∷ before) s number last more others ends = go_alike number (m.step s line) _ _ (λ t. end_cuts before t (number + 1) last more others ends)
