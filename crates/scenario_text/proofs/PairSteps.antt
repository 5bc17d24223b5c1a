-- Pairs of a line, one after the other.
use Rattle.std.proofs.Common.{◌≡◌, ℕ, suc, ◌<◌, ◌%◌, Bool, true, false, cond, eqb, List, [], ◌∷◌, ◌++◌, length, map, Option, Some, None, refl, sym, ap, ◌∙◌, subst, arith, append_assoc}
use Rattle.std.specs.Prelude.{◌||◌, ◌&&◌, ◌==◌, nat_le, is_some, is_none, unwrap_or, Result, Ok, Err, OnOk}
use Rattle.std.specs.List.{list_any, onto_first}
use Rattle.std.proofs.lemmas.List.{append-nil, map_push}
use Rattle.std.proofs.Math.Bool.{or-false}
use Rattle.std.proofs.lemmas.Bool.{eq-eqb, ne_eqb, le-leb, eqb-true, or_parts}
use Rattle.period_rows.specs.declared.part.CellPart.{CellPart}
use Rattle.scenario_text.specs.declared.pair.Pair.{Pair}
use Rattle.scenario_text.specs.declared.pairs.Scan.{Scan}
use Rattle.text_rows.specs.Fields.{ends_field, fields_of}
use Rattle.exact_parts.specs.Decimal.{number_at}
use Rattle.text_rows.proofs.FieldCuts.{fields_gone, starts_field}
use Rattle.scenario_text.specs.Fields.{is_bad, is_over, number_in, cell_named, are_even, are_pairs}
use Rattle.scenario_text.specs.ByCells.{stands_in, has_double, entries_of, pairs_of}
use Rattle.scenario_text.specs.Scanning.{HasSeen, IsMarked, IsAdded}
use Rattle.scenario_text.specs.Gives.{Scans, ScansSome}

or_assoc : (a b c : Bool) → ((a || b) || c) ≡ (a || (b || c))
or_assoc true b c = refl
or_assoc false b c = refl

crossed : (a b c d : Bool) → ((a || b) || (c || d)) ≡ ((a || c) || (b || d))
crossed true b c d = refl
crossed false true true d = refl
crossed false true false d = refl
crossed false false c d = refl

and_false : (a : Bool) → (a && false) ≡ false
and_false true = refl
and_false false = refl

any_push : {X : Type 0} (p : X → Bool) (xs : List X) (y : X) → list_any p (xs ++ y ∷ []) ≡ (list_any p xs || p y)
any_push p [] y = or-false (p y)
any_push p (x ∷ xs) y = ap (λ b. p x || b) (any_push p xs y) ∙ sym (or_assoc (p x) (list_any p xs) (p y))

-- A cell more.

eqb_sym : (a b : ℕ) → eqb a b ≡ eqb b a
eqb_sym a b = grind arith

stands_nowhere : (c : Option ℕ) → stands_in c [] ≡ false
stands_nowhere None = refl
stands_nowhere (Some c) = refl

stands_both : (c d : Option ℕ) → stands_in c (d ∷ []) ≡ stands_in d (c ∷ [])
stands_both None None = refl
stands_both None (Some d) = refl
stands_both (Some c) None = refl
stands_both (Some c) (Some d) = rw (eqb_sym d c) refl

stands_first : (c d : Option ℕ) (cs : List (Option ℕ)) → stands_in c (d ∷ cs) ≡ (stands_in c (d ∷ []) || stands_in c cs)
stands_first None d cs = refl
stands_first (Some c) d cs = ap (λ b. b || stands_in (Some c) cs) (sym (or-false (is_some d && unwrap_or d 0 == c)))

stands_push : (c d : Option ℕ) (cs : List (Option ℕ)) → stands_in c (cs ++ d ∷ []) ≡ (stands_in c cs || stands_in c (d ∷ []))
stands_push None d cs = refl
stands_push (Some c) d cs = any_push (λ d. is_some d && unwrap_or d 0 == c) cs d ∙ ap (λ b. stands_in (Some c) cs || b) (sym (or-false (is_some d && unwrap_or d 0 == c)))

-- a cell more stands twice if it stands among the others
pub double_push : (cs : List (Option ℕ)) (c : Option ℕ) → has_double (cs ++ c ∷ []) ≡ (has_double cs || stands_in c cs)
unfolding has_double
double_push [] c = or-false (stands_in c [])
double_push (a ∷ cs) c =
    rw (stands_push a c cs, double_push cs c, stands_first c a cs, stands_both a c) (crossed (stands_in a cs) (stands_in c (a ∷ [])) (has_double cs) (stands_in c cs))

some_cell : (o : Option ℕ) → is_none o ≡ false → is_some o ≡ true
some_cell None e = absurd cc
some_cell (Some c) e = refl

-- a cell has an entry if it stands among the cells
pub has_entry : (done : List Pair) (cell : ℕ) → list_any (λ x. is_none x.cell) done ≡ false → list_any (λ e. e.cell == cell) (entries_of done) ≡ stands_in (Some cell) (map (λ x. x.cell) done)
has_entry [] cell known = refl
has_entry (x ∷ done) cell known =
    let here : is_some x.cell ≡ true = some_cell x.cell ((or_parts _ _ known).0) in
    let rest = has_entry done cell (or_parts _ _ known).1 in
    rw (here, rest) refl

-- A pair more.

last_true : (a b c d : Bool) → (a || (b || (c || d))) ≡ true → a ≡ false → b ≡ false → c ≡ false → d ≡ true
last_true a b c d any e f g = rw (e, f, g) at any

-- the marks of one pair more are those of all
marked_any : {X : Type 0} (p : X → Bool) (done : List X) (x : X) (old new : Bool) → old ≡ list_any p done → new ≡ (old || p x) → new ≡ list_any p (done ++ x ∷ [])
marked_any p done x old new seen e = e ∙ ap (λ b. b || p x) seen ∙ sym (any_push p done x)

was_false : (old new more : Bool) → new ≡ (old || more) → new ≡ false → old ≡ false
was_false old new more e f = (or_parts old more (sym e ∙ f)).0

cells_push : (done : List Pair) (x : Pair) → has_double (map (λ x. x.cell) (done ++ x ∷ [])) ≡ (has_double (map (λ x. x.cell) done) || stands_in x.cell (map (λ x. x.cell) done))
cells_push done x = rw (map_push (λ (x : Pair). x.cell) done x) (double_push (map (λ x. x.cell) done) x.cell)

entries_push : (done : List Pair) (x : Pair) (cell : ℕ) → x.cell ≡ Some cell → entries_of done ++ record { cell = cell; part = number_in x.part } ∷ [] ≡ entries_of (done ++ x ∷ [])
entries_push done x cell is =
    ap (λ (o : Option ℕ). entries_of done ++ record { cell = unwrap_or o 0; part = number_in x.part } ∷ []) (sym is) ∙ sym (map_push (λ (x : Pair). record { cell = unwrap_or x.cell 0; part = number_in x.part }) done x)

-- a pair more, where something is wrong, so that nothing is added
pub seen_marked : (least : ℕ) (done : List Pair) (x : Pair) (old new : Scan) → IsMarked least old x new → (new.bad || (new.over || (new.unknown || new.double))) ≡ true → HasSeen least done old → HasSeen least (done ++ x ∷ []) new
seen_marked least done x old new m any h = record {
  bad = marked_any (λ x. is_bad least x.part) done x old.bad new.bad h.bad m.bad;
  over = marked_any (λ x. is_over x.part) done x old.over new.over h.over m.over;
  unknown = marked_any (λ x. is_none x.cell) done x old.unknown new.unknown h.unknown m.unknown;
  double = λ b o u.
      let twice : new.double ≡ true = last_true _ _ _ _ any b o u in
      let before : old.double ≡ has_double (map (λ x. x.cell) done) = h.double (was_false _ _ _ m.bad b) (was_false _ _ _ m.over o) (was_false _ _ _ m.unknown u) in
      let true_before : has_double (map (λ (x : Pair). x.cell) done) ≡ true = sym before ∙ sym m.double ∙ twice in
      rw (cells_push done x, true_before) twice;
  entries = λ b o u d. absurd (let twice : new.double ≡ true = last_true _ _ _ _ any b o u in let bad : ⊥ = cc in bad);
}

-- a pair more, where nothing is wrong so far
pub seen_added : (least : ℕ) (done : List Pair) (x : Pair) (cell : ℕ) (old marked new : Scan) → x.cell ≡ Some cell → IsMarked least old x marked → (marked.bad || (marked.over || (marked.unknown || marked.double))) ≡ false → IsAdded marked (record { cell = cell; part = number_in x.part }) new → HasSeen least done old → HasSeen least (done ++ x ∷ []) new
seen_added least done x cell old marked new is m none a h =
    let b0 : marked.bad ≡ false = (or_parts _ _ none).0 in
    let none_1 : (marked.over || (marked.unknown || marked.double)) ≡ false = (or_parts marked.bad (marked.over || (marked.unknown || marked.double)) none).1 in
    let o0 : marked.over ≡ false = (or_parts _ _ none_1).0 in
    let none_2 : (marked.unknown || marked.double) ≡ false = (or_parts marked.over (marked.unknown || marked.double) none_1).1 in
    let u0 : marked.unknown ≡ false = (or_parts _ _ none_2).0 in
    let d0 : marked.double ≡ false = (or_parts marked.unknown marked.double none_2).1 in
    let b : old.bad ≡ false = was_false _ _ _ m.bad b0 in
    let o : old.over ≡ false = was_false _ _ _ m.over o0 in
    let u : old.unknown ≡ false = was_false _ _ _ m.unknown u0 in
    let d : old.double ≡ false = sym m.double ∙ d0 in
    let entries : old.entries.items ≡ entries_of done = h.entries b o u d in
    let same : marked.entries.items ≡ entries_of done = rw m.entries entries in
    let no_double : has_double (map (λ (x : Pair). x.cell) done) ≡ false = sym (h.double b o u) ∙ d in
    let among : list_any (λ (e : CellPart). e.cell == cell) (entries_of done) ≡ stands_in (Some cell) (map (λ x. x.cell) done) = has_entry done cell (sym h.unknown ∙ u) in
    record {
      bad = marked_any (λ x. is_bad least x.part) done x old.bad new.bad h.bad (a.bad ∙ m.bad);
      over = marked_any (λ x. is_over x.part) done x old.over new.over h.over (a.over ∙ m.over);
      unknown = marked_any (λ x. is_none x.cell) done x old.unknown new.unknown h.unknown (a.unknown ∙ m.unknown);
      double = λ _ _ _. rw (cells_push done x, no_double, is) (a.double ∙ ap (list_any (λ (e : CellPart). e.cell == cell)) same ∙ among);
      entries = λ _ _ _ twice. a.entries twice ∙ ap (λ (es : List CellPart). es ++ record { cell = cell; part = number_in x.part } ∷ []) same ∙ entries_push done x cell is;
    }

pub on_ok : {T E : Type 0} (r : Result T E) (P Q : Type 0) → (P → Q) → OnOk r P → OnOk r Q
on_ok (Ok x) P Q f h = f h
on_ok (Err e) P Q f h = tt

-- The pairs of a text, read up to a rest.

pub record IsScanned (names : List (List ℕ)) (least : ℕ) (text rest : List ℕ) (scan : Scan) : Type 0 where
  pub done : List Pair
  pub seen : HasSeen least done scan
  pub so_far : done ++ pairs_of names (fields_of rest) ≡ pairs_of names (fields_of text)
  pub even : length (fields_of rest) % 2 ≡ length (fields_of text) % 2
  pub starts : ends_field rest ≡ true → rest ≡ []

-- nothing was seen yet
pub scan_starts : (names : List (List ℕ)) (least : ℕ) (text rest : List ℕ) (scan : Scan) → fields_of text ≡ fields_of rest → (ends_field rest ≡ true → rest ≡ []) → scan.bad ≡ false → scan.over ≡ false → scan.unknown ≡ false → scan.double ≡ false → scan.entries.items ≡ [] → IsScanned names least text rest scan
unfolding has_double
scan_starts names least text rest scan same starts bad over unknown double entries = record {
  done = [];
  seen = record { bad = bad; over = over; unknown = unknown; double = λ _ _ _. double; entries = λ _ _ _ _. entries };
  so_far = ap (pairs_of names) (sym same);
  even = ap (λ fs. length fs % 2) (sym same);
  starts = starts;
}

pair_first : (names : List (List ℕ)) (name part : List ℕ) (fields : List (List ℕ)) → pairs_of names (name ∷ part ∷ fields) ≡ record { cell = cell_named names name; part = number_at 1000000 part } ∷ pairs_of names fields
unfolding pairs_of
pair_first names name part fields = refl

-- one pair more was seen
pub scan_more : (names : List (List ℕ)) (least : ℕ) (text rest name after part left : List ℕ) (x : Pair) (old new : Scan) → fields_of rest ≡ name ∷ fields_of after → fields_of after ≡ part ∷ fields_of left → (ends_field left ≡ true → left ≡ [])
    → x ≡ record { cell = cell_named names name; part = number_at 1000000 part } → ((done : List Pair) → HasSeen least done old → HasSeen least (done ++ x ∷ []) new) → IsScanned names least text rest old → IsScanned names least text left new
scan_more names least text rest name after part left x old new one two starts is add s =
    let both : fields_of rest ≡ name ∷ part ∷ fields_of left = one ∙ ap (λ (fs : List (List ℕ)). name ∷ fs) two in
    let first : pairs_of names (fields_of rest) ≡ x ∷ pairs_of names (fields_of left) = ap (pairs_of names) both ∙ pair_first names name part (fields_of left) ∙ ap (λ (y : Pair). y ∷ pairs_of names (fields_of left)) (sym is) in
    let long : length (fields_of rest) ≡ suc (suc (length (fields_of left))) = ap length both in
    record {
      done = s.done ++ x ∷ [];
      seen = add s.done s.seen;
      so_far = append_assoc s.done (x ∷ []) (pairs_of names (fields_of left)) ∙ ap (λ (ys : List Pair). s.done ++ ys) (sym first) ∙ s.so_far;
      even = let e = s.even in omega (arith, long, e);
      starts = starts;
    }

-- a name without a part is left
pub scan_odd : (names : List (List ℕ)) (least : ℕ) (text rest name after : List ℕ) (scan : Scan) → fields_of rest ≡ name ∷ fields_of after → length after ≡ 0 → IsScanned names least text rest scan → are_even (fields_of text) ≡ false
scan_odd names least text rest name after scan one none s =
    let long : length (fields_of rest) ≡ 1 = ap length one ∙ ap (λ (fs : List (List ℕ)). suc (length fs)) (fields_gone after none) in
    ne_eqb _ _ (λ e. let even = s.even in omega (arith, long, even, e))

pairs_none : (names : List (List ℕ)) → pairs_of names [] ≡ []
unfolding pairs_of
pairs_none names = refl

some_onto : (c : ℕ) (pieces : List (List ℕ)) → 0 < length (onto_first c pieces)
some_onto c [] = omega arith
some_onto c (piece ∷ pieces) = omega arith

some_by_end : (ends : Bool) (c : ℕ) (fields : List (List ℕ)) → 0 < length (cond ends ((c ∷ []) ∷ fields) (onto_first c fields))
some_by_end true c fields = omega arith
some_by_end false c fields = some_onto c fields

some_field : (line : List ℕ) → ends_field line ≡ false → 0 < length (fields_of line)
unfolding fields_of
some_field [] e = absurd cc
some_field (c ∷ cs) e = rw e (some_by_end (ends_field cs) c (fields_of cs))

-- what is not empty starts a field
pub begun : (line : List ℕ) (empty : Bool) → (ends_field line ≡ true → line ≡ []) → empty ≡ (length line == 0) → empty ≡ false → ends_field line ≡ false
begun [] empty starts is some = absurd (let bad : ⊥ = cc in bad)
begun (c ∷ cs) empty starts is some = starts_field (c ∷ cs) starts (omega arith)

-- all pairs were seen
pub scan_ends : (names : List (List ℕ)) (least : ℕ) (text rest : List ℕ) (scan : Scan) → length rest ≡ 0 → IsScanned names least text rest scan → (are_even (fields_of text) ≡ true) × HasSeen least (pairs_of names (fields_of text)) scan
scan_ends names least text rest scan none s =
    let gone : fields_of rest ≡ [] = fields_gone rest none in
    let empty : length (fields_of rest) ≡ 0 = ap length gone in
    let even_text : length (fields_of text) % 2 ≡ 0 = let even = s.even in omega (arith, even, empty) in
    let no_pairs : pairs_of names (fields_of rest) ≡ [] = ap (pairs_of names) gone ∙ pairs_none names in
    let whole : s.done ≡ pairs_of names (fields_of text) = sym (append-nil s.done) ∙ ap (λ (ys : List Pair). s.done ++ ys) (sym no_pairs) ∙ s.so_far in
    let P : List Pair → Type 0 = λ list. HasSeen least list scan in
    (eq-eqb _ _ even_text, subst P whole s.seen)

-- One pair or more.

pub some_scanned : (names : List (List ℕ)) (text first : List ℕ) (o : Option Scan) → fields_of text ≡ fields_of first → ends_field first ≡ false → Scans names 1 (fields_of text) o → ScansSome names (fields_of text) o
some_scanned names text first None same begun none = rw none (and_false (nat_le 2 (length (fields_of text))))
some_scanned names text first (Some scan) same begun h =
    let some : 0 < length (fields_of text) = rw same (some_field first begun) in
    let even : length (fields_of text) % 2 ≡ 0 = eqb-true _ _ h.0 in
    let two : nat_le 2 (length (fields_of text)) ≡ true = le-leb 2 (length (fields_of text)) (omega (arith, some, even)) in
    (rw (two, h.0) refl, h.1)

pub no_pairs : (text first : List ℕ) → fields_of text ≡ fields_of first → length first ≡ 0 → are_pairs (fields_of text) ≡ false
no_pairs text first same none = rw (same ∙ fields_gone first none) refl
