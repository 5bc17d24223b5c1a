-- A text whose last line has the one word `end` is cut so from its end on.
use Rattle.std.proofs.Common.{ℕ, ◌≡◌, ◌<◌, inl, inr, Bool, true, false, List, [], ◌∷◌, ◌++◌, length, refl, sym, ap, ◌∙◌, subst, arith, append_assoc, append-nil, length-append}
use Rattle.std.specs.Prelude.{codes, ◌==◌, if◌then◌else◌}
use Rattle.std.specs.List.{list_all, onto_first}
use Rattle.std.proofs.lemmas.Bool.{and_parts, eqb-true}
use Rattle.std.proofs.lemmas.List.{append_cancel_right, same_from_push}
use Rattle.std.proofs.lemmas.List.Folds.{list_all-append}
use Rattle.text_rows.specs.Lines.{lines_of, lines_text}
use Rattle.text_rows.specs.Fields.{is_blank, ends_field, fields_of}
use Rattle.scenario_text.specs.Laws.{EndsWithEnd}
use Rattle.tree_format.proofs.Feedings.{lines_more}
use Rattle.plan_command.specs.Ends.{EndsInNoBlank, EndsInBlanks, BeginsLine}
use Rattle.plan_command.proofs.EndWords.{all_blank}

-- A text that ends with a line feed is its lines, each with one.

text_by : (b : Bool) (c : ℕ) (ls : List (List ℕ)) (t : List ℕ) → 0 < length t → (b ≡ true → c ≡ 10) → lines_text ls ≡ t → lines_text (if b then [] ∷ ls else onto_first c ls) ≡ c ∷ t
text_by true c ls t some feed e = rw (feed refl) (ap (λ (x : List ℕ). 10 ∷ x) e)
text_by false c [] t some feed e = absurd (let none : length t ≡ 0 = ap length (sym e) in omega (arith, none, some))
text_by false c (l ∷ ls) t some feed e = ap (λ (x : List ℕ). c ∷ x) e

lines_whole : (start : List ℕ) → lines_text (lines_of (start ++ 10 ∷ [])) ≡ start ++ 10 ∷ []
unfolding lines_of
lines_whole [] = refl
lines_whole (c ∷ start) = text_by (c == 10) c (lines_of (start ++ 10 ∷ [])) (start ++ 10 ∷ []) (omega (arith, length-append start (10 ∷ []))) (eqb-true c 10) (lines_whole start)

behind_one : (line text : List ℕ) → BeginsLine text → BeginsLine ((line ++ 10 ∷ []) ++ text)
behind_one line text (inl none) = inr (line, ap (λ (t : List ℕ). (line ++ 10 ∷ []) ++ t) none ∙ append-nil (line ++ 10 ∷ []))
behind_one line text (inr (front, fed)) = inr ((line ++ 10 ∷ []) ++ front, ap (λ (t : List ℕ). (line ++ 10 ∷ []) ++ t) fed ∙ sym (append_assoc (line ++ 10 ∷ []) front (10 ∷ [])))

-- what follows lines begins a line
begins_behind : (lines : List (List ℕ)) → BeginsLine (lines_text lines)
begins_behind [] = inl refl
begins_behind (l ∷ ls) = behind_one l (lines_text ls) (begins_behind ls)

-- The one field of a line.

-- a line has no field, or one more, by its first byte
no_field_by : (b e : Bool) (c : ℕ) (fs : List (List ℕ)) → (if b then fs else (if e then (c ∷ []) ∷ fs else onto_first c fs)) ≡ [] → (b ≡ true) × (fs ≡ [])
no_field_by true e c fs none = (refl, none)
no_field_by false true c fs none = absurd cc
no_field_by false false c [] none = absurd cc
no_field_by false false c (f ∷ fs) none = absurd cc

only_blanks : (line : List ℕ) → fields_of line ≡ [] → list_all is_blank line ≡ true
unfolding fields_of
only_blanks [] none = refl
only_blanks (c ∷ cs) none =
    let parts = no_field_by (is_blank c) (ends_field cs) c (fields_of cs) none in
    rw parts.0 (only_blanks cs parts.1)

-- blanks, a word and blanks
record OneWord (line word : List ℕ) : Type 0 where
  before : List ℕ
  behind : List ℕ
  blank_before : list_all is_blank before ≡ true
  blank_behind : list_all is_blank behind ≡ true
  whole : line ≡ before ++ (word ++ behind)

blank_more : (c : ℕ) (cs word : List ℕ) → is_blank c ≡ true → OneWord cs word → OneWord (c ∷ cs) word
blank_more c cs word blank h = record {
  before = c ∷ h.before;
  behind = h.behind;
  blank_before = rw (blank, h.blank_before) refl;
  blank_behind = h.blank_behind;
  whole = ap (λ (t : List ℕ). c ∷ t) h.whole;
}

-- a byte that goes on to a word
byte_more : (c : ℕ) (cs word before behind : List ℕ) → ends_field cs ≡ false → list_all is_blank before ≡ true → list_all is_blank behind ≡ true → cs ≡ before ++ (word ++ behind) → OneWord (c ∷ cs) (c ∷ word)
byte_more c cs word [] behind goes blank_before blank_behind whole = record {
  before = [];
  behind = behind;
  blank_before = refl;
  blank_behind = blank_behind;
  whole = ap (λ (t : List ℕ). c ∷ t) whole;
}
byte_more c cs word (d ∷ before) behind goes blank_before blank_behind whole =
    let starts : is_blank d ≡ false = sym (ap ends_field whole) ∙ goes in
    let bad : true ≡ false = sym (and_parts (is_blank d) (list_all is_blank before) blank_before).0 ∙ starts in
    absurd cc

-- what one field more makes of the rest
word_between_by : (b e : Bool) (c : ℕ) (cs word : List ℕ) (fs : List (List ℕ)) → is_blank c ≡ b → ends_field cs ≡ e → fields_of cs ≡ fs →
    ((w : List ℕ) → fs ≡ w ∷ [] → OneWord cs w) → (if b then fs else (if e then (c ∷ []) ∷ fs else onto_first c fs)) ≡ word ∷ [] → OneWord (c ∷ cs) word
word_between_by true e c cs word fs blank ends is goes h = blank_more c cs word blank (goes word h)
word_between_by false true c cs word fs blank ends is goes h =
    let none : fs ≡ [] = cc in
    let this : c ∷ [] ≡ word = cc in
    record {
      before = [];
      behind = cs;
      blank_before = refl;
      blank_behind = only_blanks cs (is ∙ none);
      whole = ap (λ (w : List ℕ). w ++ cs) this;
    }
word_between_by false false c cs word [] blank ends is goes h =
    let bad : true ≡ false = sym (all_blank cs (only_blanks cs is)) ∙ ends in
    absurd cc
word_between_by false false c cs word (f ∷ fs) blank ends is goes h =
    let none : fs ≡ [] = cc in
    let this : c ∷ f ≡ word = cc in
    let rest = goes f (ap (λ (gs : List (List ℕ)). f ∷ gs) none) in
    subst (OneWord (c ∷ cs)) this (byte_more c cs f rest.before rest.behind ends rest.blank_before rest.blank_behind rest.whole)

word_between : (line word : List ℕ) → fields_of line ≡ word ∷ [] → OneWord line word
unfolding fields_of
word_between [] word h = absurd cc
word_between (c ∷ cs) word h = word_between_by (is_blank c) (ends_field cs) c cs word (fields_of cs) refl refl refl (word_between cs) h

-- Where blanks are cut off.

record EndingIn (text : List ℕ) : Type 0 where
  start : List ℕ
  last : ℕ
  blank : is_blank last ≡ true
  whole : text ≡ start ++ last ∷ []

last_blank : (c : ℕ) (cs : List ℕ) → is_blank c ≡ true → list_all is_blank cs ≡ true → EndingIn (c ∷ cs)
last_blank c [] blank only = record { start = []; last = c; blank = blank; whole = refl }
last_blank c (d ∷ cs) blank only =
    let parts = and_parts (is_blank d) (list_all is_blank cs) only in
    let more = last_blank d cs parts.0 parts.1 in
    record { start = c ∷ more.start; last = more.last; blank = more.blank; whole = ap (λ (t : List ℕ). c ∷ t) more.whole }

-- bytes that end in no blank aren't blanks
not_only : {P : Type 0} (c : ℕ) (cs bs behind : List ℕ) → EndsInNoBlank (c ∷ cs) → list_all is_blank bs ≡ true → (c ∷ cs) ++ behind ≡ bs → P
not_only c cs bs behind all only e =
    let blanks : list_all is_blank ((c ∷ cs) ++ behind) ≡ true = ap (list_all is_blank) e ∙ only in
    let front : list_all is_blank (c ∷ cs) ≡ true = (and_parts (list_all is_blank (c ∷ cs)) (list_all is_blank behind) (sym (list_all-append is_blank (c ∷ cs) behind) ∙ blanks)).0 in
    let parts = and_parts (is_blank c) (list_all is_blank cs) front in
    let here = last_blank c cs parts.0 parts.1 in
    let bad : true ≡ false = sym here.blank ∙ all here.start here.last here.whole in
    absurd (let no : ⊥ = cc in no)

tail_all : (c : ℕ) (cs : List ℕ) → EndsInNoBlank (c ∷ cs) → EndsInNoBlank cs
tail_all c cs all start last e = all (c ∷ start) last (ap (λ (t : List ℕ). c ∷ t) e)

-- the front without the blanks at the end is one
same_front : (f g bs cs : List ℕ) → list_all is_blank bs ≡ true → list_all is_blank cs ≡ true → EndsInNoBlank f → EndsInNoBlank g → f ++ bs ≡ g ++ cs → f ≡ g
same_front [] [] bs cs left right all all' e = refl
same_front [] (c ∷ g) bs cs left right all all' e = not_only c g bs cs all' left (sym e)
same_front (c ∷ f) [] bs cs left right all all' e = not_only c f cs bs all right e
same_front (c ∷ f) (d ∷ g) bs cs left right all all' e =
    let head : c ≡ d = cc in
    let rest : f ++ bs ≡ g ++ cs = cc in
    let same : f ≡ g = same_front f g bs cs left right (tail_all c f all) (tail_all d g all') rest in
    cc

-- behind other bytes too, where this one is no blank
all_behind : (front : List ℕ) (c : ℕ) → is_blank c ≡ false → EndsInNoBlank (front ++ c ∷ [])
all_behind front c other start last e = subst (λ (d : ℕ). is_blank d ≡ false) (same_from_push front start c last e).1 other

line_all : (start : List ℕ) → BeginsLine start → EndsInNoBlank start
line_all start (inl none) = λ front last e. absurd (let bad : length start ≡ 0 = ap length none in omega (arith, bad, ap length e, length-append front (last ∷ [])))
line_all start (inr (front, fed)) = subst EndsInNoBlank (sym fed) (all_behind front 10 refl)

-- A text that ends with such a line.

record LastLine (line : List ℕ) : Type 0 where
  start : List ℕ
  begins : BeginsLine start
  before : List ℕ
  blank_before : list_all is_blank before ≡ true
  behind : List ℕ
  blank_behind : list_all is_blank behind ≡ true
  whole : line ≡ (start ++ before ++ codes "end") ++ behind

last_line : (text line : List ℕ) → text ≡ line ++ 10 ∷ [] → EndsWithEnd text → LastLine line
last_line text line fed h =
    let start = lines_text h.before in
    let word = word_between h.last (codes "end") h.word in
    let lines : text ≡ start ++ (h.last ++ 10 ∷ []) =
    fed
    ∙ sym (lines_whole line)
    ∙ ap (λ (t : List ℕ). lines_text (lines_of t)) (sym fed)
    ∙ ap lines_text h.lines
    ∙ sym (append-nil (lines_text (h.before ++ h.last ∷ [])))
    ∙ lines_more h.before h.last [] in
    let cut : line ≡ start ++ h.last = append_cancel_right line (start ++ h.last) (10 ∷ []) (sym fed ∙ lines ∙ sym (append_assoc start h.last (10 ∷ []))) in
    record {
      start = start;
      begins = begins_behind h.before;
      before = word.before;
      blank_before = word.blank_before;
      behind = word.behind;
      blank_behind = word.blank_behind;
      whole =
          cut
          ∙ ap (λ (t : List ℕ). start ++ t) word.whole
          ∙ sym (append_assoc start word.before (codes "end" ++ word.behind))
          ∙ sym (append_assoc (start ++ word.before) (codes "end") word.behind);
    }

-- the blanks behind the word are cut off
word_cut : (line word : List ℕ) → EndsInBlanks line word → (h : LastLine line) → word ≡ h.start ++ h.before ++ codes "end"
word_cut line word cut h =
    let ends : EndsInNoBlank ((h.start ++ h.before ++ (101 ∷ 110 ∷ [])) ++ 100 ∷ []) = all_behind (h.start ++ h.before ++ (101 ∷ 110 ∷ [])) 100 refl in
    let whole : (h.start ++ h.before ++ (101 ∷ 110 ∷ [])) ++ 100 ∷ [] ≡ h.start ++ h.before ++ codes "end" = append_assoc (h.start ++ h.before) (101 ∷ 110 ∷ []) (100 ∷ []) in
    same_front word (h.start ++ h.before ++ codes "end") cut.blanks h.behind cut.only h.blank_behind cut.all (subst EndsInNoBlank whole ends) (sym cut.whole ∙ h.whole)

-- A text that isn't cut so ends with no such line.

pub no_word : (text line word : List ℕ) → text ≡ line ++ 10 ∷ [] → EndsInBlanks line word → ((before : List ℕ) → word ≡ before ++ codes "end" → ⊥) → EndsWithEnd text → ⊥
no_word text line word fed cut none h =
    let last = last_line text line fed h in
    none (last.start ++ last.before) (word_cut line word cut last)

-- and one that is cut so begins a line before the blanks
pub begins_there : (text line word before start : List ℕ) → text ≡ line ++ 10 ∷ [] → EndsInBlanks line word → word ≡ before ++ codes "end" → EndsInBlanks before start → EndsWithEnd text → BeginsLine start
begins_there text line word before start fed behind cut front h =
    let last = last_line text line fed h in
    let blanks : before ≡ last.start ++ last.before = append_cancel_right before (last.start ++ last.before) (codes "end") (sym cut ∙ word_cut line word behind last) in
    let same : start ≡ last.start = same_front start last.start front.blanks last.before front.only last.blank_before front.all (line_all last.start last.begins) (sym front.whole ∙ blanks) in
    subst BeginsLine (sym same) last.begins
