-- A text whose last line has the one word `end`.
use Rattle.std.proofs.Common.{ℕ, zero, suc, ◌≡◌, ◌+◌, ◌-◌, ◌<◌, ◌≤◌, inl, inr, true, false, List, [], ◌∷◌, ◌++◌, get_or, length, take, drop, refl, sym, ap, ◌∙◌, subst, arith, append_assoc, append-nil}
use Rattle.std.specs.Prelude.{codes}
use Rattle.std.specs.List.{list_all, onto_first}
use Rattle.std.proofs.lemmas.Bool.{and_parts, ne_eqb}
use Rattle.std.proofs.lemmas.List.{drop_more, drop_all, take-append-drop, length-take-le, length-append, get_or-take, get_or_push}
use Rattle.text_rows.specs.Lines.{lines_of}
use Rattle.text_rows.specs.Fields.{is_blank, ends_field, fields_of}
use Rattle.scenario_text.specs.Laws.{EndsWithEnd}
use Rattle.scenario_text.proofs.EndLines.{lines_join}
use Rattle.plan_command.specs.Ends.{EndsInNoBlank, EndsInBlanks, BeginsLine}

-- The fields of such a line.

pub all_blank : (bs : List ℕ) → list_all is_blank bs ≡ true → ends_field bs ≡ true
all_blank [] only = refl
all_blank (c ∷ cs) only = (and_parts (is_blank c) (list_all is_blank cs) only).0

no_fields : (bs : List ℕ) → list_all is_blank bs ≡ true → fields_of bs ≡ []
unfolding fields_of
no_fields [] only = refl
no_fields (c ∷ cs) only = let parts = and_parts (is_blank c) (list_all is_blank cs) only in rw parts.0 (no_fields cs parts.1)

behind_blanks : (bs rest : List ℕ) → list_all is_blank bs ≡ true → fields_of (bs ++ rest) ≡ fields_of rest
unfolding fields_of
behind_blanks [] rest only = refl
behind_blanks (c ∷ cs) rest only = let parts = and_parts (is_blank c) (list_all is_blank cs) only in rw parts.0 (behind_blanks cs rest parts.1)

word_then : (rest : List ℕ) → ends_field rest ≡ true → fields_of (101 ∷ 110 ∷ 100 ∷ rest) ≡ (101 ∷ 110 ∷ 100 ∷ []) ∷ fields_of rest
unfolding fields_of
word_then [] ends = refl
word_then (c ∷ cs) ends = rw ends refl

one_word : (bs cs : List ℕ) → list_all is_blank bs ≡ true → list_all is_blank cs ≡ true → fields_of (bs ++ (101 ∷ 110 ∷ 100 ∷ cs)) ≡ codes "end" ∷ []
one_word bs cs before behind =
    behind_blanks bs (101 ∷ 110 ∷ 100 ∷ cs) before ∙ word_then cs (all_blank cs behind) ∙ ap (λ (fs : List (List ℕ)). (101 ∷ 110 ∷ 100 ∷ []) ∷ fs) (no_fields cs behind)

-- It is a line.

not_feed : (c : ℕ) → is_blank c ≡ true → c ≡ 10 → ⊥
not_feed c blank e = let bad : false ≡ true = subst (λ (k : ℕ). is_blank k ≡ true) e blank in let no : ⊥ = cc in no

blanks_line : (bs rest piece : List ℕ) → list_all is_blank bs ≡ true → lines_of rest ≡ piece ∷ [] → lines_of (bs ++ rest) ≡ (bs ++ piece) ∷ []
unfolding lines_of
blanks_line [] rest piece only e = e
blanks_line (c ∷ cs) rest piece only e =
    let parts = and_parts (is_blank c) (list_all is_blank cs) only in
    rw (ne_eqb c 10 (not_feed c parts.0)) (ap (onto_first c) (blanks_line cs rest piece parts.1 e))

feed_line : lines_of (10 ∷ []) ≡ [] ∷ []
unfolding lines_of
feed_line = refl

word_line : (rest piece : List ℕ) → lines_of rest ≡ piece ∷ [] → lines_of (101 ∷ 110 ∷ 100 ∷ rest) ≡ (101 ∷ 110 ∷ 100 ∷ piece) ∷ []
unfolding lines_of
word_line rest piece e = ap (λ (ls : List (List ℕ)). onto_first 101 (onto_first 110 (onto_first 100 ls))) e

one_line : (bs cs : List ℕ) → list_all is_blank bs ≡ true → list_all is_blank cs ≡ true → lines_of (bs ++ (101 ∷ 110 ∷ 100 ∷ (cs ++ 10 ∷ []))) ≡ (bs ++ (101 ∷ 110 ∷ 100 ∷ cs)) ∷ []
one_line bs cs before behind =
    let end : lines_of (cs ++ 10 ∷ []) ≡ cs ∷ [] = subst (λ (t : List ℕ). lines_of (cs ++ 10 ∷ []) ≡ t ∷ []) (append-nil cs) (blanks_line cs (10 ∷ []) [] behind feed_line) in
    blanks_line bs (101 ∷ 110 ∷ 100 ∷ (cs ++ 10 ∷ [])) (101 ∷ 110 ∷ 100 ∷ cs) before (word_line (cs ++ 10 ∷ []) cs end)

nothing : lines_of [] ≡ []
unfolding lines_of
nothing = refl

-- behind nothing, or behind a line feed
own_line : (start more last : List ℕ) → BeginsLine start → lines_of more ≡ last ∷ [] → lines_of (start ++ more) ≡ lines_of start ++ last ∷ []
own_line start more last (inl none) e = rw none (e ∙ ap (λ (ls : List (List ℕ)). ls ++ last ∷ []) (sym nothing))
own_line start more last (inr (front, fed)) e =
    ap (λ (t : List ℕ). lines_of (t ++ more)) fed
    ∙ ap lines_of (append_assoc front (10 ∷ []) more)
    ∙ lines_join front more
    ∙ ap (λ (ls : List (List ℕ)). lines_of (front ++ 10 ∷ []) ++ ls) e
    ∙ ap (λ (t : List ℕ). lines_of t ++ last ∷ []) (sym fed)

-- the text is cut so from its end on
pub ended_text : (text line word before start : List ℕ) → text ≡ line ++ 10 ∷ [] → EndsInBlanks line word → word ≡ before ++ codes "end" → EndsInBlanks before start → BeginsLine start → EndsWithEnd text
ended_text text line word before start fed behind cut front lines =
    let bs = front.blanks in
    let cs = behind.blanks in
    let whole : text ≡ start ++ (bs ++ (101 ∷ 110 ∷ 100 ∷ (cs ++ 10 ∷ []))) =
    fed
    ∙ ap (λ (t : List ℕ). t ++ 10 ∷ []) behind.whole
    ∙ ap (λ (t : List ℕ). (t ++ cs) ++ 10 ∷ []) cut
    ∙ ap (λ (t : List ℕ). ((t ++ codes "end") ++ cs) ++ 10 ∷ []) front.whole
    ∙ append_assoc ((start ++ bs) ++ codes "end") cs (10 ∷ [])
    ∙ append_assoc (start ++ bs) (codes "end") (cs ++ 10 ∷ [])
    ∙ append_assoc start bs (101 ∷ 110 ∷ 100 ∷ (cs ++ 10 ∷ [])) in
    record {
      before = lines_of start;
      last = bs ++ (101 ∷ 110 ∷ 100 ∷ cs);
      lines = ap lines_of whole ∙ own_line start _ _ lines (one_line bs cs front.only behind.only);
      word = one_word bs cs front.only behind.only;
      feed = (line, fed);
    }

-- The blanks at the end.

pub blanks_none : (text : List ℕ) → list_all is_blank (drop (length text) text) ≡ true
blanks_none text = ap (list_all is_blank) (drop_all (length text) text (omega arith))

pub blanks_more : (text : List ℕ) (len : ℕ) → 0 < len → len ≤ length text → list_all is_blank (drop len text) ≡ true → is_blank (get_or text (len - 1) 0) ≡ true → list_all is_blank (drop (len - 1) text) ≡ true
blanks_more text zero some le only here = absurd (omega (arith, some))
blanks_more text (suc n) some le only here =
    let less : suc n - 1 ≡ n = omega arith in
    let more : n + 1 ≡ suc n = omega arith in
    let this : is_blank (get_or text n 0) ≡ true = subst (λ (k : ℕ). is_blank (get_or text k 0) ≡ true) less here in
    let rest : list_all is_blank (drop (n + 1) text) ≡ true = subst (λ (k : ℕ). list_all is_blank (drop k text) ≡ true) (sym more) only in
    ap (λ (k : ℕ). list_all is_blank (drop k text)) less ∙ ap (list_all is_blank) (drop_more text n 0 (omega (arith, le))) ∙ (rw this rest)

-- what is left ends in no blank
blanks_all : (text : List ℕ) (len : ℕ) → len ≤ length text → (0 < len → is_blank (get_or text (len - 1) 0) ≡ false) → EndsInNoBlank (take len text)
blanks_all text len le stops start last e =
    let long : length (take len text) ≡ len = length-take-le len text le in
    let size : len ≡ length start + 1 = omega (arith, long, ap length e, length-append start (last ∷ [])) in
    let place : len - 1 ≡ length start = omega (arith, size) in
    let this : get_or text (len - 1) 0 ≡ last =
    ap (λ (k : ℕ). get_or text k 0) place
    ∙ sym (get_or-take len text (length start) 0 (omega (arith, size)))
    ∙ ap (λ (t : List ℕ). get_or t (length start) 0) e
    ∙ get_or_push start last 0 (length start) refl in
    subst (λ (c : ℕ). is_blank c ≡ false) this (stops (omega (arith, size)))

pub blanks_cut : (text : List ℕ) (len : ℕ) → len ≤ length text → list_all is_blank (drop len text) ≡ true → (0 < len → is_blank (get_or text (len - 1) 0) ≡ false) → EndsInBlanks text (take len text)
blanks_cut text len le only stops = record { blanks = drop len text; only = only; whole = sym (take-append-drop len text); all = blanks_all text len le stops }

pub ruleset blank_steps = (blanks_none, blanks_more, blanks_cut)
