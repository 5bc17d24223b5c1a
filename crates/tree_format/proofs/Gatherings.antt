-- The line that a feed keeps has the fields of the line's summary.
use Rattle.std.proofs.Common.{◌≡◌, ℕ, suc, ◌<◌, ◌≤◌, ◌+◌, ◌-◌, Bool, true, false, cond, List, [], ◌∷◌, ◌++◌, length, take, refl, sym, ap, ◌∙◌, arith, append_assoc}
use Rattle.std.specs.Prelude.{◌==◌, nat_lt}
use Rattle.std.specs.List.{onto_first}
use Rattle.std.proofs.lemmas.Bool.{cond_both, lt-ltb, ltb-true, ltb-false, eqb-true, eqb-false}
use Rattle.std.proofs.lemmas.List.{append-nil, take_all}
use Rattle.search_model.specs.Problem.{Problem, IsProblem}
use Rattle.tree_format.specs.declared.due.Due.{Due}
use Rattle.text_rows.specs.Fields.{exact_fields}
use Rattle.text_rows.proofs.Splits.{split_more, split_here, split_nothing, some_piece}
use Rattle.tree_format.specs.Reading.{line_at, summary_of}
use Rattle.tree_format.specs.Gathering.{Gathered, nothing_gathered, with_blank, with_other, with_byte, gathered}
use Rattle.tree_format.proofs.Summaries.{summary_decides}
use Rattle.tree_format.proofs.FirstFields.{fronts}

-- bytes more at the end
pub gathered_append : (cs bytes : List ℕ) (g : Gathered) → gathered g (cs ++ bytes) ≡ gathered (gathered g cs) bytes
unfolding gathered
gathered_append [] bytes g = refl
gathered_append (b ∷ cs) bytes g = gathered_append cs bytes (with_byte b g)

-- one byte more
pub gathered_more : (cs : List ℕ) (g : Gathered) (c : ℕ) → gathered g (cs ++ c ∷ []) ≡ with_byte c (gathered g cs)
unfolding gathered
gathered_more cs g c = gathered_append cs (c ∷ []) g

pub gathered_nothing : (g : Gathered) → gathered g [] ≡ g
unfolding gathered
gathered_nothing g = refl

by_test : (b : Bool) (G : Bool → Type 0) → (b ≡ true → G true) → (b ≡ false → G false) → G b
by_test true G t f = t refl
by_test false G t f = f refl

-- what is kept of bytes behind so many blanks and bytes of the last field
kept : List ℕ → ℕ → ℕ → List ℕ
kept [] k w = []
kept (c ∷ cs) k w = cond (c == 32) (cond (nat_lt k 69) (32 ∷ kept cs (k + 1) 0) []) (cond (nat_lt w 40) (c ∷ kept cs k (w + 1)) (kept cs k w))

abbrev at : List ℕ → ℕ → ℕ → Gathered
at text k w = record { text = text; blanks = k; width = w }

gathered_full : (cs text : List ℕ) (w : ℕ) → (gathered (at text 70 w) cs).text ≡ text
unfolding gathered
gathered_full [] text w = refl
gathered_full (c ∷ cs) text w =
    cond_both (c == 32) (with_blank (at text 70 w)) (with_other c (at text 70 w)) (λ (g : Gathered). (gathered g cs).text ≡ text) (λ _. gathered_full cs text 0) (λ _. gathered_full cs text w)

gathered_kept : (cs text : List ℕ) (k w : ℕ) → k < 70 → (gathered (at text k w) cs).text ≡ text ++ kept cs k w
unfolding gathered kept
gathered_kept [] text k w lt = sym (append-nil text)
gathered_kept (c ∷ cs) text k w lt =
    by_test (c == 32)
    (λ b. (gathered (cond b (with_blank (at text k w)) (with_other c (at text k w))) cs).text ≡ text ++ cond b (cond (nat_lt k 69) (32 ∷ kept cs (k + 1) 0) []) (cond (nat_lt w 40) (c ∷ kept cs k (w + 1)) (kept cs k w)))
    (λ _. by_test (nat_lt k 69)
    (λ b. (gathered (cond b (at (text ++ 32 ∷ []) (k + 1) 0) (at text 70 0)) cs).text ≡ text ++ cond b (32 ∷ kept cs (k + 1) 0) [])
    (λ below. gathered_kept cs (text ++ 32 ∷ []) (k + 1) 0 (let few = ltb-true k 69 below in omega (arith, few)) ∙ append_assoc text (32 ∷ []) (kept cs (k + 1) 0))
    (λ _. gathered_full cs text 0 ∙ sym (append-nil text)))
    (λ _. rw (lt-ltb k 70 lt) (by_test (nat_lt w 40)
    (λ b. (gathered (cond b (at (text ++ c ∷ []) k (w + 1)) (at text k w)) cs).text ≡ text ++ cond b (c ∷ kept cs k (w + 1)) (kept cs k w))
    (λ _. gathered_kept cs (text ++ c ∷ []) k (w + 1) lt ∙ append_assoc text (c ∷ []) (kept cs k (w + 1)))
    (λ _. gathered_kept cs text k w lt)))

-- the fields of a line behind so many blanks and bytes of the last field, cut off
abbrev cut_from : ℕ → ℕ → List (List ℕ) → List (List ℕ)
cut_from k w [] = []
cut_from k w (f ∷ fs) = take (40 - w) f ∷ fronts (take (69 - k) fs)

cut_next : (k : ℕ) (fs : List (List ℕ)) → k < 69 → cut_from (k + 1) 0 fs ≡ fronts (take (69 - k) fs)
cut_next k [] lt = ap fronts (sym (take_all (69 - k) [] (omega arith)))
cut_next k (f ∷ fs) lt = let step : 69 - k ≡ suc (69 - (k + 1)) = omega (arith, lt) in rw step refl

cut_more : (k w c : ℕ) (fs : List (List ℕ)) → w < 40 → (length fs == 0) ≡ false → onto_first c (cut_from k (w + 1) fs) ≡ cut_from k w (onto_first c fs)
cut_more k w c [] lt some = absurd (let bad : ⊥ = cc in bad)
cut_more k w c (f ∷ fs) lt some = let step : 40 - w ≡ suc (40 - (w + 1)) = omega (arith, lt) in rw step refl

cut_full : (k w c : ℕ) (fs : List (List ℕ)) → 40 ≤ w → (length fs == 0) ≡ false → cut_from k w fs ≡ cut_from k w (onto_first c fs)
cut_full k w c [] le some = absurd (let bad : ⊥ = cc in bad)
cut_full k w c (f ∷ fs) le some = let none : 40 - w ≡ 0 = omega (arith, le) in rw none refl

cut_last : (k : ℕ) (fs : List (List ℕ)) → 69 ≤ k → fronts (take (69 - k) fs) ≡ []
cut_last k fs le = let none : 69 - k ≡ 0 = omega (arith, le) in rw none refl

kept_fields : (cs : List ℕ) (k w : ℕ) → k < 70 → exact_fields (kept cs k w) ≡ cut_from k w (exact_fields cs)
unfolding kept
kept_fields [] k w lt =
    split_nothing 32 ∙ ap (λ (f : List ℕ). f ∷ []) (sym (take_all (40 - w) [] (omega arith))) ∙ ap (λ (fs : List (List ℕ)). take (40 - w) [] ∷ fronts fs) (sym (take_all (69 - k) [] (omega arith))) ∙ ap (cut_from k w) (sym (split_nothing 32))
kept_fields (c ∷ cs) k w lt =
    by_test (c == 32) (λ b. exact_fields (cond b (cond (nat_lt k 69) (32 ∷ kept cs (k + 1) 0) []) (cond (nat_lt w 40) (c ∷ kept cs k (w + 1)) (kept cs k w))) ≡ cut_from k w (exact_fields (c ∷ cs)))
    (λ blank.
    let whole : exact_fields (c ∷ cs) ≡ [] ∷ exact_fields cs = ap (λ (x : ℕ). exact_fields (x ∷ cs)) (eqb-true c 32 blank) ∙ split_here 32 cs in
    let nothing : take (40 - w) [] ≡ [] = take_all (40 - w) [] (omega arith) in
    let right : cut_from k w (exact_fields (c ∷ cs)) ≡ [] ∷ fronts (take (69 - k) (exact_fields cs)) = ap (cut_from k w) whole ∙ ap (λ (f : List ℕ). f ∷ fronts (take (69 - k) (exact_fields cs))) nothing in
    by_test (nat_lt k 69) (λ b. exact_fields (cond b (32 ∷ kept cs (k + 1) 0) []) ≡ cut_from k w (exact_fields (c ∷ cs)))
    (λ below.
    let few = ltb-true k 69 below in
    split_here 32 (kept cs (k + 1) 0) ∙ ap (λ (fs : List (List ℕ)). [] ∷ fs) (kept_fields cs (k + 1) 0 (omega (arith, few)) ∙ cut_next k (exact_fields cs) few) ∙ sym right)
    (λ above. split_nothing 32 ∙ ap (λ (fs : List (List ℕ)). [] ∷ fs) (sym (cut_last k (exact_fields cs) (ltb-false k 69 above))) ∙ sym right))
    (λ other.
    let ne = eqb-false c 32 other in
    let some = some_piece 32 cs in
    let right : cut_from k w (exact_fields (c ∷ cs)) ≡ cut_from k w (onto_first c (exact_fields cs)) = ap (cut_from k w) (split_more 32 c cs ne) in
    by_test (nat_lt w 40) (λ b. exact_fields (cond b (c ∷ kept cs k (w + 1)) (kept cs k w)) ≡ cut_from k w (exact_fields (c ∷ cs)))
    (λ below. split_more 32 c (kept cs k (w + 1)) ne ∙ ap (onto_first c) (kept_fields cs k (w + 1) lt) ∙ cut_more k w c (exact_fields cs) (ltb-true w 40 below) some ∙ sym right)
    (λ above. kept_fields cs k w lt ∙ cut_full k w c (exact_fields cs) (ltb-false w 40 above) some ∙ sym right))

cut_summary : (fs : List (List ℕ)) → cut_from 0 0 fs ≡ summary_of fs
cut_summary [] = ap fronts (sym (take_all 70 [] (omega arith)))
cut_summary (f ∷ fs) = refl

-- of a line the first 40 bytes of each of its first 70 fields are kept
pub gathered_summary : (line : List ℕ) → exact_fields (gathered nothing_gathered line).text ≡ summary_of (exact_fields line)
gathered_summary line = ap exact_fields (gathered_kept line [] 0 0 (omega arith)) ∙ kept_fields line 0 0 (omega arith) ∙ cut_summary (exact_fields line)

-- so it is judged as the whole line is
pub gathered_judged : (p : Problem) → IsProblem p → (d : Due) (line : List ℕ) → line_at p d (exact_fields (gathered nothing_gathered line).text) ≡ line_at p d (exact_fields line)
gathered_judged p h d line = ap (line_at p d) (gathered_summary line) ∙ summary_decides p d (exact_fields line) h
