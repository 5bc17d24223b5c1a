-- Fields that are read one after the other.
use Rattle.std.proofs.Common.{◌≡◌, ℕ, ◌<◌, ◌≤◌, ◌+◌, Bool, false, List, [], ◌∷◌, ◌++◌, map, length, get_or, drop, Option, Some, None, refl, sym, ap, ◌∙◌, add-one, drop-cons, append_assoc, Bor}
use Rattle.std.specs.Prelude.{◌||◌, ◌==◌}
use Rattle.std.specs.List.{list_any}
use Rattle.std.proofs.lemmas.List.{drop_all, append-nil}
use Rattle.tree_format.specs.Reading.{in_front, all_of}

-- what was read, and what the rest says
abbrev pub behind : List ℕ → Option (List ℕ) → Option (List ℕ)
behind done None = None
behind done (Some qs) = Some (done ++ qs)

behind-more : (done : List ℕ) (q : ℕ) (rest : Option (List ℕ)) → behind done (in_front (Some q) rest) ≡ behind (done ++ q ∷ []) rest
behind-more done q None = refl
behind-more done q (Some qs) = ap Some (sym (append_assoc done (q ∷ []) qs))

at_field : (says : List ℕ → Option ℕ) (fields : List (Bor (List ℕ))) (i : ℕ) (d : Bor (List ℕ)) → i < length fields → all_of says (map (λ f. f.now) (drop i fields)) ≡ in_front (says (get_or fields i d).now) (all_of says (map (λ f. f.now) (drop (i + 1) fields)))
unfolding all_of
at_field says fields i d lt = rw (add-one, drop-cons fields i d) refl

-- one field more was read
pub field_taken : (says : List ℕ → Option ℕ) (fields : List (Bor (List ℕ))) (i : ℕ) (d : Bor (List ℕ)) (done : List ℕ) (q : ℕ) (all : Option (List ℕ)) → i < length fields → says (get_or fields i d).now ≡ Some q → behind done (all_of says (map (λ f. f.now) (drop i fields))) ≡ all → behind (done ++ q ∷ []) (all_of says (map (λ f. f.now) (drop (i + 1) fields))) ≡ all
field_taken says fields i d done q all lt e so_far =
    let rest = all_of says (map (λ f. f.now) (drop (i + 1) fields)) in
    sym (behind-more done q rest) ∙ ap (λ (x : Option ℕ). behind done (in_front x rest)) (sym e) ∙ ap (behind done) (sym (at_field says fields i d lt)) ∙ so_far

-- a field says nothing
pub field_refused : (says : List ℕ → Option ℕ) (fields : List (Bor (List ℕ))) (i : ℕ) (d : Bor (List ℕ)) (done : List ℕ) (all : Option (List ℕ)) → i < length fields → says (get_or fields i d).now ≡ None → behind done (all_of says (map (λ f. f.now) (drop i fields))) ≡ all → all ≡ None
field_refused says fields i d done all lt e so_far =
    let rest = all_of says (map (λ f. f.now) (drop (i + 1) fields)) in
    sym so_far ∙ ap (behind done) (at_field says fields i d lt) ∙ ap (λ (x : Option ℕ). behind done (in_front x rest)) e

-- no field is left
pub fields_read : (says : List ℕ → Option ℕ) (fields : List (Bor (List ℕ))) (i : ℕ) (done : List ℕ) (all : Option (List ℕ)) → length fields ≤ i → behind done (all_of says (map (λ f. f.now) (drop i fields))) ≡ all → Some done ≡ all
unfolding all_of
fields_read says fields i done all le so_far =
    let gone : drop i fields ≡ [] = drop_all i fields le in
    ap Some (sym (append-nil done)) ∙ ap (λ (fs : List (Bor (List ℕ))). behind done (all_of says (map (λ f. f.now) fs))) (sym gone) ∙ so_far

abbrev any_empty : List (List ℕ) → Bool
any_empty fields = list_any (λ f. length f == 0) fields

pub empty_at : (fields : List (Bor (List ℕ))) (i : ℕ) (d : Bor (List ℕ)) → i < length fields → any_empty (map (λ f. f.now) (drop i fields)) ≡ ((length (get_or fields i d).now == 0) || any_empty (map (λ f. f.now) (drop (i + 1) fields)))
empty_at fields i d lt = rw (add-one, drop-cons fields i d) refl

pub none_empty : (fields : List (Bor (List ℕ))) (i : ℕ) → length fields ≤ i → any_empty (map (λ f. f.now) (drop i fields)) ≡ false
none_empty fields i le = let gone : drop i fields ≡ [] = drop_all i fields le in rw gone refl

pub ruleset empty_steps = (empty_at, none_empty)

pub ruleset all_steps = (field_taken, field_refused, fields_read)
