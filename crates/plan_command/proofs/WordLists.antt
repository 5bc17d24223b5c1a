-- Lists of so many words.
use Rattle.std.proofs.Common.{ℕ, ◌≡◌, ◌≤◌, ◌<◌, Bool, true, false, List, [], ◌∷◌, length, get_or, map, Option, Some, None, sym, ap, ◌∙◌, subst, arith, refl}
use Rattle.std.specs.Prelude.{◌==◌, suc, IfSome, IfNone, if◌then◌else◌}
use Rattle.std.specs.List.{list_all}
use Rattle.std.proofs.lemmas.List.{length-map}
use Rattle.std.proofs.lemmas.Bool.{le-leb}
use Rattle.std.proofs.lemmas.List.Folds.{list_all-map}
use Rattle.search_model.specs.Names.{IsName, is_name}
use Rattle.search_model.proofs.NameLemmas.{is_name_tells, is_name_of}
use Rattle.scenario_text.proofs.Positions.{position_map}
use Rattle.plan_command.specs.declared.request.Request.{Request}
use Rattle.plan_command.specs.WordReading.{option_at, alone_at, report_at, make_at, duo_with, are_flown, name_in}

module _ {X Y : Type 0} (f : X → Y) where
  pub none_of : (xs : List X) → length xs < 1 → map f xs ≡ []
  none_of [] low = refl
  none_of (x ∷ xs) low = absurd (omega arith)

  pub one_of : (xs : List X) (a : X) → 1 ≤ length xs → length xs < 2 → a ≡ get_or xs 0 a → map f xs ≡ f a ∷ []
  one_of [] a low high is = absurd (omega arith)
  one_of (x ∷ []) a low high is = ap (λ v. f v ∷ []) (sym is)
  one_of (x ∷ y ∷ xs) a low high is = absurd (omega arith)

  pub two_of : (xs : List X) (a b : X) → 2 ≤ length xs → length xs < 3 → a ≡ get_or xs 0 a → b ≡ get_or xs 1 b → map f xs ≡ f a ∷ f b ∷ []
  two_of [] a b low high is at = absurd (omega arith)
  two_of (x ∷ xs) a b low high is at = ap (λ (v : Y). v ∷ map f xs) (sym (ap f is)) ∙ ap (λ (ys : List Y). f a ∷ ys) (one_of xs b (omega arith) (omega arith) at)

-- words of no length that a command or an option has
module _ {X : Type 0} (f : X → List ℕ) where
  pub option_other : (name : List ℕ) (most default : ℕ) (xs : List X) → (length xs ≡ 0 → ⊥) → (length xs ≡ 2 → ⊥) → None ≡ option_at name most default (map f xs)
  option_other name most default [] none two = absurd (none refl)
  option_other name most default (a ∷ []) none two = refl
  option_other name most default (a ∷ b ∷ []) none two = absurd (two refl)
  option_other name most default (a ∷ b ∷ c ∷ xs) none two = refl

  pub alone_other : (request : Request) (xs : List X) → (length xs ≡ 0 → ⊥) → None ≡ alone_at request (map f xs)
  alone_other request [] none = absurd (none refl)
  alone_other request (a ∷ xs) none = refl

  pub report_other : (xs : List X) → (length xs ≡ 0 → ⊥) → (length xs ≡ 2 → ⊥) → None ≡ report_at (map f xs)
  report_other [] none two = absurd (none refl)
  report_other (a ∷ []) none two = refl
  report_other (a ∷ b ∷ []) none two = absurd (two refl)
  report_other (a ∷ b ∷ c ∷ xs) none two = refl

  pub make_other : (xs : List X) → (length xs ≡ 1 → ⊥) → None ≡ make_at (map f xs)
  make_other [] one = refl
  make_other (a ∷ []) one = absurd (one refl)
  make_other (a ∷ b ∷ xs) one = refl

  pub duo_other : (options : Option (ℕ × ℕ)) (xs : List X) → (length xs ≡ 1 → ⊥) → None ≡ duo_with options (map f xs)
  duo_other options [] one = refl
  duo_other options (a ∷ []) one = absurd (one refl)
  duo_other options (a ∷ b ∷ xs) one = refl

pub name_new : (word bytes : List ℕ) (r : Option (List ℕ)) → bytes ≡ word → IfSome r (λ n. (n ≡ bytes) × IsName bytes) → IfNone r (IsName bytes → ⊥) → r ≡ name_in word
name_new word bytes (Some n) is (same, name) none = rw (is_name_of word (subst IsName is name), same, is) refl
name_new word bytes None is some none = none_named (is_name word) refl
  where
    none_named : (t : Bool) → is_name word ≡ t → None ≡ (if t then Some word else None)
    none_named true e = absurd (none (subst IsName (sym is) (is_name_tells word e)))
    none_named false e = refl

-- words are 1 to 32 names where they pass the test
pub flown_test : {X : Type 0} (f : X → List ℕ) (xs : List X) → (length xs == 0) ≡ false → length xs ≤ 32 → list_all (λ x. is_name (f x)) xs ≡ are_flown (map f xs)
unfolding are_flown
flown_test f [] some few = absurd (let bad : ⊥ = cc in bad)
flown_test f (x ∷ xs) some few = rw (length-map xs f, le-leb 1 (suc (length xs)) (omega arith), le-leb (suc (length xs)) 32 few, list_all-map is_name f xs) refl

pub ruleset word_steps = (none_of, one_of, two_of, option_other, alone_other, report_other, make_other, duo_other)

pub ruleset place_steps = (position_map)

pub ruleset name_steps = (name_new, flown_test)
