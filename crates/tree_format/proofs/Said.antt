-- The text of a number or a name says it.
use Rattle.std.proofs.Common.{◌≡◌, ℕ, ◌<◌, ◌-◌, ◌^◌, List, [], ◌∷◌, map, length, Option, Some, refl, ap, arith}
use Rattle.std.specs.Prelude.{All}
use Rattle.std.specs.Fmt.{decimal}
use Rattle.std.specs.Str.{bytes_eq}
use Rattle.std.proofs.lemmas.Bool.{false_from_ne_true}
use Rattle.std.proofs.lemmas.List.Elements.{All-head, All-tail}
use Rattle.std.proofs.lemmas.Slice.Eq.{bytes_eq-Decides}
use Rattle.exact_parts.proofs.Decimals.{number_at-decimal}
use Rattle.search_model.specs.Problem.{Problem, IsProblem, position_name, position_named}
use Rattle.tree_format.specs.Reading.{said, amount_in, place_in, all_of}
use Rattle.list_laws.proofs.Firsts.{position-first}
use Rattle.search_model.proofs.NameLemmas.{names_apart}

pub amount_in-decimal : (n : ℕ) → n < 2 ^ 128 → amount_in (decimal n) ≡ Some n
amount_in-decimal n small = ap said (number_at-decimal 340282366920938463463374607431768211455 n (omega arith) (omega arith))

pub place_in-decimal : (p : Problem) → IsProblem p → (q : ℕ) → q < p.positions → place_in p (decimal q) ≡ Some q
place_in-decimal p h q lt = ap said (number_at-decimal (p.positions - 1) q (omega arith) (omega (arith, h.positions.1)))

pub position_named-name : (p : Problem) → IsProblem p → (q : ℕ) → q < p.positions → position_named p (position_name p q) ≡ Some q
position_named-name p h q lt =
    let within : q < length p.position_names = omega (arith, h.position_names.count) in
    position-first (λ n. bytes_eq n (position_name p q)) p.position_names q [] within
    (λ k below. false_from_ne_true _ (λ e. names_apart p.position_names h.position_names.differ k q below within ((bytes_eq-Decides (position_name p k) (position_name p q)).0 e)))
    ((bytes_eq-Decides (position_name p q) (position_name p q)).1 refl)

-- fields that say these numbers, one each
pub all_of-map : (says : List ℕ → Option ℕ) (g : ℕ → List ℕ) (P : ℕ → Type 0) → ((q : ℕ) → P q → says (g q) ≡ Some q) → (qs : List ℕ) → All P qs → all_of says (map g qs) ≡ Some qs
unfolding all_of
all_of-map says g P each [] h = refl
all_of-map says g P each (q ∷ qs) h = rw (each q (All-head P q qs h), all_of-map says g P each qs (All-tail P q qs h)) refl
