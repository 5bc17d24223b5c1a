-- The rows of moves and of overlook parts are taken.
use Rattle.std.proofs.Common.{◌≡◌, ℕ, ◌+◌, ◌<◌, ◌≤◌, false, List, [], ◌∷◌, map, length, set, Option, Some, None, Ok, refl, sym, ap, ◌∙◌, arith, inl, inr}
use Rattle.std.specs.Prelude.{All, nat_lt, unwrap_or, slice_index_or, is_none}
use Rattle.std.specs.List.{list_any}
use Rattle.std.proofs.lemmas.Bool.{le-ltb, lt-ltb, ne_eqb, cases_order}
use Rattle.std.proofs.lemmas.List.{length-map}
use Rattle.std.proofs.lemmas.List.Elements.{All-head, All-tail}
use Rattle.search_grid.specs.Moves.{moves_from, IsMoveRow}
use Rattle.search_model.specs.Names.{name_in}
use Rattle.scenario_text.specs.State.{State}
use Rattle.scenario_text.specs.Fields.{cell_named}
use Rattle.std.specs.Fmt.{decimal}
use Rattle.scenario_text.specs.declared.line.Line.TheVariants.{Overlook}
use Rattle.scenario_text.specs.Grammar.{row_at}
use Rattle.scenario_text.proofs.ByCellNames.{with_moves}
use Rattle.scenario_text.proofs.Ascending.{has_double-rising}
use Rattle.exact_parts.proofs.Decimals.{number_at-decimal}
use Rattle.std.proofs.lemmas.List.Kept.{AllPairs-from_increasing}

-- whether a cell is among the first k, but for the next one, doesn't change with k
pub among_more : (c k : ℕ) → (c ≡ k → ⊥) → nat_lt c k ≡ nat_lt c (k + 1)
among_more c k other =
    elim (cases_order c k) [
      | inl same ↦ absurd (other same)
      | inr (inl below) ↦ lt-ltb c k below ∙ sym (lt-ltb c (k + 1) (omega arith))
      | inr (inr above) ↦ le-ltb c k (omega arith) ∙ sym (le-ltb c (k + 1) (omega arith))
    ]

pub names_found : (names : List (List ℕ)) (cells : ℕ) → ((c : ℕ) → c < cells → cell_named names (name_in names c) ≡ Some c) → (cs : List ℕ) → All (λ c. c < cells) cs → map (cell_named names) (map (name_in names) cs) ≡ map Some cs
names_found names cells found [] within = refl
names_found names cells found (c ∷ cs) within =
    let head = found c (All-head (λ c. c < cells) c cs within) in
    rw head (ap (λ (xs : List (Option ℕ)). Some c ∷ xs) (names_found names cells found cs (All-tail (λ c. c < cells) c cs within)))

pub none_unknown : (cs : List ℕ) → list_any (λ m. is_none m) (map Some cs) ≡ false
none_unknown [] = refl
none_unknown (c ∷ cs) = none_unknown cs

pub numbers_of : (cs : List ℕ) → map (λ m. unwrap_or m 0) (map Some cs) ≡ cs
numbers_of [] = refl
numbers_of (c ∷ cs) = ap (λ (xs : List ℕ). c ∷ xs) (numbers_of cs)

pub with_moves-taken : (s : State) (c positions : ℕ) (row : List ℕ) → IsMoveRow positions row → slice_index_or s.moves c [] ≡ [] → with_moves s (Some c) (map Some row) ≡ Ok (record s { moves = set s.moves c row })
unfolding moves_from
with_moves-taken s c positions row h before =
    let unknown = none_unknown row in
    let double = has_double-rising row (AllPairs-from_increasing row h.ascending) in
    let long = length-map row Some in
    let some = ne_eqb (length (map Some row)) 0 (λ e. omega (arith, long, h.some)) in
    let numbers = numbers_of row in
    rw (unknown, double, before, some, numbers) refl

pub overlook-taken : (s : State) (name : List ℕ) (c part : ℕ) → cell_named s.names name ≡ Some c → part ≤ 1000000 → part ≤ s.look → slice_index_or s.overlook c None ≡ None → row_at Overlook s (name ∷ decimal part ∷ []) ≡ Ok (record s { overlook = set s.overlook c (Some part) })
overlook-taken s name c part found small le before =
    let number = number_at-decimal 1000000 part small (omega arith) in
    let least = le-ltb part 0 (omega arith) in
    let fits = le-ltb s.look part le in
    rw (number, least, found, before, fits) refl
