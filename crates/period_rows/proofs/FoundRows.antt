-- The row that an index finds is the row in force.
use Rattle.std.proofs.Common.{ℕ, ◌<◌, ◌≡◌, ◌⊎◌, ◌∙◌, Some, None, List, length, map, get_or, refl, sym, ap, arith, Contains, inl, inr}
use Rattle.std.proofs.Math.ListN.{length-map}
use Rattle.std.proofs.lemmas.List.{get_or-map}
use Rattle.std.proofs.lemmas.Option.{slice_get-get_or}
use Rattle.std.specs.List.{position}
use Rattle.list_laws.proofs.Firsts.{found_or_none}
use Rattle.list_laws.proofs.Keyed.{is_key, found-Some, found-None, place-inside}
use Rattle.period_rows.specs.declared.part.CellPart.{CellPart}
use Rattle.period_rows.specs.declared.changes.GivenChange.{GivenChange}
use Rattle.period_rows.specs.Changes.{RowChange, change_of, key_of, is_for, row_in_force}

-- a row in force is that of a change, or the base row
pub row_in_force-cases : (changes : List RowChange) (base : List CellPart) (t o : ℕ) →
    ((change : RowChange) × Contains changes change × (row_in_force changes base t o ≡ change.row)) ⊎ (row_in_force changes base t o ≡ base)
row_in_force-cases changes base t o = elim (found_or_none (is_for t o) changes) [
  | inl (change, there, found) ↦ inl (change, there, rw found refl)
  | inr none ↦ inr (rw none refl)
]

-- the place of a key among those of an index
module _ (given : List GivenChange) (keys : List (ℕ × ℕ)) (are : keys ≡ map key_of (map change_of given)) (t o : ℕ) where
  pub place-of_given : (i : ℕ) → Some i ≡ position (is_key (t, o)) keys → i < length given
  place-of_given i told =
      let at = sym (told ∙ ap (position (is_key (t, o))) are) in
      omega (arith, place-inside key_of (t, o) (map change_of given) i at, length-map given change_of)

  pub row-unchanged : (base : List CellPart) → None ≡ position (is_key (t, o)) keys → base ≡ row_in_force (map change_of given) base t o
  row-unchanged base told =
      let at = sym (told ∙ ap (position (is_key (t, o))) are) in
      rw (found-None key_of (t, o) (map change_of given) at) refl

  pub row-changed : (base : List CellPart) (i : ℕ) (change : GivenChange) → Some i ≡ position (is_key (t, o)) keys → change ≡ get_or given i change →
      change.row.items ≡ row_in_force (map change_of given) base t o
  row-changed base i change told read =
      let changes = map change_of given in
      let at = sym (told ∙ ap (position (is_key (t, o))) are) in
      let inside : i < length changes = place-inside key_of (t, o) changes i at in
      let here : get_or changes i (change_of change) ≡ change_of change = get_or-map change_of given i change (change_of change) (place-of_given i told) ∙ ap change_of (sym read) in
      rw (found-Some key_of (t, o) changes i at, slice_get-get_or changes i (change_of change) inside, here) refl
