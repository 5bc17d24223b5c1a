-- Rows and changes with the same entries.
use Rattle.std.proofs.Common.{ℕ, ◌<◌, ◌≡◌, ◌==◌, ◌∙◌, List, [], length, get_or, map, arith, sym, true, refl, ap}
use Rattle.std.specs.Prelude.{◌&&◌}
use Rattle.std.specs.List.{AllZip}
use Rattle.std.specs.List.Sorted.{IsPermutation}
use Rattle.std.specs.Cmp.Lexicographic.{pointwise_decides}
use Rattle.std.proofs.lemmas.Bool.{eqb-true, eq-eqb, and_parts}
use Rattle.std.proofs.lemmas.List.{same_lists, get_or_default, get_or-map}
use Rattle.std.proofs.lemmas.List.Elements.{length_all_zip, AllZip-get_or}
use Rattle.std.proofs.lemmas.List.Sorted.{Contains-permutation, IsPermutation-sym}
use Rattle.list_laws.proofs.Ascending.{Ascends-from_keys, count_at-le, same_ascending}
use Rattle.list_laws.proofs.Reordered.{count_by-permutation}
use Rattle.period_rows.specs.declared.part.CellPart.{CellPart}
use Rattle.period_rows.specs.Rows.{row_at, HasDouble, IsAscending, is_same_row}
use Rattle.period_rows.specs.Changes.{RowChange, IsSameChange, HaveRows}

-- a cell with two entries has them in any order
pub HasDouble-permutation : (xs ys : List CellPart) → IsPermutation xs ys → HasDouble xs → HasDouble ys
HasDouble-permutation xs ys same double = (double.0, rw (count_by-permutation (λ entry. entry.cell == double.0) xs ys same) double.1)

-- and none has where the row ascends
pub none_double : (row : List CellPart) → IsAscending row → HasDouble row → ⊥
none_double row up double = omega (arith, count_at-le (λ entry. entry.cell) double.0 row (Ascends-from_keys (λ entry. entry.cell) row up), double.1)

-- an ascending row is settled by its entries
same_row : (xs ys : List CellPart) → IsAscending xs → IsAscending ys → IsPermutation xs ys → ys ≡ xs
same_row xs ys up up' same =
    same_ascending (λ entry. entry.cell) ys xs (Ascends-from_keys (λ entry. entry.cell) ys up') (Ascends-from_keys (λ entry. entry.cell) xs up)
    (λ z there. Contains-permutation ys xs z (IsPermutation-sym xs ys same) there)
    (λ z there. Contains-permutation xs ys z same there)

-- the row of an owner is that of its element
pub row_at-map : {X : Type 0} (f : X → List CellPart) (rows : List X) (o : ℕ) (d : X) → o < length rows → row_at (map f rows) o ≡ f (get_or rows o d)
unfolding row_at
row_at-map f rows o d inside = get_or-map f rows o d [] inside

-- the rows of an owner in two lists of the same rows
pub row_at-same : (given made : List (List CellPart)) → AllZip IsPermutation given made → (o : ℕ) → o < length given → IsPermutation (row_at given o) (row_at made o)
unfolding row_at
row_at-same given made same o inside = AllZip-get_or IsPermutation given made o [] [] same inside

-- two lists of the same rows, all ascending, are the same
pub same_rows : (given made : List (List CellPart)) → AllZip IsPermutation given made → ((o : ℕ) → o < length given → IsAscending (row_at given o)) →
    ((o : ℕ) → o < length made → IsAscending (row_at made o)) → made ≡ given
unfolding row_at
same_rows given made same up up' =
    let size = length_all_zip IsPermutation given made same in
    same_lists made given (sym size) (λ o d inside.
    let there : o < length given = rw size inside in
    get_or_default made o d [] inside ∙ same_row _ _ (up o there) (up' o inside) (row_at-same given made same o there) ∙ get_or_default given o [] d there)

-- changes with ascending rows are settled by their entries
pub same_changes : (given made : List RowChange) → AllZip IsSameChange given made → HaveRows IsAscending given → HaveRows IsAscending made → made ≡ given
same_changes given made same up up' =
    let size = length_all_zip IsSameChange given made same in
    same_lists made given (sym size) (λ k d inside.
    let there : k < length given = rw size inside in
    let here = AllZip-get_or IsSameChange given made k d d same there in
    let row = same_row (get_or given k d).row (get_or made k d).row (up k d there) (up' k d inside) here.2 in
    λ i. record { period = here.0 i; owner = here.1 i; row = row i })

-- entries are the same where their cells and their parts are
part_decides : (x y : CellPart) → (((x.cell == y.cell) && (x.part == y.part)) ≡ true → x ≡ y) × (x ≡ y → ((x.cell == y.cell) && (x.part == y.part)) ≡ true)
part_decides x y = (
  λ both.
      let parts = and_parts (x.cell == y.cell) (x.part == y.part) both in
      let cell = eqb-true x.cell y.cell parts.0 in
      let part = eqb-true x.part y.part parts.1 in
      λ i. record { cell = cell i; part = part i },
  λ same. rw (eq-eqb x.cell y.cell (ap (λ (e : CellPart). e.cell) same), eq-eqb x.part y.part (ap (λ (e : CellPart). e.part) same)) refl,
)

-- and rows where their entries are
pub same_entries : (xs ys : List CellPart) → is_same_row xs ys ≡ true → xs ≡ ys
same_entries xs ys = (pointwise_decides part_decides xs ys).0

pub entries_same : (xs ys : List CellPart) → xs ≡ ys → is_same_row xs ys ≡ true
entries_same xs ys = (pointwise_decides part_decides xs ys).1
