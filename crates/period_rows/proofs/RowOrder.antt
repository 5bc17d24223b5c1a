-- Rows that are put in order of cells.
use Rattle.std.proofs.Common.{ℕ, ◌<◌, ◌≤◌, ◌≡◌, List, [], length, map, arith}
use Rattle.std.proofs.Math.ListN.{length-map}
use Rattle.std.specs.List.{AllZip}
use Rattle.std.specs.List.Sorted.{IsPermutation}
use Rattle.std.proofs.lemmas.List.Elements.{AllZip-get_or}
use Rattle.list_laws.proofs.Matched.{AllZip-weaker, All-zip}
use Rattle.list_laws.proofs.Passes.{IsPassed, AllZip-from_pass_by}
use Rattle.period_rows.specs.declared.part.CellPart.{CellPart}
use Rattle.period_rows.specs.Rows.{row_at, IsInOrder}
use Rattle.period_rows.specs.Changes.{RowChange, IsSameChange, HaveRows}

-- the same entries, in order of cells
pub record IsPut (given now : List CellPart) : Type 0 where
  pub same : IsPermutation given now
  pub in_order : IsInOrder now

module _ {X : Type 0} (f : X → List CellPart) (given now : List X) (i : ℕ) (size : length now ≡ length given) (all : length given ≤ i) (passed : IsPassed (λ x y. IsPut (f x) (f y)) given now i) where
  put : AllZip IsPut (map f given) (map f now)
  put = AllZip-from_pass_by IsPut f given now i size all passed

  pub put-same : AllZip IsPermutation (map f given) (map f now)
  put-same = AllZip-weaker IsPut IsPermutation (λ x y p. p.same) (map f given) (map f now) put

  pub put-in_order : (o : ℕ) → o < length given → IsInOrder (row_at (map f now) o)
  unfolding row_at
  put-in_order o inside =
      let there : o < length (map f given) = omega (arith, length-map given f) in
      (AllZip-get_or IsPut (map f given) (map f now) o [] [] put there).in_order

-- the same change, with its row in order
pub record IsPutChange (given now : RowChange) : Type 0 where
  pub period : now.period ≡ given.period
  pub owner : now.owner ≡ given.owner
  pub row : IsPut given.row now.row

module _ {X : Type 0} (f : X → RowChange) (given now : List X) (i : ℕ) (size : length now ≡ length given) (all : length given ≤ i) (passed : IsPassed (λ x y. IsPutChange (f x) (f y)) given now i) where
  put_changes : AllZip IsPutChange (map f given) (map f now)
  put_changes = AllZip-from_pass_by IsPutChange f given now i size all passed

  pub put_changes-same : AllZip IsSameChange (map f given) (map f now)
  put_changes-same = AllZip-weaker IsPutChange IsSameChange (λ x y p. (p.period, p.owner, p.row.same)) (map f given) (map f now) put_changes

  pub put_changes-in_order : HaveRows IsInOrder (map f now)
  put_changes-in_order = All-zip IsPutChange (λ _. Unit {0}) (λ change. IsInOrder change.row) (λ x y p _. p.row.in_order) (map f given) (map f now) put_changes (λ k d inside. tt)
