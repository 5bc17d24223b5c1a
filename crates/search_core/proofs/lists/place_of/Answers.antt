use Rattle.std.proofs.Common.{◌≡◌, ℕ, ◌<◌, List, length, sym, ◌∙◌, rules, refl, ap, slice_get, Some}
use Rattle.std.proofs.lemmas.Option.{slice_get_read}
use Rattle.std.proofs.lemmas.Slice.Eq.{bytes_eq-Decides}
use Rattle.search_core.proofs.lists.place_of.Goals as goal

pub returns-then-eq : goal.returns-then-eq
returns-then-eq c =
    let xs : List (List ℕ) = c.args.list.now in
    let q : List ℕ = c.args.prefix.now in
    let within : c.loop-i.i < length xs = search rules in
    let equal : c.cells.result.now ≡ c.cells-in-loop-i.result.now = (bytes_eq-Decides c.cells.result.now c.cells-in-loop-i.result.now).0 (sym c.if-eq.ensures) in
    let x : List ℕ = c.index-list-i.result in
    let same : x ≡ q = cc (c.cells.ensures.value, equal, c.cells-in-loop-i.ensures.value) in
    let at : slice_get xs c.loop-i.i ≡ Some x = slice_get_read xs (length xs) c.loop-i.i x refl within c.index-list-i.is in
    at ∙ ap Some same
