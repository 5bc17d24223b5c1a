use Rattle.std.proofs.Common.{ℕ, ◌≡◌, ◌++◌, List, ◌∙◌, sym, ap, nat_eq, length, take, drop}
use Rattle.std.specs.List.{starts_with}
use Rattle.std.proofs.Math.Seq.{take-append_seam}
use Rattle.std.proofs.lemmas.List.{take-append-drop}
use lib.Pointwise.{bytes_decides}
use Rattle.search_model.proofs.standing.starts.Goals as goal

pub returns : goal.returns
returns c =
    let q = c.args.prefix.now in
    let r = c.args.path.now in
    let is : c.starts_with.result ≡ starts_with nat_eq r q = rw (← c.cells.ensures.value, ← c.cells-2.ensures.value) c.starts_with.ensures.value in
    let decides = bytes_decides q (take (length q) r) in
    rw is (
      (λ t. (drop (length q) r, sym (take-append-drop (length q) r) ∙ ap (λ (xs : List ℕ). xs ++ drop (length q) r) (sym (decides.0 t)))),
      (λ s. decides.1 (rw s.1 (sym (take-append_seam q s.0)))),
    )
