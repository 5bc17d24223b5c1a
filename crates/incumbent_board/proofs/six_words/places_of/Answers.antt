use Rattle.std.proofs.Common.{◌≡◌, ℕ, List, ◌++◌, drop, length, replicate, ap, ◌∙◌}
use Rattle.std.proofs.lemmas.List.{drop-replicate}
use Rattle.incumbent_board.proofs.six_words.places_of.Goals as goal

pub returns-clause-value : goal.returns-clause-value
returns-clause-value c =
    let front : c.copy_from_slice.new.self ≡ c.cells-cells.result.now = c.copy_from_slice.ensures.after in
    ap (λ (l : List ℕ). l ++ drop (length c.cells-cells.result.now) (replicate 32 0)) front
    ∙ ap (λ (l : List ℕ). l ++ drop (length l) (replicate 32 0)) c.cells-cells.ensures.value
    ∙ ap (λ (l : List ℕ). c.args.path.now ++ l) (drop-replicate (length c.args.path.now) 32 0)
