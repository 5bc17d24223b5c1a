use Rattle.std.proofs.Common.{refl, sym, ◌∙◌, arith, ap, map, take, ◌≡◌, ◌<◌, List, ℕ, ◌++◌, length, Vec, Global}
use Rattle.std.proofs.lemmas.List.{map_push}
use Rattle.search_grid.specs.Moves.{moves_from}
use Rattle.scenario_text.proofs.Columns.{moves_next}
use Rattle.scenario_text.proofs.shorthands.rows_of.Goals as goal

pub loop-c-preserved : goal.loop-c-preserved
loop-c-preserved c =
    let bytes : Vec ℕ Global → List ℕ = λ n. n.items in
    let before : map bytes c.loop-c.rows.items ≡ take c.loop-c.c c.args.grid.now = c.loop-c.invariant in
    let copied : c.extend_from_slice.new.self.items ≡ c.new-row.result.items ++ c.moves.result.now = c.in_ok-extend_from_slice.ensures.items in
    let row : c.extend_from_slice.new.self.items ≡ moves_from c.args.grid.now c.loop-c.c = copied ∙ ap (λ (x : List ℕ). x ++ c.moves.result.now) c.new-row.ensures.items ∙ c.moves.ensures.value in
    let within : c.loop-c.c < length c.args.grid.now = omega arith in
    ap (map bytes) c.in_ok-push.ensures.items ∙ map_push bytes c.loop-c.rows.items c.extend_from_slice.new.self ∙ (rw (before, row) refl) ∙ sym (moves_next c.args.grid.now c.loop-c.c within)
