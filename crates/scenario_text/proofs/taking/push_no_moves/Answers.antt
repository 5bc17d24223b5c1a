use Rattle.std.proofs.Common.{◌∙◌, ap, map, List, ℕ, ◌++◌, ◌∷◌, [], Vec, Global}
use Rattle.std.proofs.lemmas.List.{map_push}
use Rattle.scenario_text.proofs.taking.push_no_moves.Goals as goal

pub returns : goal.returns
returns c =
    let bytes : Vec ℕ Global → List ℕ = λ n. n.items in
    ap (map bytes) c.in_ok-push.ensures.items
    ∙ map_push bytes c.args.rows.now.items c.new.result
    ∙ ap (λ (x : List ℕ). map bytes c.args.rows.now.items ++ x ∷ []) c.new.ensures.items
