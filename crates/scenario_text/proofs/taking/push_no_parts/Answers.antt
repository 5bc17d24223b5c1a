use Rattle.std.proofs.Common.{◌∙◌, ap, map, List, ◌++◌, ◌∷◌, [], Vec, Global}
use Rattle.std.proofs.lemmas.List.{map_push}
use Rattle.period_rows.specs.declared.part.CellPart.{CellPart}
use Rattle.scenario_text.proofs.taking.push_no_parts.Goals as goal

pub returns : goal.returns
returns c =
    let parts : Vec CellPart Global → List CellPart = λ n. n.items in
    ap (map parts) c.in_ok-push.ensures.items
    ∙ map_push parts c.args.rows.now.items c.new.result
    ∙ ap (λ (x : List CellPart). map parts c.args.rows.now.items ++ x ∷ []) c.new.ensures.items
