use Rattle.std.proofs.Common.{◌≡◌, ◌∙◌, refl, ap, map, List, None, ◌++◌, ◌∷◌, [], Vec, Global}
use Rattle.std.specs.Option.{option_map}
use Rattle.std.proofs.lemmas.List.{map_push}
use Rattle.period_rows.specs.declared.part.CellPart.{CellPart}
use Rattle.scenario_text.proofs.taking.push_position.Goals as goal

pub returns : goal.returns
returns c =
    let parts : Vec CellPart Global → List CellPart = λ n. n.items in
    let names = c.in_ok-push_name.ensures in
    let moves = c.in_ok-push_no_moves.ensures in
    let looks : map (option_map parts) c.push.new.self.items ≡ map (option_map parts) c.args.draft.now.looks.items ++ None ∷ [] = ap (map (option_map parts)) c.in_ok-push.ensures.items ∙ map_push (option_map parts) c.args.draft.now.looks.items None in
    rw (names, moves, looks) refl
