use Rattle.std.proofs.Common.{◌∙◌, ap, ◌++◌, ◌∷◌, [], List}
use Rattle.std.proofs.lemmas.List.{replicate-append-replicate}
use Rattle.period_rows.specs.declared.part.CellPart.{CellPart}
use Rattle.scenario_text.proofs.shorthands.no_parts.Goals as goal

pub loop-preserved : goal.loop-preserved
loop-preserved c =
    c.in_ok-push_no_parts.ensures ∙ ap (λ (rows : List (List CellPart)). rows ++ [] ∷ []) c.loop.invariant ∙ replicate-append-replicate c.loop.counter 1 []
