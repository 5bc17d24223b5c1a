use Rattle.std.proofs.Common.{sym, ap, subst, ◌∙◌}
use Rattle.tree_format.specs.FeedSteps.{Stand}
use Rattle.tree_format.specs.declared.kind.PlanKind.TheVariants.{EarlyEnd}
use Rattle.tree_format.specs.Reading.{at_line_number}
use Rattle.tree_format.specs.Feeding.{IsCutOff}
use Rattle.tree_format.proofs.AtLines.{goes_on}
use Rattle.tree_format.proofs.FedPieces.{read_whole, read_early}
use Rattle.tree_format.proofs.feed.PlanFeed.finish.Goals as goal

pub returns-then-is_ended-clause-whole : goal.returns-then-is_ended-clause-whole
returns-then-is_ended-clause-whole c = λ family p fed items read.
    read_whole family p fed items c.args.self.now read (sym (ap (λ (s : Stand). s.due.stage) c.self.view_is) ∙ c.is_ended.ensures.0 c.if-is_ended.true)

pub returns-else-is_ended-clause-early : goal.returns-else-is_ended-clause-early
returns-else-is_ended-clause-early c = λ family p fed items read.
    let stages = ap (λ (s : Stand). s.due.stage) c.self.view_is in
    let goes = goes_on c.is_ended.result c.self.inside.due.stage c.is_ended.ensures.1 c.if-is_ended.false in
    subst (λ (s : Stand). IsCutOff family p fed (at_line_number s.number EarlyEnd)) (sym c.self.view_is) (read_early family p fed items c.args.self.now read (λ ended. goes (stages ∙ ended)))
