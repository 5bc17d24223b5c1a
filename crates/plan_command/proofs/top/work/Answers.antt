use Rattle.std.proofs.Common.{ap, ◌∙◌}
use Rattle.plan_command.specs.Words.{limit_of}
use Rattle.plan_command.proofs.WordForms.{spelled_once}
use Rattle.plan_command.proofs.top.work.Goals as goal

pub returns-in-Some-clause-makes_read_nothing : goal.returns-in-Some-clause-makes_read_nothing
returns-in-Some-clause-makes_read_nothing g c = λ request spelled none.
    c.serve.ensures.unread (ap limit_of (spelled_once _ c.in-Some.request request c.in-Some.ensures.some spelled) ∙ none)
