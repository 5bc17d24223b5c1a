use Rattle.std.proofs.Common.{ap, ◌∙◌, ℕ}
use Rattle.tree_checker.specs.Progress.{begun_at}
use Rattle.plan_command.proofs.Heard.{head_heard}
use Rattle.plan_command.proofs.hearing.hear_head.Goals as goal

pub returns : goal.returns
returns c =
    let p = c.args.sc.now in
    let head = c.args.head.now in
    let tables = c.begin.new.self.tables in
    let begun = c.begin.ensures.begun ∙ ap (λ (line : ℕ). begun_at line head.numbers p tables head.standing head.weight) c.first_line.ensures in
    λ count. head_heard c.args.family p head.standing head.weight head.ceiling count head.numbers tables c.begin.new.self begun c.begin.ensures.under_way c.begin.ensures.made
