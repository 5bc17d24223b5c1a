use Rattle.std.proofs.Common.{◌≡◌, ap, refl}
use Rattle.tree_checker.specs.Progress.{Progress}
use Rattle.plan_command.proofs.Judging.{nothing_taken}
use Rattle.plan_command.proofs.judge.Judge.with_feed.Goals as goal

pub returns-in-Ok-clause-nothing : goal.returns-in-Ok-clause-nothing
returns-in-Ok-clause-nothing c =
    let line : c.in-Ok.checker.line ≡ 5 = ap (λ (g : Progress). g.line) c.in-Ok.ensures.started in
    nothing_taken _ refl c.new.ensures.items line c.in-Ok.ensures.under_way c.in-Ok.ensures.made c.requires
