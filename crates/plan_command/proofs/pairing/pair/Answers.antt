use Rattle.std.proofs.Common.{ℕ, ◌≡◌, List, subst}
use Rattle.search_model.specs.Problem.{position_name}
use Rattle.plan_command.proofs.pairing.pair.Goals as goal

pub returns-in-Some : goal.returns-in-Some
returns-in-Some g c = c.pair_from.ensures c.args.name.now (c.in-Some.ensures.position, subst (λ (n : List ℕ). position_name c.args.sc.now c.in-Some.second ≡ n) c.bytes.ensures.value c.in-Some.ensures.named)
