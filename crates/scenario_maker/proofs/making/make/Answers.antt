use Rattle.std.proofs.Common.{sym, subst}
use Rattle.search_model.specs.Problem.{Problem, IsProblem}
use Rattle.scenario_maker.proofs.Problems.{made_is_problem}
use Rattle.scenario_maker.proofs.making.make.Goals as goal

pub of_right-requires : goal.of_right-requires
of_right-requires c =
    let P : Problem → Type 0 = λ p. IsProblem p in
    subst P (sym c.in_ok-parts.ensures) (made_is_problem c.args.number)
