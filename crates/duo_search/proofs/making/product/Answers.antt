use Rattle.duo_search.specs.declared.faults.DuoFault.TheVariants.{TooManyMoves}
use Rattle.duo_search.proofs.Made.{told_none, told_memory}
use Rattle.duo_search.proofs.PairPaths.{paths_are_pairs}
use Rattle.duo_search.proofs.Values.{pair_is_value, no_pair_finds_more}
use Rattle.duo_search.proofs.making.product.Goals as goal

pub returns-in-Ok-clause-paths : goal.returns-in-Ok-clause-paths
returns-in-Ok-clause-paths c = let made = c.in-Ok.ensures in paths_are_pairs c.args.sc.now c.in-Ok.made c.args.second made.of made.sound made.made c.requires

pub returns-in-Ok-clause-values : goal.returns-in-Ok-clause-values
returns-in-Ok-clause-values c = let made = c.in-Ok.ensures in pair_is_value c.args.sc.now c.in-Ok.made c.args.second made.of made.sound made.made

pub returns-in-Ok-clause-best : goal.returns-in-Ok-clause-best
returns-in-Ok-clause-best c = let made = c.in-Ok.ensures in no_pair_finds_more c.args.sc.now c.in-Ok.made c.args.second made.of made.sound made.made c.requires

pub returns-in-Ok-clause-too_many_moves : goal.returns-in-Ok-clause-too_many_moves
returns-in-Ok-clause-too_many_moves c = told_none c.args.sc.now c.in_default.ensures.none c.in-Ok.made TooManyMoves

pub returns-in-Err-clause-too_many_moves : goal.returns-in-Err-clause-too_many_moves
returns-in-Err-clause-too_many_moves c = told_memory c.args.sc.now c.in_default.ensures.none TooManyMoves (λ e. absurd (let wrong : ⊥ = cc in wrong))
