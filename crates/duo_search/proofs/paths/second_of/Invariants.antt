use Rattle.std.proofs.Common.{◌≡◌, map, take}
use Rattle.duo_search.specs.Product.{second_at}
use Rattle.duo_search.proofs.paths.second_of.Given as goal

abbrev pub invariant-loop-both : goal.invariant-loop-both
invariant-loop-both l = l.second ≡ map (second_at l.sc.positions) (take l.both-index l.path)
