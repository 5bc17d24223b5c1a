use Rattle.std.proofs.Common.{◌≡◌, take}
use Rattle.searcher_maps.proofs.searcher.first_of.Given as goal

abbrev pub invariant-loop-c : goal.invariant-loop-c
invariant-loop-c l = l.first.items ≡ take l.c l.sc.first
