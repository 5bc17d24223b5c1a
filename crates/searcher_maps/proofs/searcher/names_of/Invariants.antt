use Rattle.std.proofs.Common.{◌≡◌, take}
use Rattle.searcher_maps.proofs.searcher.names_of.Given as goal

abbrev pub invariant-loop-c : goal.invariant-loop-c
invariant-loop-c l = l.names.items ≡ take l.c l.sc.names
