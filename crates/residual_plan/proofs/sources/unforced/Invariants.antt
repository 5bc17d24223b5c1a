use Rattle.std.proofs.Common.{◌≡◌, map, take}
use Rattle.residual_plan.specs.Forced.{source_of}
use Rattle.residual_plan.proofs.sources.unforced.Given as goal

abbrev pub invariant-loop-a : goal.invariant-loop-a
invariant-loop-a l = l.own ≡ map (source_of l.sc l.flown) (take l.a-index l.path)
