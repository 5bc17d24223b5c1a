use Rattle.std.proofs.Common.{◌≡◌, take}
use Rattle.tree_format.specs.Gathering.{gathered}
use Rattle.tree_format.proofs.gathered_line.GatheredLine.push_run.Given as goal

-- as many bytes came
abbrev pub invariant-loop-byte : goal.invariant-loop-byte
invariant-loop-byte l = l.self ≡ gathered l.fn.self (take l.byte-index l.bytes)
