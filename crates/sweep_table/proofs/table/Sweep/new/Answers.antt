use Rattle.std.proofs.Common.{ℕ, ◌<◌, ◌≤◌, length, slice_index, refl, arith}
use Rattle.std.proofs.lemmas.Grind.{common_steps}
use Rattle.sweep_table.specs.LookParts.{parts_over, IsSweep}
use Rattle.sweep_table.proofs.Factors.{IsSweep-from_parts, part-le}
use Rattle.sweep_table.proofs.table.Sweep.new.Goals as goal

made : (c : goal.In-None) → IsSweep (parts_over c.args.denominator c.args.overlook.items)
made c =
    let overlook = c.args.overlook.items in
    let within : (k : ℕ) → k < length overlook → slice_index overlook k ≤ c.args.denominator = rw (← c.deref.ensures.value) c.in-None.ensures.none in
    IsSweep-from_parts _ overlook (omega arith, omega arith) (grind (arith, common_steps), omega arith) within

pub invariant_of-result : goal.invariant_of-result
invariant_of-result c = made c

pub returns-in-Some-clause-right : goal.returns-in-Some-clause-right
returns-in-Some-clause-right c =
    let over : c.args.denominator < slice_index c.args.overlook.items c.in-Some.cell = rw (← c.deref.ensures.value) c.in-Some.ensures.over in
    (λ is. cc, λ sweep. absurd (omega (arith, over, part-le _ _ sweep c.in-Some.cell)))

pub returns-in-None-clause-right : goal.returns-in-None-clause-right
returns-in-None-clause-right c = (λ _. made c, λ _. refl)
