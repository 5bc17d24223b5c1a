use Rattle.std.proofs.Common.{◌≡◌, replicate, subst, sym, List, ℕ, rules, arith}
use Rattle.sweep_table.specs.LookParts.{parts_over, IsSweep}
use Rattle.scenario_maker.proofs.Problems.{IsSweep-same}
use Rattle.scenario_maker.proofs.shaping.sweep.Goals as goal

pub of_right_parts-requires : goal.of_right_parts-requires
of_right_parts-requires c =
    let same : c.in_ok-overlook.overlook.items ≡ replicate 25 c.args.part = search rules in
    let P : List ℕ → Type 0 = λ parts. IsSweep (parts_over 6 parts) in
    subst P (sym same) (IsSweep-same c.args.part (omega arith))
