-- The kinds that are asked of a line stand in their order.
use Rattle.std.proofs.Common.{ℕ, ◌+◌, ◌<◌, ◌∷◌, map, Option, Some, None, arith}
use Rattle.std.specs.List.{range_with_len}
use Rattle.std.specs.List.Sorted.{IsStrictlyIncreasing}
use Rattle.std.proofs.lemmas.List.FromFn.{length-range_with_len, get_or-range_with_len}
use Rattle.text_rows.specs.Fields.{fields_of, behind_first}
use Rattle.scenario_text.specs.Kinds.{number_of}
use Rattle.scenario_text.specs.declared.line.Line.{Line}
use Rattle.scenario_text.specs.KindTable.{line_of, tests}
use Rattle.scenario_text.specs.ReadingLaws.{KindsInOrder}

numbers_rise : (a n : ℕ) → IsStrictlyIncreasing (range_with_len a n)
numbers_rise a n k lt =
    let within : k + 1 < n = omega (arith, lt, length-range_with_len a n) in
    omega (arith, get_or-range_with_len a n k 0 (omega arith), get_or-range_with_len a n (k + 1) 0 within)

pub kinds_in_order : KindsInOrder
kinds_in_order s line = rise (line_of s (fields_of line))
  where
    rise : (o : Option Line) → IsStrictlyIncreasing (1 ∷ map (λ test. number_of test.1) (tests s o (behind_first (fields_of line))))
    rise None = numbers_rise 1 2
    rise (Some l) = numbers_rise 1 12
