use Rattle.std.proofs.Common.{◌/◌, ◌%◌, ◌∙◌, arith, refl}
use Rattle.std.proofs.lemmas.Fmt.{decimal_digit}
use Rattle.scenario_maker.proofs.shaping.grid_name.Goals as goal

pub returns : goal.returns
returns c = c.in-Some.ensures.some.0 ∙ rw (decimal_digit (c.args.c / 5) (omega arith), decimal_digit (c.args.c % 5) (omega arith)) refl
