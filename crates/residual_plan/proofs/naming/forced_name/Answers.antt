use Rattle.std.proofs.Common.{sym, subst, ◌∙◌}
use Rattle.search_model.specs.Names.{IsName}
use Rattle.residual_plan.proofs.NewNames.{name_of_digit, name_of_digits, IsName-forced}
use Rattle.residual_plan.proofs.naming.forced_name.Goals as goal

pub name_of-requires : goal.name_of-requires
name_of-requires c = subst IsName (sym (name_of_digit c.args.i c.if-i-lt10.true)) (IsName-forced c.args.i c.requires)

pub returns-then-i-lt10 : goal.returns-then-i-lt10
returns-then-i-lt10 c = c.name_of.ensures ∙ name_of_digit c.args.i c.if-i-lt10.true

pub name_of-requires-2 : goal.name_of-requires-2
name_of-requires-2 c = subst IsName (sym (name_of_digits c.args.i c.if-i-lt10.false c.requires)) (IsName-forced c.args.i c.requires)

pub returns : goal.returns
returns c = c.name_of-2.ensures ∙ name_of_digits c.args.i c.if-i-lt10.false c.requires
