use Rattle.std.proofs.Common.{string_bytes, sym, ◌∙◌}
use Rattle.plan_command.proofs.WordLists.{flown_test}
use Rattle.plan_command.proofs.words.are_flown.Goals as goal

pub returns-then-names-le-MOST_FLOWN : goal.returns-then-names-le-MOST_FLOWN
returns-then-names-le-MOST_FLOWN c =
    c.are_names.ensures ∙ flown_test string_bytes c.args.names.now (sym c.is_empty.ensures ∙ c.if-names-le-MOST_FLOWN.true.0) c.if-names-le-MOST_FLOWN.true.1
