use Rattle.plan_command.proofs.WordLists.{name_new}
use Rattle.plan_command.proofs.words.name_from.Goals as goal

pub returns : goal.returns
returns c = name_new c.args.word.now c.as_bytes.result.now c.new.result c.as_bytes.ensures.value c.new.ensures.some c.new.ensures.none
