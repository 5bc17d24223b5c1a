use Rattle.std.proofs.Common.{refl}
use Rattle.plan_command.proofs.Judging.{line_left, text_more, text_item, text_fault}
use Rattle.plan_command.proofs.judge.Judge.take_some.Goals as goal

pub hear-requires-clause-under_way : goal.hear-requires-clause-under_way
hear-requires-clause-under_way c = c.requires.begun.2.heard.under_way

pub hear-requires-clause-line : goal.hear-requires-clause-line
hear-requires-clause-line c = line_left c.requires.begun.0 c.requires.begun.1 c.args.self.now c.recall_sound.ensures c.requires.begun.2

pub hear-requires-clause-made : goal.hear-requires-clause-made
hear-requires-clause-made c = c.requires.begun.2.heard.made_for

pub returns-in-More-clause-taken : goal.returns-in-More-clause-taken
returns-in-More-clause-taken c = λ task before h.
    text_more task before c.args.text.now c.args.self.now _ c.feed-used.new.self c.feed-used.result.used c.feed-used.result.step h c.in-More.is c.feed-used.ensures.all c.feed-used.ensures.more refl

pub returns-in-Ok-clause-taken : goal.returns-in-Ok-clause-taken
returns-in-Ok-clause-taken c = λ task before h.
    text_item task before c.args.text.now c.args.self.now c.hear.new.self c.feed-used.new.self c.feed-used.result.used c.feed-used.result.step h c.in-Item.item c.recall_sound.ensures c.in-Item.is c.feed-used.ensures.item c.in-Ok.ensures.heard c.in-Ok.ensures.kept c.hear.ensures.task c.hear.ensures.scenario c.hear.ensures.feed

pub returns-in-Fault-clause-fault : goal.returns-in-Fault-clause-fault
returns-in-Fault-clause-fault c = λ task before h. text_fault task before c.args.text.now c.args.self.now c.feed-used.result.used c.feed-used.result.step c.in-Fault.fault h c.in-Fault.is c.feed-used.ensures.fault
