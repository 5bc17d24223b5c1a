use Rattle.std.proofs.Common.{ap, ◌∙◌}
use Rattle.tree_format.specs.Reading.{line_at}
use Rattle.tree_format.proofs.LineNumbers.{said_numbered}
use Rattle.tree_format.proofs.Summaries.{summary_decides}
use Rattle.tree_format.proofs.feed.judge_text.Goals as goal

pub returns-clause-said : goal.returns-clause-said
returns-clause-said c =
    let sc = c.args.sc.now in
    let d = c.args.due.now in
    c.read_line.ensures ∙ ap (line_at sc d) c.first_fields-len.ensures.value ∙ summary_decides sc d _ c.recall_sound.ensures

pub returns-clause-numbered : goal.returns-clause-numbered
returns-clause-numbered c = said_numbered c.args.sc.now c.recall_sound.ensures c.args.due.now _ c.read_line.result c.read_line.ensures
