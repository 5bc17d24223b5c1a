use Rattle.std.proofs.Common.{ℕ, List, sym, ap, ◌∙◌}
use Rattle.text_rows.specs.Fields.{exact_fields}
use Rattle.tree_format.specs.Reading.{line_at}
use Rattle.tree_format.specs.Gathering.{Gathered, gathered}
use Rattle.tree_format.proofs.Gatherings.{gathered_judged}
use Rattle.tree_format.proofs.feed.judge.Goals as goal

pub returns-then-is_empty-clause-said : goal.returns-then-is_empty-clause-said
returns-then-is_empty-clause-said c =
    let p = c.args.sc.now in
    let d = c.args.due.now in
    let last = c.args.last.now in
    let empty = c.is_empty.ensures.0 c.if-is_empty.true in
    c.judge_text.ensures.said ∙ sym (gathered_judged p c.recall_sound.ensures d last) ∙ ap (λ (g : Gathered). line_at p d (exact_fields (gathered g last).text)) (sym empty)

pub returns-clause-said : goal.returns-clause-said
returns-clause-said c =
    let kept = c.text.ensures ∙ ap (λ (g : Gathered). g.text) c.push_run.ensures in
    c.judge_text-2.ensures.said ∙ ap (λ (t : List ℕ). line_at c.args.sc.now c.args.due.now (exact_fields t)) kept
