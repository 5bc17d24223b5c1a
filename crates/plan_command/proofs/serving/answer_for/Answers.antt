use Rattle.std.proofs.Common.{refl}
use Rattle.std.specs.Prelude.{map, string_bytes}
use Rattle.plan_command.specs.declared.request.Request.TheVariants.{Make, Drill}
use Rattle.plan_command.specs.Inputs.{source_view, went}
use Rattle.plan_command.proofs.Asking.{read_alone, alone_reads, read_judged, judged_reads, read_nothing}
use Rattle.plan_command.proofs.serving.answer_for.Goals as goal

pub returns-in-Alone-clause-made : goal.returns-in-Alone-clause-made
returns-in-Alone-clause-made g c =
    let words = map string_bytes c.args.words.now in
    let asks = c.in-Alone.ensures.0 in
    read_alone words c.args.request c.in-Alone.asked asks _ _ _ c.scenario_input.result (c.scenario_input.ensures words c.args.request asks)

pub returns-in-Alone-clause-unread : goal.returns-in-Alone-clause-unread
returns-in-Alone-clause-unread g c = λ none. absurd (alone_reads (map string_bytes c.args.words.now) c.args.request c.in-Alone.asked c.in-Alone.ensures.0 none)

pub returns-in-Judged-clause-made : goal.returns-in-Judged-clause-made
returns-in-Judged-clause-made g c =
    let words = map string_bytes c.args.words.now in
    read_judged words c.args.request c.in-Judged.asked c.in-Judged.ensures _ _ _ c.judged_input.result (c.judged_input.ensures words)

pub returns-in-Judged-clause-unread : goal.returns-in-Judged-clause-unread
returns-in-Judged-clause-unread g c = λ none. absurd (judged_reads c.args.request c.in-Judged.asked c.in-Judged.ensures none)

pub returns-in-Make-clause-made : goal.returns-in-Make-clause-made
returns-in-Make-clause-made g c =
    let words = map string_bytes c.args.words.now in
    read_nothing words c.args.request (Make c.in-Make.number) c.in-Make.ensures refl (went g.S.Source.read_gives c.args.source.now c.args.source.now) (source_view g.S.Source.left g.S.Source.faults c.args.source.now) c.answer_make.result (c.answer_make.ensures words)

pub returns-in-Drill-clause-made : goal.returns-in-Drill-clause-made
returns-in-Drill-clause-made g c =
    let words = map string_bytes c.args.words.now in
    read_nothing words c.args.request (Drill c.in-Drill.number c.in-Drill.workers) c.in-Drill.ensures.0 refl (went g.S.Source.read_gives c.args.source.now c.args.source.now) (source_view g.S.Source.left g.S.Source.faults c.args.source.now) c.answer_drill.result (c.answer_drill.ensures words)
