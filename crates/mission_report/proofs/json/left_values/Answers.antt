use Rattle.mission_report.proofs.Entries.{entries_more}
use Rattle.mission_report.specs.Json.{left_entry}
use Rattle.std.proofs.Common.{slice_index, ap, ◌∙◌}
use Rattle.mission_report.proofs.json.left_values.Goals as goal

pub loop-c-preserved : goal.loop-c-preserved
loop-c-preserved c =
    let p = c.args.sc.now in
    let masses = c.args.belief.now.masses in
    rw c.in_ok-push.ensures.items (entries_more (λ n. left_entry p n (slice_index masses n)) c.loop-c.c _ _ c.loop-c.invariant (c.in_ok-left_value.ensures ∙ ap (left_entry p c.loop-c.c) c.at.ensures))
