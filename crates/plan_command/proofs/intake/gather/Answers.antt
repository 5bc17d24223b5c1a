use Rattle.std.proofs.Common.{◌≡◌, ◌+◌, ◌<◌, ◌++◌, true, false, length, take, sym, ◌∙◌, subst, arith}
use Rattle.scenario_text.specs.Laws.{EndsWithEnd}
use Rattle.plan_command.proofs.Judging.{gathered_byte}
use Rattle.plan_command.proofs.Gathering.{none_here, no_feed_here}
use Rattle.plan_command.proofs.intake.gather.Goals as goal
use Rattle.plan_command.proofs.intake.gather.Goals.{else-byte-eq10-via-then-byte-eq10+else-ends_with_end, else-byte-eq10-via-else-byte-eq10}

pub loop-i-preserved : goal.loop-i-preserved
loop-i-preserved c =
    let old = c.args.text.now.items in
    let piece = c.args.piece.now in
    let lt : c.loop-i.i < length piece = omega arith in
    let items : c.push.new.self.items ≡ old ++ take (c.loop-i.i + 1) piece = c.in_ok-push.ensures.items ∙ gathered_byte old piece c.loop-i.text.items c.loop-i.i lt c.loop-i.invariant.0 in (
      items,
      none_here old piece c.loop-i.i c.loop-i.invariant.1 (elim c.else-byte-eq10.branch [
        | else-byte-eq10-via-then-byte-eq10+else-ends_with_end w ↦ λ ends.
            let same : w.deref.result.now ≡ old ++ take (c.loop-i.i + 1) piece = cc in
            let bad : false ≡ true = w.if-ends_with_end.ensures.exact.1 (subst EndsWithEnd (sym same) ends) in
            let no : ⊥ = cc in no
        | else-byte-eq10-via-else-byte-eq10 w ↦ no_feed_here old piece c.loop-i.text.items c.loop-i.i lt c.loop-i.invariant.0 w.if-byte-eq10.false
      ]),
    )
