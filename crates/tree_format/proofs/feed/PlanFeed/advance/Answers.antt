use Rattle.std.proofs.Common.{ℕ, List, ◌++◌, length, take, refl, sym, ap, subst, ◌∙◌, ◌+◌, arith}
use Rattle.std.proofs.Math.Seq.{take-append-add, take-length}
use Rattle.std.proofs.lemmas.List.{take-append-le, take_more}
use Rattle.tree_format.specs.declared.kind.PlanKind.TheVariants.{Rest}
use Rattle.tree_format.specs.Gathering.{Gathered, gathered}
use Rattle.tree_format.specs.Reading.{at_line_number}
use Rattle.tree_format.specs.FeedSteps.{Stand}
use Rattle.tree_format.specs.Feeding.{HasRead, IsDecided, GoesOn}
use Rattle.tree_format.proofs.AtLines.{goes_on}
use Rattle.tree_format.proofs.BytesFed.{with_line, behind_read, run_read, run_tells}
use Rattle.tree_format.proofs.FedPieces.{nothing_more}
use Rattle.tree_format.proofs.feed.PlanFeed.advance.Goals as goal

pub returns-then-is_ended-clause-goes : goal.returns-then-is_ended-clause-goes
returns-then-is_ended-clause-goes c = λ family fed items read.
    let p = c.args.sc.now in
    let rest = c.args.rest.now in
    let ended = sym (ap (λ (t : Stand). t.due.stage) c.self.view_is) ∙ c.is_ended.ensures.0 c.if-is_ended.true in
    let decided = behind_read family p c.recall_sound.ensures fed items c.args.self.now read _ ended in
    subst (λ (t : Stand). IsDecided family p (fed ++ take 1 rest) (at_line_number t.number Rest)) (sym c.self.view_is)
    (subst (λ (bytes : List ℕ). IsDecided family p (fed ++ bytes) (at_line_number c.args.self.now.number Rest)) (sym (take_more rest 0 0 c.requires.some)) decided)

pub returns-then-is_ended-clause-first : goal.returns-then-is_ended-clause-first
returns-then-is_ended-clause-first c = λ family fed items read n lt. nothing_more family c.args.sc.now fed items c.args.self.now read c.args.rest.now n lt

pub returns-in_default-clause-goes : goal.returns-in_default-clause-goes
returns-in_default-clause-goes c = λ family fed items read.
    let p = c.args.sc.now in
    let rest = c.args.rest.now in
    let goes = goes_on c.is_ended.result c.self.inside.due.stage c.is_ended.ensures.1 c.if-is_ended.false in
    let run = run_read family p c.recall_sound.ensures fed items c.args.self.now read rest (λ e. goes (ap (λ (t : Stand). t.due.stage) c.self.view_is ∙ e)) c.in_default.ensures.whole in
    let kept = c.push_run.ensures ∙ ap (λ (t : Stand). gathered t.line rest) c.self.view_is in
    let all = take (length rest) rest in
    subst (λ (t : Stand). HasRead family p (fed ++ all) items (with_line c.push_run.new.self t)) (sym c.self.view_is)
    (subst (λ (g : Gathered). HasRead family p (fed ++ all) items (with_line g c.args.self.now)) (sym kept)
    (subst (λ (bytes : List ℕ). HasRead family p (fed ++ bytes) items (with_line (gathered c.args.self.now.line rest) c.args.self.now)) (sym (take-length rest)) run))

pub returns-in_default-clause-first : goal.returns-in_default-clause-first
returns-in_default-clause-first c = λ family fed items read n lt.
    let goes = goes_on c.is_ended.result c.self.inside.due.stage c.is_ended.ensures.1 c.if-is_ended.false in
    run_tells family c.args.sc.now c.recall_sound.ensures fed items c.args.self.now read c.args.rest.now (λ e. goes (ap (λ (t : Stand). t.due.stage) c.self.view_is ∙ e)) c.in_default.ensures.whole c.args.rest.now n refl

pub returns-clause-goes : goal.returns-clause-goes
returns-clause-goes c = λ family fed items read.
    let last = c.in-Some.last.now in
    let bytes = ap (take (length last + 1)) c.in-Some.ensures.found ∙ take-append-add last _ 1 in
    subst (λ (bytes : List ℕ). GoesOn family c.args.sc.now (fed ++ bytes) items c.end_line.result c.end_line.new.self) (sym bytes) (c.end_line.ensures family fed items read)

pub returns-clause-first : goal.returns-clause-first
returns-clause-first c = λ family fed items read n lt.
    let last = c.in-Some.last.now in
    let goes = goes_on c.is_ended.result c.self.inside.due.stage c.is_ended.ensures.1 c.if-is_ended.false in
    let bytes = ap (take n) c.in-Some.ensures.found ∙ take-append-le n last _ (omega (arith, lt)) in
    run_tells family c.args.sc.now c.recall_sound.ensures fed items c.args.self.now read last (λ e. goes (ap (λ (t : Stand). t.due.stage) c.self.view_is ∙ e)) c.in-Some.ensures.first c.args.rest.now n bytes
