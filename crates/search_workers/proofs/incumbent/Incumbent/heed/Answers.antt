use Rattle.std.proofs.Common.{◌∙◌, sym}
use Rattle.std.proofs.lemmas.Bool.{true≢false}
use Rattle.bound_tree.proofs.Closing.{at_least_from}
use Rattle.search_workers.proofs.Told.{told_by_look, still_told}
use Rattle.search_workers.proofs.incumbent.Incumbent.heed.Goals as goal
use Rattle.search_workers.proofs.incumbent.Incumbent.heed.Goals.{else-better-via-then-better+else-is_exact, else-better-via-else-better}

pub returns-then-is_exact-clause-told : goal.returns-then-is_exact-clause-told
returns-then-is_exact-clause-told g c = λ _. told_by_look c.args.board.now.first c.look-shown.result c.args.self.now.seat c.look-shown.new.self.seat c.look-shown.ensures.looked

pub returns-else-better-clause-heeded : goal.returns-else-better-clause-heeded
returns-else-better-clause-heeded g c = elim c.else-better.branch [
  | else-better-via-then-better+else-is_exact w ↦ rw (w.self-is, c.look-shown.ensures.looked.last) (λ exact. absurd (true≢false (sym (w.is_exact.ensures.exact.1 exact) ∙ w.if-is_exact.false)))
  | else-better-via-else-better w ↦ rw (w.self-is, c.look-shown.ensures.looked.last) (λ _. at_least_from c.look-shown.new.self.standing c.look-shown.result (sym c.better.ensures ∙ w.if-better.false))
]

pub returns-else-better-clause-told : goal.returns-else-better-clause-told
returns-else-better-clause-told g c =
    let told = still_told c.args.board.now.first c.look-shown.result c.args.self.now.standing c.args.self.now.seat c.look-shown.new.self.seat c.look-shown.ensures.looked in
    elim c.else-better.branch [
      | else-better-via-then-better+else-is_exact w ↦ rw (w.self-is, c.look-shown.ensures.same.0) told
      | else-better-via-else-better w ↦ rw (w.self-is, c.look-shown.ensures.same.0) told
    ]
