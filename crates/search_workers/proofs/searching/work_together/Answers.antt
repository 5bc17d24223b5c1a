use Rattle.std.proofs.Common.{List, All, sym, subst, ◌∙◌}
use Rattle.std.specs.List.{AllZip}
use Rattle.std.proofs.lemmas.List.{with_items_is}
use Rattle.search_workers.specs.declared.crew.Member.{Member}
use Rattle.search_workers.specs.Crew.{IsComplete, HasGone}
use Rattle.search_workers.specs.Runs.{Runs}
use Rattle.search_workers.proofs.Gone.{complete_after, gone_after}
use Rattle.search_workers.proofs.searching.work_together.Goals as goal

pub returns-clause-complete : goal.returns-clause-complete
returns-clause-complete g c =
    let p = c.args.sc.now in
    let t = c.args.tickets.now in
    let b = c.args.board.now in
    let stored = with_items_is c.args.members.now c.go_all.new.crew (c.go_all.auto.crew ∙ c.as_mut_slice.ensures.len) in
    subst (IsComplete t b) (sym stored) (complete_after p b.first t b c.args.members.now.items c.go_all.new.crew
    (subst (λ (old : List Member). AllZip (Runs p b.first) old c.go_all.new.crew) c.as_mut_slice.ensures.value c.go_all.ensures)
    c.requires.complete)

pub returns-clause-gone : goal.returns-clause-gone
returns-clause-gone g c =
    let p = c.args.sc.now in
    let b = c.args.board.now in
    let stored = with_items_is c.args.members.now c.go_all.new.crew (c.go_all.auto.crew ∙ c.as_mut_slice.ensures.len) in
    subst (All (HasGone p b.first)) (sym stored) (gone_after p b.first c.args.members.now.items c.go_all.new.crew
    (subst (λ (old : List Member). AllZip (Runs p b.first) old c.go_all.new.crew) c.as_mut_slice.ensures.value c.go_all.ensures))
