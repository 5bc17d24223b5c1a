use Rattle.std.proofs.Common.{◌≡◌, ℕ, List, [], ◌∷◌, ◌++◌, rules, subst, sym, All}
use Rattle.std.proofs.lemmas.List.Elements.{All-nil}
use Rattle.search_model.specs.Legal.{IsLegal}
use Rattle.search_workers.specs.Desks.{DeskView}
use Rattle.search_workers.specs.Seen.{desk_view}
use Rattle.search_workers.proofs.Worked.{still_may, may_take, still_legal, works_on, same_on}
use Rattle.search_workers.proofs.finish.take_up.Goals as goal

pub close_all-requires-clause-may : goal.close_all-requires-clause-may
close_all-requires-clause-may g c =
    may_take c.args.sc.now c.args.tickets.now c.args.board.now (desk_view c.tasks.desk) c.tasks.tasks.items c.pop.new.self.items c.push.new.self c.in-Some.task
    c.tasks.invariant.may c.tasks.invariant.empty (search rules) c.tasks.invariant.legal c.push.ensures

pub tasks-preserved : goal.tasks-preserved
tasks-preserved g c =
    let p = c.args.sc.now in
    let t = c.args.tickets.now in
    let b = c.args.board.now in
    let d : DeskView = desk_view c.tasks.desk in
    let mid : DeskView = record d { waiting = c.push.new.self } in
    let new : DeskView = desk_view c.close_all.new.desk in
    let rest : List (List ℕ) = c.pop.new.self.items in
    let so_far = c.tasks.invariant in
    let taken : c.tasks.tasks.items ≡ rest ++ c.in-Some.task ∷ [] = search rules in
    let ended = c.in-Idle.ensures.left in
    record {
      may = still_may p t b mid new
          (may_take p t b d c.tasks.tasks.items rest c.push.new.self c.in-Some.task so_far.may so_far.empty taken so_far.legal c.push.ensures)
          c.close_all.ensures.same ended.0 c.close_all.ensures.order
          (subst (All (IsLegal p)) (sym ended.2) (All-nil (IsLegal p)));
      works = works_on p t b d c.tasks.tasks.items rest c.push.new.self c.in-Some.task so_far.may so_far.empty taken so_far.legal c.push.ensures
          c.args.tasks.now.items (desk_view c.args.desk.now) new so_far.works c.close_all.ensures.works;
      same = same_on p t b d c.tasks.tasks.items rest c.push.new.self c.in-Some.task so_far.may so_far.empty taken so_far.legal c.push.ensures
          (desk_view c.args.desk.now) new so_far.same c.close_all.ensures.same;
      legal = still_legal p t b d c.tasks.tasks.items rest c.push.new.self c.in-Some.task so_far.may so_far.empty taken so_far.legal c.push.ensures;
      empty = ended.2;
    }

pub returns-in-Full-clause-works : goal.returns-in-Full-clause-works
returns-in-Full-clause-works g c =
    works_on c.args.sc.now c.args.tickets.now c.args.board.now (desk_view c.tasks.desk) c.tasks.tasks.items c.pop.new.self.items c.push.new.self c.in-Some.task
    c.tasks.invariant.may c.tasks.invariant.empty (search rules) c.tasks.invariant.legal c.push.ensures c.args.tasks.now.items (desk_view c.args.desk.now) (desk_view c.close_all.new.desk)
    c.tasks.invariant.works c.close_all.ensures.works

pub returns-in-NoMemory-clause-works : goal.returns-in-NoMemory-clause-works
returns-in-NoMemory-clause-works g c =
    works_on c.args.sc.now c.args.tickets.now c.args.board.now (desk_view c.tasks.desk) c.tasks.tasks.items c.pop.new.self.items c.push.new.self c.in-Some.task
    c.tasks.invariant.may c.tasks.invariant.empty (search rules) c.tasks.invariant.legal c.push.ensures c.args.tasks.now.items (desk_view c.args.desk.now) (desk_view c.close_all.new.desk)
    c.tasks.invariant.works c.close_all.ensures.works
