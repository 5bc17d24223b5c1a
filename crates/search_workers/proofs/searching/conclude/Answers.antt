use Rattle.std.proofs.Common.{List, ℕ, arith, subst}
use Rattle.std.proofs.lemmas.List.Sorted.{length_permutation}
use Rattle.tree_gather.specs.Hauls.{AreJoined}
use Rattle.tree_gather.proofs.Joined.{done_are_accepted}
use Rattle.search_workers.specs.declared.left.Left.{Left}
use Rattle.search_workers.specs.Harvests.{EndsHarvest}
use Rattle.search_workers.proofs.searching.conclude.Goals as goal

pub returns-in-Idle-clause-best : goal.returns-in-Idle-clause-best
returns-in-Idle-clause-best g c =
    let p = c.args.sc.now in
    let first = c.args.board.first in
    let harvest = c.args.harvest in
    let joined = subst (λ (qs : List (List ℕ)). AreJoined p first harvest.best qs harvest.closed.items) (subst (λ (e : Left). EndsHarvest e harvest) c.in-Idle.is c.requires.ends) c.requires.joined in
    (done_are_accepted p first harvest.best harvest.closed.items c.gather.result c.recall_sound.ensures joined c.gather.ensures.gathered).1

pub returns-in-Idle-clause-branches : goal.returns-in-Idle-clause-branches
returns-in-Idle-clause-branches g c =
    let p = c.args.sc.now in
    let first = c.args.board.first in
    let harvest = c.args.harvest in
    let joined = subst (λ (qs : List (List ℕ)). AreJoined p first harvest.best qs harvest.closed.items) (subst (λ (e : Left). EndsHarvest e harvest) c.in-Idle.is c.requires.ends) c.requires.joined in
    (done_are_accepted p first harvest.best harvest.closed.items c.gather.result c.recall_sound.ensures joined c.gather.ensures.gathered).2

pub returns-in-Idle-clause-few : goal.returns-in-Idle-clause-few
returns-in-Idle-clause-few g c =
    omega (arith, length_permutation c.args.harvest.closed.items c.gather.result c.gather.ensures.gathered.same, c.requires.counted, c.close-drawn.ensures.numbers)
