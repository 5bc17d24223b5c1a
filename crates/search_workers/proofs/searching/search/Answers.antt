use Rattle.std.proofs.Common.{◌≡◌, ℕ, List, map, length, sym, subst, ap, ◌∙◌, rules, sum_by, IfOk}
use Rattle.search_model.specs.declared.standing.Standing.{Standing}
use Rattle.bound_tree.specs.declared.node.TreeNode.{TreeNode}
use Rattle.bound_tree.specs.Close.{LetsBranch}
use Rattle.node_tickets.specs.Seats.{SeatView as TicketView, numbers_of}
use Rattle.tree_gather.specs.Hauls.{AreJoined}
use Rattle.search_workers.specs.Seen.{desk_view}
use Rattle.search_workers.specs.Settled.{closed_at}
use Rattle.search_workers.proofs.Concluded.{joined_at, counted_at, ends_at, known_with, stops_at_limit}
use Rattle.search_workers.proofs.searching.search.Goals as goal

pub conclude-requires-clause-joined : goal.conclude-requires-clause-joined
conclude-requires-clause-joined g c =
    let p = c.args.sc.now in
    let first = c.args.first.now in
    let desks = map desk_view c.wind_up-end.result.1.items in
    let tasks = c.wind_up-end.result.2.items in
    let harvest = c.bring_in-harvest.result in
    let brought = c.bring_in-harvest.ensures in
    let enough = c.fell_short.ensures c.if-fell_short.false in
    let settled = known_with c.wind_up-end.result.0 _ enough.1 c.wind_up-end.ensures.settled in
    let same : c.in_ok-tickets.field-0.board.first ≡ first = search rules in
    let joined = joined_at p _ _ first harvest.best tasks desks c.recall_sound.ensures c.requires.exact same settled brought.best in
    subst (λ (s : Standing). AreJoined p s harvest.best harvest.waiting.items harvest.closed.items) (sym same)
    (subst (λ (rs : List TreeNode). AreJoined p first harvest.best harvest.waiting.items rs) (sym (brought.closed enough.0))
    (subst (λ (qs : List (List ℕ)). AreJoined p first harvest.best qs (closed_at desks)) (sym (brought.waiting enough.0)) joined))

pub conclude-requires-clause-counted : goal.conclude-requires-clause-counted
conclude-requires-clause-counted g c =
    let desks = map desk_view c.wind_up-end.result.1.items in
    let brought = c.bring_in-harvest.ensures in
    let enough = c.fell_short.ensures c.if-fell_short.false in
    let settled = known_with c.wind_up-end.result.0 _ enough.1 c.wind_up-end.ensures.settled in
    ap length (brought.closed enough.0)
    ∙ counted_at c.args.sc.now _ desks settled.order
    ∙ ap (λ (ts : List TicketView). sum_by numbers_of ts) (sym brought.tickets)

pub conclude-requires-clause-ends : goal.conclude-requires-clause-ends
conclude-requires-clause-ends g c =
    let enough = c.fell_short.ensures c.if-fell_short.false in
    ends_at c.wind_up-end.result.0 c.wind_up-end.result.2.items (map desk_view c.wind_up-end.result.1.items) c.bring_in-harvest.result
    c.wind_up-end.ensures.ends (c.bring_in-harvest.ensures.waiting enough.0) c.bring_in-harvest.ensures.tickets

pub returns-clause-branches : goal.returns-clause-branches
returns-clause-branches g c =
    let same : c.in_ok-tickets.field-0.board.first ≡ c.args.first.now = search rules in
    subst (λ (s : Standing). IfOk c.conclude.result (λ found. LetsBranch c.args.sc.now s found.tree)) same c.conclude.ensures.branches

pub returns-clause-full : goal.returns-clause-full
returns-clause-full g c =
    stops_at_limit c.args.sc.now c.args.first.now c.args.nodes c.recall_sound.ensures c.conclude.result (search rules) (search rules) (search rules)
