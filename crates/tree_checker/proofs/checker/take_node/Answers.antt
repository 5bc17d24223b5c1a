use Rattle.std.proofs.Common.{reverse, sym, subst, arith, All}
use Rattle.std.proofs.lemmas.List.{length-reverse}
use Rattle.std.proofs.lemmas.List.Elements.{All-append}
use Rattle.search_model.specs.Legal.{IsLegal}
use Rattle.bound_tree.specs.Gaps.{shape_of_kind}
use Rattle.bound_tree.specs.Room.{HasRoom}
use Rattle.bound_tree.proofs.Rooms.{split_legal, legal_expected, room_left, room_expected}
use Rattle.tree_checker.proofs.Reason.{branch_is_short}
use Rattle.tree_checker.proofs.checker.take_node.Goals as goal

pub node_reason-requires-clause-legal : goal.node_reason-requires-clause-legal
node_reason-requires-clause-legal c = (split_legal c.args.sc.now _ _ _ c.in-Some.ensures.some c.requires.legal).0

pub push_opened-requires-clause-legal : goal.push_opened-requires-clause-legal
push_opened-requires-clause-legal c = (split_legal c.args.sc.now _ _ _ c.in-Some.ensures.some c.requires.legal).0

pub push_opened-requires-clause-room : goal.push_opened-requires-clause-room
push_opened-requires-clause-room c = λ branch.
    let rest = c.pop_prefix.new.stack in
    let short = branch_is_short c.args.numbers c.args.sc.now c.args.standing.now c.in-Some.prefix c.args.node.now (sym c.in-None.ensures.reason) branch in
    let left = room_left c.args.sc.now c.in-Some.prefix (reverse rest.items) c.recall_sound.ensures short (subst HasRoom c.in-Some.ensures.some c.requires.room) in
    omega (arith, left, length-reverse rest.items, rest.ok.0)

pub returns-in-Some-node_reason-clause-legal : goal.returns-in-Some-node_reason-clause-legal
returns-in-Some-node_reason-clause-legal c = (split_legal c.args.sc.now _ _ _ c.in-Some.ensures.some c.requires.legal).1

pub returns-in-None-clause-legal : goal.returns-in-None-clause-legal
returns-in-None-clause-legal c =
    let legal = IsLegal c.args.sc.now in
    let parts = split_legal c.args.sc.now _ _ _ c.in-Some.ensures.some c.requires.legal in
    let short = branch_is_short c.args.numbers c.args.sc.now c.args.standing.now c.in-Some.prefix c.args.node.now (sym c.in-None.ensures.reason) in
    subst (All legal) (sym c.push_opened.ensures.items)
    (All-append legal _ _ (legal_expected c.args.sc.now c.in-Some.prefix (shape_of_kind c.args.node.now.kind) parts.0 short) parts.1)

pub returns-in-None-clause-room : goal.returns-in-None-clause-room
returns-in-None-clause-room c =
    let legal = (split_legal c.args.sc.now _ _ _ c.in-Some.ensures.some c.requires.legal).0 in
    subst HasRoom (sym c.push_opened.ensures.items)
    (room_expected c.args.sc.now c.in-Some.prefix (shape_of_kind c.args.node.now.kind) _ c.recall_sound.ensures legal (subst HasRoom c.in-Some.ensures.some c.requires.room))
