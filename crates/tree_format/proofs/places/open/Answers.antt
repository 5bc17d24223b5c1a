use Rattle.std.proofs.Common.{sym, subst}
use Rattle.bound_tree.specs.Room.{HasRoom}
use Rattle.bound_tree.proofs.Rooms.{room_expected}
use Rattle.tree_format.proofs.places.open.Goals as goal

pub returns-then-has_children-clause-room : goal.returns-then-has_children-clause-room
returns-then-has_children-clause-room c =
    let may = c.has_children.ensures.0 c.if-has_children.true in
    subst HasRoom (sym c.push_expected.ensures.items)
    (room_expected c.args.sc.now c.args.prefix.now c.args.kind.now _ c.recall_sound.ensures may.1 c.requires.room)
