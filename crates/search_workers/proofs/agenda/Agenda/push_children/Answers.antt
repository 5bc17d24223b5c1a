use Rattle.std.proofs.Common.{◌≤◌, length, arith}
use Rattle.search_model.proofs.Children.{few_moves}
use Rattle.search_workers.proofs.agenda.Agenda.push_children.Goals as goal

pub push_each-requires-clause-room : goal.push_each-requires-clause-room
push_each-requires-clause-room c =
    let moves = c.children-moves.ensures in
    let few : length c.children-moves.result.now ≤ 64 = rw moves (few_moves c.args.sc.now c.args.prefix.now c.recall_sound.ensures c.requires.legal) in
    omega (arith, few, c.requires.room)
