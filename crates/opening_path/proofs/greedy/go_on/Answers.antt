use Rattle.std.proofs.Common.{◌<◌, ◌∷◌, [], Some, None, map, length, arith, length-append}
use Rattle.std.proofs.lemmas.List.{length-map}
use Rattle.opening_path.proofs.Openings.{move_is_position, opened_further}
use Rattle.opening_path.proofs.greedy.go_on.Goals as goal

pub look-requires-clause-position : goal.look-requires-clause-position
look-requires-clause-position c = move_is_position c.args.sc.now c.args.prefix.now _ c.recall_sound.ensures c.requires.opened.follows c.best_move-best.ensures.least.move

pub push-requires : goal.push-requires
push-requires c =
    let q = c.args.prefix.now in
    omega (arith, c.requires.belief.periods, c.requires.belief.last, length-append (map Some q) (None ∷ []), length-map q Some, c.recall_sound.ensures.horizon)

pub returns-clause-opened : goal.returns-clause-opened
returns-clause-opened c =
    let q = c.args.prefix.now in
    let short : length q < c.args.sc.now.horizon = omega (arith, c.requires.belief.periods, c.requires.belief.last, length-append (map Some q) (None ∷ []), length-map q Some) in
    rw c.push.ensures (opened_further c.args.sc.now c.recall_sound.ensures q _ short c.requires.opened c.best_move-best.ensures.least)
