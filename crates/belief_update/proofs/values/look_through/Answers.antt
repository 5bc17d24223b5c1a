use Rattle.std.proofs.Common.{◌<◌, [], Some, map, ap}
use Rattle.belief_update.proofs.Looks.{first_and_later, later_all, looks_to-some}
use Rattle.belief_update.proofs.values.look_through.Goals as goal

pub follow_on-requires-clause-belief : goal.follow_on-requires-clause-belief
follow_on-requires-clause-belief c = (_, c.look.ensures.belief [] c.reset.ensures)

pub follow_on-requires-clause-positions : goal.follow_on-requires-clause-positions
follow_on-requires-clause-positions c = later_all (λ a. a < c.args.sc.now.positions) c.args.looks.now c.requires.positions

pub returns-in-len1-up : goal.returns-in-len1-up
returns-in-len1-up c =
    let q = c.args.looks.now in
    let after = c.follow_on.ensures _ (c.look.ensures.belief [] c.reset.ensures) in
    rw (looks_to-some q c.in-len1-up.len_at_least) (rw (ap (map Some) (first_and_later q c.in-len1-up.len_at_least)) at after)
