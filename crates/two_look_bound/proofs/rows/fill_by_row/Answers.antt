use Rattle.two_look_bound.proofs.Fitting.{found_two-within}
use Rattle.two_look_bound.proofs.rows.fill_by_row.Goals as goal

pub fill_shares-requires-clause-fits : goal.fill_shares-requires-clause-fits
fill_shares-requires-clause-fits c =
    rw c.requires.parts (found_two-within c.args.given.now.sc.now c.recall_sound.ensures c.args.given.now.prefix.now c.args.s c.requires.middle c.args.a)

pub fill_taken-requires-clause-shares : goal.fill_taken-requires-clause-shares
fill_taken-requires-clause-shares c = rw c.requires.parts at c.fill_shares.ensures.each

pub fill_sums-requires-clause-shares : goal.fill_sums-requires-clause-shares
fill_sums-requires-clause-shares c = rw c.requires.parts at c.fill_shares.ensures.each
