use Rattle.std.proofs.Common.{false, true≢false, None, [], ◌+◌, ◌<◌, length, take, refl, sym, ◌∙◌, arith}
use Rattle.std.proofs.lemmas.Grind.{get_or-set_at}
use Rattle.belief_update.specs.Masses.{looks_to}
use Rattle.belief_update.proofs.BeliefSteps.{is_looked-last}
use Rattle.belief_update.proofs.TrailSteps.{unlooked_ahead, after_look}
use Rattle.belief_update.proofs.trail.make_row.Goals as goal

pub step_from-requires-clause-period : goal.step_from-requires-clause-period
step_from-requires-clause-period g c looked =
    let front = take c.args.i c.args.looks.now in
    let unlooked = unlooked_ahead c.args.sc.now c.args.looks.now c.args.i c.requires.inside c.args.ahead.now c.requires.ahead in
    absurd (true≢false (sym looked ∙ unlooked.looked ∙ is_looked-last (looks_to (length front) front) None))

pub returns-clause-row : goal.returns-clause-row
returns-clause-row g c =
    let p = c.args.sc.now in
    let looks = c.args.looks.now in
    let i = c.args.i in
    let there : i + 1 < length c.args.rows.now = omega (arith, c.requires.inside, c.requires.size) in
    let looked = c.step_from.ensures.first _ (unlooked_ahead p looks i c.requires.inside c.args.ahead.now c.requires.ahead) in
    rw (get_or-set_at c.args.rows.now (i + 1) (i + 1) c.step_from.new.self (record { period = 0; looked = false; masses = [] }) refl there) (after_look p looks i c.requires.inside c.step_from.new.self looked)
