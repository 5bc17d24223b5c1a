use Rattle.std.proofs.Common.{◌≡◌, ◌+◌, ap, length, ◌∙◌, arith}
use Rattle.belief_update.proofs.TrailSteps.{rows_first}
use Rattle.belief_update.proofs.trail.Trail.tables.Goals as goal

pub returns-clause-made : goal.returns-clause-made
returns-clause-made c =
    let p = c.args.sc.now in
    let rows = c.in_ok-first_beliefs.field-0.items in
    let ahead = c.in_ok-first_beliefs-2.field-0.items in
    let horizon : c.horizon-horizon.result ≡ p.horizon = c.horizon-horizon.ensures.value in
    let size : length rows ≡ p.horizon + 1 = c.in_ok-first_beliefs.ensures.size ∙ ap (λ n. n + 1) horizon in
    let ahead_size : length ahead ≡ p.horizon = c.in_ok-first_beliefs-2.ensures.size ∙ horizon in
    rw c.empty.ensures (record { short = omega arith; rows = rows_first p rows ahead size ahead_size c.in_ok-first_beliefs.ensures.each c.in_ok-first_beliefs-2.ensures.each })
