use Rattle.std.proofs.Common.{ℕ, ◌≡◌, ◌<◌, ◌≤◌, ◌*◌, List, take, refl, arith}
use Rattle.std.proofs.lemmas.Bool.{lt-ltb}
use Rattle.std.proofs.lemmas.List.{length-take-le}
use Rattle.search_model.proofs.Totals.{whole_weight-fits}
use Rattle.search_model.specs.Problem.{Problem}
use Rattle.belief_update.specs.Masses.{mass_of, looks_to}
use Rattle.belief_update.specs.Belief.{BeliefState}
use Rattle.belief_update.specs.Taken.{TakenState, IsBeside}
use Rattle.belief_update.proofs.Forward.{masses_forward}
use Rattle.backward_mass.specs.Masses.{backward_of}
use Rattle.backward_mass.specs.Table.{BackwardTable}
use Rattle.tangent_bound.specs.Gains.{IsMet, missed_in}
use Rattle.tangent_bound.proofs.Found.{missed_in-le}
use Rattle.tangent_bound.proofs.gains.missed.Goals as goal

-- the two masses make what the reference misses in the cell
product : (p : Problem) (x : List ℕ) (t cell mass after : ℕ) (b : BeliefState) (s : TakenState) (w : BackwardTable) → IsMet p x t b s w → t ≤ p.horizon →
    ((q r : List ℕ) → IsBeside p q r b s → mass ≡ mass_of p (looks_to s.period r) cell) → after ≡ backward_of p x t cell → mass * after ≡ missed_in p x t cell
product p x t cell mass after b s w met last forward backward =
    let (q, beside) = met.taken in
    rw (forward q (take t x) beside, met.period, masses_forward p (take t x) t cell (omega (arith, length-take-le t x (omega (arith, met.path.whole, last)))), backward) refl

pub overflow_mul-result : goal.overflow_mul-result
overflow_mul-result c =
    let p = c.args.sc.now in
    let (x, met) = c.requires.met in
    let sound = c.sweep.ensures.sound in
    omega (arith, product p x c.args.t c.args.entry.cell c.mass.result c.at.result c.args.without.now c.args.taken.now c.args.backward.now met c.requires.last c.mass.ensures (c.at.ensures.mass p x c.args.t met.backward (omega arith)), missed_in-le p sound x met.path c.args.t c.requires.first c.requires.last c.args.entry.cell c.requires.cell, whole_weight-fits p sound)

pub returns-then-entry-denominator : goal.returns-then-entry-denominator
returns-then-entry-denominator c = λ path met.
    let p = c.args.sc.now in
    let below : c.args.entry.part < p.sweep.denominator = rw (c.denominator.ensures.value, c.sweep.ensures.value) at c.if-entry-denominator.true in
    rw (lt-ltb c.args.entry.part p.sweep.denominator below) (product p path c.args.t c.args.entry.cell c.mass.result c.at.result c.args.without.now c.args.taken.now c.args.backward.now met c.requires.last c.mass.ensures (c.at.ensures.mass p path c.args.t met.backward (omega arith)))
