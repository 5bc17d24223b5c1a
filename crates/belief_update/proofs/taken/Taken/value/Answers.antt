use Rattle.std.proofs.Common.{arith}
use Rattle.search_model.proofs.Totals.{missed_weight-fits, whole_weight-fits}
use Rattle.belief_update.specs.Taken.{IsTaken}
use Rattle.belief_update.proofs.TakenSteps.{missed_less, value_more, total-le}
use Rattle.belief_update.proofs.taken.Taken.value.Goals as goal

pub total-requires : goal.total-requires
total-requires c =
    let p = c.args.sc.now in
    let (q, r, taken, value, looks) = c.requires.taken in
    let inside : IsTaken p q r (record { period = c.self.inside.period; scale = c.self.inside.scale; masses = c.self.inside.masses.items }) = rw c.self.view_is taken in
    rw c.deref.ensures.value (omega (arith, total-le p c.recall_sound.ensures q r _ inside, missed_less p c.recall_sound.ensures q r _ inside, missed_weight-fits p c.recall_sound.ensures q))

pub overflow_mul-result : goal.overflow_mul-result
overflow_mul-result c =
    let p = c.args.sc.now in
    let (q, r, taken, value, looks) = c.requires.taken in
    let inside : IsTaken p q r (record { period = c.self.inside.period; scale = c.self.inside.scale; masses = c.self.inside.masses.items }) = rw c.self.view_is taken in
    rw (c.total.ensures, c.deref.ensures.value, c.later_parts.ensures, ← looks) (omega (arith, missed_less p c.recall_sound.ensures q r _ inside, missed_weight-fits p c.recall_sound.ensures q))

pub overflow_add-result : goal.overflow_add-result
overflow_add-result c =
    let p = c.args.sc.now in
    let (q, r, taken, value, looks) = c.requires.taken in
    let inside : IsTaken p q r (record { period = c.self.inside.period; scale = c.self.inside.scale; masses = c.self.inside.masses.items }) = rw c.self.view_is taken in
    rw (c.total.ensures, c.deref.ensures.value, c.later_parts.ensures, ← looks, value) (omega (arith, value_more p c.recall_sound.ensures q r _ inside, whole_weight-fits p c.recall_sound.ensures))

pub returns : goal.returns
returns c q r taken value looks =
    let p = c.args.sc.now in
    let inside : IsTaken p q r (record { period = c.self.inside.period; scale = c.self.inside.scale; masses = c.self.inside.masses.items }) = rw c.self.view_is taken in
    rw (c.total.ensures, c.deref.ensures.value, c.later_parts.ensures, ← looks, value) (omega (arith, value_more p c.recall_sound.ensures q r _ inside))
