use Rattle.std.proofs.Common.{ℕ, ◌*◌, ◌-◌, ◌<◌, ◌≡◌, false, List, length, slice_index, sym, ap, ◌∙◌, arith}
use Rattle.std.proofs.lemmas.List.{with_items_is}
use Rattle.belief_update.specs.Masses.{looks_to}
use Rattle.belief_update.specs.Belief.{IsBelief}
use Rattle.belief_update.specs.Taken.{IsLater}
use Rattle.belief_update.proofs.BeliefSteps.{belief_fits}
use Rattle.belief_update.proofs.TakenSteps.{left_fits, left_part, left_is}
use Rattle.belief_update.proofs.belief.Belief.leave_from.Goals as goal

pub leave-requires-clause-fits : goal.leave-requires-clause-fits
leave-requires-clause-fits c x here =
    let p = c.args.sc.now in
    let (q, r, given) = c.requires.later in
    let inside = c.before-2.inside in
    let later : IsLater p q r (record { period = inside.period; looked = inside.looked; masses = inside.masses.items }) c.args.taken.now = rw c.before-2.view_is given in
    let cell : x < p.cells = omega (arith, here, ap length c.deref.ensures.value, later.beside.belief.cells) in
    rw (c.deref.ensures.value, c.denominator-whole.ensures.value, c.sweep.ensures.value) (left_fits p c.recall_sound.ensures q r _ _ later x cell)

pub leave-requires-clause-part : goal.leave-requires-clause-part
leave-requires-clause-part c x here =
    let p = c.args.sc.now in
    let (q, r, given) = c.requires.later in
    let inside = c.before-2.inside in
    let later : IsLater p q r (record { period = inside.period; looked = inside.looked; masses = inside.masses.items }) c.args.taken.now = rw c.before-2.view_is given in
    let cell : x < p.cells = omega (arith, here, ap length c.deref.ensures.value, later.beside.belief.cells) in
    rw (c.masses.ensures, c.deref.ensures.value, c.denominator-whole.ensures.value, c.sweep.ensures.value) (left_part p c.recall_sound.ensures q r _ _ later x cell)

-- what is left is the belief with the look
made : (c : goal.After-self-3-1) (q r : List ℕ) → IsLater c.args.sc.now q r c.args.before.now c.args.taken.now →
    IsBelief c.args.sc.now (looks_to c.args.taken.now.period r) (record { period = c.before-2.inside.period; looked = false; masses = c.leave.new.left })
made c q r given =
    let p = c.args.sc.now in
    let inside = c.before-2.inside in
    let old = inside.masses.items in
    let new = c.leave.new.left in
    let later : IsLater p q r (record { period = inside.period; looked = inside.looked; masses = old }) c.args.taken.now = rw c.before-2.view_is given in
    let cells : length c.self.inside.masses.items ≡ p.cells = ap (λ b. length b.masses) c.self.view_is ∙ c.requires.cells in
    let each : (x : ℕ) → x < length old → slice_index new x ≡ slice_index old x * p.sweep.denominator - slice_index c.args.taken.now.masses x = rw (← c.masses.ensures, ← c.deref.ensures.value, ← c.sweep.ensures.value, ← c.denominator-whole.ensures.value) c.leave.ensures.each in
    left_is p c.recall_sound.ensures q r _ _ later new (c.leave.auto.left ∙ ap length c.deref_mut.ensures.value ∙ cells) (λ x here. each x (omega (arith, later.beside.belief.cells, here)))

pub invariant_of-self : goal.invariant_of-self
invariant_of-self c =
    let (q, r, later) = c.requires.later in
    let stored = with_items_is c.self.inside.masses c.leave.new.left (c.leave.auto.left ∙ c.deref_mut.ensures.len) in
    let after = made c q r later in
    rw stored (record {
      spare = c.self.invariant.spare ∙ sym (c.leave.auto.left ∙ ap length c.deref_mut.ensures.value);
      fits = belief_fits c.args.sc.now c.recall_sound.ensures _ _ after;
    })

pub returns : goal.returns
returns c q r later =
    let stored = with_items_is c.self.inside.masses c.leave.new.left (c.leave.auto.left ∙ c.deref_mut.ensures.len) in
    rw stored (made c q r later)
