use Rattle.std.proofs.Common.{ℕ, ◌≡◌, ◌<◌, ◌*◌, ◌+◌, ◌-◌, length, slice_index, ap, ◌∙◌, sym, arith}
use Rattle.std.specs.Vec.{with_items}
use Rattle.std.proofs.lemmas.List.{with_items_is}
use Rattle.sweep_table.specs.LookParts.{factor_of}
use Rattle.belief_update.specs.Taken.{TakenState, IsReady}
use Rattle.belief_update.proofs.TakenSteps.{scale_fits, weaken_fits, found_fits, add_fits, ready_period, look_taken}
use Rattle.belief_update.proofs.taken.Taken.look.Goals as goal

pub weaken-requires-clause-cells : goal.weaken-requires-clause-cells
weaken-requires-clause-cells c =
    let (_, _, ready) = c.requires.ready in
    rw c.sweep.ensures.value (ap length c.deref_mut.ensures.value ∙ ap (λ (s : TakenState). length s.masses) c.self.view_is ∙ ready.beside.taken.cells ∙ sym c.recall_sound.ensures.sweep_cells)

pub weaken-requires-clause-last : goal.weaken-requires-clause-last
weaken-requires-clause-last c =
    let (_, _, ready) = c.requires.ready in
    omega (arith, ap (λ (s : TakenState). s.period) c.self.view_is, ready.beside.taken.last, c.recall_sound.ensures.horizon.1)

pub weaken-requires-clause-fits : goal.weaken-requires-clause-fits
weaken-requires-clause-fits c x here =
    let p = c.args.sc.now in
    let (q, r, given) = c.requires.ready in
    let ready : IsReady p q r c.args.without.now (record { period = c.self.inside.period; scale = c.self.inside.scale; masses = c.self.inside.masses.items }) = rw c.self.view_is given in
    let cell : x < p.cells = omega (arith, here, ap length c.deref_mut.ensures.value, ready.beside.taken.cells) in
    rw (c.deref_mut.ensures.value, c.sweep.ensures.value) (weaken_fits p c.recall_sound.ensures q r c.args.a _ _ ready x cell)

pub add_found-requires-clause-width : goal.add_found-requires-clause-width
add_found-requires-clause-width c =
    let (_, _, ready) = c.requires.ready in
    let weak = with_items_is c.self.inside.masses c.weaken.new.masses (c.weaken.auto.masses ∙ c.deref_mut.ensures.len) in
    let old = ap length c.deref_mut.ensures.value ∙ ap (λ (s : TakenState). length s.masses) c.self.view_is ∙ ready.beside.taken.cells in
    ap length c.deref_mut-2.ensures.value ∙ ap length weak ∙ c.weaken.auto.masses ∙ old

pub add_found-requires-clause-belief : goal.add_found-requires-clause-belief
add_found-requires-clause-belief c =
    let (_, _, ready) = c.requires.ready in
    (_, ready.beside.belief)

pub add_found-requires-clause-found : goal.add_found-requires-clause-found
add_found-requires-clause-found c x here =
    let p = c.args.sc.now in
    let (q, r, given) = c.requires.ready in
    let ready : IsReady p q r c.args.without.now (record { period = c.self.inside.period; scale = c.self.inside.scale; masses = c.self.inside.masses.items }) = rw c.self.view_is given in
    found_fits p c.recall_sound.ensures q r c.args.a _ _ ready x here

pub add_found-requires-clause-fits : goal.add_found-requires-clause-fits
add_found-requires-clause-fits c x here =
    let p = c.args.sc.now in
    let (q, r, given) = c.requires.ready in
    let ready : IsReady p q r c.args.without.now (record { period = c.self.inside.period; scale = c.self.inside.scale; masses = c.self.inside.masses.items }) = rw c.self.view_is given in
    let period : c.args.without.now.period ≡ c.self.inside.period = ready_period p c.recall_sound.ensures q r c.args.a _ _ ready in
    let weak = with_items_is c.self.inside.masses c.weaken.new.masses (c.weaken.auto.masses ∙ c.deref_mut.ensures.len) in
    let left = c.weaken.ensures.each x (omega (arith, here, ready.beside.taken.cells, ap length c.deref_mut.ensures.value)) in
    rw (c.deref_mut-2.ensures.value, weak, left, c.deref_mut.ensures.value, c.sweep.ensures.value, period) (add_fits p c.recall_sound.ensures q r c.args.a _ _ ready x here)

pub overflow_mul-self : goal.overflow_mul-self
overflow_mul-self c =
    let p = c.args.sc.now in
    let (q, r, given) = c.requires.ready in
    let ready : IsReady p q r c.args.without.now (record { period = c.self.inside.period; scale = c.self.inside.scale; masses = c.self.inside.masses.items }) = rw c.self.view_is given in
    rw (c.from.ensures, c.denominator.ensures.value, c.sweep-2.ensures.value) (omega (arith, scale_fits p c.recall_sound.ensures q r c.args.a _ _ ready))

pub returns-clause-taken : goal.returns-clause-taken
returns-clause-taken c q r given =
    let p = c.args.sc.now in
    let a = c.args.a in
    let old = c.self.inside.masses.items in
    let new = c.add_found.new.taken in
    let ready : IsReady p q r c.args.without.now (record { period = c.self.inside.period; scale = c.self.inside.scale; masses = old }) = rw c.self.view_is given in
    let period : c.args.without.now.period ≡ c.self.inside.period = ready_period p c.recall_sound.ensures q r a _ _ ready in
    let weak = with_items_is c.self.inside.masses c.weaken.new.masses (c.weaken.auto.masses ∙ c.deref_mut.ensures.len) in
    let size : length new ≡ length old = c.add_found.auto.taken ∙ ap length c.deref_mut-2.ensures.value ∙ ap length weak ∙ c.weaken.auto.masses ∙ ap length c.deref_mut.ensures.value in
    let stored = with_items_is (with_items c.self.inside.masses c.weaken.new.masses) new (c.add_found.auto.taken ∙ c.deref_mut-2.ensures.len) in
    let left : (x : ℕ) → x < length old → slice_index c.deref_mut-2.result.now x ≡ slice_index old x * factor_of p.sweep c.self.inside.period a x = λ x here.
    rw (c.deref_mut-2.ensures.value, weak, ← c.deref_mut.ensures.value, ← c.sweep.ensures.value) (c.weaken.ensures.each x (omega (arith, here, ap length c.deref_mut.ensures.value))) in
    let each : (x : ℕ) → x < p.cells → slice_index new x ≡ slice_index old x * factor_of p.sweep c.self.inside.period a x + slice_index c.args.without.now.masses x * c.self.inside.scale * (p.sweep.denominator - factor_of p.sweep c.self.inside.period a x) = λ x here.
    rw (← period) (c.add_found.ensures.each x here ∙ ap (λ (n : ℕ). n + slice_index c.args.without.now.masses x * c.self.inside.scale * (p.sweep.denominator - factor_of p.sweep c.args.without.now.period a x)) (left x (omega (arith, here, ready.beside.taken.cells)) ∙ ap (λ (t : ℕ). slice_index old x * factor_of p.sweep t a x) (sym period))) in
    rw (stored, c.from.ensures, c.denominator.ensures.value, c.sweep-2.ensures.value) (look_taken p c.recall_sound.ensures q r a _ _ ready new (size ∙ ready.beside.taken.cells) each)

pub invariant_of-self : goal.invariant_of-self
invariant_of-self c =
    let old = c.self.inside.masses.items in
    let new = c.add_found.new.taken in
    let weak = with_items_is c.self.inside.masses c.weaken.new.masses (c.weaken.auto.masses ∙ c.deref_mut.ensures.len) in
    let size : length new ≡ length old = c.add_found.auto.taken ∙ ap length c.deref_mut-2.ensures.value ∙ ap length weak ∙ c.weaken.auto.masses ∙ ap length c.deref_mut.ensures.value in
    let stored = with_items_is (with_items c.self.inside.masses c.weaken.new.masses) new (c.add_found.auto.taken ∙ c.deref_mut-2.ensures.len) in
    rw stored (c.self.invariant ∙ sym size)
