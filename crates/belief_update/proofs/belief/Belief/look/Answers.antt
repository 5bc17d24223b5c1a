use Rattle.std.proofs.Common.{ℕ, ◌*◌, ◌<◌, ◌≡◌, true, List, [], ◌∷◌, ◌++◌, Option, Some, None, length, slice_index, sym, ap, ◌∙◌}
use Rattle.std.proofs.lemmas.List.{with_items_is}
use Rattle.sweep_table.specs.LookParts.{factor_of}
use Rattle.belief_update.specs.Belief.{IsBelief}
use Rattle.belief_update.proofs.BeliefSteps.{look_fits, look_is, belief_fits}
use Rattle.belief_update.proofs.belief.Belief.look.Goals as goal

pub weaken-requires-clause-fits : goal.weaken-requires-clause-fits
weaken-requires-clause-fits c =
    let p = c.args.sc.now in
    let looks = c.requires.belief.0 in
    let before : IsBelief p (looks ++ None ∷ []) (record { period = c.self.inside.period; looked = c.self.inside.looked; masses = c.self.inside.masses.items }) = rw c.self.view_is c.requires.belief.1 in
    rw (c.deref_mut.ensures.value, c.sweep.ensures.value) (look_fits p c.sweep.ensures.sound looks _ before c.args.position)

-- the weakened masses are the belief after the look
made : (c : goal.After-self-2-1) (looks : List (Option ℕ)) → IsBelief c.args.sc.now (looks ++ None ∷ []) c.args.self.now →
    IsBelief c.args.sc.now (looks ++ Some c.args.position ∷ []) (record { period = c.self.inside.period; looked = true; masses = c.weaken.new.masses })
made c looks given =
    let p = c.args.sc.now in
    let old = c.self.inside.masses.items in
    let new = c.weaken.new.masses in
    let before : IsBelief p (looks ++ None ∷ []) (record { period = c.self.inside.period; looked = c.self.inside.looked; masses = old }) = rw c.self.view_is given in
    let each : (x : ℕ) → x < length old → slice_index new x ≡ slice_index old x * factor_of p.sweep c.self.inside.period c.args.position x = rw (← c.deref_mut.ensures.value, ← c.sweep.ensures.value) c.weaken.ensures.each in
    look_is p c.sweep.ensures.sound looks _ c.args.position new before (c.weaken.auto.masses ∙ ap length c.deref_mut.ensures.value) each

pub invariant_of-self : goal.invariant_of-self
invariant_of-self c =
    let stored = with_items_is c.self.inside.masses c.weaken.new.masses (c.weaken.auto.masses ∙ c.deref_mut.ensures.len) in
    let after = made c c.requires.belief.0 c.requires.belief.1 in
    rw stored (record {
      spare = c.self.invariant.spare ∙ sym (c.weaken.auto.masses ∙ ap length c.deref_mut.ensures.value);
      fits = belief_fits c.args.sc.now c.sweep.ensures.sound _ _ after;
    })

pub returns-clause-belief : goal.returns-clause-belief
returns-clause-belief c looks given =
    let stored = with_items_is c.self.inside.masses c.weaken.new.masses (c.weaken.auto.masses ∙ c.deref_mut.ensures.len) in
    rw stored (made c looks given)
