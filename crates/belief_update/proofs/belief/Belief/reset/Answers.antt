use Rattle.std.proofs.Common.{false, ◌≡◌, [], ◌∷◌, None, length, sym, ap, ◌∙◌}
use Rattle.std.proofs.lemmas.List.{with_items_is}
use Rattle.belief_update.specs.Belief.{IsBelief}
use Rattle.belief_update.proofs.BeliefSteps.{start_is, belief_fits}
use Rattle.belief_update.proofs.belief.Belief.reset.Goals as goal

-- the first masses are the belief at the start
made : (c : goal.After-self-3-1) → IsBelief c.args.sc.now (None ∷ []) (record { period = 1; looked = false; masses = c.first_masses.new.masses })
made c =
    let size : length c.first_masses.new.masses ≡ c.args.sc.now.cells = c.first_masses.auto.masses ∙ ap length c.deref_mut.ensures.value ∙ ap (λ b. length b.masses) c.self.view_is ∙ c.requires in
    start_is c.args.sc.now c.first_masses.ensures.sound c.first_masses.new.masses size c.first_masses.ensures.each

pub invariant_of-self : goal.invariant_of-self
invariant_of-self c =
    let stored = with_items_is c.self.inside.masses c.first_masses.new.masses (c.first_masses.auto.masses ∙ c.deref_mut.ensures.len) in
    rw stored (record {
      spare = c.self.invariant.spare ∙ sym (c.first_masses.auto.masses ∙ ap length c.deref_mut.ensures.value);
      fits = belief_fits c.args.sc.now c.first_masses.ensures.sound _ _ (made c);
    })

pub returns : goal.returns
returns c =
    let stored = with_items_is c.self.inside.masses c.first_masses.new.masses (c.first_masses.auto.masses ∙ c.deref_mut.ensures.len) in
    rw stored (made c)
