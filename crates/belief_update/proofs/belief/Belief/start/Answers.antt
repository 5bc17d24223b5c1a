use Rattle.std.proofs.Common.{false, ◌≡◌, [], ◌∷◌, None, length, sym, ◌∙◌}
use Rattle.std.proofs.lemmas.List.{with_items_is}
use Rattle.belief_update.specs.Belief.{IsBelief}
use Rattle.belief_update.proofs.BeliefSteps.{start_is, belief_fits}
use Rattle.belief_update.proofs.belief.Belief.start.Goals as goal

-- there is one first mass for each cell
size : (c : goal.After-masses-3-1) → length c.first_masses.new.masses ≡ c.cells-cells.result
size c = c.first_masses.auto.masses ∙ c.deref_mut.ensures.len ∙ c.in_ok-masses.ensures.len

-- the first masses are the belief at the start
made : (c : goal.After-masses-3-1) → IsBelief c.args.sc.now (None ∷ []) (record { period = 1; looked = false; masses = c.first_masses.new.masses })
made c = start_is c.args.sc.now c.first_masses.ensures.sound c.first_masses.new.masses (size c ∙ c.cells-cells.ensures.value) c.first_masses.ensures.each

pub invariant_of-result : goal.invariant_of-result
invariant_of-result c =
    let stored = with_items_is c.in_ok-masses.masses c.first_masses.new.masses (c.first_masses.auto.masses ∙ c.deref_mut.ensures.len) in
    rw stored (record {
      spare = sym c.in_ok-next.next.ok.0 ∙ c.in_ok-next.ensures.len ∙ sym (size c);
      fits = belief_fits c.args.sc.now c.first_masses.ensures.sound _ _ (made c);
    })

pub returns : goal.returns
returns c =
    let stored = with_items_is c.in_ok-masses.masses c.first_masses.new.masses (c.first_masses.auto.masses ∙ c.deref_mut.ensures.len) in
    rw stored (made c)
