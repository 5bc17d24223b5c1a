use Rattle.std.proofs.Common.{◌∙◌, sym, subst, ℕ}
use Rattle.scenario_text.specs.Scanning.{IsAdded}
use Rattle.scenario_text.proofs.PairSteps.{on_ok, seen_marked, seen_added}
use Rattle.scenario_text.proofs.pairs.add_pair.Goals as goal

pub returns-then-has_fault : goal.returns-then-has_fault
returns-then-has_fault c = λ done h. seen_marked c.args.least done c.args.pair c.args.scan.now c.mark_pair.new.scan c.mark_pair.ensures (sym c.has_fault.ensures ∙ c.if-has_fault.true) h

pub returns-else-has_fault : goal.returns-else-has_fault
returns-else-has_fault c =
    let old = c.mark_pair.new.scan in
    let new = c.add_entry.new.scan in
    let P : ℕ → Type 0 = λ n. IsAdded old (record { cell = c.in-Some.cell; part = n }) new in
    on_ok c.add_entry.result _ _ (λ added done h. seen_added c.args.least done c.args.pair c.in-Some.cell c.args.scan.now old new c.in-Some.is c.mark_pair.ensures (sym c.has_fault.ensures ∙ c.if-has_fault.false) (subst P c.number_in.ensures added) h) c.add_entry.ensures
