use Rattle.std.proofs.Common.{◌∙◌, sym, ap, refl, ℕ, List, ◌∷◌}
use Rattle.std.proofs.lemmas.Bool.{eqb-true}
use Rattle.scenario_text.proofs.PairSteps.{scan_starts, scan_odd, scan_more, scan_ends}
use Rattle.scenario_text.proofs.pairs.scan_pairs.Goals as goal

pub loop-rest-init : goal.loop-rest-init
loop-rest-init c = scan_starts _ c.args.least _ _ _ c.skip_blanks-rest.ensures.fields c.skip_blanks-rest.ensures.starts refl refl refl refl c.new.ensures.items

pub returns-then-is_empty : goal.returns-then-is_empty
returns-then-is_empty c =
    let name = c.cut_field.result.0.now in
    scan_odd _ c.args.least _ _ name c.skip_blanks-after.result.now c.loop-rest.scan (c.cut_field.ensures.fields ∙ ap (λ (fs : List (List ℕ)). name ∷ fs) c.skip_blanks-after.ensures.fields) (eqb-true _ _ (sym c.is_empty-in-loop-rest.ensures ∙ c.if-is_empty.true)) c.loop-rest.invariant

pub loop-rest-preserved : goal.loop-rest-preserved
loop-rest-preserved c =
    let name = c.cut_field.result.0.now in
    let part = c.cut_field-in-loop-rest.result.0.now in
    let one = c.cut_field.ensures.fields ∙ ap (λ (fs : List (List ℕ)). name ∷ fs) c.skip_blanks-after.ensures.fields in
    let two = c.cut_field-in-loop-rest.ensures.fields ∙ ap (λ (fs : List (List ℕ)). part ∷ fs) c.skip_blanks-rest-in-loop-rest.ensures.fields in
    scan_more _ c.args.least _ _ name c.skip_blanks-after.result.now part _ (record { cell = c.cell_named.result; part = c.number_at.result }) c.loop-rest.scan _ one two c.skip_blanks-rest-in-loop-rest.ensures.starts (rw (c.cell_named.ensures.value, c.number_at.ensures.value) refl) c.in_ok-add_pair.ensures c.loop-rest.invariant

pub returns : goal.returns
returns c = scan_ends _ c.args.least _ c.loop-rest.rest.now c.loop-rest.scan (eqb-true _ _ (sym c.is_empty.ensures ∙ c.loop-rest-test.false)) c.loop-rest.invariant
