use Rattle.std.proofs.Common.{◌≡◌, true, sym, ◌∙◌, subst, arith}
use Rattle.std.specs.Str.{bytes_eq}
use Rattle.search_model.proofs.NamedPositions.{named_first, unnamed}
use Rattle.search_model.proofs.scenario.Scenario.position_named.Goals as goal

pub returns-then-eq-clause-value : goal.returns-then-eq-clause-value
returns-then-eq-clause-value c =
    let sound = c.positions-a-end.ensures.sound in
    let name = c.args.name.now in
    let here = subst (λ n. bytes_eq n name ≡ true) (c.bytes.ensures.value ∙ c.position.ensures.value) (sym c.if-eq.ensures) in
    sym (named_first c.args.self.now name c.loop-a.a (omega (arith, c.positions-a-end.ensures.value, c.loop-a-test.true, sound.position_names.count)) c.loop-a.invariant here)

pub returns-clause-value : goal.returns-clause-value
returns-clause-value c =
    let sound = c.positions-a-end.ensures.sound in
    sym (unnamed c.args.self.now c.args.name.now (λ k lt. c.loop-a.invariant k (omega (arith, c.positions-a-end.ensures.value, sound.position_names.count))))
