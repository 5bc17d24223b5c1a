use Rattle.std.proofs.Common.{◌≡◌, ◌≢◌, sym, arith, rules}
use Rattle.std.proofs.lemmas.Bool.{false_from_ne_true}
use Rattle.sweep_table.specs.LookParts.{factor_of}
use Rattle.scenario_text.proofs.SameRows.{covers_itself-from, covers_itself-each}
use Rattle.scenario_text.proofs.steady.covers_itself.Goals as goal

pub returns-then-factor-denominator : goal.returns-then-factor-denominator
returns-then-factor-denominator c =
    let p = c.args.sc.now in
    let one : c.factor.result ≡ factor_of p.sweep 1 c.args.q c.loop-c.c = search rules in
    let all : c.denominator.result ≡ p.sweep.denominator = search rules in
    let apart : c.loop-c.c ≢ c.args.q = λ e. omega (arith, e, c.if-c-q.true) in
    sym (false_from_ne_true _ (λ own. let equal = covers_itself-each p c.requires.problem c.args.q own c.loop-c.c apart in omega (arith, one, all, equal, c.if-factor-denominator.true)))

pub returns : goal.returns
returns c =
    sym (covers_itself-from c.args.sc.now c.requires.problem c.args.q (λ d inside apart. c.loop-c.invariant d (omega (arith, inside, c.cells-c-end.ensures.value)) apart))
