use Rattle.std.proofs.Common.{◌≡◌, sym, arith, rules}
use Rattle.std.proofs.lemmas.Bool.{false_from_ne_true}
use Rattle.period_rows.proofs.SameRows.{same_entries, entries_same}
use Rattle.sweep_table.specs.LookParts.{factor_of}
use Rattle.scenario_text.specs.Canonical.{covered}
use Rattle.scenario_text.proofs.SameRows.{factors_same, covered_same}
use Rattle.scenario_text.proofs.steady.is_same_look.Goals as goal

pub returns-then-factor : goal.returns-then-factor
returns-then-factor c =
    let p = c.args.sc.now in
    let one : c.factor.result ≡ factor_of p.sweep c.args.t c.args.q c.loop-c.c = search rules in
    let two : c.factor-in-loop-c.result ≡ factor_of p.sweep 1 c.args.q c.loop-c.c = search rules in
    sym (false_from_ne_true _ (λ same. let equal = factors_same p c.requires.problem c.args.t 1 c.args.q (same_entries _ _ same) c.loop-c.c in omega (arith, one, two, equal, c.if-factor.true)))

pub returns : goal.returns
returns c =
    let p = c.args.sc.now in
    sym (entries_same (covered p c.args.t c.args.q) (covered p 1 c.args.q) (covered_same p c.requires.problem c.args.t 1 c.args.q (λ d inside. c.loop-c.invariant d (omega (arith, inside, c.cells-c-end.ensures.value)))))
