use Rattle.std.proofs.Common.{◌+◌, ◌≤◌, ◌∙◌, ap, arith, length}
use Rattle.std.proofs.lemmas.List.{length-take-le}
use Rattle.bound_tree.proofs.Closing.{at_least_trans}
use Rattle.scout_path.proofs.Ways.{first_is_legal, either_exact}
use Rattle.scout_path.proofs.rollout.scout.Goals as goal

pub loop-t-preserved : goal.loop-t-preserved
loop-t-preserved c =
    let p = c.args.sc.now in
    let before = c.loop-t.best in
    let ahead = c.best_ahead-ahead.result in
    let so_far = c.loop-t.invariant in
    let exact = c.best_ahead-ahead.ensures.exact in
    let within : c.loop-t.t + 1 ≤ p.horizon = omega (arith, c.loop-t-test.true, c.horizon-t-end.ensures.value) in
    record {
      made = c.best_ahead-ahead.ensures.made;
      exact = either_exact p before ahead c.better_of-best.result so_far.exact exact c.better_of-best.ensures.either;
      not_worse = at_least_trans c.better_of-best.result before c.args.first.now c.better_of-best.ensures.first so_far.not_worse;
      legal = rw c.first-prefix.ensures (first_is_legal p ahead.path (c.loop-t.t + 1) exact.path within);
      long = ap length c.first-prefix.ensures ∙ length-take-le (c.loop-t.t + 1) ahead.path (omega (arith, within, exact.path.whole));
    }
