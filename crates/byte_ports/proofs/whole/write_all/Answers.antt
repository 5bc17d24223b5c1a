use Rattle.std.proofs.Common.{rules, arith}
use Rattle.std.proofs.lemmas.Grind.{common_steps}
use Rattle.byte_ports.specs.Runs.{Took}
use Rattle.std.proofs.KnownBytes.{Appends-nil}
use Rattle.byte_ports.proofs.Runs.{appends_more, took_more}
use Rattle.byte_ports.proofs.whole.write_all.Goals as goal

pub loop-done-init : goal.loop-done-init
loop-done-init g c =
    record {
      within = search rules;
      appended = Appends-nil _;
      faults_kept = search rules;
      wants_kept = search rules;
      untouched = search rules;
      took = Took.none;
    }

pub loop-done-preserved : goal.loop-done-preserved
loop-done-preserved g c =
    let before = c.loop-done.invariant in
    let once = c.in-Ok.ensures in
    record {
      within = grind (arith, common_steps);
      appended = appends_more _ _ _ _ _ _ before.appended once.bytes;
      faults_kept = grind arith;
      wants_kept = grind arith;
      untouched = λ none. absurd (omega (arith, none, once.bound.0));
      took = took_more _ _ _ _ _ _ _ before.took once.once once.bound.0;
    }
