use Rattle.std.proofs.Common.{ℕ, ◌≡◌, ◌+◌, ◌-◌, ap, ◌∙◌, arith}
use Rattle.exchange_bound.proofs.rewards.fill_rewards.Goals as goal

pub fill_now-requires-in-loop-clause-lead : goal.fill_now-requires-in-loop-clause-lead
fill_now-requires-in-loop-clause-lead c =
    let (r, lead) = c.loop.invariant.some in
    (r, c.drift.ensures.lead c.args.prefix.now r lead)

-- one period more
pub loop-preserved : goal.loop-preserved
loop-preserved c =
    let q = c.args.prefix.now in
    let (some, has) = c.loop.invariant.some in
    record {
      period = c.drift.ensures.period ∙ ap (λ (n : ℕ). n + 1) c.loop.invariant.period;
      some = (some, c.drift.ensures.lead q some has);
      on = λ r lead.
          let (now, filled) = c.loop.invariant.on r lead in
          let next = c.drift.ensures.lead q r now in
          let before : c.drift.new.self.period - 1 ≡ c.loop.lead.period = omega (arith, c.drift.ensures.period) in
          (next, c.fill_now-in-loop.ensures r next (rw before filled));
    }

pub returns-clause-rewards : goal.returns-clause-rewards
returns-clause-rewards c r lead t a later until near =
    let (now, filled) = c.loop.invariant.on r lead in
    filled t a later (omega (arith, until, c.loop.invariant.period, c.loop-test.false, c.horizon-end.ensures.value)) near
