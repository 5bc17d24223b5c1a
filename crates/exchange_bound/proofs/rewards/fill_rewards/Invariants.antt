use Rattle.std.proofs.Common.{ℕ, ◌≡◌, List}
use Rattle.exchange_bound.specs.Leads.{IsLead, IsLeadOf, HasLeadRewards}
use Rattle.exchange_bound.proofs.rewards.fill_rewards.Given as goal

-- the lead has drifted on to the period, and its rewards up to that period are there
abbrev pub invariant-loop : goal.invariant-loop
invariant-loop l = record {
  period : l.lead.period ≡ l.counter;
  some : IsLeadOf l.sc l.prefix l.lead;
  on : (r : List ℕ) → IsLead l.sc l.prefix r l.fn.lead → IsLead l.sc l.prefix r l.lead × HasLeadRewards l.sc l.prefix r l.lead.period l.rewards;
}
