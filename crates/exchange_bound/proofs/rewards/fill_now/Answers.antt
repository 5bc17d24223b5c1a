use Rattle.std.proofs.Common.{arith}
use Rattle.search_model.proofs.Totals.{whole_weight-fits}
use Rattle.exchange_bound.specs.Leads.{lead_reward}
use Rattle.exchange_bound.proofs.Leads.{lead_found, lead_reward-le}
use Rattle.exchange_bound.proofs.rewards.fill_now.Goals as goal

pub fill_period-requires-clause-later : goal.fill_period-requires-clause-later
fill_period-requires-clause-later c = rw c.period.ensures c.requires.lead.1.later

pub fill_period-requires-clause-last : goal.fill_period-requires-clause-last
fill_period-requires-clause-last c = rw c.period.ensures c.requires.lead.1.last

pub fill_period-requires-clause-cells : goal.fill_period-requires-clause-cells
fill_period-requires-clause-cells c = rw c.masses.ensures c.requires.lead.1.cells

pub fill_period-requires-clause-fits : goal.fill_period-requires-clause-fits
fill_period-requires-clause-fits c a here =
    let p = c.args.sc.now in
    let q = c.args.prefix.now in
    let l = c.args.lead.now in
    let sound = c.recall_sound.ensures in
    let (r, lead) = c.requires.lead in
    rw (c.period.ensures, c.masses.ensures) (omega (arith, lead_found p q r l lead sound a, lead_reward-le p q r sound l.period a lead.later lead.last, whole_weight-fits p sound))

pub returns : goal.returns
returns c r lead filled =
    let p = c.args.sc.now in
    let q = c.args.prefix.now in
    let more = rw (c.period.ensures, c.masses.ensures) at c.fill_period.ensures in
    more (lead_reward p q r) (λ a here. lead_found p q r c.args.lead.now lead c.recall_sound.ensures a) filled
