-- What contracts see of the tables of exchange bounds, and when they are right.
use Rattle.std.specs.Prelude.{ℕ, ◌≡◌, ◌*◌, List, length}
use Rattle.search_model.specs.Problem.{Problem}
use Rattle.longest_walk.specs.Tables.{Tables}
use Rattle.exchange_bound.specs.Leads.{LeadState}

-- the lead of a prefix over another, the rewards of looks for the lead, and their walks
pub record ExchangeState : Type 0 where
  pub lead : LeadState
  pub rewards : List ℕ
  pub walk : Tables

-- the tables are for this scenario
pub record IsMadeFor (p : Problem) (e : ExchangeState) : Type 0 where
  pub lead : length e.lead.masses ≡ p.cells
  pub size : length e.rewards ≡ p.horizon * p.positions
  pub positions : e.walk.positions ≡ p.positions
  pub horizon : e.walk.horizon ≡ p.horizon
