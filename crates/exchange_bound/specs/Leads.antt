-- The lead of a prefix over another, period by period, and the rewards of looks for it.
use Rattle.std.specs.Prelude.{ℕ, ◌≡◌, ◌+◌, ◌-◌, ◌<◌, ◌≤◌, List, length, slice_index}
use Rattle.search_model.specs.Problem.{Problem}
use Rattle.search_model.specs.Legal.{last_of}
use Rattle.search_model.specs.Exchange.{reward_for, drifted, lead_of}
use Rattle.longest_walk.specs.Tables.{HasNear}

-- what contracts see: the period, and the mass by which each cell leads
pub record LeadState : Type 0 where
  pub period : ℕ
  pub masses : List ℕ

-- the lead of a prefix q over r in a period after q, to which it drifted with no look
pub record IsLead (p : Problem) (q r : List ℕ) (l : LeadState) : Type 0 where
  pub later : length q < l.period
  pub last : l.period ≤ p.horizon
  pub cells : length l.masses ≡ p.cells
  pub each : (c : ℕ) → c < p.cells → slice_index l.masses c ≡ drifted p (length q + 1) (lead_of p q r) (l.period - (length q + 1)) c

-- the lead of a prefix over some other
abbrev pub IsLeadOf : Problem → List ℕ → LeadState → Type 0
IsLeadOf p q l = (r : List ℕ) × IsLead p q r l

-- the lead of some prefix over some other
abbrev pub IsSomeLead : Problem → LeadState → Type 0
IsSomeLead p l = (q : List ℕ) × IsLeadOf p q l

-- what a look finds of the lead of q over r, after no other look
abbrev pub lead_reward : Problem → List ℕ → List ℕ → ℕ → ℕ → ℕ
lead_reward p q r = reward_for p (length q + 1) (lead_of p q r)

-- these rewards in the periods after q, up to a last one, for the positions that the searcher can be on then
abbrev pub HasLeadRewards : Problem → List ℕ → List ℕ → ℕ → List ℕ → Type 0
HasLeadRewards p q r last rewards = HasNear p.moves p.positions last (lead_reward p q r) (last_of p.start q) (length q) rewards
