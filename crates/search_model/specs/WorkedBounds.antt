-- The bounds of the small problems.
use Rattle.std.specs.Prelude.{◌≡◌, [], ◌∷◌}
use Rattle.search_model.specs.Bounds.{reward_of, mean_of, tangent_of}
use Rattle.search_model.specs.Exchange.{mass_behind, lead_of, exchange_of}
use Rattle.search_model.specs.Memory.{reward_after, remembering_of}
use Rattle.search_model.specs.Worked.{two_cells, waiting_target, waiting_longer}

-- after a first look each second look finds 4 of 16 more; the tangent at the best path is a bound out of twice 16
pub record TwoCellsBounds : Type 0 where
  pub rewards : (reward_of two_cells (0 ∷ []) 2 0 ≡ 4) × (reward_of two_cells (0 ∷ []) 2 1 ≡ 4) × (reward_of two_cells (1 ∷ []) 2 0 ≡ 4) × (reward_of two_cells (1 ∷ []) 2 1 ≡ 4)
  pub means : (mean_of two_cells (0 ∷ []) ≡ 12) × (mean_of two_cells (1 ∷ []) ≡ 12)
  pub tangent : tangent_of two_cells 0 (0 ∷ []) (0 ∷ 0 ∷ []) ≡ 32

pub record WaitingTargetBounds : Type 0 where
  pub reward : reward_of waiting_target (1 ∷ []) 2 2 ≡ 2
  pub means : (mean_of waiting_target (0 ∷ []) ≡ 0) × (mean_of waiting_target (1 ∷ []) ≡ 2)

pub record WaitingLongerBounds : Type 0 where
  pub rewards : (reward_of waiting_longer (0 ∷ []) 2 2 ≡ 4) × (reward_of waiting_longer (0 ∷ []) 3 2 ≡ 4) × (reward_of waiting_longer (2 ∷ []) 2 2 ≡ 2) × (reward_of waiting_longer (2 ∷ 2 ∷ []) 3 2 ≡ 1)
  pub means : (mean_of waiting_longer (0 ∷ []) ≡ 4) × (mean_of waiting_longer (1 ∷ []) ≡ 8) × (mean_of waiting_longer (2 ∷ []) ≡ 8) × (mean_of waiting_longer (2 ∷ 1 ∷ []) ≡ 6) × (mean_of waiting_longer (2 ∷ 2 ∷ []) ≡ 7)
  pub tangents : (tangent_of waiting_longer 1 (1 ∷ []) (1 ∷ 2 ∷ 2 ∷ []) ≡ 12) × (tangent_of waiting_longer 1 (2 ∷ []) (2 ∷ 2 ∷ 2 ∷ []) ≡ 14) × (tangent_of waiting_longer 1 (2 ∷ 2 ∷ []) (2 ∷ 2 ∷ 2 ∷ []) ≡ 14)

-- two prefixes that end at the target: with one look at it half of the weight is left in its cell, with two a quarter, so
-- the one leads the other by 1 there; a third look finds half of that, in parts of 8
pub record WaitingLongerExchanges : Type 0 where
  pub masses : (mass_behind waiting_longer (1 ∷ 2 ∷ []) 2 ≡ 2) × (mass_behind waiting_longer (2 ∷ 2 ∷ []) 2 ≡ 1)
  pub leads : (lead_of waiting_longer (1 ∷ 2 ∷ []) (2 ∷ 2 ∷ []) 2 ≡ 1) × (lead_of waiting_longer (2 ∷ 2 ∷ []) (1 ∷ 2 ∷ []) 2 ≡ 0)
  pub exchanges : (exchange_of waiting_longer (1 ∷ 2 ∷ []) (2 ∷ 2 ∷ []) ≡ 5) × (exchange_of waiting_longer (2 ∷ 2 ∷ []) (1 ∷ 2 ∷ []) ≡ 6)

-- three looks at the target's cell, each of which finds half of what is left: who remembers none counts 4 for each, who
-- remembers one 4, 2 and 2, and who remembers two what they find
pub record WaitingLongerMemories : Type 0 where
  pub rewards : (reward_after waiting_longer [] (2 ∷ 1 ∷ []) 3 2 ≡ 2) × (reward_after waiting_longer [] (2 ∷ 2 ∷ []) 3 2 ≡ 1) × (reward_after waiting_longer (2 ∷ []) (2 ∷ []) 3 2 ≡ 1)
  pub bounds : (remembering_of waiting_longer 0 [] ≡ 12) × (remembering_of waiting_longer 1 [] ≡ 8) × (remembering_of waiting_longer 2 [] ≡ 7)

pub record WorkedBounds : Type 0 where
  pub two : TwoCellsBounds
  pub waiting : WaitingTargetBounds
  pub longer : WaitingLongerBounds
  pub exchanges : WaitingLongerExchanges
  pub memories : WaitingLongerMemories
