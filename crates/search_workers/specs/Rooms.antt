-- Room to take the workers of a search apart.
use Rattle.std.specs.Prelude.{◌≡◌, ◌≤◌, ℕ, [], vec_capacity}
use Rattle.search_workers.specs.declared.room.Room.{Room}

-- room for so many workers, in which nothing is yet
pub record IsRoomFor (workers : ℕ) (r : Room) : Type 0 where
  pub kits : (r.kits.items ≡ []) × (workers ≤ vec_capacity r.kits)
  pub agendas : (r.agendas.items ≡ []) × (workers ≤ vec_capacity r.agendas)
  pub desks : (r.desks.items ≡ []) × (workers ≤ vec_capacity r.desks)
  pub tickets : (r.tickets.items ≡ []) × (workers ≤ vec_capacity r.tickets)
  pub seats : (r.seats.items ≡ []) × (workers ≤ vec_capacity r.seats)
