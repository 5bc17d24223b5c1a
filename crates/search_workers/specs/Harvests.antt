-- What is brought in of all desks.
use Rattle.std.specs.Prelude.{◌≡◌, ◌<◌, [], ◌∷◌, ◌++◌, length, Any, IsFalse, if◌then◌else◌}
use Rattle.search_model.specs.Order.{better}
use Rattle.search_workers.specs.declared.harvest.Harvest.{Harvest}
use Rattle.search_workers.specs.declared.left.Left.{Left}
use Rattle.search_workers.specs.declared.left.Left.TheVariants.{Idle, Full, NoMemory}
use Rattle.search_workers.specs.Desks.{DeskView, DrewFull}

-- what a desk has was added: its records and what waits, unless they are short now, and its seats. Of its last standing and
-- the best one before the better one is kept
pub record Adds (old : Harvest) (d : DeskView) (new : Harvest) : Type 0 where
  pub before : IsFalse new.short → IsFalse old.short
  pub closed : IsFalse new.short → new.closed.items ≡ old.closed.items ++ d.records
  pub waiting : IsFalse new.short → new.waiting.items ≡ old.waiting.items ++ d.waiting
  pub best : new.best ≡ (if better d.last old.best then d.last else old.best)
  pub tickets : new.tickets.items ≡ old.tickets.items ++ d.ticket ∷ []
  pub seats : new.seats.items ≡ old.seats.items ++ d.seat ∷ []

-- how the search ended. Idle: nothing waits. Full: something waits, and a number at the limit or above it was drawn
abbrev pub EndsHarvest : Left → Harvest → Type 0
EndsHarvest Idle h = h.waiting.items ≡ []
EndsHarvest Full h = (0 < length h.waiting.items) × Any DrewFull h.tickets.items
EndsHarvest NoMemory h = Unit {0}
