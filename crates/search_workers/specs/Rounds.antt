-- Rounds in which a worker looks for a task.
use Rattle.std.specs.Prelude.{ℕ, ◌≡◌, ◌+◌, ◌-◌, ◌≤◌, ◌^◌, min, length}
use Rattle.steal_pool.specs.Kits.{KitView}

-- how many other workers the pool has
abbrev pub others : {T : Type 0} → KitView T → ℕ
others k = length k.pool - 1

-- at least so many steals more, in a row, got no task, and nothing else changed
pub record MissedAll {T : Type 0} (old : KitView T) (steals : ℕ) (new : KitView T) : Type 0 where
  pub same : new ≡ record old { misses = new.misses }
  pub misses : min (old.misses + steals) (2 ^ 64 - 1) ≤ new.misses
