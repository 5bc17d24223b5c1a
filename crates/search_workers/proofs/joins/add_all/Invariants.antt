use Rattle.std.proofs.Common.{◌≡◌, ◌++◌, take, flat_map}
use Rattle.search_workers.specs.Agendas.{kept}
use Rattle.search_workers.proofs.joins.add_all.Given as goal

-- what is on the first agendas was added
abbrev pub invariant-loop-agenda : goal.invariant-loop-agenda
invariant-loop-agenda l = l.tasks.items ≡ l.initial.tasks.items ++ flat_map kept (take l.agenda-index l.agendas)
