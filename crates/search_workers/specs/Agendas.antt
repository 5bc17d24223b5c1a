-- What waits at a worker by numbers.
use Rattle.std.specs.Prelude.{ℕ, List, [], ◌∷◌, map, Option, Some, None}
use Rattle.std.specs.declared.alloc.Global.{Global}
use Rattle.std.specs.declared.collections.BinaryHeap.{BinaryHeap}
use Rattle.std.specs.BinaryHeap.{heap_items}
use Rattle.search_workers.specs.declared.agenda.Numbered.{Numbered}
use Rattle.search_workers.specs.declared.agenda.Agenda.{Agenda}

-- the prefixes in a heap, in any order
abbrev pub prefixes_in : BinaryHeap Numbered Global → List (List ℕ)
prefixes_in h = map (λ i. i.prefix) (heap_items h)

-- the prefixes on an agenda
abbrev pub kept : Agenda → List (List ℕ)
kept a = prefixes_in a.heap

-- what was taken, if anything
abbrev pub out_of : Option (List ℕ) → List (List ℕ)
out_of None = []
out_of (Some q) = q ∷ []
