-- The names of the kinds of fault.
use Rattle.std.specs.Prelude.{ℕ, List, codes}
use Rattle.tree_format.specs.declared.kind.PlanKind.{PlanKind}
use Rattle.tree_format.specs.declared.kind.PlanKind.TheVariants.{BadLine, BadNumber, UnknownName, TooManyNodes, WrongCount, EarlyEnd, Rest, NoPlace, StillOpen}

abbrev pub name_of : PlanKind → List ℕ
name_of BadLine = codes "BadLine"
name_of BadNumber = codes "BadNumber"
name_of UnknownName = codes "UnknownName"
name_of TooManyNodes = codes "TooManyNodes"
name_of WrongCount = codes "WrongCount"
name_of EarlyEnd = codes "EarlyEnd"
name_of Rest = codes "Rest"
name_of NoPlace = codes "NoPlace"
name_of StillOpen = codes "StillOpen"
