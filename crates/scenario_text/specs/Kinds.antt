-- The names of the kinds of fault, and their order.
use Rattle.std.specs.Prelude.{ℕ, List, codes}
use Rattle.scenario_text.specs.declared.kind.TextKind.{TextKind}
use Rattle.scenario_text.specs.declared.kind.TextKind.TheVariants.{NotText, BadLine, BadNumber, OverLimit, UnknownName, DoubleName, MissingRow, DoubleRow, WrongSum, PartOver, NoMove, TooWide, EarlyEnd, Rest}

abbrev pub name_of : TextKind → List ℕ
name_of NotText = codes "NotText"
name_of BadLine = codes "BadLine"
name_of BadNumber = codes "BadNumber"
name_of OverLimit = codes "OverLimit"
name_of UnknownName = codes "UnknownName"
name_of DoubleName = codes "DoubleName"
name_of MissingRow = codes "MissingRow"
name_of DoubleRow = codes "DoubleRow"
name_of WrongSum = codes "WrongSum"
name_of PartOver = codes "PartOver"
name_of NoMove = codes "NoMove"
name_of TooWide = codes "TooWide"
name_of EarlyEnd = codes "EarlyEnd"
name_of Rest = codes "Rest"

-- the place of a kind in the order of the format
abbrev pub number_of : TextKind → ℕ
number_of NotText = 1
number_of BadLine = 2
number_of BadNumber = 3
number_of OverLimit = 4
number_of UnknownName = 5
number_of DoubleName = 6
number_of MissingRow = 7
number_of DoubleRow = 8
number_of WrongSum = 9
number_of PartOver = 10
number_of NoMove = 11
number_of TooWide = 12
number_of EarlyEnd = 13
number_of Rest = 14
