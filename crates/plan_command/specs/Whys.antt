-- The names of the reasons for which nothing is made of a scenario.
use Rattle.std.specs.Prelude.{ℕ, List, codes}
use Rattle.plan_command.specs.declared.flown.FlownWhy.{FlownWhy}
use Rattle.plan_command.specs.declared.flown.FlownWhy.TheVariants as flown
use Rattle.plan_command.specs.declared.pairing.DuoWhy.{DuoWhy}
use Rattle.plan_command.specs.declared.pairing.DuoWhy.TheVariants as duos

-- the word that names why a prefix isn't flown, or isn't forced
abbrev pub flown_name_of : FlownWhy → List ℕ
flown_name_of flown.UnknownName = codes "UnknownName"
flown_name_of flown.NotLegal = codes "NotLegal"
flown_name_of flown.TooManyPositions = codes "TooManyPositions"
flown_name_of flown.NameTaken = codes "NameTaken"

-- the word that names why there is no product scenario
abbrev pub duo_name_of : DuoWhy → List ℕ
duo_name_of duos.UnknownName = codes "UnknownName"
duo_name_of duos.TooManyPositions = codes "TooManyPositions"
duo_name_of duos.TooManyMoves = codes "TooManyMoves"
duo_name_of duos.TooFine = codes "TooFine"
duo_name_of duos.TooWide = codes "TooWide"
