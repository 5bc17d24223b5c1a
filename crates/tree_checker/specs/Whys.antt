-- The names of reasons.
use Rattle.std.specs.Prelude.{ℕ, List, codes}
use Rattle.tree_checker.specs.declared.verdict.Why.{Why}
use Rattle.tree_checker.specs.declared.verdict.Why.TheVariants.{PathIllegal, ValueWrong, WeightWrong, NotChild, MissingChild, WholeWrong, BoundWrong, NotCut, NoOneRate, ReferenceWrong}
use Rattle.tree_checker.specs.declared.gap_verdict.GapWhy.{GapWhy}
use Rattle.tree_checker.specs.declared.gap_verdict.GapWhy.TheVariants.{Plain, WaitingWrong, CeilingWrong}

-- the word that names a reason
abbrev pub name_of : Why → List ℕ
name_of PathIllegal = codes "PathIllegal"
name_of ValueWrong = codes "ValueWrong"
name_of WeightWrong = codes "WeightWrong"
name_of NotChild = codes "NotChild"
name_of MissingChild = codes "MissingChild"
name_of WholeWrong = codes "WholeWrong"
name_of BoundWrong = codes "BoundWrong"
name_of NotCut = codes "NotCut"
name_of NoOneRate = codes "NoOneRate"
name_of ReferenceWrong = codes "ReferenceWrong"

-- the word that names a reason against a gap plan
abbrev pub gap_name_of : GapWhy → List ℕ
gap_name_of (Plain why) = name_of why
gap_name_of WaitingWrong = codes "WaitingWrong"
gap_name_of CeilingWrong = codes "CeilingWrong"
