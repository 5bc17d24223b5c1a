-- The letters of records that have a number.
use Rattle.std.specs.Prelude.{ℕ, Bool, true, ◌&&◌, if◌then◌else◌, List, [], ◌∷◌, Option, Some, None, codes}
use Rattle.search_model.specs.Problem.{Problem}
use Rattle.bound_tree.specs.declared.node.Kind.TheVariants as kinds
use Rattle.bound_tree.specs.declared.gap.GapKind.{GapKind}
use Rattle.bound_tree.specs.declared.gap.GapKind.TheVariants as nodes
use Rattle.tree_format.specs.declared.plan_line.Dialect.{Dialect}
use Rattle.tree_format.specs.declared.record_lines.Numbered.{Numbered}
use Rattle.tree_format.specs.declared.record_lines.Numbered.TheVariants.{Whole, Mean, Tangent, Edge, Exchange, TwoLooks, Waiting}
use Rattle.tree_format.specs.Dialects.{has_edges, has_exchanges, has_open}
use Rattle.text_rows.specs.Fields.{is_word}

-- the kinds of such records
abbrev pub all_numbered : List Numbered
all_numbered = Whole ∷ Mean ∷ Tangent ∷ Edge ∷ Exchange ∷ TwoLooks ∷ Waiting ∷ []

-- the letter of each
abbrev pub letter_for : Numbered → List ℕ
letter_for Whole = codes "W"
letter_for Mean = codes "M"
letter_for Tangent = codes "T"
letter_for Edge = codes "E"
letter_for Exchange = codes "X"
letter_for TwoLooks = codes "D"
letter_for Waiting = codes "O"

-- whether a dialect has it
abbrev pub has_numbered : Dialect → Numbered → Bool
has_numbered v Whole = true
has_numbered v Mean = true
has_numbered v Tangent = true
has_numbered v Edge = has_edges v
has_numbered v Exchange = has_exchanges v
has_numbered v TwoLooks = has_exchanges v
has_numbered v Waiting = has_open v

-- how many positions it refers to, which stand behind its prefix
abbrev pub referred : Problem → Numbered → ℕ
referred p Whole = 0
referred p Mean = 0
referred p Tangent = p.horizon
referred p Edge = 0
referred p Exchange = 1
referred p TwoLooks = 0
referred p Waiting = 0

-- the position that an exchange refers to
abbrev pub only_of : List ℕ → ℕ
only_of [] = 0
only_of (u ∷ rest) = u

-- the record with this number and these positions
abbrev pub kind_with : Numbered → ℕ → List ℕ → GapKind
kind_with Whole n reference = nodes.Closed (kinds.Whole n)
kind_with Mean n reference = nodes.Closed (kinds.Mean n)
kind_with Tangent n reference = nodes.Closed (kinds.Tangent n reference)
kind_with Edge n reference = nodes.Closed (kinds.Edge n)
kind_with Exchange n reference = nodes.Closed (kinds.Exchange n (only_of reference))
kind_with TwoLooks n reference = nodes.Closed (kinds.TwoLooks n)
kind_with Waiting n reference = nodes.Waiting n

-- the kind that has this letter in a dialect, of these
abbrev pub kind_among : Dialect → List Numbered → List ℕ → Option Numbered
kind_among v [] letter = None
kind_among v (kind ∷ kinds) letter = if is_word letter (letter_for kind) && has_numbered v kind then Some kind else kind_among v kinds letter

-- and of all
abbrev pub numbered_by : Dialect → List ℕ → Option Numbered
numbered_by v letter = kind_among v all_numbered letter
