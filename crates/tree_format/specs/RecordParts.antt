-- The parts of a record's line, in the order in which they are written.
use Rattle.std.specs.Prelude.{ℕ, List, [], ◌∷◌}
use Rattle.std.specs.Fmt.{decimal}
use Rattle.bound_tree.specs.declared.node.Kind.TheVariants.{Branch, Whole, Mean, Tangent, Edge, Exchange, TwoLooks}
use Rattle.bound_tree.specs.declared.gap.GapKind.{GapKind}
use Rattle.bound_tree.specs.declared.gap.GapKind.TheVariants.{Closed, Waiting}

-- B, W, M, T, E, X or D; O where a node waits
abbrev pub letter_of : GapKind → ℕ
letter_of (Closed Branch) = 66
letter_of (Closed (Whole value)) = 87
letter_of (Closed (Mean bound)) = 77
letter_of (Closed (Tangent bound reference)) = 84
letter_of (Closed (Edge bound)) = 69
letter_of (Closed (Exchange bound u)) = 88
letter_of (Closed (TwoLooks bound)) = 68
letter_of (Waiting n) = 79

-- the value or the bound, where there is one
abbrev pub bound_fields : GapKind → List (List ℕ)
bound_fields (Closed Branch) = []
bound_fields (Closed (Whole value)) = decimal value ∷ []
bound_fields (Closed (Mean bound)) = decimal bound ∷ []
bound_fields (Closed (Tangent bound reference)) = decimal bound ∷ []
bound_fields (Closed (Edge bound)) = decimal bound ∷ []
bound_fields (Closed (Exchange bound u)) = decimal bound ∷ []
bound_fields (Closed (TwoLooks bound)) = decimal bound ∷ []
bound_fields (Waiting n) = decimal n ∷ []

-- the positions that it refers to, where there are any
abbrev pub reference_of : GapKind → List ℕ
reference_of (Closed (Tangent bound reference)) = reference
reference_of (Closed Branch) = []
reference_of (Closed (Whole value)) = []
reference_of (Closed (Mean bound)) = []
reference_of (Closed (Edge bound)) = []
reference_of (Closed (Exchange bound u)) = u ∷ []
reference_of (Closed (TwoLooks bound)) = []
reference_of (Waiting n) = []
