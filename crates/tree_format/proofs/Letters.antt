-- Records that have a number, by their letters.
use Rattle.std.proofs.Common.{◌≡◌, ℕ, ◌<◌, ◌^◌, true, List, [], ◌∷◌, ◌++◌, length, Option, Some, refl, sym, ap, arith, ◌⊎◌, inl, inr}
use Rattle.std.specs.Prelude.{codes, ◌&&◌}
use Rattle.std.specs.Fmt.{decimal}
use Rattle.std.proofs.lemmas.Bool.{cond_both, and_parts}
use Rattle.std.proofs.lemmas.List.{append-nil}
use Rattle.std.proofs.lemmas.List.Elements.{All-nil, All-cons, All-head}
use Rattle.search_model.specs.Problem.{Problem}
use Rattle.bound_tree.specs.declared.node.Kind.TheVariants as kinds
use Rattle.bound_tree.specs.declared.gap.GapKind.{GapKind}
use Rattle.bound_tree.specs.declared.gap.GapKind.TheVariants.{Closed}
use Rattle.bound_tree.specs.declared.gap.GapKind.TheVariants as nodes
use Rattle.bound_tree.specs.Gaps.{shape_of_kind}
use Rattle.tree_format.specs.declared.plan_line.Dialect.{Dialect}
use Rattle.tree_format.specs.declared.record_lines.Numbered.{Numbered}
use Rattle.tree_format.specs.declared.record_lines.Numbered.TheVariants.{Whole, Mean, Tangent, Edge, Exchange, TwoLooks, Waiting}
use Rattle.tree_format.specs.Dialects.{prefixes_in}
use Rattle.tree_format.specs.Letters.{letter_for, has_numbered, referred, kind_with, kind_among}
use Rattle.tree_format.specs.PlanText.{numbers, node_fields, ArePositions, IsPrintableKind, IsNarrowNode, HasNodeLetter}
use Rattle.tree_format.specs.Reading.{most_positions, bounded_line, node_of, node_line}
use Rattle.text_rows.specs.Fields.{is_word}
use Rattle.text_rows.proofs.RowTexts.{IsField, word}
use Rattle.tree_format.proofs.Told.{word_told}

-- the parts of a record that has a number
pub record HasNumber (p : Problem) (v : Dialect) (kind : GapKind) : Type 0 where
  pub letter : Numbered
  pub number : ℕ
  pub reference : List ℕ
  pub is : kind_with letter number reference ≡ kind
  pub long : length reference ≡ referred p letter
  pub positions : ArePositions p reference
  pub narrow : number < 2 ^ 128
  pub has : has_numbered v letter ≡ true

-- a record that refers to nothing
bare : (p : Problem) (v : Dialect) (letter : Numbered) (n : ℕ) (kind : GapKind) → kind_with letter n [] ≡ kind → referred p letter ≡ 0 → n < 2 ^ 128 → has_numbered v letter ≡ true → HasNumber p v kind
bare p v letter n kind is none narrow has = record {
  letter = letter;
  number = n;
  reference = [];
  is = is;
  long = sym none;
  positions = All-nil (λ (a : ℕ). a < p.positions);
  narrow = narrow;
  has = has;
}

-- a record is a branch or has a number
pub has_number : (p : Problem) (v : Dialect) (kind : GapKind) → IsPrintableKind p (shape_of_kind kind) → IsNarrowNode kind → HasNodeLetter v kind → (kind ≡ Closed kinds.Branch) ⊎ HasNumber p v kind
has_number p v (Closed kinds.Branch) k narrow has = inl refl
has_number p v (Closed (kinds.Whole n)) k narrow has = inr (bare p v Whole n _ refl refl narrow refl)
has_number p v (Closed (kinds.Mean n)) k narrow has = inr (bare p v Mean n _ refl refl narrow refl)
has_number p v (Closed (kinds.Tangent n reference)) k narrow has = inr (record { letter = Tangent; number = n; reference = reference; is = refl; long = k.1; positions = k.0; narrow = narrow; has = refl })
has_number p v (Closed (kinds.Edge n)) k narrow has = inr (bare p v Edge n _ refl refl narrow has)
has_number p v (Closed (kinds.Exchange n u)) k narrow has =
    let P : ℕ → Type 0 = λ a. a < p.positions in
    inr (record { letter = Exchange; number = n; reference = u ∷ []; is = refl; long = refl; positions = All-cons P u [] k (All-nil P); narrow = narrow; has = has })
has_number p v (Closed (kinds.TwoLooks n)) k narrow has = inr (bare p v TwoLooks n _ refl refl narrow has)
has_number p v (nodes.Waiting n) k narrow has = inr (bare p v Waiting n _ refl refl narrow has)

-- The row of each.

bare_row : (letter number : List ℕ) (q reference : List ℕ) → length reference ≡ 0 → letter ∷ number ∷ numbers q ≡ letter ∷ number ∷ (numbers q ++ numbers reference)
bare_row letter number q [] none = ap (λ (x : List (List ℕ)). letter ∷ number ∷ x) (sym (append-nil (numbers q)))
bare_row letter number q (a ∷ rest) none = absurd (let bad : ⊥ = cc in bad)

pub numbered_row : (p : Problem) (letter : Numbered) (q : List ℕ) (n : ℕ) (reference : List ℕ) → length reference ≡ referred p letter → node_fields q (kind_with letter n reference) ≡ letter_for letter ∷ decimal n ∷ (numbers q ++ numbers reference)
numbered_row p Whole q n reference long = bare_row (codes "W") (decimal n) q reference long
numbered_row p Mean q n reference long = bare_row (codes "M") (decimal n) q reference long
numbered_row p Tangent q n reference long = refl
numbered_row p Edge q n reference long = bare_row (codes "E") (decimal n) q reference long
numbered_row p Exchange q n [] long = absurd (let bad : ⊥ = cc in bad)
numbered_row p Exchange q n (u ∷ []) long = refl
numbered_row p Exchange q n (u ∷ a ∷ rest) long = absurd (let bad : ⊥ = cc in bad)
numbered_row p TwoLooks q n reference long = bare_row (codes "D") (decimal n) q reference long
numbered_row p Waiting q n reference long = bare_row (codes "O") (decimal n) q reference long

-- it can be written
pub numbered_printable : (p : Problem) (letter : Numbered) (n : ℕ) (reference : List ℕ) → length reference ≡ referred p letter → ArePositions p reference → IsPrintableKind p (shape_of_kind (kind_with letter n reference))
numbered_printable p Whole n reference long positions = tt
numbered_printable p Mean n reference long positions = tt
numbered_printable p Tangent n reference long positions = (positions, long)
numbered_printable p Edge n reference long positions = tt
numbered_printable p Exchange n [] long positions = absurd (let bad : ⊥ = cc in bad)
numbered_printable p Exchange n (u ∷ rest) long positions = All-head (λ (a : ℕ). a < p.positions) u rest positions
numbered_printable p TwoLooks n reference long positions = tt
numbered_printable p Waiting n reference long positions = tt

pub numbered_narrow : (letter : Numbered) (n : ℕ) (reference : List ℕ) → n < 2 ^ 128 → IsNarrowNode (kind_with letter n reference)
numbered_narrow Whole n reference narrow = narrow
numbered_narrow Mean n reference narrow = narrow
numbered_narrow Tangent n reference narrow = narrow
numbered_narrow Edge n reference narrow = narrow
numbered_narrow Exchange n reference narrow = narrow
numbered_narrow TwoLooks n reference narrow = narrow
numbered_narrow Waiting n reference narrow = narrow

-- and a dialect that has the letter has it for the record
pub numbered_letter : (v : Dialect) (letter : Numbered) (n : ℕ) (reference : List ℕ) → has_numbered v letter ≡ true → HasNodeLetter v (kind_with letter n reference)
numbered_letter v Whole n reference has = tt
numbered_letter v Mean n reference has = tt
numbered_letter v Tangent n reference has = tt
numbered_letter v Edge n reference has = has
numbered_letter v Exchange n reference has = has
numbered_letter v TwoLooks n reference has = has
numbered_letter v Waiting n reference has = has

-- Letters.

pub letter_field : (letter : Numbered) → IsField (letter_for letter)
letter_field Whole = word (codes "W") (omega arith) refl
letter_field Mean = word (codes "M") (omega arith) refl
letter_field Tangent = word (codes "T") (omega arith) refl
letter_field Edge = word (codes "E") (omega arith) refl
letter_field Exchange = word (codes "X") (omega arith) refl
letter_field TwoLooks = word (codes "D") (omega arith) refl
letter_field Waiting = word (codes "O") (omega arith) refl

pub letter_short : (letter : Numbered) → length (letter_for letter) < 40
letter_short Whole = omega arith
letter_short Mean = omega arith
letter_short Tangent = omega arith
letter_short Edge = omega arith
letter_short Exchange = omega arith
letter_short TwoLooks = omega arith
letter_short Waiting = omega arith

-- a line with a letter that the dialect has is one of its kind
pub letter_line : (p : Problem) (v : Dialect) (letter : Numbered) (fields : List (List ℕ)) → has_numbered v letter ≡ true → node_line p v (letter_for letter ∷ fields) ≡ node_of letter (bounded_line p (most_positions p (prefixes_in v)) (referred p letter) fields)
letter_line p v Whole fields has = refl
letter_line p v Mean fields has = refl
letter_line p v Tangent fields has = refl
letter_line p v Edge fields has = rw has refl
letter_line p v Exchange fields has = rw has refl
letter_line p v TwoLooks fields has = rw has refl
letter_line p v Waiting fields has = rw has refl

-- and the kind that is found has the letter
pub letter_told : (v : Dialect) (all : List Numbered) (letter : List ℕ) (found : Numbered) → kind_among v all letter ≡ Some found → (letter ≡ letter_for found) × (has_numbered v found ≡ true)
letter_told v [] letter found e = absurd (let bad : ⊥ = cc in bad)
letter_told v (kind ∷ all) letter found e =
    cond_both (is_word letter (letter_for kind) && has_numbered v kind) (Some kind) (kind_among v all letter) (λ (x : Option Numbered). x ≡ Some found → (letter ≡ letter_for found) × (has_numbered v found ≡ true))
    (λ both e'. let same : kind ≡ found = cc in let is = and_parts (is_word letter (letter_for kind)) (has_numbered v kind) both in rw (← same) (word_told letter (letter_for kind) is.0, is.1))
    (λ _ e'. letter_told v all letter found e') e
