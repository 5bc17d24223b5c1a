-- Texts as the pieces that are written one after the other.
use Rattle.std.proofs.Common.{◌≡◌, ℕ, List, [], ◌∷◌, ◌++◌, map, length, codes, sym, ◌∙◌, ap, append_assoc}
use Rattle.std.specs.Fmt.{decimal}
use Rattle.std.proofs.lemmas.List.Concat.{flat_map-append}
use Rattle.std.proofs.lemmas.List.{append-nil, length-map}
use Rattle.list_laws.proofs.Mapped.{map-map}
use Rattle.text_rows.specs.Rows.{text_of, spaced}
use Rattle.text_rows.proofs.RowLemmas.{join-fields, text_of-append}
use Rattle.search_model.specs.Problem.{Problem}
use Rattle.bound_tree.specs.declared.node.Kind.TheVariants.{Branch, Whole, Mean, Tangent, Edge, Exchange, TwoLooks}
use Rattle.bound_tree.specs.declared.gap.GapKind.{GapKind}
use Rattle.bound_tree.specs.declared.gap.GapKind.TheVariants.{Closed, Waiting}
use Rattle.bound_tree.specs.declared.gap.Numbers.{Numbers}
use Rattle.bound_tree.specs.declared.gap.GapPlan.{GapPlan}
use Rattle.bound_tree.specs.declared.plan.Plan.{Plan}
use Rattle.bound_tree.specs.Gaps.{closed_node, gap_of}
use Rattle.search_model.specs.declared.standing.Standing.{Standing}
use Rattle.tree_format.specs.declared.plan_line.Dialect.{Dialect}
use Rattle.tree_format.specs.PlanText.{numbers, node_fields, node_row, path_rows, chance_row, ceiling_rows, count_row, head_rows, text_in}
use Rattle.tree_format.specs.RecordParts.{letter_of, bound_fields, reference_of}

-- what stands behind a record's letter
abbrev pub after_letter : GapKind → List ℕ → List ℕ
after_letter kind q = spaced (bound_fields kind) ++ (spaced (numbers q) ++ (spaced (numbers (reference_of kind)) ++ 10 ∷ []))

-- the line of a record that refers to positions
referring_text : (letter : List ℕ) (n : ℕ) (q reference : List ℕ) → text_of ((letter ∷ decimal n ∷ (numbers q ++ numbers reference)) ∷ []) ≡ letter ++ (spaced (decimal n ∷ []) ++ (spaced (numbers q) ++ (spaced (numbers reference) ++ 10 ∷ [])))
referring_text letter n q reference =
    ap (λ (x : List ℕ). x ++ 10 ∷ []) (join-fields letter (decimal n ∷ (numbers q ++ numbers reference)))
    ∙ simp (append_assoc, flat_map-append)

pub kind_text : (q : List ℕ) (kind : GapKind) → text_of (node_fields q kind ∷ []) ≡ letter_of kind ∷ after_letter kind q
kind_text q (Closed Branch) = ap (λ (x : List ℕ). x ++ 10 ∷ []) (join-fields (codes "B") (numbers q))
kind_text q (Closed (Whole value)) = ap (λ (x : List ℕ). x ++ 10 ∷ []) (join-fields (codes "W") (decimal value ∷ numbers q)) ∙ simp (append_assoc)
kind_text q (Closed (Mean bound)) = ap (λ (x : List ℕ). x ++ 10 ∷ []) (join-fields (codes "M") (decimal bound ∷ numbers q)) ∙ simp (append_assoc)
kind_text q (Closed (Tangent bound reference)) = referring_text (codes "T") bound q reference
kind_text q (Closed (Edge bound)) = ap (λ (x : List ℕ). x ++ 10 ∷ []) (join-fields (codes "E") (decimal bound ∷ numbers q)) ∙ simp (append_assoc)
kind_text q (Closed (Exchange bound u)) = referring_text (codes "X") bound q (u ∷ [])
kind_text q (Closed (TwoLooks bound)) = ap (λ (x : List ℕ). x ++ 10 ∷ []) (join-fields (codes "D") (decimal bound ∷ numbers q)) ∙ simp (append_assoc)
kind_text q (Waiting n) = ap (λ (x : List ℕ). x ++ 10 ∷ []) (join-fields (codes "O") (decimal n ∷ numbers q)) ∙ simp (append_assoc)

-- the parts of the lines before the records
pub head_parts : (v : Dialect) (p : Problem) (s : Standing) (weight ceiling n : ℕ) → text_of (head_rows v p s weight ceiling n)
    ≡ text_of (path_rows v p s.path) ++ (text_of (chance_row s.value weight ∷ []) ++ (text_of (ceiling_rows v ceiling) ++ (text_of (count_row n ∷ []) ++ [])))
head_parts v p s weight ceiling n =
    let chance = chance_row s.value weight in
    let above = ceiling_rows v ceiling in
    text_of-append (path_rows v p s.path) (chance ∷ (above ++ count_row n ∷ []))
    ∙ ap (λ (x : List ℕ). text_of (path_rows v p s.path) ++ x)
    (text_of-append (chance ∷ []) (above ++ count_row n ∷ [])
    ∙ ap (λ (x : List ℕ). text_of (chance ∷ []) ++ x)
    (text_of-append above (count_row n ∷ []) ∙ ap (λ (x : List ℕ). text_of above ++ x) (sym (append-nil (text_of (count_row n ∷ []))))))

-- the parts of the whole text
pub gap_parts : (v : Dialect) (p : Problem) (plan : GapPlan) → text_in v p plan
    ≡ text_of (head_rows v p plan.standing plan.weight plan.ceiling (length plan.nodes)) ++ (text_of (map (node_row v) plan.nodes) ++ (codes "end" ++ 10 ∷ []))
gap_parts v p plan =
    let head = head_rows v p plan.standing plan.weight plan.ceiling (length plan.nodes) in
    let records = map (node_row v) plan.nodes in
    let ending : List (List (List ℕ)) = (codes "end" ∷ []) ∷ [] in
    text_of-append head (records ++ ending) ∙ ap (λ (x : List ℕ). text_of head ++ x) (text_of-append records ending)

pub plan_parts : (v : Dialect) (p : Problem) (n : Numbers) (plan : Plan) → text_in v p (gap_of n plan)
    ≡ text_of (head_rows v p plan.standing plan.weight plan.standing.value (length plan.tree)) ++ (text_of (map (λ r. node_row v (closed_node r)) plan.tree) ++ (codes "end" ++ 10 ∷ []))
plan_parts v p n plan =
    gap_parts v p (gap_of n plan)
    ∙ ap (λ (k : ℕ). text_of (head_rows v p plan.standing plan.weight plan.standing.value k) ++ (text_of (map (node_row v) (map closed_node plan.tree)) ++ (codes "end" ++ 10 ∷ []))) (length-map plan.tree closed_node)
    ∙ ap (λ (rows : List (List (List ℕ))). text_of (head_rows v p plan.standing plan.weight plan.standing.value (length plan.tree)) ++ (text_of rows ++ (codes "end" ++ 10 ∷ []))) (map-map (node_row v) closed_node plan.tree)
