-- The texts of reports and maps, in the pieces in which they are appended.
use Rattle.std.proofs.Common.{ℕ, ◌≡◌, List, [], ◌∷◌, ◌++◌, Some, map, ap, ◌∙◌}
use Rattle.std.specs.Prelude.{codes, Result, Ok, Err, OnOk}
use Rattle.text_rows.specs.Rows.{text_of}
use Rattle.text_rows.proofs.RowLemmas.{text_of-append}
use Rattle.text_rows.proofs.RowSteps.{rows_then}
use Rattle.search_model.specs.Problem.{Problem}
use Rattle.search_model.specs.Tracks.{value_of}
use Rattle.belief_update.specs.Belief.{BeliefState, IsBelief}
use Rattle.mission_report.specs.Report.{chance_row, period_rows, mass_rows, left_rows, report_text}
use Rattle.mission_report.specs.Map.{looked_row, period_blocks, map_text}

-- of a report the version, the chance, the periods, the cells, and the end
pub report_parts : (p : Problem) (q : List ℕ) (value last : ℕ) → value ≡ value_of p q → last ≡ p.horizon →
    report_text p q
    ≡ text_of ((codes "report" ∷ codes "1" ∷ []) ∷ [])
    ++ (text_of (chance_row p value ∷ [])
    ++ (text_of (period_rows p q)
    ++ (text_of (mass_rows p q last)
    ++ text_of ((codes "end" ∷ []) ∷ []))))
unfolding report_text
report_parts p q value last is end_is =
    let end : List (List (List ℕ)) = (codes "end" ∷ []) ∷ [] in
    let chance = chance_row p (value_of p q) in
    let version : List (List ℕ) = codes "report" ∷ codes "1" ∷ [] in
    rw (is, end_is)
    (text_of-append (version ∷ []) (chance ∷ (period_rows p q ++ (left_rows p q ++ end)))
    ∙ ap (λ (t : List ℕ). text_of (version ∷ []) ++ t) (text_of-append (chance ∷ []) (period_rows p q ++ (left_rows p q ++ end))
    ∙ ap (λ (t : List ℕ). text_of (chance ∷ []) ++ t) (text_of-append (period_rows p q) (left_rows p q ++ end)
    ∙ ap (λ (t : List ℕ). text_of (period_rows p q) ++ t) (text_of-append (left_rows p q) end))))

-- of a map the version, the periods, and the end
pub map_parts : (p : Problem) (q : List ℕ) →
    map_text p q
    ≡ text_of ((codes "map" ∷ codes "1" ∷ []) ∷ [])
    ++ (text_of (period_blocks p q)
    ++ text_of ((codes "end" ∷ []) ∷ []))
unfolding map_text
map_parts p q =
    let end : List (List (List ℕ)) = (codes "end" ∷ []) ∷ [] in
    let version : List (List ℕ) = codes "map" ∷ codes "1" ∷ [] in
    text_of-append (version ∷ []) (period_blocks p q ++ end)
    ∙ ap (λ (t : List ℕ). text_of (version ∷ []) ++ t) (text_of-append (period_blocks p q) end)

-- behind the line of the look, where the cells' lines are appended
pub block_done : {A E : Type 0} (p : Problem) (b : BeliefState) (t a : ℕ) (old mid new : List ℕ) (r : Result A E) → mid ≡ old ++ text_of (looked_row p t a ∷ []) →
    OnOk r ((q : List ℕ) → IsBelief p (map Some q) b → new ≡ mid ++ text_of (mass_rows p q t)) →
    OnOk r ((q : List ℕ) → IsBelief p (map Some q) b → new ≡ old ++ text_of (looked_row p t a ∷ mass_rows p q t))
block_done p b t a old mid new (Ok _) line cells = λ q is. rows_then old mid new (looked_row p t a ∷ []) (mass_rows p q t) line (cells q is)
block_done p b t a old mid new (Err _) line cells = tt
