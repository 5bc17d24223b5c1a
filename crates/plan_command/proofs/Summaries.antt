-- The summary of a drill, and why its scenario's live prefixes are few.
use Rattle.std.proofs.Common.{ℕ, ◌≡◌, List, [], ◌∷◌, ◌++◌, map, codes, Result, Ok, Err, subst, arith}
use Rattle.std.specs.Fmt.{decimal}
use Rattle.std.specs.Prelude.{IfOk}
use Rattle.std.proofs.lemmas.List.Elements.{All-weaker}
use Rattle.text_rows.specs.Rows.{text_of}
use Rattle.text_rows.proofs.RowSteps.{rows_then}
use Rattle.search_model.specs.Problem.{Problem, position_name}
use Rattle.search_model.specs.Legal.{IsLegal}
use Rattle.search_model.specs.Tracks.{value_of}
use Rattle.search_model.specs.Order.{IsBest}
use Rattle.bound_tree.specs.Close.{IsLive}
use Rattle.mission_report.specs.Report.{chance_row}
use Rattle.scenario_maker.specs.Made.{made_problem}
use Rattle.scenario_maker.proofs.Prefixes.{few_made_prefixes}
use Rattle.plan_command.specs.Drills.{drill_text}
use Rattle.plan_command.specs.Commands.{IsDrilled}
use Rattle.plan_command.specs.Plans.{IsTooMany}
use Rattle.bound_tree.specs.declared.tree.TheConstants.{MOST_NODES}

-- what is written of the summary, one row after the other
pub summary_written : (number : ℕ) (p : Problem) (path a b c d e : List ℕ) →
    a ≡ text_of ((codes "drill" ∷ codes "1" ∷ []) ∷ []) → b ≡ a ++ text_of ((codes "number" ∷ decimal number ∷ []) ∷ []) →
    c ≡ b ++ text_of ((codes "path" ∷ map (position_name p) path) ∷ []) → d ≡ c ++ text_of (chance_row p (value_of p path) ∷ []) →
    e ≡ d ++ text_of ((codes "accepted" ∷ []) ∷ []) → e ≡ drill_text number p path
unfolding drill_text
summary_written number p path a b c d e ha hb hc hd he =
    let drill : List (List ℕ) = codes "drill" ∷ codes "1" ∷ [] in
    let one : List (List ℕ) = codes "number" ∷ decimal number ∷ [] in
    let places : List (List ℕ) = codes "path" ∷ map (position_name p) path in
    let chance = chance_row p (value_of p path) in
    let numbered = rows_then [] a b (drill ∷ []) (one ∷ []) ha hb in
    let named = rows_then [] b c (drill ∷ one ∷ []) (places ∷ []) numbered hc in
    let valued = rows_then [] c d (drill ∷ one ∷ places ∷ []) (chance ∷ []) named hd in
    rows_then [] d e (drill ∷ one ∷ places ∷ chance ∷ []) ((codes "accepted" ∷ []) ∷ []) valued he

-- the summary of the best path of the problem that the number makes
pub summary_of_best : {V E : Type 0} (number : ℕ) (p : Problem) (path : List ℕ) (told : Result V E) (items : V → List ℕ) → p ≡ made_problem number → IsBest p path →
    IfOk told (λ text. items text ≡ drill_text number p path) → IfOk told (λ text. IsDrilled number (items text))
summary_of_best number p path (Ok text) items same best is =
    let P : Problem → Type 0 = λ q. IsBest q path × (items text ≡ drill_text number q path) in
    let here = subst P same (best, is) in (path, here.0, here.1)
summary_of_best number p path (Err none) items same best is = tt

-- a made scenario has few live prefixes
pub made_few : (number : ℕ) → IsTooMany (made_problem number) MOST_NODES → ⊥
made_few number (opening, is, (qs, ascending, live, more)) =
    let legal = All-weaker (IsLive (made_problem number) _) (IsLegal (made_problem number)) (λ q h. h.legal) qs live in
    let few = few_made_prefixes number qs (record { ascending = ascending; legal = legal }) in
    omega (arith, few, more)
