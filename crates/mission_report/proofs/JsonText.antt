-- The text of a report as JSON: it has no float, so its text is known byte for byte.
use Rattle.std.proofs.Common.{ℕ, ◌≡◌, List, [], ◌∷◌, ◌++◌, false, map, refl, ap, ◌∙◌}
use Rattle.serde_json.specs.Data.{Data}
use Rattle.serde_json.specs.View.{items_of}
use Rattle.serde_json.specs.Written.{has_float, items_have_float, compact_text}
use Rattle.search_model.specs.Problem.{Problem}
use Rattle.mission_report.specs.Account.{all_cells, mass_left, values_along}
use Rattle.mission_report.specs.Json.{decimal_value, place_value, left_entry, report_value, report_json}

items_plain : (f : ℕ → Data) → ((n : ℕ) → has_float (f n) ≡ false) → (xs : List ℕ) → items_have_float (items_of (map f xs)) ≡ false
items_plain f plain [] = refl
items_plain f plain (x ∷ xs) = rw (plain x, items_plain f plain xs) refl

report_plain : (p : Problem) (q : List ℕ) → has_float (report_value p q) ≡ false
report_plain p q =
    rw (items_plain (λ c. left_entry p c (mass_left p q c)) (λ _. refl) (all_cells p), items_plain (place_value p) (λ _. refl) q, items_plain decimal_value (λ _. refl) (values_along p q)) refl

-- the compact text of the report's value, and a line feed
pub written_json : (p : Problem) (q : List ℕ) (v : Data) (text : List ℕ) → v ≡ report_value p q → (has_float v ≡ false → text ≡ compact_text v) → text ++ 10 ∷ [] ≡ report_json p q
unfolding report_json
written_json p q v text is told = ap (λ (t : List ℕ). t ++ 10 ∷ []) (told (ap has_float is ∙ report_plain p q) ∙ ap compact_text is)
