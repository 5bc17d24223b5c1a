-- An input spells one scenario.
use Rattle.std.proofs.Common.{ℕ, ◌≡◌, List, length, drop, Result, Ok, sym, ap, ◌∙◌, subst, arith}
use Rattle.search_model.specs.Problem.{Problem}
use Rattle.scenario_text.specs.declared.kind.TextFault.{TextFault}
use Rattle.text_rows.specs.Lines.{after_lines}
use Rattle.scenario_text.specs.Reading.{Front}
use Rattle.scenario_text.specs.Scenarios.{Says, IsTextOf}
use Rattle.scenario_text.proofs.Determined.{one_problem}
use Rattle.plan_command.specs.Plans.{BeginsWith}

-- one reading gives one front
same_front_read : (a b : Front) (read : Result Front TextFault) → read ≡ Ok a → read ≡ Ok b → a ≡ b
same_front_read a b read h g = cc

pub same_scenario : (p q : Problem) (input : List ℕ) → IsTextOf p input → IsTextOf q input → p ≡ q
same_scenario p q input h g =
    let P : Front → Type 0 = λ f. Says f.state q in
    one_problem h.front.state p q h.says (subst P (same_front_read g.front h.front _ g.read h.read) g.says)

pub same_front : (p q : Problem) (input rest more : List ℕ) → BeginsWith p input rest → BeginsWith q input more → p ≡ q
same_front p q input rest more h g =
    let P : Front → Type 0 = λ f. Says f.state q in
    one_problem h.front.front.state p q h.front.says (subst P (same_front_read g.front.front h.front.front _ g.front.read h.front.read) g.front.says)

-- and has one rest behind it
pub same_rest : (p q : Problem) (input rest more : List ℕ) → BeginsWith p input rest → BeginsWith q input more → rest ≡ more
same_rest p q input rest more h g =
    let one : h.front.front ≡ g.front.front = same_front_read h.front.front g.front.front _ h.front.read g.front.read in
    let lines : length (after_lines h.front.front.line input) ≡ length (after_lines g.front.front.line input) = ap (λ (f : Front). length (after_lines f.line input)) one in
    let bytes : h.bytes ≡ g.bytes = omega (arith, lines, h.front.bytes, g.front.bytes) in
    h.follows ∙ ap (λ (n : ℕ). drop n input) bytes ∙ sym g.follows
