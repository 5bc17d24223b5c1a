-- A node more, and the end.
use Rattle.std.proofs.Common.{◌≡◌, ℕ, ◌==◌, Bool, true, false, List, [], ◌∷◌, Option, Some, None, sym, ap, ◌∙◌, arith, max, eq-eqb, if◌then◌else◌}
use Rattle.std.specs.Option.{option_map}
use Rattle.std.proofs.lemmas.Bool.{ne_eqb}
use Rattle.search_model.specs.declared.standing.Standing.{Standing}
use Rattle.search_model.specs.Problem.{Problem}
use Rattle.search_model.specs.Bounds.{greatest}
use Rattle.search_model.proofs.Greatest.{greatest-one}
use Rattle.bound_tree.specs.declared.node.Kind.{Kind}
use Rattle.bound_tree.specs.declared.gap.Numbers.{Numbers}
use Rattle.bound_tree.specs.declared.gap.GapKind.{GapKind}
use Rattle.bound_tree.specs.declared.gap.GapKind.TheVariants.{Closed}
use Rattle.tree_checker.specs.declared.verdict.Why.{Why}
use Rattle.tree_checker.specs.declared.gap_verdict.GapWhy.TheVariants.{Plain, CeilingWrong}
use Rattle.tree_checker.specs.declared.gap_verdict.GapVerdict.TheVariants.{Accepted, Rejected}
use Rattle.tree_checker.specs.Reasons.{first_failed, kind_tests, open_tests, at_line, ceiling_reason}
use Rattle.tree_checker.specs.GapReasons.{gap_verdict_of}
use Rattle.tree_checker.proofs.Reason.{plain_first}

-- the reason against a record is that against a closed node
pub closed_reason : (numbers : Numbers) (p : Problem) (s : Standing) (q : List ℕ) (found : GapKind) (kind : Kind) (w : Option Why) →
    found ≡ Closed kind → w ≡ first_failed (kind_tests p s q kind) → option_map (λ v. Plain v) w ≡ first_failed (open_tests numbers p s q found)
closed_reason numbers p s q found kind w is told =
    ap (λ (v : Option Why). option_map (λ u. Plain u) v) told
    ∙ sym (plain_first (kind_tests p s q kind))
    ∙ ap (λ (k : GapKind). first_failed (open_tests numbers p s q k)) (sym is)

-- the test of a ceiling, where no number is left but the greatest so far
ceiling_tested : (most ceiling : ℕ) (right : Bool) → (ceiling == most) ≡ right → ceiling_reason ceiling (most ∷ []) ≡ at_line 4 (if right then None else Some CeilingWrong)
ceiling_tested most ceiling right test =
    ap (λ (n : ℕ). at_line 4 (if ceiling == n then None else Some CeilingWrong)) (greatest-one most)
    ∙ ap (λ (b : Bool). at_line 4 (if b then None else Some CeilingWrong)) test

pub ceiling_met : (most ceiling : ℕ) → ceiling ≡ most → Accepted ≡ gap_verdict_of (ceiling_reason ceiling (most ∷ []))
ceiling_met most ceiling same = ap gap_verdict_of (sym (ceiling_tested most ceiling true (eq-eqb ceiling most same)))

pub ceiling_missed : (most ceiling : ℕ) → (ceiling ≡ most → ⊥) → Rejected (record { line = 4; why = CeilingWrong }) ≡ gap_verdict_of (ceiling_reason ceiling (most ∷ []))
ceiling_missed most ceiling other = ap gap_verdict_of (sym (ceiling_tested most ceiling false (ne_eqb ceiling most other)))

-- the greatest of some numbers, the first two of which were compared
pub greatest-two : (m n : ℕ) (numbers : List ℕ) → greatest (max m n ∷ numbers) ≡ greatest (m ∷ n ∷ numbers)
unfolding greatest
greatest-two m n numbers = omega arith
