-- The masses of a period: what they sum to, and that they are those of the belief after the looks up to then.
use Rattle.std.proofs.Common.{ℕ, zero, suc, ◌+◌, ◌*◌, ◌-◌, ◌^◌, ◌<◌, ◌≤◌, ◌≡◌, ◌==◌, Bool, true, false, if◌then◌else◌, List, [], ◌∷◌, Some, map, take, length, refl, sym, ap, ◌∙◌, arith, sum, inl, inr}
use Rattle.std.specs.List.{range_with_len}
use Rattle.std.proofs.lemmas.Bool.{cases_eq, eq-eqb, ne_eqb}
use Rattle.std.proofs.lemmas.List.{length-take-le, length-take, take_all}
use Rattle.std.proofs.lemmas.List.Sums.{sum-map}
use Rattle.std.proofs.lemmas.Nat.{mul-pow}
use Rattle.search_model.specs.Problem.{Problem, IsProblem}
use Rattle.search_model.specs.Tracks.{tracks, weight_of, miss_from, miss_of, missed_weight}
use Rattle.search_model.specs.Bounds.{cell_in}
use Rattle.list_laws.proofs.Sums.{sum_by-same, sum_by-times, sum_by-range-same, sum_by-range-pick, sum_by-filter}
use Rattle.search_model.proofs.TrackSums.{sum_tracks-same}
use Rattle.search_model.proofs.Totals.{nothing_is_cut_off}
use Rattle.belief_update.specs.Masses.{looked_along, mass_of, looks_to}
use Rattle.belief_update.proofs.TrackSteps.{looked_along-nones}
use Rattle.belief_update.proofs.Looks.{length-looks_to, looks_to-whole}
use Rattle.belief_update.proofs.Missed.{miss_from-looked, missed_by_masses_hold}
use Rattle.belief_update.proofs.Rewards.{found_by_masses}
use Rattle.mission_report.specs.Account.{all_cells, mass_in, masses_in}
use Rattle.mission_report.specs.Laws.{MassesAreMissed, FoundAndLeftUpTo, MassesByBelief, LeftIsMissed, FoundAndLeft}

-- looks in no period of a track miss nothing of it
miss_taken : (p : Problem) (t n : ℕ) (q x : List ℕ) → length x ≤ n → miss_from p t (take n q) x ≡ miss_from p t q x
unfolding miss_from
miss_taken p t n q [] h = refl
miss_taken p t zero q (c ∷ x) h = absurd (omega arith)
miss_taken p t (suc n) [] (c ∷ x) h = refl
miss_taken p t (suc n) (a ∷ q) (c ∷ x) h = rw (miss_taken p (t + 1) n q x (omega arith)) refl

missed_taken : (p : Problem) (q : List ℕ) → missed_weight p (take p.horizon q) ≡ missed_weight p q
unfolding missed_weight
missed_taken p q = sum_tracks-same p.cells p.horizon _ _ (λ x same. rw (miss_taken p 1 p.horizon q x (omega (arith, same))) refl)

same_test : (a b : ℕ) → (a == b) ≡ (b == a)
same_test a b = elim (cases_eq a b) [
  | inl e ↦ eq-eqb a b e ∙ sym (eq-eqb b a (sym e))
  | inr ne ↦ ne_eqb a b ne ∙ sym (ne_eqb b a (λ e. ne (sym e)))
]

-- what a test keeps of a product
kept : (b : Bool) (w l r : ℕ) → w * (l * r) * (if b then 1 else 0) ≡ w * (l * (if b then r else 0))
kept true w l r = omega arith
kept false w l r = omega arith

module _ (p : Problem) (sound : IsProblem p) (q : List ℕ) (t : ℕ) (some : 1 ≤ t) (last : t ≤ p.horizon) where
  short : length (take t q) ≤ t
  short = omega (arith, length-take t q)

  -- a mass is that after the looks up to then, but for the parts to come
  at_cell : (c : ℕ) → c < p.cells → mass_in p q t c ≡ mass_of p (looks_to t (take t q)) c * (p.drift.denominator ^ (p.horizon - t) * p.sweep.denominator ^ (p.horizon - length (take t q)))
  unfolding mass_in
  at_cell c lt =
      let front = take t q in
      let looks = looks_to t front in
      let all = range_with_len 0 p.cells in
      let drifts = p.drift.denominator ^ (p.horizon - t) in
      let rest = p.sweep.denominator ^ (p.horizon - length front) in
      let here : ℕ → ℕ = λ d. if c == d then rest else 0 in
      sum_by-filter (λ x. cell_in x t == c) (λ x. weight_of p x * miss_of p front x) (tracks p.cells p.horizon)
      ∙ sum_tracks-same p.cells p.horizon _ (λ x. weight_of p x * (looked_along p 1 looks x * here (cell_in x t))) (λ x same.
      let long : length x ≡ length front + (p.horizon - length front) = omega (arith, same, short, last) in
      rw (miss_from-looked p 1 front x (p.horizon - length front) long, looked_along-nones p 1 (t - length front) (map Some front) x, same_test (cell_in x t) c)
      (kept (c == cell_in x t) (weight_of p x) (looked_along p 1 (map Some front) x) rest))
      ∙ found_by_masses p sound looks here t some (length-looks_to t front short) last
      ∙ ap (λ (s : ℕ). s * drifts) (sum_by-same _ (λ d. here d * mass_of p looks d) all (λ d. omega arith) ∙ sum_by-range-pick p.cells c rest (mass_of p looks) lt)
      ∙ omega arith

  sum_in : sum (masses_in p q t) ≡ missed_weight p (take t q)
  sum_in =
      let front = take t q in
      let looks = looks_to t front in
      let all = range_with_len 0 p.cells in
      let later = p.drift.denominator ^ (p.horizon - t) * p.sweep.denominator ^ (p.horizon - length front) in
      let missed = missed_by_masses_hold p sound front t some short last in
      sum-map (mass_in p q t) (all_cells p)
      ∙ sum_by-range-same p.cells (mass_in p q t) (λ c. mass_of p looks c * later) at_cell
      ∙ sum_by-times (mass_of p looks) later all
      ∙ ap (λ (s : ℕ). s * later) (sym (sum-map (mass_of p looks) all))
      ∙ omega (arith, missed)

  by_belief : (c : ℕ) → t ≤ length q → c < p.cells → mass_in p q t c ≡ mass_of p (map Some (take t q)) c * (p.drift.denominator * p.sweep.denominator) ^ (p.horizon - t)
  by_belief c within lt =
      let whole : length (take t q) ≡ t = length-take-le t q within in
      at_cell c lt ∙ rw (looks_to-whole t (take t q) (sym whole), whole, mul-pow p.drift.denominator p.sweep.denominator (p.horizon - t)) refl

pub masses_are_missed : MassesAreMissed
masses_are_missed p sound q t some last = sum_in p sound q t some last

pub found_and_left_up_to : FoundAndLeftUpTo
found_and_left_up_to p sound q t some last = omega (arith, masses_are_missed p sound q t some last, nothing_is_cut_off p (take t q) sound)

pub masses_by_belief : MassesByBelief
masses_by_belief p sound q t c some within last lt = by_belief p sound q t some last c within lt

-- of a path
pub left_is_missed : LeftIsMissed
left_is_missed p sound q = masses_are_missed p sound q p.horizon (omega (arith, sound.horizon)) (omega arith) ∙ missed_taken p q

pub found_and_left : FoundAndLeft
found_and_left p sound q = omega (arith, left_is_missed p sound q, nothing_is_cut_off p q sound)

-- the masses of a period are those of the prefix up to then
pub mass_in-front : (p : Problem) (q : List ℕ) (t c : ℕ) → mass_in p (take t q) t c ≡ mass_in p q t c
unfolding mass_in
mass_in-front p q t c = rw (take_all t (take t q) (omega (arith, length-take t q))) refl
