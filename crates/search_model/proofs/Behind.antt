-- Tracks through a cell in the period after a prefix: what the prefix and looks after it miss, and the rewards of its mean bound.
use Rattle.std.proofs.Common.{ℕ, zero, suc, ◌+◌, ◌*◌, ◌-◌, ◌^◌, ◌<◌, ◌≡◌, List, [], ◌∷◌, ◌++◌, length, slice_index, drop, refl, sym, ap, ◌∙◌, arith, sum_by, append_assoc}
use Rattle.std.specs.List.{range_with_len}
use Rattle.std.proofs.Math.Nat.{pow-suc}
use Rattle.std.proofs.lemmas.List.{append-nil}
use Rattle.drift_chain.specs.DriftRows.{part_of}
use Rattle.sweep_table.specs.LookParts.{factor_of}
use Rattle.search_model.specs.Problem.{Problem, IsProblem}
use Rattle.search_model.specs.Legal.{last_of}
use Rattle.search_model.specs.Tracks.{tracks, steps_product, weight_of, miss_from, miss_of, missed_weight}
use Rattle.search_model.specs.Bounds.{factors_along, cell_in, reward_of}
use Rattle.search_model.specs.Following.{look_factor, after_of}
use Rattle.search_model.specs.Exchange.{unit_reward, reward_for, mass_behind}
use Rattle.search_model.specs.Laws.{MissedBehind, MeanRewardsAre}
use Rattle.list_laws.proofs.Sums.{sum_by-same, sum_by-times, sum_by-exchange, sum_by-range-same}
use Rattle.search_model.proofs.After.{miss_from-cons, after_of-none}
use Rattle.search_model.proofs.Misses.{miss_from-append}
use Rattle.search_model.proofs.Splits.{weight_of-split}
use Rattle.search_model.proofs.Totals.{steps_sum}
use Rattle.search_model.proofs.TrackSums.{one_track, sum_tracks-suc, sum_tracks-cons, sum_tracks-split, sum_tracks-same}

-- the factors of looks go by as many cells of a track as there are looks
factors_along-front : (p : Problem) (t : ℕ) (q u v w : List ℕ) → length u ≡ length q → factors_along p t q (u ++ v) ≡ factors_along p t q (u ++ w)
unfolding factors_along
factors_along-front p t [] u v w same = refl
factors_along-front p t (a ∷ q) [] v w same = absurd (omega (arith, same))
factors_along-front p t (a ∷ q) (c ∷ u) v w same = ap (λ (n : ℕ). factor_of p.sweep t a c * n) (factors_along-front p (t + 1) q u v w (omega (arith, same)))

-- the place of a cell behind a front
slice_index-behind : (u v : List ℕ) (k : ℕ) → slice_index (u ++ v) (length u + k) ≡ slice_index v k
slice_index-behind [] v k = let e : 0 + k ≡ k = omega arith in rw e refl
slice_index-behind (c ∷ u) v k = let e : length (c ∷ u) + k ≡ suc (length u + k) = omega arith in rw e (slice_index-behind u v k)

module _ (p : Problem) (q : List ℕ) where
  -- what leads to a cell behind the prefix
  abbrev pub leading : ℕ → List ℕ → ℕ
  leading c x = weight_of p (x ++ c ∷ []) * factors_along p 1 q (x ++ c ∷ [])

  leading-is : (c : ℕ) → sum_by (leading c) (tracks p.cells (length q)) ≡ mass_behind p q c
  leading-is c = let e : length q + 1 - 1 ≡ length q = omega arith in rw e refl

  -- a sum over all tracks, by their cells behind the prefix: where each term is what leads to the cell, times what follows
  pub by_cell_behind : (m : ℕ) (f : List ℕ → ℕ) (later : ℕ → List ℕ → ℕ) → length q + 1 + m ≡ p.horizon →
      ((x : List ℕ) (c : ℕ) (w : List ℕ) → length x ≡ length q → f (x ++ c ∷ [] ++ w) ≡ leading c x * later c w) →
      sum_by f (tracks p.cells p.horizon) ≡ sum_by (λ c. mass_behind p q c * sum_by (later c) (tracks p.cells m)) (range_with_len 0 p.cells)
  by_cell_behind m f later whole apart =
      let n = length q in
      let cells = range_with_len 0 p.cells in
      let next : p.horizon ≡ suc n + m = omega (arith, whole) in
      ap (λ (k : ℕ). sum_by f (tracks p.cells k)) next
      ∙ sum_tracks-split p.cells (suc n) m f
      ∙ sum_tracks-suc (λ x. sum_by (λ w. f (x ++ w)) (tracks p.cells m)) p.cells n
      ∙ sum_by-exchange (λ x c. sum_by (λ w. f (x ++ c ∷ [] ++ w)) (tracks p.cells m)) (tracks p.cells n) cells
      ∙ sum_by-same _ _ cells (λ c.
      let rest = sum_by (later c) (tracks p.cells m) in
      sum_tracks-same p.cells n _ (λ x. leading c x * rest) (λ x same.
      sum_by-same _ (λ w. later c w * leading c x) (tracks p.cells m) (λ w. apart x c w same ∙ omega arith)
      ∙ sum_by-times (later c) (leading c x) (tracks p.cells m)
      ∙ omega arith)
      ∙ sum_by-times (leading c) rest (tracks p.cells n)
      ∙ ap (λ (k : ℕ). k * rest) (leading-is c))

  -- the weight and the factors of such a track
  weight_apart : (x : List ℕ) (c : ℕ) (w : List ℕ) → length x ≡ length q → weight_of p (x ++ c ∷ [] ++ w) ≡ weight_of p (x ++ c ∷ []) * steps_product p (length q + 1) c w
  weight_apart x c w same = weight_of-split p x c w ∙ rw same refl

  factors_apart : (x : List ℕ) (c : ℕ) (w : List ℕ) → length x ≡ length q → factors_along p 1 q (x ++ c ∷ [] ++ w) ≡ factors_along p 1 q (x ++ c ∷ [])
  factors_apart x c w same = ap (factors_along p 1 q) (append_assoc x (c ∷ []) w) ∙ factors_along-front p 1 q x (c ∷ w) (c ∷ []) same

  miss_apart : (y x : List ℕ) (c : ℕ) (w : List ℕ) → length x ≡ length q →
      miss_of p (q ++ y) (x ++ c ∷ [] ++ w) ≡ factors_along p 1 q (x ++ c ∷ []) * (look_factor p (length q + 1) y c * miss_from p (length q + 1 + 1) (drop 1 y) w)
  miss_apart y x c w same =
      let next : 1 + length q ≡ length q + 1 = omega arith in
      ap (miss_from p 1 (q ++ y)) (append_assoc x (c ∷ []) w)
      ∙ miss_from-append p 1 q y x (c ∷ w) same
      ∙ rw (factors_along-front p 1 q x (c ∷ w) (c ∷ []) same, next, miss_from-cons p (length q + 1) y c w) refl

pub missed_behind : MissedBehind
unfolding missed_weight after_of
missed_behind p q y short =
    let m = p.horizon - length q - 1 in
    let s = length q + 1 in
    let look : ℕ → ℕ = λ c. look_factor p s y c in
    let on : ℕ → List ℕ → ℕ = λ c w. steps_product p s c w * miss_from p (s + 1) (drop 1 y) w in
    by_cell_behind p q m (λ x. weight_of p x * miss_of p (q ++ y) x) (λ c w. on c w * look c) (omega (arith, short)) (λ x c w same.
    rw (weight_apart p q x c w same, miss_apart p q y x c w same) (omega arith))
    ∙ sum_by-same _ _ (range_with_len 0 p.cells) (λ c. ap (λ (n : ℕ). mass_behind p q c * n) (sum_by-times (on c) (look c) (tracks p.cells m) ∙ omega arith))

-- what the prefix misses alone: all masses behind it, times the parts of what is to come
pub missed_alone : (p : Problem) → IsProblem p → (q : List ℕ) (m : ℕ) → length q + 1 + m ≡ p.horizon →
    missed_weight p q ≡ sum_by (mass_behind p q) (range_with_len 0 p.cells) * (p.drift.denominator ^ m * p.sweep.denominator ^ suc m)
missed_alone p sound q m whole =
    let left : p.horizon - length q - 1 ≡ m = omega (arith, whole) in
    let most = p.drift.denominator ^ m * p.sweep.denominator ^ suc m in
    ap (missed_weight p) (sym (append-nil q))
    ∙ missed_behind p q [] (omega (arith, whole))
    ∙ sum_by-range-same p.cells _ (λ c. mass_behind p q c * most) (λ c lt. rw (left, after_of-none p sound m (length q + 1) c lt, pow-suc p.sweep.denominator m) (omega arith))
    ∙ sum_by-times (mass_behind p q) most (range_with_len 0 p.cells)

-- over all that may follow a cell, what goes by the k-th cell of it goes by the lists of k cells
by_later_cell : (p : Problem) → IsProblem p → (h : ℕ → ℕ) (m k s c : ℕ) → c < p.cells →
    sum_by (λ w. steps_product p s c w * h (slice_index (c ∷ w) k)) (tracks p.cells (k + m)) ≡ sum_by (λ z. steps_product p s c z * h (last_of c z)) (tracks p.cells k) * p.drift.denominator ^ m
unfolding steps_product
by_later_cell p sound h m zero s c here =
    let e : 0 + m ≡ m = omega arith in
    ap (λ (n : ℕ). sum_by (λ w. steps_product p s c w * h c) (tracks p.cells n)) e
    ∙ sum_by-times (steps_product p s c) (h c) (tracks p.cells m)
    ∙ rw (steps_sum p sound m s c here, one_track (λ z. steps_product p s c z * h (last_of c z)) p.cells) (omega arith)
by_later_cell p sound h m (suc k) s c here =
    let cells = range_with_len 0 p.cells in
    let later : ℕ → List ℕ → ℕ = λ d w. steps_product p (s + 1) d w * h (slice_index (d ∷ w) k) in
    let ends : ℕ → List ℕ → ℕ = λ d z. steps_product p (s + 1) d z * h (last_of d z) in
    let most = p.drift.denominator ^ m in
    let e : suc k + m ≡ suc (k + m) = omega arith in
    ap (λ (n : ℕ). sum_by (λ w. steps_product p s c w * h (slice_index (c ∷ w) (suc k))) (tracks p.cells n)) e
    ∙ sum_tracks-cons p.cells (k + m) (λ w. steps_product p s c w * h (slice_index (c ∷ w) (suc k)))
    ∙ sum_by-range-same p.cells _ (λ d. sum_by (λ z. steps_product p s c (d ∷ z) * h (last_of c (d ∷ z))) (tracks p.cells k) * most) (λ d lt.
    sum_by-same _ (λ w. later d w * part_of p.drift s c d) (tracks p.cells (k + m)) (λ w. omega arith)
    ∙ sum_by-times (later d) (part_of p.drift s c d) (tracks p.cells (k + m))
    ∙ ap (λ (n : ℕ). n * part_of p.drift s c d) (by_later_cell p sound h m k (s + 1) d lt)
    ∙ sym (ap (λ (n : ℕ). n * most) (sum_by-same _ (λ z. ends d z * part_of p.drift s c d) (tracks p.cells k) (λ z. omega arith) ∙ sum_by-times (ends d) (part_of p.drift s c d) (tracks p.cells k)) ∙ omega arith))
    ∙ sum_by-times (λ d. sum_by (λ z. steps_product p s c (d ∷ z) * h (last_of c (d ∷ z))) (tracks p.cells k)) most cells
    ∙ ap (λ (n : ℕ). n * most) (sym (sum_tracks-cons p.cells k (λ z. steps_product p s c z * h (last_of c z))))

pub mean_rewards_are : MeanRewardsAre
unfolding reward_of reward_for unit_reward
mean_rewards_are p q t a sound after within =
    let s = length q + 1 in
    let k = t - s in
    let m = p.horizon - t in
    let cells = range_with_len 0 p.cells in
    let found : ℕ → ℕ = λ c. p.sweep.denominator - factor_of p.sweep t a c in
    let rest = p.sweep.denominator ^ (p.horizon - length q - 1) in
    let same_rest : p.horizon - length q - 1 ≡ p.horizon - s = omega arith in
    let size : p.horizon - length q - 1 ≡ k + m = omega (arith, after, within) in
    let on : ℕ → List ℕ → ℕ = λ c w. steps_product p s c w * found (slice_index (c ∷ w) k) in
    by_cell_behind p q (k + m) (λ x. weight_of p x * factors_along p 1 q x * found (cell_in x t) * rest) (λ c w. on c w * rest) (omega (arith, after, within)) (λ x c w same.
    let place : t - 1 ≡ length x + k = omega (arith, after, same) in
    let cell : cell_in (x ++ c ∷ [] ++ w) t ≡ slice_index (c ∷ w) k = rw (place, append_assoc x (c ∷ []) w) (slice_index-behind x (c ∷ w) k) in
    rw (weight_apart p q x c w same, factors_apart p q x c w same, cell) (omega arith))
    ∙ sum_by-range-same p.cells _ (λ c. mass_behind p q c * unit_reward p s c t a * (p.drift.denominator ^ m * rest)) (λ c lt.
    rw (sum_by-times (on c) rest (tracks p.cells (k + m)), by_later_cell p sound found m k s c lt) (omega arith))
    ∙ sum_by-times (λ c. mass_behind p q c * unit_reward p s c t a) (p.drift.denominator ^ m * rest) cells
    ∙ rw same_rest (omega arith)
