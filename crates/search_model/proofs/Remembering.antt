-- Rewards after the looks of a prefix and some of those behind it: who remembers more counts no more, and who remembers all counts
-- what the looks find.
use Rattle.std.proofs.Common.{ℕ, zero, suc, ◌+◌, ◌*◌, ◌-◌, ◌^◌, ◌<◌, ◌≤◌, ◌≡◌, List, [], ◌∷◌, ◌++◌, length, take, slice_index, refl, sym, ap, ◌∙◌, subst, arith, add-zero, append_assoc, length-append, pow-suc, mul-le-mul_left}
use Rattle.std.proofs.Math.Nat.{pow-zero}
use Rattle.std.proofs.lemmas.Nat.{mul-le, pow-add}
use Rattle.std.proofs.lemmas.List.{append-nil, take_all}
use Rattle.sweep_table.specs.LookParts.{factor_of}
use Rattle.sweep_table.proofs.Factors.{factor_of-le}
use Rattle.search_model.specs.Problem.{Problem, IsProblem}
use Rattle.search_model.specs.Legal.{continuations}
use Rattle.search_model.specs.Tracks.{tracks, weight_of, miss_of, missed_weight, value_of}
use Rattle.search_model.specs.Bounds.{factors_along, cell_in, reward_of, sum_along, mean_of}
use Rattle.search_model.specs.Edge.{edge_reward_of, sum_moves, edge_sum, edge_of}
use Rattle.search_model.specs.Memory.{factors_before, reward_after, sum_remembering, remembering_of}
use Rattle.list_laws.proofs.Sums.{sum_by-same, sum_by-plus, sum_by-within}
use Rattle.search_model.proofs.Greatest.{greatest-same}
use Rattle.search_model.proofs.Misses.{miss_of-front}
use Rattle.search_model.proofs.Totals.{nothing_is_cut_off}
use Rattle.search_model.proofs.TrackSums.{sum_tracks-same}

take-shorter : (k : ℕ) (xs : List ℕ) → length (take k xs) ≤ length xs
take-shorter zero xs = omega arith
take-shorter (suc k) [] = omega arith
take-shorter (suc k) (x ∷ xs) = omega (arith, take-shorter k xs)

-- the factors of some looks are within as many denominators
factors_before-le : (p : Problem) → IsProblem p → (t : ℕ) (recent x : List ℕ) → factors_before p t recent x ≤ p.sweep.denominator ^ length recent
unfolding factors_before
factors_before-le p sound t [] x = rw (pow-zero p.sweep.denominator) (omega arith)
factors_before-le p sound t (a ∷ recent) x =
    let here = factor_of-le p.sweep sound.sweep (t - 1) a (cell_in x (t - 1)) in
    let rest = factors_before-le p sound (t - 1) recent x in
    rw (pow-suc p.sweep.denominator (length recent)) (omega (arith, mul-le _ _ _ _ here rest))

-- what is forgotten counts the denominator, which no factor is above
forgotten : (p : Problem) → IsProblem p → (m n : ℕ) → m ≤ n → (t : ℕ) (recent x : List ℕ) →
    factors_before p t (take n recent) x ≤ factors_before p t (take m recent) x * p.sweep.denominator ^ (length (take n recent) - length (take m recent))
unfolding factors_before
forgotten p sound zero n less t recent x =
    let all : length (take n recent) - 0 ≡ length (take n recent) = omega arith in
    rw all (omega (arith, factors_before-le p sound t (take n recent) x))
forgotten p sound (suc m) zero less t recent x = absurd (omega (arith, less))
forgotten p sound (suc m) (suc n) less t [] x = rw (pow-zero p.sweep.denominator) (omega arith)
forgotten p sound (suc m) (suc n) less t (a ∷ recent) x =
    let f = factor_of p.sweep (t - 1) a (cell_in x (t - 1)) in
    let left : suc (length (take n recent)) - suc (length (take m recent)) ≡ length (take n recent) - length (take m recent) = omega arith in
    let rest = forgotten p sound m n (omega (arith, less)) (t - 1) recent x in
    rw left (omega (arith, mul-le-mul_left f rest))

-- a look finds no more after more of the looks before it
pub reward_after-le : (p : Problem) → IsProblem p → (m n : ℕ) → m ≤ n → (q recent : List ℕ) (t b : ℕ) → length q + length recent < p.horizon →
    reward_after p q (take n recent) t b ≤ reward_after p q (take m recent) t b
unfolding reward_after
reward_after-le p sound m n less q recent t b short =
    let g = p.sweep.denominator in
    let few = length (take m recent) in
    let many = length (take n recent) in
    let rest = p.horizon - length q - many - 1 in
    let within : few ≤ many = shorter m n less recent in
    let parts : g ^ (p.horizon - length q - few - 1) ≡ g ^ (many - few) * g ^ rest =
    ap (λ (k : ℕ). g ^ k) (let e : p.horizon - length q - few - 1 ≡ (many - few) + rest = omega (arith, within, short, take-shorter n recent) in e) ∙ pow-add g (many - few) rest in
    sum_by-within _ _ (tracks p.cells p.horizon) (λ x _.
    let scale = weight_of p x * factors_along p 1 q x * (g - factor_of p.sweep t b (cell_in x t)) * g ^ rest in
    rw parts (omega (arith, mul-le-mul_left scale (forgotten p sound m n less t recent x))))
  where
    shorter : (m n : ℕ) → m ≤ n → (recent : List ℕ) → length (take m recent) ≤ length (take n recent)
    shorter zero n less recent = omega arith
    shorter (suc m) zero less recent = absurd (omega (arith, less))
    shorter (suc m) (suc n) less [] = omega arith
    shorter (suc m) (suc n) less (a ∷ recent) = omega (arith, shorter m n (omega (arith, less)) recent)

-- nor do the looks of a continuation
pub sum_remembering-le : (p : Problem) → IsProblem p → (m n : ℕ) → m ≤ n → (q recent : List ℕ) (t : ℕ) (y : List ℕ) → length q + length recent + length y ≤ p.horizon →
    sum_remembering p n q recent t y ≤ sum_remembering p m q recent t y
unfolding sum_remembering
sum_remembering-le p sound m n less q recent t [] short = omega arith
sum_remembering-le p sound m n less q recent t (b ∷ y) short =
    let here = reward_after-le p sound m n less q recent t b (omega (arith, short)) in
    let later = sum_remembering-le p sound m n less q (b ∷ recent) (t + 1) y (omega (arith, short)) in
    omega (arith, here, later)

-- after no look behind the prefix a look has the reward of the mean bound
pub reward_after-none : (p : Problem) (q : List ℕ) (t b : ℕ) → reward_after p q [] t b ≡ reward_of p q t b
unfolding reward_after reward_of factors_before
reward_after-none p q t b =
    let rest : p.horizon - length q - 0 - 1 ≡ p.horizon - length q - 1 = omega arith in
    sum_by-same _ _ (tracks p.cells p.horizon) (λ x. rw rest (omega arith))

-- and after one that of the edge bound
pub reward_after-one : (p : Problem) (q : List ℕ) (t a b : ℕ) → reward_after p q (a ∷ []) t b ≡ edge_reward_of p q t a b
unfolding reward_after edge_reward_of factors_before
reward_after-one p q t a b =
    let rest : p.horizon - length q - 1 - 1 ≡ p.horizon - length q - 2 = omega arith in
    sum_by-same _ _ (tracks p.cells p.horizon) (λ x. rw rest (omega arith))

-- a look finds no more after the look just before it than without
pub edge_reward-le : (p : Problem) → IsProblem p → (q : List ℕ) (t a b : ℕ) → 2 ≤ p.horizon - length q → edge_reward_of p q t a b ≤ reward_of p q t b
edge_reward-le p sound q t a b some =
    omega (arith, reward_after-le p sound 0 1 (omega arith) q (a ∷ []) t b (omega (arith, some)), reward_after-none p q t b, reward_after-one p q t a b)

-- without memory the rewards along a continuation are those of the mean bound
remembering-none : (p : Problem) (q recent : List ℕ) (t : ℕ) (y : List ℕ) → sum_remembering p 0 q recent t y ≡ sum_along (reward_of p q) t y
unfolding sum_remembering sum_along
remembering-none p q recent t [] = refl
remembering-none p q recent t (b ∷ y) = rw (reward_after-none p q t b, remembering-none p q (b ∷ recent) (t + 1) y) refl

-- with a memory of one look those of the edge bound
remembering-moves : (p : Problem) (q : List ℕ) (a : ℕ) (recent : List ℕ) (t : ℕ) (y : List ℕ) → sum_remembering p 1 q (a ∷ recent) t y ≡ sum_moves (edge_reward_of p q) t a y
unfolding sum_remembering sum_moves
remembering-moves p q a recent t [] = refl
remembering-moves p q a recent t (b ∷ y) = rw (reward_after-one p q t a b, remembering-moves p q b (a ∷ recent) (t + 1) y) refl

remembering-one : (p : Problem) (q y : List ℕ) → sum_remembering p 1 q [] (length q + 1) y ≡ edge_sum p q y
unfolding sum_remembering
remembering-one p q [] = refl
remembering-one p q (b ∷ y) =
    let next : length q + 1 + 1 ≡ length q + 2 = omega arith in
    rw (reward_after-none p q (length q + 1) b, remembering-moves p q b [] (length q + 1 + 1) y, next) refl

-- so the bound that remembers no look is the mean bound, and the one that remembers one the edge bound
pub remembering_of-none : (p : Problem) (q : List ℕ) → remembering_of p 0 q ≡ mean_of p q
remembering_of-none p q =
    ap (λ (n : ℕ). value_of p q + n) (greatest-same (sum_remembering p 0 q [] (length q + 1)) (sum_along (reward_of p q) (length q + 1)) (continuations p q) (λ y _. remembering-none p q [] (length q + 1) y))

pub remembering_of-one : (p : Problem) (q : List ℕ) → remembering_of p 1 q ≡ edge_of p q
remembering_of-one p q =
    ap (λ (n : ℕ). value_of p q + n) (greatest-same (sum_remembering p 1 q [] (length q + 1)) (edge_sum p q) (continuations p q) (λ y _. remembering-one p q y))

-- the factors of a prefix with one look more
factors_along-more : (p : Problem) (t : ℕ) (r x : List ℕ) (a : ℕ) → length r < length x →
    factors_along p t (r ++ a ∷ []) x ≡ factors_along p t r x * factor_of p.sweep (t + length r) a (slice_index x (length r))
unfolding factors_along
factors_along-more p t r [] a short = absurd (omega (arith, short))
factors_along-more p t [] (c ∷ x) a short = rw (add-zero t) (omega arith)
factors_along-more p t (b ∷ r) (c ∷ x) a short =
    let next : t + 1 + length r ≡ t + suc (length r) = omega arith in
    rw (factors_along-more p (t + 1) r x a (omega (arith, short)), next) (omega arith)

-- the same, by periods
factors_more : (p : Problem) (r x : List ℕ) (a : ℕ) → length r < length x →
    factors_along p 1 (r ++ a ∷ []) x ≡ factors_along p 1 r x * factor_of p.sweep (length r + 1) a (cell_in x (length r + 1))
factors_more p r x a short =
    let period : 1 + length r ≡ length r + 1 = omega arith in
    let place : length r + 1 - 1 ≡ length r = omega arith in
    factors_along-more p 1 r x a short ∙ rw (period, place) refl

-- a look apart: f is missed and d found, of g
apart : (w front f d n g : ℕ) → f + d ≡ g → w * (front * (g * n)) ≡ w * (front * f * n) + w * front * d * n
apart w front f d n g parts = subst (λ z. w * (front * (z * n)) ≡ w * (front * f * n) + w * front * d * n) parts (omega arith)

-- what one look more finds is its reward
value-more : (p : Problem) → IsProblem p → (r : List ℕ) (a : ℕ) → length r < p.horizon → value_of p (r ++ a ∷ []) ≡ value_of p r + reward_of p r (length r + 1) a
unfolding missed_weight reward_of
value-more p sound r a short =
    let g = p.sweep.denominator in
    let all = tracks p.cells p.horizon in
    let n = p.horizon - length r - 1 in
    let more : length (r ++ a ∷ []) ≡ length r + 1 = length-append r (a ∷ []) in
    let later : List ℕ → ℕ = λ x. weight_of p x * miss_of p (r ++ a ∷ []) x in
    let found : List ℕ → ℕ = λ x. weight_of p x * factors_along p 1 r x * (g - factor_of p.sweep (length r + 1) a (cell_in x (length r + 1))) * g ^ n in
    let each = sum_tracks-same p.cells p.horizon (λ x. weight_of p x * miss_of p r x) (λ x. later x + found x) (λ x size.
    let f = factor_of p.sweep (length r + 1) a (cell_in x (length r + 1)) in
    let least : f ≤ g = factor_of-le p.sweep sound.sweep (length r + 1) a (cell_in x (length r + 1)) in
    let left : length x - length r ≡ suc n = omega (arith, size, short) in
    let left_then : length x - length (r ++ a ∷ []) ≡ n = omega (arith, size, short, more) in
    let before : miss_of p r x ≡ factors_along p 1 r x * (g * g ^ n) = miss_of-front p r x (omega (arith, size, short)) ∙ rw (left, pow-suc g n) (omega arith) in
    let after : miss_of p (r ++ a ∷ []) x ≡ factors_along p 1 r x * f * g ^ n =
    miss_of-front p (r ++ a ∷ []) x (omega (arith, size, short, more)) ∙ rw (left_then, factors_more p r x a (omega (arith, size, short))) refl in
    rw (before, after) (apart (weight_of p x) (factors_along p 1 r x) f (g - f) (g ^ n) g (omega (arith, least)))) in
    omega (arith, each, sum_by-plus later found all, nothing_is_cut_off p r sound, nothing_is_cut_off p (r ++ a ∷ []) sound)

-- prefix r has the looks of q, and behind them the recent ones
record GoesOn (p : Problem) (q recent r : List ℕ) : Type 0 where
  size : length r ≡ length q + length recent
  factors : (x : List ℕ) → length x ≡ p.horizon → factors_along p 1 r x ≡ factors_along p 1 q x * factors_before p (length r + 1) recent x

-- nothing is recent right behind the prefix
goes_on-none : (p : Problem) (q : List ℕ) → GoesOn p q [] q
unfolding factors_before
goes_on-none p q = record { size = omega arith; factors = λ x _. omega arith }

-- and one look more is
goes_on-more : (p : Problem) (q recent r : List ℕ) (a : ℕ) → length r < p.horizon → GoesOn p q recent r → GoesOn p q (a ∷ recent) (r ++ a ∷ [])
unfolding factors_before
goes_on-more p q recent r a short on =
    let more : length (r ++ a ∷ []) ≡ length r + 1 = length-append r (a ∷ []) in
    let back : length r + 1 + 1 - 1 ≡ length r + 1 = omega arith in
    record {
      size = omega (arith, more, on.size);
      factors = λ x long. factors_more p r x a (omega (arith, long, short)) ∙ rw (on.factors x long, more, back) (omega arith);
    }

-- the reward of a look that remembers all looks is that of the longer prefix
reward_after-all : (p : Problem) (q recent r : List ℕ) (b : ℕ) → GoesOn p q recent r → reward_after p q recent (length r + 1) b ≡ reward_of p r (length r + 1) b
unfolding reward_after reward_of
reward_after-all p q recent r b on =
    let rest : p.horizon - length q - length recent - 1 ≡ p.horizon - length r - 1 = omega (arith, on.size) in
    sum_tracks-same p.cells p.horizon _ _ (λ x long. rw (rest, on.factors x long) (omega arith))

-- looks that remember all looks count what they find
value-remembering : (p : Problem) → IsProblem p → (m : ℕ) (q recent r y : List ℕ) → GoesOn p q recent r → length r + length y ≤ p.horizon → length recent + length y ≤ m →
    value_of p (r ++ y) ≡ value_of p r + sum_remembering p m q recent (length r + 1) y
unfolding sum_remembering
value-remembering p sound m q recent r [] on short far = ap (value_of p) (append-nil r) ∙ omega arith
value-remembering p sound m q recent r (b ∷ y) on short far =
    let next = r ++ b ∷ [] in
    let more : length (r ++ b ∷ []) ≡ length r + 1 = length-append r (b ∷ []) in
    let later = value-remembering p sound m q (b ∷ recent) next y (goes_on-more p q recent r b (omega (arith, short)) on) (omega (arith, short, more)) (omega (arith, far)) in
    let here : reward_after p q (take m recent) (length r + 1) b ≡ reward_of p r (length r + 1) b =
    ap (λ (l : List ℕ). reward_after p q l (length r + 1) b) (take_all m recent (omega (arith, far))) ∙ reward_after-all p q recent r b on in
    let moved = rw more at later in
    ap (value_of p) (sym (append_assoc r (b ∷ []) y)) ∙ moved ∙ omega (arith, value-more p sound r b (omega (arith, short)), here)

-- what a continuation finds is its sum with a memory of all its looks
pub value-all : (p : Problem) → IsProblem p → (m : ℕ) (q y : List ℕ) → length q + length y ≤ p.horizon → length y ≤ m →
    value_of p (q ++ y) ≡ value_of p q + sum_remembering p m q [] (length q + 1) y
value-all p sound m q y short far = value-remembering p sound m q [] q y (goes_on-none p q) short (omega (arith, far))

-- and no more than that with any memory
pub value-within : (p : Problem) → IsProblem p → (m : ℕ) (q y : List ℕ) → length q + length y ≤ p.horizon →
    value_of p (q ++ y) ≤ value_of p q + sum_remembering p m q [] (length q + 1) y
value-within p sound m q y short =
    omega (arith, value-all p sound (m + length y) q y short (omega arith), sum_remembering-le p sound m (m + length y) (omega arith) q [] (length q + 1) y (omega (arith, short)))
