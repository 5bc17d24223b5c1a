-- What looks take of each other where they cover their own cells alone.
use Rattle.std.proofs.Common.{ℕ, ◌+◌, ◌*◌, ◌-◌, ◌≤◌, ◌≡◌, List, refl, ◌∙◌, arith}
use Rattle.exact_parts.proofs.Widths.{le-times}
use Rattle.drift_chain.specs.DriftRows.{part_of}
use Rattle.search_model.specs.Problem.{Problem, IsProblem}
use Rattle.search_model.specs.Tracks.{whole_weight}
use Rattle.search_model.proofs.LookRows.{sum_own}
use Rattle.belief_update.specs.Flows.{IsOwn}
use Rattle.belief_update.specs.Masses.{mass_of, looks_to}
use Rattle.belief_update.specs.Found.{found_in, found_of}
use Rattle.edge_bound.specs.Found.{one_of}
use Rattle.edge_bound.specs.After.{going_on}
use Rattle.edge_bound.proofs.Through.{found-same, found-times}
use Rattle.two_look_bound.specs.Pairs.{IsMiddle}
use Rattle.two_look_bound.specs.Taken.{two_of, taken_to, share_of, less_of, skip_of, joint_of}
use Rattle.two_look_bound.proofs.Fitting.{before-within}

-- what a look that covers its own cell alone finds of masses
found_own : (p : Problem) → IsProblem p → (t a : ℕ) (owned : IsOwn p a) (f : ℕ → ℕ) → found_of p t a f ≡ f a * (p.sweep.denominator - owned.0)
found_own p sound t a (part, own) f = sum_own p sound t a p.sweep refl part own (found_in p f)

module _ (p : Problem) (sound : IsProblem p) (q : List ℕ) (s a : ℕ) (owned : IsOwn p a) where
  -- what it would find with a look two periods later
  pub skip_owned : (c : ℕ) → share_of p q s a * p.sweep.denominator * two_of p s a c ≡ skip_of p q s a c
  skip_owned c =
      let m : ℕ → ℕ = mass_of p (looks_to (s - 1) q) in
      let found = found_own p sound (s - 1) a owned m in
      let both = found_own p sound (s - 1) a owned (λ d. m d * two_of p s d c) in
      rw (found, both) (omega arith)

  -- and with the next one
  pub less_owned : (b : ℕ) → share_of p q s a * one_of p s a b ≡ less_of p q s a b
  less_owned b =
      let left = p.sweep.denominator - owned.0 in
      let m : ℕ → ℕ = mass_of p (looks_to (s - 1) q) in
      let part : ℕ → ℕ = part_of p.drift (s - 1) a in
      let taken : found_of p s b (taken_to p q s a) ≡ one_of p s a b * (m a * left) =
      found-same p s b (taken_to p q s a) (λ e. part e * (m a * left)) (λ e. found_own p sound (s - 1) a owned (going_on p q s e) ∙ omega arith)
      ∙ found-times p s b part (m a * left) in
      rw (found_own p sound (s - 1) a owned m, taken) (omega arith)

-- where the second of three looks covers its own cell alone, what they would find one after the other
pub joint_owned : (p : Problem) → IsProblem p → (q : List ℕ) (s a b c : ℕ) → IsOwn p b → less_of p q s a b * one_of p (s + 1) b c ≡ joint_of p q s a b c
joint_owned p sound q s a b c owned =
    let found = found_own p sound s b owned (taken_to p q s a) in
    let all = found_own p sound s b owned (λ e. taken_to p q s a e * one_of p (s + 1) e c) in
    rw (found, all) (omega arith)

-- what it finds, times the denominator of looks, fits
pub share_whole-within : (p : Problem) → IsProblem p → (q : List ℕ) (s a : ℕ) → IsMiddle p q s → share_of p q s a * p.sweep.denominator ≤ whole_weight p
share_whole-within p sound q s a middle =
    omega (arith, le-times (share_of p q s a * p.sweep.denominator) p.drift.denominator (omega (arith, sound.drift.denominator)), before-within p sound q s middle a)
