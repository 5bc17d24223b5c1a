-- The walks below a prefix of a path, over a table of gains.
use Rattle.std.proofs.Common.{ℕ, ◌+◌, ◌*◌, ◌-◌, ◌<◌, ◌≤◌, ◌≡◌, List, ◌++◌, length, take, drop, refl, sym, ap, ◌∙◌, arith, subst, length-drop}
use Rattle.std.proofs.lemmas.List.{take-append-drop}
use Rattle.search_model.specs.Problem.{Problem, IsProblem}
use Rattle.search_model.specs.Legal.{last_of, Follows, IsLegal, IsPath}
use Rattle.search_model.specs.Bounds.{sum_along, gain_of}
use Rattle.search_model.proofs.LegalLemmas.{last_within}
use Rattle.search_model.proofs.WalkLemmas.{walk_listed, follows-append}
use Rattle.longest_walk.specs.Sums.{entry_at, highest_sum}
use Rattle.search_model.specs.Reference.{greatest_sum}
use Rattle.search_model.proofs.LeastBest.{sum_along-below}
use Rattle.longest_walk.proofs.Highest.{highest_above, highest_below}
use Rattle.longest_walk.proofs.NearEntries.{along_near}
use Rattle.tangent_bound.specs.Gains.{AreGains}
use Rattle.tangent_bound.proofs.Found.{gain-le}
use Rattle.tangent_bound.proofs.Sizes.{most_of}

-- a prefix with periods left, a reference path that begins with it, and the gains of the periods after it
pub record IsTable (p : Problem) (rate : ℕ) (q x gains : List ℕ) : Type 0 where
  pub sound : IsProblem p
  pub prefix : IsLegal p q
  pub more : length q < p.horizon
  pub path : IsPath p x
  pub begins : take (length q) x ≡ q
  pub are : AreGains p rate x (last_of p.start q) (length q) p.horizon gains

module _ {p : Problem} {rate : ℕ} {q x gains : List ℕ} (table : IsTable p rate q x gains) where
  positions : length p.moves ≡ p.positions
  positions = table.sound.grid_positions

  -- the last position of the prefix is one
  pub last_inside : last_of p.start q < length p.moves
  last_inside = last_within p.moves table.sound.grid p.start (omega (arith, table.sound.start, table.sound.grid_positions)) q table.prefix.follows

  -- the rest of the reference goes on from the prefix
  rest_follows : Follows p.moves (last_of p.start q) (drop (length q) x)
  rest_follows =
      let whole : q ++ drop (length q) x ≡ x = ap (λ (y : List ℕ). y ++ drop (length q) x) (sym table.begins) ∙ take-append-drop (length q) x in
      ((follows-append p.moves p.start q (drop (length q) x)).0 (subst (Follows p.moves p.start) (sym whole) table.path.follows)).1

  rest_long : length (drop (length q) x) ≡ p.horizon - length q
  rest_long = omega (arith, length-drop (length q) x, table.path.whole)

  -- so its gains sum to no more than the greatest sum
  pub rest_below : sum_along (gain_of p rate x) (length q + 1) (drop (length q) x) ≤ greatest_sum p.moves (gain_of p rate x) (p.horizon - length q) (length q + 1) (last_of p.start q)
  rest_below = sum_along-below p.moves (gain_of p rate x) (p.horizon - length q) (length q + 1) (last_of p.start q) (drop (length q) x) (walk_listed p.moves (p.horizon - length q) (last_of p.start q) (drop (length q) x) rest_follows rest_long)

  -- the highest gains are bounded
  pub highest_bounded : highest_sum p.positions (gain_of p rate x) (p.horizon - length q) (length q + 1) ≤ (p.horizon - length q) * most_of p
  highest_bounded =
      highest_below p.positions (most_of p) (gain_of p rate x) (p.horizon - length q) (length q + 1)
      (λ u a from to here. gain-le p table.sound x table.path u (omega (arith, from)) (omega (arith, to, table.more)) a rate)

  -- so is the greatest sum
  pub greatest_bounded : greatest_sum p.moves (gain_of p rate x) (p.horizon - length q) (length q + 1) (last_of p.start q) ≤ (p.horizon - length q) * most_of p
  greatest_bounded =
      omega (arith, rw positions at (highest_above p.moves (gain_of p rate x) (p.horizon - length q) (length q + 1) (last_of p.start q) table.sound.grid last_inside), highest_bounded)

  -- the numbers along the rest of the reference are its gains
  pub rest_is : sum_along (entry_at p.positions gains) (length q + 1) (drop (length q) x) ≡ sum_along (gain_of p rate x) (length q + 1) (drop (length q) x)
  rest_is =
      let none : length q + 1 - 1 - length q ≡ 0 = omega arith in
      along_near p.moves (entry_at p.positions gains) (gain_of p rate x) (last_of p.start q) (length q) (length q + 1) (last_of p.start q) (drop (length q) x) (omega arith) (rw none refl) rest_follows
      (λ u a from to near. table.are u a (omega (arith, from)) (omega (arith, to, rest_long, table.more)) near)
