use Rattle.std.proofs.Common.{ℕ, ◌≡◌, ◌+◌, ◌-◌, List, ◌++◌, length, drop, sym, ap, subst, ◌∙◌}
use Rattle.std.proofs.Math.Seq.{drop-append_seam}
use Rattle.search_model.specs.Legal.{last_of}
use Rattle.search_model.specs.Bounds.{reward_of}
use Rattle.search_model.specs.Reference.{IsLeastBest}
use Rattle.longest_walk.specs.Tables.{Tables, IsFilledNear}
use Rattle.mean_bound.proofs.mean.Mean.reference.Goals as goal

-- tables that are the same are filled the same
moved : (w v : Tables) (rows grid : List (List ℕ)) (r : ℕ → ℕ → ℕ) (from k : ℕ) → w ≡ v → grid ≡ rows → IsFilledNear v rows r from k → IsFilledNear w grid r w.from k
moved w v rows grid r from k same are filled =
    let start : w.from ≡ from = ap (λ (u : Tables). u.from) same ∙ filled.start in
    subst (λ (a : ℕ). IsFilledNear w grid r a k) (sym start)
    (subst (λ (g : List (List ℕ)). IsFilledNear w g r from k) (sym are) (subst (λ (u : Tables). IsFilledNear u rows r from k) (sym same) filled))

pub least_near-requires-clause-filled : goal.least_near-requires-clause-filled
least_near-requires-clause-filled c =
    let p = c.args.sc.now in
    let q = c.args.to.now in
    (reward_of p q, moved c.self.inside.walk c.args.self.now.walk p.moves c.grid.result.now (reward_of p q) (last_of p.start q) (length q) (ap (λ m. m.walk) c.self.view_is) c.grid.ensures.value c.requires.filled.walked)

pub returns : goal.returns
returns c =
    let p = c.args.sc.now in
    let q = c.args.to.now in
    let filled = c.requires.filled in
    let from = last_of p.start q in
    let rest = c.least_near.ensures.kept.0 in
    let whole : c.least_near.new.to ≡ q ++ rest = c.least_near.ensures.kept.1 in
    let added : drop (length q) c.least_near.new.to ≡ rest = ap (drop (length q)) whole ∙ drop-append_seam q rest in
    let horizon : c.self.inside.walk.horizon ≡ p.horizon = ap (λ m. m.walk.horizon) c.self.view_is ∙ c.requires.made.horizon in
    let start : c.self.inside.walk.from ≡ from = ap (λ m. m.walk.from) c.self.view_is ∙ filled.walked.start in
    let walked = moved c.self.inside.walk c.args.self.now.walk p.moves c.grid.result.now (reward_of p q) from (length q) (ap (λ m. m.walk) c.self.view_is) c.grid.ensures.value filled.walked in
    let least : IsLeastBest p.moves (reward_of p q) (p.horizon - length q) (length q + 1) from rest =
    rw (c.grid.ensures.value, horizon, start, added) at (c.least_near.ensures.least (reward_of p q) walked) in
    (rest, whole, least)
