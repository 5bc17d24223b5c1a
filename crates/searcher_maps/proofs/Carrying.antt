-- The best path of a problem whose paths stand for those of another that have a property.
use Rattle.std.proofs.Common.{ℕ, ◌≡◌, List, [], ◌∷◌, map, refl, sym, ap, subst, ◌∙◌, IsTrue}
use Rattle.std.proofs.lemmas.List.{length-map}
use Rattle.std.proofs.lemmas.List.Elements.{All-head}
use Rattle.search_model.specs.Problem.{Problem, IsProblem}
use Rattle.search_model.specs.Legal.{Follows, IsPath}
use Rattle.search_model.specs.Order.{smaller, better, standing_of, IsBest}
use Rattle.searcher_maps.specs.Stands.{StandsFor}
use Rattle.searcher_maps.specs.Carried.{IsBestAmong, IsToldBy, IsCarried}
use Rattle.searcher_maps.specs.Laws.{BestIsTold, BestIsCarried}
use Rattle.searcher_maps.proofs.Following.{team_follows}
use Rattle.searcher_maps.proofs.Finding.{path_within, value_of_one}

module _ (p q : Problem) (h : ℕ → ℕ) (other : IsProblem q) (stands : StandsFor p q (h ∷ [])) where
  -- a path stands for a path
  pub path_of_one : h q.start ≡ p.start → (z : List ℕ) → IsPath q z → IsPath p (map h z)
  path_of_one start z path =
      let all = team_follows p q (h ∷ []) other stands q.start z other.start path.follows in
      let follows : Follows p.moves (h q.start) (map h z) = All-head (λ h. Follows p.moves (h q.start) (map h z)) h [] all in
      record { follows = subst (λ a. Follows p.moves a (map h z)) start follows; whole = rw length-map (path.whole ∙ stands.target.horizon) }

  -- paths are compared as those that they stand for
  pub better_of_one : (z r : List ℕ) → IsPath q z → IsPath q r → smaller (map h z) (map h r) ≡ smaller z r → better (standing_of p (map h z)) (standing_of p (map h r)) ≡ better (standing_of q z) (standing_of q r)
  better_of_one z r path second order =
      let this = value_of_one p q h stands z (path_within q other z path) in
      let that = value_of_one p q h stands r (path_within q other r second) in
      rw (this, that, order) refl

  -- the best path stands for the best among the paths that have the property
  pub best_is_carried_with : (X : List ℕ → Type 0) → IsCarried p q h X → (z : List ℕ) → IsBest q z → IsBestAmong p X (map h z)
  best_is_carried_with X carried z best = record {
    path = path_of_one carried.start z best.path;
    has = carried.has z best.path;
    better = λ r path has differ.
        let (w, second, e) = carried.back r path has in
        let apart = best.better w second (λ same. differ (sym e ∙ ap (map h) same)) in
        subst (λ y. IsTrue (better (standing_of p (map h z)) (standing_of p y))) e (better_of_one z w best.path second (carried.order z w best.path second) ∙ apart);
  }

pub best_is_told : BestIsTold
best_is_told p q h sound other stands start order z best =
    best_is_carried_with p q h other stands (IsToldBy q h) (record { start = start; has = λ z path. (z, path, refl); back = λ y path told. told; order = order }) z best

pub best_is_carried : BestIsCarried
best_is_carried p q h front sound other stands carried z best = best_is_carried_with p q h other stands _ carried z best
