-- What is brought in of all desks, desk by desk.
use Rattle.std.proofs.Common.{◌≡◌, ℕ, List, [], ◌∷◌, ◌++◌, map, sym, ap, ◌∙◌, subst, inr, flat_map, append_assoc, if◌then◌else◌}
use Rattle.std.proofs.lemmas.Bool.{cond_both}
use Rattle.std.proofs.lemmas.List.{map_push}
use Rattle.std.proofs.lemmas.List.Elements.{All-push, All-weaker, Contains-append_left}
use Rattle.search_model.specs.declared.standing.Standing.{Standing}
use Rattle.search_model.specs.Order.{better}
use Rattle.list_laws.proofs.Changed.{flat_map-push}
use Rattle.list_laws.proofs.Wholes.{Contains-last}
use Rattle.bound_tree.specs.Close.{IsAtLeast}
use Rattle.bound_tree.proofs.Closing.{at_least_itself, at_least_trans, at_least_from}
use Rattle.tree_gather.specs.Hauls.{IsBestOf}
use Rattle.search_workers.specs.declared.desk.Desk.{Desk}
use Rattle.search_workers.specs.Desks.{DeskView}
use Rattle.search_workers.specs.Seen.{desk_view}
use Rattle.search_workers.specs.Settled.{waiting_at, lasts_at}

-- what all desks have, and one more
pub flat_more : {X : Type 0} (f : DeskView → List X) (ds : List Desk) (d : Desk) → flat_map f (map desk_view (ds ++ d ∷ [])) ≡ flat_map f (map desk_view ds) ++ f (desk_view d)
flat_more f ds d = ap (flat_map f) (map_push (λ (d : Desk). desk_view d) ds d) ∙ flat_map-push f (map desk_view ds) (desk_view d)

pub map_more : {X : Type 0} (f : DeskView → X) (ds : List Desk) (d : Desk) → map f (map desk_view (ds ++ d ∷ [])) ≡ map f (map desk_view ds) ++ f (desk_view d) ∷ []
map_more f ds d = ap (map f) (map_push (λ (d : Desk). desk_view d) ds d) ∙ map_push f (map desk_view ds) (desk_view d)

-- of the best of some standings and one more the better is the best of all
best_push : (ss : List Standing) (s t : Standing) → IsBestOf ss s → IsBestOf (ss ++ t ∷ []) (if better t s then t else s)
best_push ss s t b =
    cond_both (better t s) t s (IsBestOf (ss ++ t ∷ []))
    (λ more. let above : IsAtLeast t s = inr more in record {
      known = Contains-last ss t;
      best = All-push (IsAtLeast t) ss t (All-weaker (IsAtLeast s) (IsAtLeast t) (λ u h. at_least_trans t s u above h) ss b.best) (at_least_itself t);
    })
    (λ none. record {
      known = Contains-append_left ss (t ∷ []) s b.known;
      best = All-push (IsAtLeast s) ss t b.best (at_least_from s t none);
    })

pub best_more : (first : Standing) (ds : List Desk) (d : Desk) (s new : Standing) → IsBestOf (lasts_at first (map desk_view ds)) s →
    new ≡ (let t : Standing = if better (desk_view d).last s then (desk_view d).last else s in t) → IsBestOf (lasts_at first (map desk_view (ds ++ d ∷ []))) new
best_more first ds d s new b is =
    let last : DeskView → Standing = λ d. d.last in
    let t : Standing = (desk_view d).last in
    let all : lasts_at first (map desk_view ds) ++ t ∷ [] ≡ lasts_at first (map desk_view (ds ++ d ∷ [])) = ap (λ (ss : List Standing). first ∷ ss) (sym (map_more last ds d)) in
    subst (IsBestOf (lasts_at first (map desk_view (ds ++ d ∷ [])))) (sym is)
    (subst (λ (ss : List Standing). IsBestOf ss (if better t s then t else s)) all (best_push (lasts_at first (map desk_view ds)) s t b))

pub grown : {X : Type 0} (old new part whole more : List X) → new ≡ old ++ part → old ≡ whole → more ≡ whole ++ part → new ≡ more
grown {X} old new part whole more added so_far all = added ∙ ap (λ (xs : List X). xs ++ part) so_far ∙ sym all

pub waiting_more : (tasks : List (List ℕ)) (ds : List Desk) (d : Desk) → waiting_at tasks (map desk_view (ds ++ d ∷ [])) ≡ waiting_at tasks (map desk_view ds) ++ (desk_view d).waiting
waiting_more tasks ds d =
    let waiting : DeskView → List (List ℕ) = λ d. d.waiting in
    ap (λ (qs : List (List ℕ)). tasks ++ qs) (flat_more waiting ds d) ∙ sym (append_assoc tasks (flat_map waiting (map desk_view ds)) (desk_view d).waiting)
