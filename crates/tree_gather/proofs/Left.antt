-- The tasks that are left when all have stopped, and what waits then.
use Rattle.std.proofs.Common.{◌≡◌, ℕ, ◌+◌, List, [], ◌∷◌, ◌++◌, refl, arith, All, flat_map}
use Rattle.std.proofs.lemmas.List.Elements.{All-cons, All-head}
use Rattle.search_model.specs.declared.standing.Standing.{Standing}
use Rattle.search_model.specs.Problem.{Problem}
use Rattle.search_core.specs.Counts.{count_of, SameItems}
use Rattle.search_core.proofs.Counts.{count_of-append}
use Rattle.tree_gather.specs.Hauls.{Haul, IsHaulBalanced, AreAllHauls, idle_haul}
use Rattle.tree_gather.proofs.Hauls.{three_lists}

-- where the workers began with the empty prefix, these are all hauls, if the tasks left wait with somebody
pub tasks_wait : (p : Problem) (last : Standing) (tasks : List (List ℕ)) (hs : List Haul) → All (IsHaulBalanced p) hs →
    SameItems (flat_map (λ h. h.began) hs) ([] ∷ []) →
    SameItems (flat_map (λ h. h.put) hs) (flat_map (λ h. h.taken) hs ++ tasks) →
    AreAllHauls p tasks (idle_haul last tasks ∷ hs)
tasks_wait p last tasks hs balanced began put =
    let others : List (List ℕ) = flat_map (λ (h : Haul). h.began) hs in
    let one : (q : List ℕ) → count_of q ([] ∷ tasks) ≡ count_of q ([] ∷ []) + count_of q tasks = λ q. omega arith in
    record {
      balanced = All-cons (IsHaulBalanced p) (idle_haul last tasks) hs
          (record { same = λ q. omega (arith, three_lists q tasks [] [], three_lists q [] tasks []) })
          balanced;
      began = λ q. omega (arith, began q, one q, count_of-append q tasks others);
      put = put;
    }

-- where all that waits is legal, and nothing legal waits, nothing waits
pub nothing_waits : (P : List ℕ → Type 0) (qs : List (List ℕ)) → All P qs → All (λ q. ¬ P q) qs → qs ≡ []
nothing_waits P [] all none = refl
nothing_waits P (q ∷ qs) all none = absurd (All-head (λ q. ¬ P q) q qs none (All-head P q qs all))
