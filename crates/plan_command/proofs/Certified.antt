-- A plan that the search gives from the opening is certified.
use Rattle.std.proofs.Common.{ℕ, ◌≡◌, Err, ap, subst}
use Rattle.search_model.specs.declared.standing.Standing.{Standing}
use Rattle.search_model.specs.Problem.{Problem}
use Rattle.search_model.specs.Tracks.{value_of}
use Rattle.search_model.specs.Order.{IsBest, standing_of}
use Rattle.search_model.specs.Opening.{IsOpening}
use Rattle.bound_tree.specs.declared.plan.Plan.{Plan}
use Rattle.bound_tree.specs.Accepts.{Accepts}
use Rattle.bound_tree.specs.Close.{IsExact, LetsBranch, HasMoreLive}
use Rattle.search_workers.specs.declared.answer.Partial.{Partial}
use Rattle.search_workers.specs.declared.answer.SearchStop.{SearchStop}
use Rattle.search_workers.specs.declared.answer.SearchStop.TheVariants.{Full}
use Rattle.search_workers.specs.Search.{IfFull}
use Rattle.plan_command.specs.Plans.{IsCertified}

-- an opening's standing is the path with its value
pub opening_standing : (p : Problem) (s : Standing) → s.value ≡ value_of p s.path → s ≡ standing_of p s.path
opening_standing p s value = ap (λ (n : ℕ). let t : Standing = record { path = s.path; value = n } in t) value

pub opening_exact : (p : Problem) (s : Standing) → IsOpening p s.path → s.value ≡ value_of p s.path → IsExact p s
opening_exact p s opening value = record { path = opening.path; value = value }

pub searched_certified : (p : Problem) (s : Standing) (plan : Plan) → IsOpening p s.path → s.value ≡ value_of p s.path → IsBest p plan.standing.path → Accepts p plan → LetsBranch p s plan.tree → IsCertified p plan
searched_certified p s plan opening value best accepts branches = record {
  best = best;
  accepted = accepts;
  opening = s.path;
  is_opening = opening;
  branches = subst (λ t. LetsBranch p t plan.tree) (opening_standing p s value) branches;
}

pub more_live : (p : Problem) (s : Standing) (limit : ℕ) → s.value ≡ value_of p s.path → HasMoreLive p s limit → HasMoreLive p (standing_of p s.path) limit
more_live p s limit value more = subst (λ t. HasMoreLive p t limit) (opening_standing p s value) more

-- what is told of a search that was full
pub told_full : (stop : SearchStop) (part : Partial) → stop ≡ Full part → (fact : Partial → Type 0) → IfFull (Err stop) fact → fact part
told_full stop part is fact told = subst (λ s. IfFull (Err s) fact) is told
