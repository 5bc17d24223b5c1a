use Rattle.std.proofs.Common.{List, ℕ, [], ◌∷◌, map, codes}
use Rattle.exact_parts.proofs.AppendLemmas.{at_refusal}
use Rattle.exact_parts.proofs.Beginnings.{begins_after}
use Rattle.text_rows.proofs.RowSteps.{rows_then}
use Rattle.search_model.specs.Problem.{position_name}
use Rattle.tree_format.specs.Dialects.{version_row}
use Rattle.tree_format.specs.PlanText.{chance_row, ceiling_rows, count_row}
use Rattle.tree_format.proofs.head.push_head.Goals as goal

pub returns-clause-ok : goal.returns-clause-ok
returns-clause-ok c =
    let version = version_row c.args.dialect in
    let path : List (List ℕ) = codes "path" ∷ map (position_name c.args.sc.now) c.args.standing.now.path in
    let chance = chance_row c.args.standing.now.value c.args.weight in
    let above = ceiling_rows c.args.dialect c.args.ceiling in
    let places = rows_then _ _ _ (version ∷ []) (path ∷ []) c.in_ok-push_version.ensures.ok c.in_ok-push_places.ensures.ok in
    let valued = rows_then _ _ _ (version ∷ path ∷ []) (chance ∷ []) places c.in_ok-push_chance.ensures.ok in
    let topped = rows_then _ _ _ (version ∷ path ∷ chance ∷ []) above valued c.in_ok-push_ceiling.ensures.ok in
    rows_then _ _ _ (version ∷ path ∷ chance ∷ above) (count_row c.args.nodes ∷ []) topped c.in_ok-push_row.ensures.ok

pub returns-in_err-push_version-clause-err : goal.returns-in_err-push_version-clause-err
returns-in_err-push_version-clause-err c = at_refusal _ _ c.in_err-push_version.ensures.err

pub returns-in_err-push_places-clause-err : goal.returns-in_err-push_places-clause-err
returns-in_err-push_places-clause-err c = at_refusal _ _ (begins_after _ _ _ _ c.in_ok-push_version.ensures.ok c.in_err-push_places.ensures.err)

pub returns-in_err-push_chance-clause-err : goal.returns-in_err-push_chance-clause-err
returns-in_err-push_chance-clause-err c = at_refusal _ _ (begins_after _ _ _ _ c.in_ok-push_version.ensures.ok (begins_after _ _ _ _ c.in_ok-push_places.ensures.ok c.in_err-push_chance.ensures.err))

pub returns-in_err-push_ceiling-clause-err : goal.returns-in_err-push_ceiling-clause-err
returns-in_err-push_ceiling-clause-err c = at_refusal _ _ (begins_after _ _ _ _ c.in_ok-push_version.ensures.ok (begins_after _ _ _ _ c.in_ok-push_places.ensures.ok (begins_after _ _ _ _ c.in_ok-push_chance.ensures.ok c.in_err-push_ceiling.ensures.err)))

pub returns-in_err-push_row-clause-err : goal.returns-in_err-push_row-clause-err
returns-in_err-push_row-clause-err c = at_refusal _ _ (begins_after _ _ _ _ c.in_ok-push_version.ensures.ok (begins_after _ _ _ _ c.in_ok-push_places.ensures.ok (begins_after _ _ _ _ c.in_ok-push_chance.ensures.ok (begins_after _ _ _ _ c.in_ok-push_ceiling.ensures.ok c.in_err-push_row.ensures.err))))
