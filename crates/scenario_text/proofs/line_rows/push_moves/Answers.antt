use Rattle.std.proofs.Common.{map, ◌∷◌, [], rules}
use Rattle.std.specs.Prelude.{codes}
use Rattle.exact_parts.proofs.AppendLemmas.{at_refusal}
use Rattle.exact_parts.proofs.Beginnings.{begins_after}
use Rattle.search_grid.specs.Moves.{moves_from}
use Rattle.search_model.specs.Names.{name_in}
use Rattle.scenario_text.proofs.LastCalls.{row_last, begins_last}
use Rattle.scenario_text.proofs.line_rows.push_moves.Goals as goal

pub returns-in_err-begin_row-clause-err : goal.returns-in_err-begin_row-clause-err
returns-in_err-begin_row-clause-err c = at_refusal _ _ c.in_err-begin_row.ensures.err

pub returns-in_err-push_names-clause-err : goal.returns-in_err-push_names-clause-err
returns-in_err-push_names-clause-err c = at_refusal _ _ (begins_after _ _ _ _ c.in_ok-begin_row.ensures.ok c.in_err-push_names.ensures.err)

pub returns-clause-ok : goal.returns-clause-ok
returns-clause-ok c =
    row_last c.end_row.result c.args.out.now.items c.begin_row.new.out.items c.push_names.new.out.items c.end_row.new.out.items (codes "moves") (name_in c.args.sc.now.position_names c.args.q ∷ []) (map (name_in c.args.sc.now.position_names) (moves_from c.args.sc.now.moves c.args.q)) (search rules) (search rules) c.end_row.ensures.ok

pub returns-clause-err : goal.returns-clause-err
returns-clause-err c = begins_last c.end_row.result _ _ _ _ c.in_ok-begin_row.ensures.ok (begins_last c.end_row.result _ _ _ _ c.in_ok-push_names.ensures.ok c.end_row.ensures.err)
