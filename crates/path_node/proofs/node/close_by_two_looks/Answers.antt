use Rattle.std.proofs.Common.{◌+◌, ◌∙◌, inl, inr, sym, ap, arith, IsFalse}
use Rattle.std.proofs.lemmas.Bool.{cases_lt}
use Rattle.search_model.specs.Memory.{remembering_of}
use Rattle.search_model.proofs.Totals.{whole_weight-fits}
use Rattle.bound_tree.specs.Cut.{is_cut}
use Rattle.bound_tree.proofs.Tangents.{reference_extends}
use Rattle.path_node.proofs.Cutting.{cut-within, above-open}
use Rattle.mean_bound.specs.Means.{IsMadeFor as IsMeanFor, IsAlong}
use Rattle.path_node.specs.Room.{NodeTables}
use Rattle.path_node.proofs.node.close_by_two_looks.Goals as goal

pub overflow_add-enough : goal.overflow_add-enough
overflow_add-enough c = omega (arith, c.requires.exact.value, whole_weight-fits c.args.sc.now c.recall_sound.ensures)

pub bound_or_enough-bound-requires-clause-path : goal.bound_or_enough-bound-requires-clause-path
bound_or_enough-bound-requires-clause-path c = (reference_extends c.args.sc.now c.args.prefix.now c.recall_sound.ensures c.requires.legal c.args.reference.now c.requires.reference).path
