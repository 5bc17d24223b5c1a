use Rattle.std.proofs.Common.{sym, arith}
use Rattle.std.proofs.lemmas.List.{take_all, length-take-le}
use Rattle.tree_format.proofs.pieces.front.Goals as goal

pub slice_bounds-result-end : goal.slice_bounds-result-end
slice_bounds-result-end c = sym (length-take-le 40 c.args.field.now (omega (arith, c.if-field-gt-MOST_BYTES.true)))

pub returns-else-field-gt-MOST_BYTES : goal.returns-else-field-gt-MOST_BYTES
returns-else-field-gt-MOST_BYTES c = sym (take_all 40 c.args.field.now c.if-field-gt-MOST_BYTES.false)
