use Rattle.std.proofs.Common.{rules, ◌<◌, All, arith}
use Rattle.drift_chain.proofs.Parts.{length-le_cells}
use Rattle.drift_chain.proofs.faults.row_fault.Goals as goal

pub sums_to-requires : goal.sums_to-requires
sums_to-requires c =
    let within : All (λ entry. entry.cell < c.args.cells) c.args.row.now = search rules in
    omega (arith, length-le_cells c.args.cells c.args.row.now within c.if-has_double.ensures)
