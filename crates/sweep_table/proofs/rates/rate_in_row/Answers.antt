use Rattle.std.proofs.Common.{ap, map, arith}
use Rattle.std.proofs.lemmas.List.{drop_all}
use Rattle.sweep_table.proofs.OneRate.{row_more, row_none, stands_last}
use Rattle.sweep_table.proofs.rates.rate_in_row.Goals as goal

pub returns-in_err-rate : goal.returns-in_err-rate
returns-in_err-rate c = rw c.from_residual.ensures (row_none _ _ _ _ c.args.row.now c.loop-entry.entry-index _ (omega arith) c.loop-entry.invariant c.in_err-rate.ensures)

pub loop-entry-preserved : goal.loop-entry-preserved
loop-entry-preserved c = row_more _ _ _ _ c.args.row.now c.loop-entry.entry-index _ (omega arith) _ c.loop-entry.invariant c.in_ok-rate.ensures

pub returns : goal.returns
returns c = stands_last _ _ _ _ _ (ap (map (λ entry. entry.part)) (drop_all c.loop-entry.entry-index c.args.row.now (omega arith))) c.loop-entry.invariant
