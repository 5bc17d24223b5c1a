use Rattle.tree_checker.proofs.Records.{reason_by_records_is, reason_is_plain}
use Rattle.tree_checker.proofs.laws.first_reason_by_records.Goals as goal

pub returns-clause-by_records : goal.returns-clause-by_records
returns-clause-by_records c = reason_by_records_is

pub returns-clause-plain : goal.returns-clause-plain
returns-clause-plain c = reason_is_plain
