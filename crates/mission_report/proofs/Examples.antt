-- The reports and maps of small problems, by computing.
use Rattle.std.proofs.Common.{refl}
use Rattle.std.specs.Fmt.{digits}
use Rattle.drift_chain.specs.DriftRows.{row_of, part_in}
use Rattle.sweep_table.specs.LookParts.{look_row, factor_in, factor_of}
use Rattle.search_model.specs.Tracks.{tracks, steps_product, weight_of, miss_from, missed_weight}
use Rattle.serde_json.proofs.OnLiterals.{serde_json_on_literals}
use Rattle.mission_report.specs.Account.{mass_in}
use Rattle.mission_report.specs.Report.{report_text}
use Rattle.mission_report.specs.Json.{report_json}
use Rattle.mission_report.specs.Map.{map_text}
use Rattle.mission_report.specs.Worked.{WorkedReport, WorkedWaiting, WorkedMap}

pub worked_report : WorkedReport
unfolding digits row_of part_in look_row factor_in factor_of tracks steps_product weight_of miss_from missed_weight serde_json_on_literals mass_in report_text report_json
worked_report = record { values = refl; left = refl; text = refl; json = refl }

pub worked_waiting : WorkedWaiting
unfolding row_of part_in look_row factor_in factor_of tracks steps_product weight_of miss_from missed_weight mass_in
worked_waiting = record { values = refl; left = refl }

pub worked_map : WorkedMap
unfolding digits row_of part_in look_row factor_in factor_of tracks steps_product weight_of miss_from mass_in map_text
worked_map = record { one = refl; two = refl }
