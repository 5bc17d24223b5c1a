-- What a look covers, in either form.
use Rattle.std.specs.Prelude.{List}
use Rattle.period_rows.specs.declared.part.CellPart.{CellPart}
use Rattle.sweep_table.specs.declared.look.Covers.{Covers}
use Rattle.sweep_table.specs.declared.look.Covers.TheVariants.{One, Row}

abbrev pub parts_in : Covers → List CellPart
parts_in (One part) = part
parts_in (Row row) = row.now
