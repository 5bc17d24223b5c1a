-- The two forms of a sweep, and what contracts see of them.
use Rattle.std.specs.Prelude.{ℕ, [], map, unwrap_or}
use Rattle.sweep_table.specs.declared.footprints.Footprints.{Footprints as Prints}
use Rattle.sweep_table.specs.declared.table.Looks.{Looks}
use Rattle.sweep_table.specs.declared.table.Looks.TheVariants.{Plain, Footprints}
use Rattle.sweep_table.specs.LookParts.{LookParts, parts_over}

-- footprints over a denominator
abbrev pub prints_seen : ℕ → Prints → LookParts
prints_seen denominator prints = record {
  denominator = denominator;
  cells = prints.cells;
  rows = map (λ row. row.items) prints.rows.items;
  changes = unwrap_or prints.changes [];
}

-- looks over a denominator
abbrev pub seen : ℕ → Looks → LookParts
seen denominator (Plain overlook) = parts_over denominator overlook.items
seen denominator (Footprints prints) = prints_seen denominator prints
