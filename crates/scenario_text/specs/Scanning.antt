-- What was seen of the pairs of a line, while they are read one after the other.
use Rattle.std.specs.Prelude.{ℕ, ◌≡◌, ◌||◌, ◌==◌, false, List, [], ◌∷◌, ◌++◌, map, is_none}
use Rattle.std.specs.List.{list_any}
use Rattle.period_rows.specs.declared.part.CellPart.{CellPart}
use Rattle.scenario_text.specs.declared.pair.Pair.{Pair}
use Rattle.scenario_text.specs.declared.pairs.Scan.{Scan}
use Rattle.scenario_text.specs.Fields.{is_bad, is_over}
use Rattle.scenario_text.specs.ByCells.{has_double, entries_of}

-- the pairs so far, whose parts are so much at least: a double is told where nothing else is wrong, and the entries where nothing is
pub record HasSeen (least : ℕ) (done : List Pair) (scan : Scan) : Type 0 where
  pub bad : scan.bad ≡ list_any (λ x. is_bad least x.part) done
  pub over : scan.over ≡ list_any (λ x. is_over x.part) done
  pub unknown : scan.unknown ≡ list_any (λ x. is_none x.cell) done
  pub double : scan.bad ≡ false → scan.over ≡ false → scan.unknown ≡ false → scan.double ≡ has_double (map (λ x. x.cell) done)
  pub entries : scan.bad ≡ false → scan.over ≡ false → scan.unknown ≡ false → scan.double ≡ false → scan.entries.items ≡ entries_of done

-- what is wrong with a pair by itself was marked
pub record IsMarked (least : ℕ) (old : Scan) (pair : Pair) (new : Scan) : Type 0 where
  pub bad : new.bad ≡ (old.bad || is_bad least pair.part)
  pub over : new.over ≡ (old.over || is_over pair.part)
  pub unknown : new.unknown ≡ (old.unknown || is_none pair.cell)
  pub double : new.double ≡ old.double
  pub entries : new.entries ≡ old.entries

-- an entry was added, unless its cell stands in an entry already
pub record IsAdded (old : Scan) (entry : CellPart) (new : Scan) : Type 0 where
  pub bad : new.bad ≡ old.bad
  pub over : new.over ≡ old.over
  pub unknown : new.unknown ≡ old.unknown
  pub double : new.double ≡ list_any (λ e. e.cell == entry.cell) old.entries.items
  pub entries : new.double ≡ false → new.entries.items ≡ old.entries.items ++ entry ∷ []
