-- A row of entries, written as pairs, is read as those entries.
use Rattle.std.proofs.Common.{◌≡◌, ℕ, ◌*◌, ◌<◌, ◌≤◌, ◌%◌, true, false, List, [], ◌∷◌, map, length, Some, refl, sym, ap, ◌∙◌, arith}
use Rattle.std.specs.Prelude.{All, is_none}
use Rattle.std.specs.List.{list_any}
use Rattle.std.proofs.lemmas.Bool.{le-ltb, le-leb, eq-eqb}
use Rattle.std.proofs.lemmas.List.Elements.{All-head, All-tail}
use Rattle.exact_parts.specs.declared.number.Number.TheVariants.{Of}
use Rattle.exact_parts.proofs.Decimals.{number_at-decimal}
use Rattle.period_rows.specs.declared.part.CellPart.{CellPart}
use Rattle.search_model.specs.Names.{name_in}
use Rattle.scenario_text.specs.declared.pair.Pair.{Pair}
use Rattle.scenario_text.specs.Fields.{cell_named, are_pairs, is_bad, is_over}
use Rattle.scenario_text.specs.ByCells.{pairs_of, entries_of, has_double}
use Rattle.scenario_text.proofs.EntryRows.{AreSaid, parts_any, any_unknown, twice, entries_alike}
use Rattle.scenario_text.specs.RowFields.{entry_fields}

-- what an entry's pair says
abbrev pub said : CellPart → Pair
said e = record { cell = Some e.cell; part = Of e.part }

pairs_of-named : (names : List (List ℕ)) (cells : ℕ) → ((c : ℕ) → c < cells → cell_named names (name_in names c) ≡ Some c) → (es : List CellPart) → All (λ e. e.cell < cells) es → All (λ e. e.part ≤ 1000000) es → pairs_of names (entry_fields names es) ≡ map said es
unfolding pairs_of
pairs_of-named names cells found [] within small = refl
pairs_of-named names cells found (e ∷ es) within small =
    let cell = found e.cell (All-head (λ e. e.cell < cells) e es within) in
    let part = number_at-decimal 1000000 e.part (All-head (λ e. e.part ≤ 1000000) e es small) (omega arith) in
    rw (cell, part, pairs_of-named names cells found es (All-tail (λ e. e.cell < cells) e es within) (All-tail (λ e. e.part ≤ 1000000) e es small)) refl

none_bad : (least : ℕ) (es : List CellPart) → All (λ e. least ≤ e.part) es → list_any (λ x. is_bad least x.part) (map said es) ≡ false
none_bad least [] positive = refl
none_bad least (e ∷ es) positive =
    let head = le-ltb e.part least (All-head (λ e. least ≤ e.part) e es positive) in
    rw (head, none_bad least es (All-tail (λ e. least ≤ e.part) e es positive)) refl

none_over : (es : List CellPart) → list_any (λ x. is_over x.part) (map said es) ≡ false
none_over [] = refl
none_over (e ∷ es) = none_over es

none_unknown : (es : List CellPart) → list_any (λ x. is_none x.cell) (map said es) ≡ false
none_unknown [] = refl
none_unknown (e ∷ es) = none_unknown es

cells_said : (es : List CellPart) → map (λ x. x.cell) (map said es) ≡ map Some (map (λ e. e.cell) es)
cells_said [] = refl
cells_said (e ∷ es) = ap (λ (xs : List _). Some e.cell ∷ xs) (cells_said es)

entries_said : (es : List CellPart) → entries_of (map said es) ≡ es
entries_said [] = refl
entries_said (e ∷ es) = ap (λ (xs : List CellPart). e ∷ xs) (entries_said es)

pub length-entry_fields : (names : List (List ℕ)) (es : List CellPart) → length (entry_fields names es) ≡ 2 * length es
length-entry_fields names [] = refl
length-entry_fields names (e ∷ es) = let rest = length-entry_fields names es in omega arith

-- entries for different cells that are written as pairs are said by these
module _ (names : List (List ℕ)) (cells : ℕ) (found : (c : ℕ) → c < cells → cell_named names (name_in names c) ≡ Some c) where
  pub AreSaid-named : (least : ℕ) (es : List CellPart) → All (λ e. e.cell < cells) es → All (λ e. e.part ≤ 1000000) es → All (λ e. least ≤ e.part) es → has_double (map Some (map (λ e. e.cell) es)) ≡ false → AreSaid names least (entry_fields names es) es
  AreSaid-named least es within small positive differ =
      let fields = entry_fields names es in
      let pairs = pairs_of-named names cells found es within small in
      let known = sym (any_unknown names fields) ∙ ap (λ (xs : List Pair). list_any (λ x. is_none x.cell) xs) pairs ∙ none_unknown es in
      record {
        bad = sym (parts_any names is_bad least fields) ∙ ap (λ (xs : List Pair). list_any (λ x. is_bad least x.part) xs) pairs ∙ none_bad least es positive;
        over = sym (parts_any names (λ l x. is_over x) least fields) ∙ ap (λ (xs : List Pair). list_any (λ x. is_over x.part) xs) pairs ∙ none_over es;
        known = known;
        once = sym (twice names fields known) ∙ ap (λ (xs : List Pair). has_double (map (λ x. x.cell) xs)) pairs ∙ ap has_double (cells_said es) ∙ differ;
        entries = sym (entries_alike names fields) ∙ ap entries_of pairs ∙ entries_said es;
      }

pub are_pairs-named : (names : List (List ℕ)) (es : List CellPart) → 0 < length es → are_pairs (entry_fields names es) ≡ true
are_pairs-named names es some =
    let long = length-entry_fields names es in
    let two = le-leb 2 (length (entry_fields names es)) (omega arith) in
    let even = eq-eqb (length (entry_fields names es) % 2) 0 (omega arith) in
    rw (two, even) refl
