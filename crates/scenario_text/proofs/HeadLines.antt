-- A line of a cell is taken.
use Rattle.std.proofs.Common.{◌≡◌, ℕ, ◌+◌, ◌<◌, true, List, [], ◌∷◌, ◌++◌, map, length, None, Ok, refl, sym, ap, ◌∙◌, arith}
use Rattle.std.specs.List.{range_with_len, list_all}
use Rattle.std.proofs.lemmas.Bool.{le-ltb, lt-leb}
use Rattle.std.proofs.lemmas.List.FromFn.{map-range_with_len_more}
use Rattle.search_model.specs.Names.{IsName, is_name_byte}
use Rattle.scenario_text.specs.State.{State}
use Rattle.scenario_text.specs.Fields.{cell_named}
use Rattle.scenario_text.specs.Grammar.{with_name, row_at}
use Rattle.scenario_text.specs.declared.line.Line.TheVariants.{Cell}

-- a new name behind those that were read
pub cell_line-taken : (s : State) (name : List ℕ) → IsName name → length s.names < 200 → cell_named s.names name ≡ None → row_at Cell s (name ∷ []) ≡ Ok (with_name s name)
cell_line-taken s name h few new =
    let short = le-ltb 24 (length name) h.short in
    let room = lt-leb 200 (length s.names) few in
    let bytes : list_all is_name_byte name ≡ true = h.bytes in
    rw (bytes, short, room, new) refl

-- the next of some, behind the others
pub next_of : {X : Type 0} (f : ℕ → X) (k : ℕ) (x : X) → f k ≡ x → map f (range_with_len 0 k) ++ x ∷ [] ≡ map f (range_with_len 0 (k + 1))
next_of {X} f k x e = ap (λ (y : X). map f (range_with_len 0 k) ++ y ∷ []) (sym e) ∙ sym (map-range_with_len_more f 0 k k (omega arith))
