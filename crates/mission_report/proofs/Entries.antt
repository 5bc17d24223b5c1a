-- Values of JSON, one after the other.
use Rattle.std.proofs.Common.{ℕ, ◌+◌, ◌≡◌, List, [], ◌∷◌, ◌++◌, map, sym, ap, ◌∙◌, add-one, zero-add}
use Rattle.std.specs.List.{range_with_len}
use Rattle.std.proofs.lemmas.List.{map_push}
use Rattle.serde_json.specs.Data.{Data}
use Rattle.serde_json.specs.View.{view}
use Rattle.serde_json.specs.declared.value.Value.{Value}
use Rattle.list_laws.proofs.Ranges.{range_with_len-suc}

-- one value more, for the next number
pub entries_more : (f : ℕ → Data) (k : ℕ) (values : List Value) (v : Value) → map view values ≡ map f (range_with_len 0 k) → view v ≡ f k → map view (values ++ v ∷ []) ≡ map f (range_with_len 0 (k + 1))
entries_more f k values v before last =
    let longer : range_with_len 0 (k + 1) ≡ range_with_len 0 k ++ k ∷ [] = ap (range_with_len 0) (add-one k) ∙ range_with_len-suc 0 k ∙ ap (λ (n : ℕ). range_with_len 0 k ++ n ∷ []) (zero-add k) in
    map_push view values v ∙ rw (before, last, longer) (sym (map_push f (range_with_len 0 k) k))
