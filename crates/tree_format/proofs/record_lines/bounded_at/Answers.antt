use Rattle.std.proofs.Common.{◌≡◌, map, ℕ, ◌-◌, ◌+◌, ◌≤◌, length, List, take, drop, Bor, refl, sym, arith, length-drop}
use Rattle.std.proofs.lemmas.Bool.{le-leb}
use Rattle.std.proofs.lemmas.List.{length-map, take-map, drop-map, take_all}
use Rattle.search_model.specs.Problem.{Problem}
use Rattle.tree_format.specs.Reading.{all_of, place_in, amount_in, bounded_at, bounded_of}
use Rattle.tree_format.proofs.record_lines.bounded_at.Goals as goal

-- as many positions as there may be are the prefix and those that the record refers to
bounded_places : (p : Problem) (most long : ℕ) (bound : List ℕ) (cells : List (Bor (List ℕ))) → long ≤ length cells → length cells ≤ most + long → bounded_at p most long bound (map (λ f. f.now) cells)
    ≡ bounded_of (amount_in bound) (all_of (place_in p) (map (λ f. f.now) (take (length cells - long) cells))) (all_of (place_in p) (map (λ f. f.now) (drop (length cells - long) cells)))
bounded_places p most long bound cells low high = rw (length-map cells (λ (f : Bor (List ℕ)). f.now), le-leb long (length cells) low, le-leb (length cells) (most + long) high, take-map, drop-map) refl

pub returns : goal.returns
returns c =
    let cells = c.args.positions.now in
    let own = length cells - c.args.long in
    let whole = take_all (length cells - own) (drop own cells) (omega (arith, length-drop own cells)) in
    rw (c.bounded_of.ensures, c.amount_in.ensures, c.places_in.ensures, c.places_in-2.ensures, whole) (sym (bounded_places c.args.sc.now c.args.most c.args.long c.args.bound.now cells (omega arith) (omega arith)))
