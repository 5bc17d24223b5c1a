use Rattle.std.proofs.Common.{rules, ◌≡◌, ℕ, List, drop, slice_index, sym, ap, ◌∙◌}
use Rattle.std.specs.Int.{w64, to_be_bytes}
use Rattle.std.specs.List.{flat_map}
use Rattle.incumbent_board.proofs.Packing.{six_items}
use Rattle.incumbent_board.proofs.six_words.places_in.Goals as goal

pub returns : goal.returns
returns c =
    let words = c.args.words.now in
    let one : c.copy_from_slice.new.self ≡ to_be_bytes w64 (slice_index words 2) = c.copy_from_slice.ensures.after ∙ c.to_be_bytes.ensures in
    let two : c.copy_from_slice-2.new.self ≡ to_be_bytes w64 (slice_index words 3) = c.copy_from_slice-2.ensures.after ∙ c.to_be_bytes-2.ensures in
    let three : c.copy_from_slice-3.new.self ≡ to_be_bytes w64 (slice_index words 4) = c.copy_from_slice-3.ensures.after ∙ c.to_be_bytes-3.ensures in
    let four : c.copy_from_slice-4.new.self ≡ to_be_bytes w64 (slice_index words 5) = c.copy_from_slice-4.ensures.after ∙ c.to_be_bytes-4.ensures in
    rw (one, two, three, four) (sym (ap (λ (l : List ℕ). flat_map (to_be_bytes w64) (drop 2 l)) (six_items words (search rules))))
