use Rattle.std.proofs.Common.{◌≡◌, ◌∙◌, sym, true}
use Rattle.std.specs.List.{list_all}
use Rattle.search_model.specs.Names.{is_name_byte}
use Rattle.search_model.proofs.NameLemmas.{some_in}
use Rattle.search_model.proofs.Places.{filled_front}
use Rattle.search_model.proofs.name.Name.new.Goals as goal

pub invariant_of-result : goal.invariant_of-result
invariant_of-result c =
    let bytes = c.args.bytes.now in
    let short = c.if-bytes-gt-LONGEST.false in
    let front = filled_front 24 bytes short in
    let is : c.copy_from_slice.new.self ≡ bytes = c.copy_from_slice.ensures.after in
    let all : list_all is_name_byte bytes ≡ true = sym c.are_name_bytes.ensures ∙ c.if-not-are_name_bytes.false in
    rw is (record { padded = front.0; name = rw front.1 (record { some = some_in bytes (sym c.is_empty.ensures ∙ c.if-is_empty.false); short = short; bytes = all }) })
