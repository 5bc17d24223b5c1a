use Rattle.std.proofs.Common.{◌≡◌, ◌≤◌, true, map, ◌++◌, [], length}
use Rattle.text_rows.specs.Fields.{ends_field, fields_of}
use Rattle.text_rows.proofs.fields.first_fields.Given as goal

abbrev pub invariant-loop-fields : goal.invariant-loop-fields
invariant-loop-fields l = (map (λ f. f.now) l.fields.items ++ fields_of l.rest ≡ fields_of l.line) × (ends_field l.rest ≡ true → l.rest ≡ []) × (length l.fields.items ≤ l.most)

abbrev pub decreases-loop-fields : goal.decreases-loop-fields
decreases-loop-fields l = length l.rest
