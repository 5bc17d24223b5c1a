use Rattle.std.proofs.Common.{arith, ◌∙◌}
use Rattle.std.proofs.lemmas.List.{length-set}
use Rattle.text_rows.specs.Fields.{exact_fields}
use Rattle.tree_format.proofs.FirstFields.{field_added}
use Rattle.tree_format.proofs.pieces.first_fields.Goals as goal

pub loop-len-preserved : goal.loop-len-preserved
loop-len-preserved c =
    let items = c.loop-len.items in
    let n = c.loop-len.len in
    let b = c.front-in-loop-len.result in
    record {
      so_far = field_added items n b (exact_fields c.loop-len.rest.now) (exact_fields c.in-Some.after.now) _ c.in-Some.field.now c.loop-len-test.true c.loop-len.invariant.room c.front-in-loop-len.ensures c.in-Some.ensures.pieces c.loop-len.invariant.so_far;
      few = omega (arith, c.loop-len-test.true);
      room = length-set items n b ∙ c.loop-len.invariant.room;
    }
