use Rattle.text_rows.specs.declared.rows.Field.TheVariants.{Number, Share}
use Rattle.mission_report.proofs.Shares.{share_field, three_fields}
use Rattle.mission_report.proofs.report.push_chance.Goals as goal

pub push_row-appended-requires : goal.push_row-appended-requires
push_row-appended-requires c =
    let whole = c.weight-whole.result in
    let share = share_field c.args.sc.now c.weight-whole.ensures.sound c.args.value whole c.requires c.weight-whole.ensures.value in
    three_fields (Number c.args.value) (Number whole) (Share c.args.value whole) tt tt share
