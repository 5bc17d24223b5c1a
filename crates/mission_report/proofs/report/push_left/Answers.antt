use Rattle.text_rows.specs.declared.rows.Field.TheVariants.{Word, Number, Share}
use Rattle.mission_report.proofs.Shares.{share_field, three_fields}
use Rattle.mission_report.proofs.report.push_left.Goals as goal

pub push_row-requires : goal.push_row-requires
push_row-requires c =
    let share = share_field c.args.sc.now c.name.ensures.sound c.args.mass c.weight.result c.requires.mass c.weight.ensures.value in
    three_fields (Word c.bytes.result) (Number c.args.mass) (Share c.args.mass c.weight.result) tt tt share
