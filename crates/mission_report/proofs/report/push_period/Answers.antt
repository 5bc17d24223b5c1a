use Rattle.text_rows.specs.declared.rows.Field.TheVariants.{Word, Number, Share}
use Rattle.mission_report.proofs.Shares.{share_field, four_fields}
use Rattle.mission_report.proofs.report.push_period.Goals as goal

pub push_row-requires : goal.push_row-requires
push_row-requires c =
    let share = share_field c.args.sc.now c.position.ensures.sound c.args.value c.weight.result c.requires.value c.weight.ensures.value in
    four_fields (Number c.from.result) (Word c.bytes.result) (Number c.args.value) (Share c.args.value c.weight.result) tt tt tt share
