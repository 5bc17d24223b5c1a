use Rattle.mission_report.proofs.Names.{IsUtf8-name, is_read}
use Rattle.mission_report.proofs.json.name_value.Goals as goal

pub unwrap-text-requires : goal.unwrap-text-requires
unwrap-text-requires c = is_read c.from_utf8.result _ _ c.from_utf8.ensures.cases (λ e h. h.0 (rw c.bytes.ensures.value (IsUtf8-name c.args.name.now c.bytes.ensures.sound)))
