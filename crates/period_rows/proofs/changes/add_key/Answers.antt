use Rattle.std.proofs.Common.{◌∙◌, refl}
use Rattle.list_laws.proofs.Keyed.{key-from_absent}
use Rattle.period_rows.specs.Changes.{change_of, key_of}
use Rattle.period_rows.proofs.changes.add_key.Goals as goal

pub returns : goal.returns
returns c = c.in_ok-insert.ensures.keys ∙ (rw (key-from_absent (key_of (change_of c.args.change.now)) c.args.index.now.keys c.requires) refl)
