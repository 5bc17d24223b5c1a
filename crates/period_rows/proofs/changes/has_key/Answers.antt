use Rattle.std.proofs.Common.{◌∙◌, sym}
use Rattle.list_laws.proofs.Keyed.{Contains-from_key, key-from_Contains}
use Rattle.period_rows.specs.Changes.{change_of, key_of}
use Rattle.period_rows.proofs.changes.has_key.Goals as goal

pub returns : goal.returns
returns c =
    let key = key_of (change_of c.args.change.now) in
    let keys = c.args.index.now.keys in
    (λ is. Contains-from_key key keys (sym c.contains.ensures ∙ is), λ there. c.contains.ensures ∙ key-from_Contains key keys there)
