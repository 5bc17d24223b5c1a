use Rattle.std.proofs.Common.{sym, subst, string_bytes, Global, Contains}
use Rattle.std.proofs.lemmas.List.Elements.{Contains-get_or}
use Rattle.list_laws.proofs.Members.{Contains-map}
use Rattle.plan_command.proofs.flown.positions_named.Goals as goal

pub returns-in_err-position_named-clause-none : goal.returns-in_err-position_named-clause-none
returns-in_err-position_named-clause-none c =
    let names = c.args.names.now in
    let item = c.name-item.result in
    let bytes = string_bytes {Z = Global} in
    let stands = subst (Contains names) (sym c.name-item.is) (Contains-get_or names c.loop-name.name-index item c.loop-name-test.true) in
    let none = subst (λ n. ¬ Contains c.args.sc.now.position_names n) c.as_bytes.ensures.value c.in_err-position_named.ensures.none in
    rw c.from_residual.ensures (bytes item, Contains-map bytes names item stands, none)
