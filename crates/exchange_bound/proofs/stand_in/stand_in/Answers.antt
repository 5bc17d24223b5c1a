use Rattle.std.proofs.Common.{refl, sym, ap, ◌∙◌}
use Rattle.search_model.specs.Legal.{IsLegal}
use Rattle.search_model.specs.Tracks.{value_of}
use Rattle.exchange_bound.proofs.StandIns.{exchange_is}
use Rattle.exchange_bound.proofs.stand_in.stand_in.Goals as goal

pub returns-clause-some : goal.returns-clause-some
returns-clause-some c =
    let p = c.args.sc.now in
    let is = c.exchanged-other.ensures.prefix in
    let e = c.args.candidate in
    let legal : IsLegal p c.exchanged-other.result = rw is c.requires.candidate.legal in
    (exchange_is p c.args.prefix.now e.position c.exchanged-other.result e.value c.bound-bound.result c.requires.long is legal (c.requires.candidate.value ∙ ap (value_of p) (sym is)) c.bound-bound.ensures.bound (sym c.cuts.ensures ∙ c.if-not-cuts.false), refl)
