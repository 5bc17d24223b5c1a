use Rattle.std.proofs.Common.{◌≡◌, ◌+◌, ◌*◌, refl, arith}
use Rattle.search_model.proofs.Totals.{whole_weight-fits}
use Rattle.edge_bound.specs.Found.{one_of}
use Rattle.edge_bound.specs.Units.{place_of}
use Rattle.edge_bound.proofs.Fitting.{taken-within}
use Rattle.edge_bound.proofs.CellShares.{own_taken, own_inside}
use Rattle.edge_bound.proofs.best.taken_own.Goals as goal

-- where the number stands
place_is : (c : goal.After-recall_sound) → c.args.place + c.args.b ≡ place_of c.args.units.now c.args.t c.args.a c.args.b
place_is c = rw c.requires.place (omega arith)

pub at-unit-requires : goal.at-unit-requires
at-unit-requires c =
    let own = own_inside c.args.sc.now c.args.a c.recall_sound.ensures c.requires.own in
    rw (place_is c) (c.requires.units.inside c.args.t c.args.a c.args.b (omega (arith, c.requires.period.later)) c.requires.period.last own c.requires.to)

-- what is taken
taken_is : (c : goal.After-from) → c.args.share * c.from.result ≡ c.args.share * one_of c.args.sc.now c.args.t c.args.a c.args.b
taken_is c =
    let own = own_inside c.args.sc.now c.args.a c.recall_sound.ensures c.requires.own in
    let place : c.args.place + c.args.b ≡ place_of c.args.units.now c.args.t c.args.a c.args.b = rw c.requires.place (omega arith) in
    let unit = c.requires.units.each c.args.t c.args.a c.args.b (omega (arith, c.requires.period.later)) c.requires.period.last own c.requires.to in
    rw (c.from.ensures, c.at-unit.ensures, place, unit) refl

pub overflow_mul-result : goal.overflow_mul-result
overflow_mul-result c =
    let p = c.args.sc.now in
    let sound = c.recall_sound.ensures in
    let most = taken-within p sound c.args.prefix.now c.args.t c.args.a c.args.b c.requires.period.later c.requires.period.last in
    let all = own_taken p c.args.prefix.now c.args.t c.args.b c.args.a sound c.requires.own in
    rw (taken_is c, c.requires.share) (omega (arith, all, most, whole_weight-fits p sound))

pub returns : goal.returns
returns c = rw (taken_is c, c.requires.share) (own_taken c.args.sc.now c.args.prefix.now c.args.t c.args.b c.args.a c.recall_sound.ensures c.requires.own)
