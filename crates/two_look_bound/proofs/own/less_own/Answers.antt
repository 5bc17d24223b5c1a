use Rattle.std.proofs.Common.{◌≡◌, ◌+◌, ◌*◌, arith}
use Rattle.search_model.proofs.Totals.{whole_weight-fits}
use Rattle.edge_bound.specs.Units.{place_of}
use Rattle.edge_bound.proofs.CellShares.{own_inside}
use Rattle.two_look_bound.specs.Taken.{less_of}
use Rattle.two_look_bound.proofs.Fitting.{less-within}
use Rattle.two_look_bound.proofs.OwnCells.{less_owned}
use Rattle.two_look_bound.proofs.own.less_own.Goals as goal

pub at-unit-requires : goal.at-unit-requires
at-unit-requires c =
    let own = own_inside c.args.given.now.sc.now c.args.a c.recall_sound.ensures c.requires.own in
    let place : c.args.place + c.args.b ≡ place_of c.args.given.now.units.now c.args.s c.args.a c.args.b = rw c.requires.place (omega arith) in
    rw place (c.requires.given.units.inside c.args.s c.args.a c.args.b (omega (arith, c.requires.middle.later)) (omega (arith, c.requires.middle.last)) own c.requires.to)

-- what both would find
less_is : (c : goal.After-from) → c.args.share * c.from.result ≡ less_of c.args.given.now.sc.now c.args.given.now.prefix.now c.args.s c.args.a c.args.b
less_is c =
    let own = own_inside c.args.given.now.sc.now c.args.a c.recall_sound.ensures c.requires.own in
    let place : c.args.place + c.args.b ≡ place_of c.args.given.now.units.now c.args.s c.args.a c.args.b = rw c.requires.place (omega arith) in
    let unit = c.requires.given.units.each c.args.s c.args.a c.args.b (omega (arith, c.requires.middle.later)) (omega (arith, c.requires.middle.last)) own c.requires.to in
    rw (c.from.ensures, c.at-unit.ensures, place, unit, c.requires.share) (less_owned c.args.given.now.sc.now c.recall_sound.ensures c.args.given.now.prefix.now c.args.s c.args.a c.requires.own c.args.b)

pub overflow_mul-result : goal.overflow_mul-result
overflow_mul-result c =
    let p = c.args.given.now.sc.now in
    let sound = c.recall_sound.ensures in
    rw (less_is c) (omega (arith, less-within p sound c.args.given.now.prefix.now c.args.s c.requires.middle c.args.a c.args.b, whole_weight-fits p sound))

pub returns : goal.returns
returns c = less_is c
