use Rattle.std.proofs.Common.{◌≡◌, ◌+◌, ◌*◌, arith}
use Rattle.search_model.proofs.Totals.{whole_weight-fits}
use Rattle.edge_bound.specs.Units.{place_of}
use Rattle.edge_bound.proofs.CellShares.{own_inside}
use Rattle.two_look_bound.specs.Taken.{skip_of}
use Rattle.two_look_bound.proofs.Fitting.{skip-within}
use Rattle.two_look_bound.proofs.OwnCells.{skip_owned}
use Rattle.two_look_bound.proofs.own.skip_own.Goals as goal

pub at-two-requires : goal.at-two-requires
at-two-requires c =
    let own = own_inside c.args.given.now.sc.now c.args.a c.recall_sound.ensures c.requires.own in
    let place : c.args.place + c.args.c ≡ place_of c.args.given.now.twos.now c.args.s c.args.a c.args.c = rw c.requires.place (omega arith) in
    rw place (c.requires.given.twos.inside c.args.s c.args.a c.args.c (omega (arith, c.requires.middle.later)) c.requires.middle.last own c.requires.to)

-- what would be found
skip_is : (c : goal.After-from) → c.args.scaled * c.from.result ≡ skip_of c.args.given.now.sc.now c.args.given.now.prefix.now c.args.s c.args.a c.args.c
skip_is c =
    let p = c.args.given.now.sc.now in
    let sound = c.recall_sound.ensures in
    let own = own_inside p c.args.a sound c.requires.own in
    let place : c.args.place + c.args.c ≡ place_of c.args.given.now.twos.now c.args.s c.args.a c.args.c = rw c.requires.place (omega arith) in
    let two = c.requires.given.twos.each c.args.s c.args.a c.args.c (omega (arith, c.requires.middle.later)) c.requires.middle.last own c.requires.to in
    rw (c.from.ensures, c.at-two.ensures, place, two, c.requires.scaled) (skip_owned p sound c.args.given.now.prefix.now c.args.s c.args.a c.requires.own c.args.c)

pub overflow_mul-result : goal.overflow_mul-result
overflow_mul-result c =
    let p = c.args.given.now.sc.now in
    let sound = c.recall_sound.ensures in
    rw (skip_is c) (omega (arith, skip-within p sound c.args.given.now.prefix.now c.args.s c.requires.middle c.args.a c.args.c, whole_weight-fits p sound))

pub returns : goal.returns
returns c = skip_is c
