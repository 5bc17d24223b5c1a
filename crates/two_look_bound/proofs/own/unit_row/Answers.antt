use Rattle.std.proofs.Common.{◌≡◌, ◌+◌, ◌-◌, arith}
use Rattle.std.proofs.lemmas.List.{get_or-drop, length-drop}
use Rattle.edge_bound.specs.Units.{place_of}
use Rattle.edge_bound.proofs.CellShares.{own_inside}
use Rattle.two_look_bound.proofs.own.unit_row.Goals as goal

pub place-requires-clause-inside : goal.place-requires-clause-inside
place-requires-clause-inside c =
    let own = own_inside c.args.sc.now c.args.b c.recall_sound.ensures c.requires.own in
    c.requires.units.inside c.args.t c.args.b 0 c.requires.first c.requires.last own (omega (arith, c.requires.from))

pub from-requires : goal.from-requires
from-requires c =
    let own = own_inside c.args.sc.now c.args.b c.recall_sound.ensures c.requires.own in
    let first = c.requires.units.inside c.args.t c.args.b 0 c.requires.first c.requires.last own (omega (arith, c.requires.from)) in
    rw c.place.ensures (omega (arith, first))

pub returns-clause-row : goal.returns-clause-row
returns-clause-row c d there =
    let u = c.args.units.now in
    let own = own_inside c.args.sc.now c.args.b c.recall_sound.ensures c.requires.own in
    let place : c.place.result + d ≡ place_of u c.args.t c.args.b d = rw c.place.ensures (omega arith) in
    let unit = c.requires.units.each c.args.t c.args.b d c.requires.first c.requires.last own there in
    rw (c.from.ensures, get_or-drop c.place.result u.units d 0, place) unit

pub returns-clause-width : goal.returns-clause-width
returns-clause-width c =
    let p = c.args.sc.now in
    let u = c.args.units.now in
    let own = own_inside p c.args.b c.recall_sound.ensures c.requires.own in
    let last = c.requires.units.inside c.args.t c.args.b (p.positions - 1) c.requires.first c.requires.last own (omega (arith, c.requires.from)) in
    let place : c.place.result + (p.positions - 1) ≡ place_of u c.args.t c.args.b (p.positions - 1) = rw c.place.ensures (omega arith) in
    rw c.from.ensures (omega (arith, length-drop c.place.result u.units, place, last, c.requires.from))
