use Rattle.std.proofs.Common.{ℕ, ◌≡◌, List, length, take, ap, subst, ◌∙◌, arith}
use Rattle.std.proofs.lemmas.List.{length-take-le, take_all, take_more}
use Rattle.search_model.specs.Legal.{IsLegal}
use Rattle.search_model.proofs.Children.{few_moves}
use Rattle.search_model.proofs.WalkLemmas.{front_is_legal}
use Rattle.exchange_bound.specs.StandIns.{AreCandidates}
use Rattle.exchange_bound.proofs.StandIns.{all_left}
use Rattle.exchange_bound.proofs.stand_in.note_all.Goals as goal

pub moves_after-u-items-requires : goal.moves_after-u-items-requires
moves_after-u-items-requires c = rw c.first-front.ensures (front_is_legal c.args.sc.now c.args.prefix.now _ c.requires.legal)

pub note-n-requires-clause-room : goal.note-n-requires-clause-room
note-n-requires-clause-room c =
    let p = c.args.sc.now in
    let moves = c.moves_after-u-items.result.now in
    let front : IsLegal p c.first-front.result = rw c.first-front.ensures (front_is_legal p c.args.prefix.now _ c.requires.legal) in
    let most = few_moves p c.first-front.result c.moves_after-u-items.ensures.sound front in
    let long = length-take-le c.loop-u.u-index moves (omega (arith, c.loop-u-test.true)) in
    omega (arith, c.loop-u.invariant.noted.few, long, c.loop-u-test.true, ap length c.moves_after-u-items.ensures.value, most, c.loop-u.invariant.room)

pub loop-u-preserved : goal.loop-u-preserved
loop-u-preserved c =
    let moves = c.moves_after-u-items.result.now in
    record {
      noted = rw (take_more moves c.loop-u.u-index 0 c.loop-u-test.true) (c.note-n.ensures.noted (take c.loop-u.u-index moves) c.loop-u.invariant.noted);
      room = c.note-n.auto.row ∙ c.loop-u.invariant.room;
      mean = c.note-n.ensures.mean;
      along = c.note-n.ensures.along;
      filled = λ q has. c.note-n.ensures.filled q (c.loop-u.invariant.filled q has);
    }

pub returns-clause-left : goal.returns-clause-left
returns-clause-left c =
    let p = c.args.sc.now in
    let q = c.args.prefix.now in
    let moves = c.moves_after-u-items.result.now in
    let are = rw (c.first-front.ensures, c.len.ensures.value) at c.moves_after-u-items.ensures.value in
    let all : take c.loop-u.u-index moves ≡ moves = take_all c.loop-u.u-index moves (omega (arith, c.loop-u-test.false)) in
    let noted : AreCandidates p q moves c.loop-u.n c.loop-u.row = subst (λ (tried : List ℕ). AreCandidates p q tried c.loop-u.n c.loop-u.row) all c.loop-u.invariant.noted in
    all_left p q moves c.loop-u.n c.loop-u.row c.requires.long are noted
