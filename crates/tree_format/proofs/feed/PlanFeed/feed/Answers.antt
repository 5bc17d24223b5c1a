use Rattle.std.proofs.Common.{◌+◌, ◌++◌, length, take, arith}
use Rattle.tree_format.proofs.FedPieces.{fed_before, fed_on, fed_all}
use Rattle.tree_format.proofs.FedLaws.{fault_answered, item_answered}
use Rattle.tree_format.proofs.feed.PlanFeed.feed.Goals as goal

pub returns-in-Item-clause-item : goal.returns-in-Item-clause-item
returns-in-Item-clause-item c = λ family fed items read.
    let p = c.args.sc.now in
    let piece = c.args.piece.now in
    let goes = fed_on family p fed items piece c.loop-done.done c.advance-used.result.used c.advance-used.result.step _ c.loop-done.self c.advance-used.new.self (c.loop-done.invariant.fed family fed items read) c.advance-used.ensures.goes c.in-Item.is in
    goes.0

pub returns-in-Item-clause-completed : goal.returns-in-Item-clause-completed
returns-in-Item-clause-completed c = λ family fed items read told tells.
    let p = c.args.sc.now in
    let piece = c.args.piece.now in
    let goes = fed_on family p fed items piece c.loop-done.done c.advance-used.result.used c.advance-used.result.step _ c.loop-done.self c.advance-used.new.self (c.loop-done.invariant.fed family fed items read) c.advance-used.ensures.goes c.in-Item.is in
    item_answered family p (fed ++ take (c.loop-done.done + c.advance-used.result.used) piece) items _ c.advance-used.new.self goes told tells

pub returns-in-Item-clause-sound : goal.returns-in-Item-clause-sound
returns-in-Item-clause-sound c = λ family fed items read.
    let p = c.args.sc.now in
    let piece = c.args.piece.now in
    let goes = fed_on family p fed items piece c.loop-done.done c.advance-used.result.used c.advance-used.result.step _ c.loop-done.self c.advance-used.new.self (c.loop-done.invariant.fed family fed items read) c.advance-used.ensures.goes c.in-Item.is in
    goes.1

pub returns-in-Item-clause-decided : goal.returns-in-Item-clause-decided
returns-in-Item-clause-decided c = λ family fed items read fault decided.
    let p = c.args.sc.now in
    let piece = c.args.piece.now in
    let goes = fed_on family p fed items piece c.loop-done.done c.advance-used.result.used c.advance-used.result.step _ c.loop-done.self c.advance-used.new.self (c.loop-done.invariant.fed family fed items read) c.advance-used.ensures.goes c.in-Item.is in
    fault_answered family p (fed ++ take (c.loop-done.done + c.advance-used.result.used) piece) items _ c.advance-used.new.self goes fault decided

pub returns-in-Item-clause-first : goal.returns-in-Item-clause-first
returns-in-Item-clause-first c = λ family fed items read.
    fed_before family c.args.sc.now fed items c.args.piece.now c.loop-done.done c.advance-used.result.used c.loop-done.self (c.loop-done.invariant.fed family fed items read) c.advance-used.ensures.first

pub returns-in-Fault-clause-completed : goal.returns-in-Fault-clause-completed
returns-in-Fault-clause-completed c = λ family fed items read told tells.
    let p = c.args.sc.now in
    let piece = c.args.piece.now in
    let goes = fed_on family p fed items piece c.loop-done.done c.advance-used.result.used c.advance-used.result.step _ c.loop-done.self c.advance-used.new.self (c.loop-done.invariant.fed family fed items read) c.advance-used.ensures.goes c.in-Fault.is in
    item_answered family p (fed ++ take (c.loop-done.done + c.advance-used.result.used) piece) items _ c.advance-used.new.self goes told tells

pub returns-in-Fault-clause-fault : goal.returns-in-Fault-clause-fault
returns-in-Fault-clause-fault c = λ family fed items read.
    let p = c.args.sc.now in
    let piece = c.args.piece.now in
    let goes = fed_on family p fed items piece c.loop-done.done c.advance-used.result.used c.advance-used.result.step _ c.loop-done.self c.advance-used.new.self (c.loop-done.invariant.fed family fed items read) c.advance-used.ensures.goes c.in-Fault.is in
    goes

pub returns-in-Fault-clause-decided : goal.returns-in-Fault-clause-decided
returns-in-Fault-clause-decided c = λ family fed items read fault decided.
    let p = c.args.sc.now in
    let piece = c.args.piece.now in
    let goes = fed_on family p fed items piece c.loop-done.done c.advance-used.result.used c.advance-used.result.step _ c.loop-done.self c.advance-used.new.self (c.loop-done.invariant.fed family fed items read) c.advance-used.ensures.goes c.in-Fault.is in
    fault_answered family p (fed ++ take (c.loop-done.done + c.advance-used.result.used) piece) items _ c.advance-used.new.self goes fault decided

pub returns-in-Fault-clause-first : goal.returns-in-Fault-clause-first
returns-in-Fault-clause-first c = λ family fed items read.
    fed_before family c.args.sc.now fed items c.args.piece.now c.loop-done.done c.advance-used.result.used c.loop-done.self (c.loop-done.invariant.fed family fed items read) c.advance-used.ensures.first

pub loop-done-preserved : goal.loop-done-preserved
loop-done-preserved c = record {
  within = omega (arith, c.advance-used.ensures.used);
  fed = λ family fed items read. record {
    here = fed_on family c.args.sc.now fed items c.args.piece.now c.loop-done.done c.advance-used.result.used c.advance-used.result.step _ c.loop-done.self c.advance-used.new.self (c.loop-done.invariant.fed family fed items read) c.advance-used.ensures.goes c.in-More.is;
    earlier = fed_before family c.args.sc.now fed items c.args.piece.now c.loop-done.done c.advance-used.result.used c.loop-done.self (c.loop-done.invariant.fed family fed items read) c.advance-used.ensures.first;
  };
}

pub returns-clause-completed : goal.returns-clause-completed
returns-clause-completed c = λ family fed items read told tells.
    let p = c.args.sc.now in
    let piece = c.args.piece.now in
    let goes = fed_all family p fed items piece c.loop-done.done c.loop-done.self c.loop-done-test.false (c.loop-done.invariant.fed family fed items read) in
    item_answered family p (fed ++ take (length piece) piece) items _ c.loop-done.self goes told tells

pub returns-clause-decided : goal.returns-clause-decided
returns-clause-decided c = λ family fed items read fault decided.
    let p = c.args.sc.now in
    let piece = c.args.piece.now in
    let goes = fed_all family p fed items piece c.loop-done.done c.loop-done.self c.loop-done-test.false (c.loop-done.invariant.fed family fed items read) in
    fault_answered family p (fed ++ take (length piece) piece) items _ c.loop-done.self goes fault decided

pub returns-clause-first : goal.returns-clause-first
returns-clause-first c = λ family fed items read n lt.
    (c.loop-done.invariant.fed family fed items read).earlier n (omega (arith, lt, c.loop-done-test.false))
