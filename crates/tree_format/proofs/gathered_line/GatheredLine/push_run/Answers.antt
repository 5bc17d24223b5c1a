use Rattle.std.proofs.Common.{sym, ap, ◌∙◌, get_or, take}
use Rattle.std.proofs.lemmas.List.{take_all, take_more}
use Rattle.tree_format.specs.Gathering.{gathered, with_byte}
use Rattle.tree_format.proofs.Gatherings.{gathered_nothing, gathered_more}
use Rattle.tree_format.proofs.gathered_line.GatheredLine.push_run.Goals as goal

pub loop-byte-init : goal.loop-byte-init
loop-byte-init c = sym (gathered_nothing c.args.self.now)

pub loop-byte-preserved : goal.loop-byte-preserved
loop-byte-preserved c =
    let bytes = c.args.bytes.now in
    let i = c.loop-byte.byte-index in
    let b = get_or bytes i 0 in
    c.push.ensures ∙ ap (with_byte b) c.loop-byte.invariant ∙ sym (gathered_more (take i bytes) c.args.self.now b) ∙ ap (gathered c.args.self.now) (sym (take_more bytes i 0 c.loop-byte-test.true))

pub returns : goal.returns
returns c = c.loop-byte.invariant ∙ ap (gathered c.args.self.now) (take_all c.loop-byte.byte-index c.args.bytes.now c.loop-byte-test.false)
