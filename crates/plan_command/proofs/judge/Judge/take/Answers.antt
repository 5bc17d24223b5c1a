use Rattle.std.proofs.Common.{sym, ◌∙◌, subst}
use Rattle.std.proofs.lemmas.Bool.{eqb-true}
use Rattle.plan_command.specs.Spaces.{SkipsSpaces}
use Rattle.plan_command.proofs.Judging.{more_blanks, text_begun, piece_more, piece_fault, first_more, first_wrong, no_text, some_text}
use Rattle.plan_command.proofs.judge.Judge.take.Goals as goal

pub take_text-requires : goal.take_text-requires
take_text-requires c = (c.requires.0, c.requires.2.text, c.requires.2.taken)

pub returns-then-self-clause-taken : goal.returns-then-self-clause-taken
returns-then-self-clause-taken c = piece_more c.args.piece.now c.args.self.now c.take_text.new.self c.take_text.result c.if-self.true c.take_text.ensures.begun c.take_text.ensures.taken

pub returns-then-self-clause-fault : goal.returns-then-self-clause-fault
returns-then-self-clause-fault c = piece_fault c.args.piece.now c.args.self.now c.take_text.new.self c.take_text.result c.if-self.true c.take_text.ensures.fault

pub returns-then-is_empty-clause-taken : goal.returns-then-is_empty-clause-taken
returns-then-is_empty-clause-taken c = λ task before h.
    more_blanks task before c.args.piece.now c.args.self.now c.args.self.now h c.if-self.false
    (subst (SkipsSpaces c.args.piece.now) (no_text _ (eqb-true _ _ (sym c.is_empty.ensures ∙ c.if-is_empty.true))) c.skip_spaces-text.ensures)

pub take_text-requires-2 : goal.take_text-requires-2
take_text-requires-2 c = (c.requires.0, c.requires.2.text, text_begun c.requires.0 _ _ c.requires.2.taken)

pub returns-clause-taken : goal.returns-clause-taken
returns-clause-taken c = first_more c.args.piece.now c.args.self.now c.take_text-2.new.self c.take_text-2.result c.skip_spaces-text.result.now c.if-self.false c.skip_spaces-text.ensures (some_text _ (sym c.is_empty.ensures ∙ c.if-is_empty.false)) c.take_text-2.ensures.begun c.take_text-2.ensures.taken

pub returns-clause-fault : goal.returns-clause-fault
returns-clause-fault c = first_wrong c.args.piece.now c.args.self.now c.take_text-2.new.self c.take_text-2.result c.skip_spaces-text.result.now c.if-self.false c.skip_spaces-text.ensures (some_text _ (sym c.is_empty.ensures ∙ c.if-is_empty.false)) c.take_text-2.ensures.fault
