use Rattle.plan_command.proofs.input.answer_judged.Goals as goal

pub answer_report-answer-requires : goal.answer_report-answer-requires
answer_report-answer-requires c = rw c.in-Report.is at c.requires

pub answer_convert-answer-requires : goal.answer_convert-answer-requires
answer_convert-answer-requires c = rw c.in-Convert.is at c.requires

pub returns-in-Check : goal.returns-in-Check
returns-in-Check c = rw c.in-Check.is c.answer_check.ensures

pub returns-in-CheckGap : goal.returns-in-CheckGap
returns-in-CheckGap c = rw c.in-CheckGap.is c.answer_check_gap.ensures

pub returns-in-Report : goal.returns-in-Report
returns-in-Report c = rw c.in-Report.is c.answer_report-answer.ensures

pub returns-in-Convert : goal.returns-in-Convert
returns-in-Convert c = rw c.in-Convert.is c.answer_convert-answer.ensures
