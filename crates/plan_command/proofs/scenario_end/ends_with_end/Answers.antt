use Rattle.plan_command.proofs.EndWords.{ended_text}
use Rattle.plan_command.proofs.EndCuts.{no_word, begins_there}
use Rattle.plan_command.proofs.scenario_end.ends_with_end.Goals as goal

pub returns-in_default-without : goal.returns-in_default-without
returns-in_default-without c = record {
  exact = ((λ yes. absurd (let no : ⊥ = cc in no)), λ ends. absurd (no_word c.args.text.now c.in-Some.line.now c.before_blanks.result.now c.in-Some.ensures c.before_blanks.ensures c.in_default-without.ensures ends));
}

pub returns : goal.returns
returns c =
    let text = c.args.text.now in
    let line = c.in-Some.line.now in
    let word = c.before_blanks.result.now in
    let before = c.in-Some-without.before.now in
    let start = c.before_blanks-2.result.now in
    record {
      exact = (
        (λ yes. ended_text text line word before start c.in-Some.ensures c.before_blanks.ensures c.in-Some-without.ensures c.before_blanks-2.ensures (c.begins_line.ensures.0 yes)),
        λ ends. c.begins_line.ensures.1 (begins_there text line word before start c.in-Some.ensures c.before_blanks.ensures c.in-Some-without.ensures c.before_blanks-2.ensures ends),
      );
    }
