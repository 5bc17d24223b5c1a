use Rattle.std.proofs.Common.{rules, ◌≡◌, ◌++◌, ◌∷◌, [], Some}
use Rattle.std.proofs.lemmas.List.{map-append}
use Rattle.mission_report.proofs.course.note_look.Goals as goal

pub value_after-requires : goal.value_after-requires
value_after-requires c =
    let (q, before) = c.requires.belief in
    (q ++ c.args.position ∷ [], rw (map-append Some q (c.args.position ∷ [])) (c.look.ensures.belief _ before))

pub returns-clause-value : goal.returns-clause-value
returns-clause-value c = λ q before.
    let position = c.args.position in
    let looked = rw (← map-append Some q (position ∷ [])) at (c.look.ensures.belief _ before) in
    let pushed : c.push.new.self.items ≡ c.args.values.now.items ++ c.value_after.result ∷ [] = search rules in
    rw (← c.value_after.ensures (q ++ position ∷ []) looked) pushed
