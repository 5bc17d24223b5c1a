use Rattle.std.proofs.Common.{◌≡◌, take, ap, sym, ◌∙◌, arith}
use Rattle.std.proofs.lemmas.List.{take_all}
use Rattle.search_model.specs.Tracks.{value_of}
use Rattle.belief_update.proofs.LevelSteps.{all_taken}
use Rattle.belief_update.proofs.levels.value_from.Goals as goal

pub returns-then-k-looks-clause-value : goal.returns-then-k-looks-clause-value
returns-then-k-looks-clause-value c =
    let p = c.args.sc.now in
    let q = c.args.prefix.now in
    let k = c.args.k in
    let all : take k q ≡ q = take_all k q (omega (arith, c.if-k-looks.true, c.len-looks.ensures.value)) in
    c.value.ensures p (take k q) c.requires.onward ∙ ap (value_of p) all

pub returns-clause-value : goal.returns-clause-value
returns-clause-value c =
    let p = c.args.sc.now in
    let q = c.args.prefix.now in
    let k = c.args.k in
    let taken = all_taken p q k c.len-looks.result c.take_along.new.taken c.len-looks.ensures.value c.requires.inside c.if-k-looks.false c.take_along.ensures in
    c.value-3.ensures (take k q) q taken (c.value-2.ensures p (take k q) c.requires.onward) (sym c.len-looks.ensures.value)
