use Rattle.std.proofs.Common.{◌≡◌, ◌∙◌, ap, subst, unwrap_or}
use Rattle.search_model.specs.Problem.{Problem}
use Rattle.search_model.specs.Legal.{last_of}
use Rattle.search_model.proofs.LegalLemmas.{last_or_start}
use Rattle.search_model.proofs.scenario.Scenario.last_after.Goals as goal

pub returns-clause-value : goal.returns-clause-value
returns-clause-value c =
    let start = c.self.inside.parts.start in
    let cells = c.cells.result.now in
    let P : Problem → Type 0 = λ p. c.unwrap_or.result ≡ last_of p.start cells in
    rw (c.cells.ensures.value) at (subst P c.self.view_is (c.unwrap_or.ensures ∙ ap (λ o. unwrap_or o start) (c.copied.ensures ∙ c.last.ensures.value) ∙ last_or_start start cells))
