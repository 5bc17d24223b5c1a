use Rattle.std.proofs.Common.{◌<◌, length, subst, sym}
use Rattle.search_model.specs.Problem.{Problem}
use Rattle.search_model.specs.Legal.{Follows, last_of}
use Rattle.search_model.proofs.LegalLemmas.{last_within}
use Rattle.search_model.proofs.scenario.Scenario.moves_after.Goals as goal

pub moves-requires : goal.moves-requires
moves-requires c =
    let grid = c.self.inside.parts.grid in
    let start = c.self.inside.parts.start in
    let cells = c.args.prefix.now in
    let F : Problem → Type 0 = λ p. Follows p.moves p.start cells in
    let W : Problem → Type 0 = λ p. last_of p.start cells < length grid in
    let follows : Follows grid start cells = subst F (sym c.self.view_is) c.requires.follows in
    rw (c.last_after.ensures.value) (subst W c.self.view_is (last_within grid c.self.invariant.grid start c.self.invariant.start cells follows))
