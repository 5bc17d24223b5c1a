use Rattle.search_workers.proofs.Told.{told_by_offer}
use Rattle.search_workers.proofs.incumbent.Incumbent.offer_if_better.Goals as goal

pub returns-then-better-clause-told : goal.returns-then-better-clause-told
returns-then-better-clause-told g c = λ _.
    told_by_offer (record { path = c.args.path.now; value = c.args.value }) c.args.self.now.seat c.offer-answer.new.seat c.offer-answer.result
    c.offer-answer.ensures.placed c.offer-answer.ensures.behind
