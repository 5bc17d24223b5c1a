use Rattle.duo_search.proofs.Made.{names_of_both, start_of_both, looks_of_both, product_made}
use Rattle.duo_search.proofs.making.product_of.Goals as goal

pub with_searcher-requires-clause-names : goal.with_searcher-requires-clause-names
with_searcher-requires-clause-names c = names_of_both c.args.sc.now c.recall_sound.ensures c.args.second c.in_ok-searcher.searcher c.in_ok-searcher.ensures c.requires.small

pub with_searcher-requires-clause-start : goal.with_searcher-requires-clause-start
with_searcher-requires-clause-start c = start_of_both c.args.sc.now c.recall_sound.ensures c.args.second c.in_ok-searcher.searcher c.in_ok-searcher.ensures c.requires.second

pub with_searcher-requires-clause-positions : goal.with_searcher-requires-clause-positions
with_searcher-requires-clause-positions c = looks_of_both c.args.sc.now c.recall_sound.ensures c.args.second c.in_ok-searcher.searcher c.in_ok-searcher.ensures

pub returns-clause-made : goal.returns-clause-made
returns-clause-made c = product_made c.args.sc.now c.recall_sound.ensures c.args.second c.in_ok-searcher.searcher c.in_ok-searcher.ensures c.with_searcher.result c.with_searcher.ensures.target c.with_searcher.ensures.searcher
