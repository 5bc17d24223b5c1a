use Rattle.std.proofs.Common.{[], arith}
use Rattle.std.proofs.lemmas.Bool.{false≢true}
use Rattle.std.proofs.lemmas.List.{get_or_default}
use Rattle.search_model.specs.Names.{IsName, IsRepeated, name_in}
use Rattle.search_model.proofs.NameLemmas.{below_more}
use Rattle.search_model.proofs.scenario.first_repeated.Goals as goal

pub loop-c-preserved : goal.loop-c-preserved
loop-c-preserved c =
    let names = c.args.names.now in
    record {
      differ = below_more (λ d. ¬ IsRepeated names d) c.loop-c.c c.loop-c.invariant.differ (λ has. false≢true (c.if-is_repeated.ensures.value.1 has));
      named = below_more (λ d. IsName (name_in names d)) c.loop-c.c c.loop-c.invariant.named c.if-is_repeated.ensures.name;
    }

pub returns-clause-none : goal.returns-clause-none
returns-clause-none c = λ d has. c.loop-c.invariant.differ d (omega (arith, has.0, c.loop-c-test.false)) has

pub returns-clause-names : goal.returns-clause-names
returns-clause-names c = λ k d lt. rw (get_or_default c.args.names.now k d [] lt) (c.loop-c.invariant.named k (omega (arith, lt, c.loop-c-test.false)))
