use Rattle.std.proofs.Common.{◌≡◌, length, sym, ap, ◌∙◌, subst, arith}
use Rattle.search_model.specs.Legal.{IsPath}
use Rattle.search_model.specs.Order.{Starts}
use Rattle.search_model.specs.Tracks.{value_of}
use Rattle.searcher_maps.specs.Carried.{IsBestAmong}
use Rattle.residual_plan.specs.Forced.{source_of}
use Rattle.residual_plan.proofs.Places.{whole_front}
use Rattle.residual_plan.proofs.Beginnings.{paths_begin}
use Rattle.residual_plan.proofs.Carried.{value_stays, forced_best}
use Rattle.residual_plan.proofs.sources.unforced.Goals as goal

pub returns-clause-value : goal.returns-clause-value
returns-clause-value c =
    let all : c.loop-a.a-index ≡ length c.args.path.now = omega (arith, c.loop-a-test.false, c.loop-a.auto.a-index-end, ap length c.cells-a-items.ensures.value) in
    whole_front (source_of c.args.sc.now c.args.flown.now) c.loop-a.own c.args.path.now c.loop-a.a-index c.loop-a.invariant all

pub returns-clause-path : goal.returns-clause-path
returns-clause-path c =
    let facts = paths_begin c.args.sc.now c.requires.forced.0 c.args.flown.now c.args.path.now c.recall_sound.ensures c.requires.legal c.requires.forced.1 c.requires.forced.2 in
    subst (IsPath c.args.sc.now) (sym (returns-clause-value c)) facts.0

pub returns-clause-begins : goal.returns-clause-begins
returns-clause-begins c =
    let facts = paths_begin c.args.sc.now c.requires.forced.0 c.args.flown.now c.args.path.now c.recall_sound.ensures c.requires.legal c.requires.forced.1 c.requires.forced.2 in
    subst (Starts c.args.flown.now) (sym (returns-clause-value c)) facts.1

pub returns-clause-found : goal.returns-clause-found
returns-clause-found c q other forced path =
    let same = value_stays c.args.sc.now q c.args.flown.now c.args.path.now c.recall_sound.ensures other c.requires.legal forced path in
    same.0 ∙ ap (value_of c.args.sc.now) (sym (returns-clause-value c))

pub returns-clause-best : goal.returns-clause-best
returns-clause-best c q other forced best =
    let among = forced_best c.args.sc.now q c.args.flown.now c.args.path.now c.recall_sound.ensures other c.requires.legal forced best in
    subst (IsBestAmong c.args.sc.now (Starts c.args.flown.now)) (sym (returns-clause-value c)) among
