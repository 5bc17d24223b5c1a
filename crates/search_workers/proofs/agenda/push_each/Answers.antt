use Rattle.std.proofs.Common.{◌≡◌, ◌<◌, ℕ, ◌+◌, ◌∷◌, [], ◌++◌, List, map, take, get_or, length, subst, arith}
use Rattle.std.proofs.lemmas.List.{map-append, take_more}
use Rattle.search_core.specs.Counts.{SameItems}
use Rattle.search_workers.specs.Agendas.{prefixes_in}
use Rattle.search_workers.proofs.Agendas.{pushed_more}
use Rattle.search_workers.proofs.agenda.push_each.Goals as goal

pub loop-b-preserved : goal.loop-b-preserved
loop-b-preserved c =
    let moves : List ℕ = c.args.moves.now in
    let k : ℕ = c.loop-b.b-index in
    let child : ℕ → List ℕ = λ d. c.args.prefix.now ++ d ∷ [] in
    let inside : k < length moves = c.loop-b-test.true in
    let more : map child (take (k + 1) moves) ≡ map child (take k moves) ++ child (get_or moves k 0) ∷ [] = rw (take_more moves k 0 inside) (map-append child (take k moves) (get_or moves k 0 ∷ [])) in
    let put : SameItems (prefixes_in c.push_numbered.new.heap) (prefixes_in c.loop-b.heap ++ child (get_or moves k 0) ∷ []) =
    subst (λ (r : List ℕ). SameItems (prefixes_in c.push_numbered.new.heap) (prefixes_in c.loop-b.heap ++ r ∷ [])) c.extended.ensures c.push_numbered.ensures.items in
    record {
      same = rw more (pushed_more (prefixes_in c.args.heap.now) (prefixes_in c.loop-b.heap) (prefixes_in c.push_numbered.new.heap) (map child (take k moves)) (child (get_or moves k 0))
          c.loop-b.invariant.same put);
      room = omega (arith, c.loop-b.invariant.room, c.push_numbered.ensures.len, c.push_numbered.ensures.capacity);
    }
