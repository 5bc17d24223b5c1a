use Rattle.std.proofs.Common.{◌≡◌, ◌∙◌, ◌<◌, ℕ, ◌+◌, ◌∷◌, [], ◌++◌, List, map, take, get_or, length, length-append, ap, arith, refl}
use Rattle.std.proofs.lemmas.List.{map-append, take_more}
use Rattle.steal_pool.specs.Kits.{put_of, taken_of}
use Rattle.search_workers.proofs.Shared.{put_one, back_one}
use Rattle.search_workers.proofs.children.put_children.Goals as goal
use Rattle.search_workers.proofs.children.put_children.Goals.{in-Err, in_default}

pub loop-next-preserved : goal.loop-next-preserved
loop-next-preserved c =
    let moves : List ℕ = c.args.moves.now in
    let k : ℕ = c.loop-next.next-index in
    let child : ℕ → List ℕ = λ d. c.args.prefix.now ++ d ∷ [] in
    let inside : k < length moves = c.loop-next-test.true in
    let more : map child (take (k + 1) moves) ≡ map child (take k moves) ++ child (get_or moves k 0) ∷ [] = rw (take_more moves k 0 inside) (map-append child (take k moves) (get_or moves k 0 ∷ [])) in
    let task = c.extended.ensures in
    let so_far = c.loop-next.invariant.puts in
    let kept = c.loop-next.invariant.kit in
    elim c.match-put.branch [
      | in-Err w ↦
          let same = w.in-Err.ensures.back.1 in
          let back = w.in-Err.ensures.back.0 ∙ task in
          let pushed : c.match-put.stack ≡ c.loop-next.stack ++ child (get_or moves k 0) ∷ [] = w.stack-is ∙ w.push.ensures ∙ ap (λ x. c.loop-next.stack ++ x ∷ []) back in
          record {
            puts = rw more (back_one _ _ _ _ _ (child (get_or moves k 0)) so_far (put_of c.put.new.self) c.match-put.stack (w.in-Err.ensures.full.0 refl) (ap put_of same) pushed);
            kit = record { pool = ap (λ k. k.pool) same ∙ kept.pool; place = ap (λ k. k.place) same ∙ kept.place; taken = ap taken_of same ∙ kept.taken; misses = ap (λ k. k.misses) same ∙ kept.misses };
            room = (let long = ap length pushed in omega (arith, simp length-append at long, c.loop-next.invariant.room));
          }
      | in_default w ↦
          let same = w.in_default.ensures.same in
          record {
            puts = rw (more, w.stack-is) (put_one _ _ _ _ _ (child (get_or moves k 0)) so_far (put_of c.put.new.self) (λ full. absurd (let bad = w.in_default.ensures.full.1 full in cc))
                (w.in_default.ensures.put ∙ ap (λ x. put_of c.loop-next.kit ++ x ∷ []) task));
            kit = record { pool = same.0 ∙ kept.pool; place = same.1 ∙ kept.place; taken = w.in_default.ensures.taken ∙ kept.taken; misses = same.2 ∙ kept.misses };
            room = rw w.stack-is (omega (arith, c.loop-next.invariant.room));
          }
    ]
