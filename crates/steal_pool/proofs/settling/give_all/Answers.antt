use Rattle.std.proofs.Common.{◌≡◌, ◌+◌, ◌++◌, inl, inr, List, [], ◌∷◌, length, map, slice_get, arith, ap, sym, ◌∙◌, subst}
use Rattle.std.specs.List.{flat_map}
use Rattle.std.proofs.lemmas.Bool.{cases_lt}
use Rattle.std.proofs.lemmas.List.{length-map}
use Rattle.crossbeam_deque.specs.Handles.{view, worker_view, worker_deque}
use Rattle.steal_pool.specs.declared.victim.Rest.{Rest}
use Rattle.steal_pool.specs.Rule.{takes_of}
use Rattle.steal_pool.specs.Pools.{EachAt, IsRest, rest_taken}
use Rattle.steal_pool.proofs.Places.{EachAt-front, popped}
use Rattle.list_laws.proofs.Changed.{flat_map-push}
use Rattle.steal_pool.proofs.Passes.{victims_of}
use Rattle.steal_pool.proofs.Settled.{given_more}
use Rattle.steal_pool.proofs.settling.give_all.Goals as goal

pub give_range-requires-clause-room : goal.give_range-requires-clause-room
give_range-requires-clause-room g c =
    let ids = map (λ w. worker_deque w) c.loop-rest.owns.items in
    let last = popped c.loop-rest.rests.items c.pop.new.self.items c.in-Some.rest c.in-Some.ensures.items in
    let wide = length-map c.loop-rest.owns.items (λ w. worker_deque w) in
    let known = victims_of ids _ c.in-Some.rest (omega (arith, wide, last.longer, c.loop-rest.invariant.fewer)) (c.loop-rest.invariant.each _ c.in-Some.rest last.at) in
    omega (arith, known.before_many, wide, last.longer, c.loop-rest.invariant.fewer)

pub give_range-requires-clause-victims : goal.give_range-requires-clause-victims
give_range-requires-clause-victims g c =
    let ids = map (λ w. worker_deque w) c.loop-rest.owns.items in
    let last = popped c.loop-rest.rests.items c.pop.new.self.items c.in-Some.rest c.in-Some.ensures.items in
    let wide = length-map c.loop-rest.owns.items (λ w. worker_deque w) in
    (victims_of ids _ c.in-Some.rest (omega (arith, wide, last.longer, c.loop-rest.invariant.fewer)) (c.loop-rest.invariant.each _ c.in-Some.rest last.at)).before

pub give_range-requires-in-Some-clause-room : goal.give_range-requires-in-Some-clause-room
give_range-requires-in-Some-clause-room g c =
    let owns = c.loop-rest.owns.items in
    let owns1 = c.give_range.new.owns.items in
    let ids = map (λ w. worker_deque w) owns in
    let last = popped c.loop-rest.rests.items c.pop.new.self.items c.in-Some.rest c.in-Some.ensures.items in
    let wide = length-map owns (λ w. worker_deque w) in
    let known = victims_of ids _ c.in-Some.rest (omega (arith, wide, last.longer, c.loop-rest.invariant.fewer)) (c.loop-rest.invariant.each _ c.in-Some.rest last.at) in
    omega (arith, known.after_many, wide, length-map owns1 (λ w. worker_deque w), ap length c.give_range.ensures.same, c.len.ensures, c.pop.new.self.ok)

pub give_range-requires-in-Some-clause-victims : goal.give_range-requires-in-Some-clause-victims
give_range-requires-in-Some-clause-victims g c =
    let ids = map (λ w. worker_deque w) c.loop-rest.owns.items in
    let last = popped c.loop-rest.rests.items c.pop.new.self.items c.in-Some.rest c.in-Some.ensures.items in
    let wide = length-map c.loop-rest.owns.items (λ w. worker_deque w) in
    let known = victims_of ids _ c.in-Some.rest (omega (arith, wide, last.longer, c.loop-rest.invariant.fewer)) (c.loop-rest.invariant.each _ c.in-Some.rest last.at) in
    let n : c.len.result ≡ length c.pop.new.self.items = omega (arith, c.len.ensures, c.pop.new.self.ok) in
    λ k h. known.after k h ∙ ap (λ i. slice_get ids (i + 1 + k)) (sym n) ∙ ap (λ l. slice_get l (c.len.result + 1 + k)) (sym c.give_range.ensures.same)

pub give_range-requires-in-Some-clause-some : goal.give_range-requires-in-Some-clause-some
give_range-requires-in-Some-clause-some g c =
    let inv = c.loop-rest.invariant in
    let owns = c.loop-rest.owns.items in
    let owns1 = c.give_range.new.owns.items in
    let ids = map (λ w. worker_deque w) owns in
    let gave = c.give_range.ensures in
    let last = popped c.loop-rest.rests.items c.pop.new.self.items c.in-Some.rest c.in-Some.ensures.items in
    let wide = length-map owns (λ w. worker_deque w) in
    let known = victims_of ids _ c.in-Some.rest (omega (arith, wide, last.longer, inv.fewer)) (inv.each _ c.in-Some.rest last.at) in
    let as_many : length owns1 ≡ length owns = sym (length-map owns1 (λ w. worker_deque w)) ∙ ap length gave.same ∙ wide in
    λ i h. elim (cases_lt i (length c.loop-rest.rests.items)) [
      | inl earlier ↦ elim (cases_lt i (length c.pop.new.self.items)) [
        | inl given ↦ omega (arith, gave.passes i (omega arith) (omega (arith, given, known.before_many)))
        | inr own ↦ omega (arith, gave.others i (inr (omega (arith, own, known.before_many))), inv.before i earlier, inv.many, inv.fewer, c.requires.few)
      ]
      | inr later ↦ omega (arith, gave.others i (inr (omega (arith, later, last.longer, known.before_many))), inv.after i later (omega (arith, as_many)), inv.many, inv.fewer, c.requires.few)
    ]

pub loop-rest-preserved : goal.loop-rest-preserved
loop-rest-preserved g c =
    let inv = c.loop-rest.invariant in
    let rests = c.pop.new.self.items in
    let rest = c.in-Some.rest in
    let owns = c.loop-rest.owns.items in
    let owns1 = c.give_range.new.owns.items in
    let owns2 = c.give_range-in-Some.new.owns.items in
    let ids = map (λ w. worker_deque w) owns in
    let b = c.give_range.ensures in
    let a = c.give_range-in-Some.ensures in
    let last = popped c.loop-rest.rests.items rests rest c.in-Some.ensures.items in
    let wide = length-map owns (λ w. worker_deque w) in
    let known = victims_of ids _ rest (omega (arith, wide, last.longer, inv.fewer)) (inv.each _ rest last.at) in
    let n : c.len.result ≡ length rests = omega (arith, c.len.ensures, c.pop.new.self.ok) in
    let many1 : length owns1 ≡ length owns = sym (length-map owns1 (λ w. worker_deque w)) ∙ ap length b.same ∙ wide in
    let many2 : length owns2 ≡ length owns1 = sym (length-map owns2 (λ w. worker_deque w)) ∙ ap length a.same ∙ length-map owns1 (λ w. worker_deque w) in
    let same : map (λ w. worker_deque w) owns2 ≡ ids = a.same ∙ b.same in
    record {
      owner = a.owner;
      many = many2 ∙ many1 ∙ inv.many;
      fewer = omega (arith, many2, many1, last.longer, inv.fewer);
      same = same ∙ inv.same;
      each = λ i r e. subst (λ l. IsRest l i r) (sym same)
          (EachAt-front (λ i r. IsRest ids i r) rests (rest ∷ []) (subst (λ (l : List (Rest _)). EachAt l (λ i r. IsRest ids i r)) c.in-Some.ensures.items inv.each) i r e);
      before = λ i h. omega (arith, b.passes i (omega arith) (omega (arith, h, known.before_many)), a.others i (inl (omega (arith, n))), inv.before i (omega (arith, last.longer)), last.longer);
      after = λ i low high. elim (cases_lt i (length c.loop-rest.rests.items)) [
        | inl own ↦ omega (arith, b.others i (inr (omega (arith, low, known.before_many))), a.others i (inl (omega (arith, n, own, last.longer))), inv.before i own, last.longer)
        | inr later ↦ omega (arith, b.others i (inr (omega (arith, low, known.before_many))), a.passes i (omega (arith, n, later, last.longer)) (omega (arith, n, high, many2, many1, known.after_many, wide)), inv.after i later (omega (arith, high, many2, many1)), last.longer)
      ];
      put = a.put ∙ b.put ∙ inv.put;
      taken =
          (let all : flat_map rest_taken c.loop-rest.rests.items ≡ flat_map rest_taken rests ++ rest_taken rest = ap (λ l. flat_map rest_taken l) c.in-Some.ensures.items ∙ flat_map-push rest_taken rests rest in
          given_more (takes_of (map (λ w. worker_view w) owns)) (takes_of (map (λ w. worker_view w) owns1)) (takes_of (map (λ w. worker_view w) owns2))
          (takes_of (map (λ v. view v.pass) rest.before.items)) (takes_of (map (λ v. view v.pass) rest.after.items)) (flat_map rest_taken rests) _
          b.taken a.taken (rw all at inv.taken));
    }
