use Rattle.std.proofs.Common.{◌≡◌, ◌∙◌, ℕ, List, length, take, refl, sym, ap, arith, IsFalse}
use Rattle.search_model.specs.declared.standing.Standing.{Standing}
use Rattle.search_model.specs.Problem.{Problem, IsProblem}
use Rattle.search_model.specs.Legal.{IsLegal}
use Rattle.search_model.specs.Bounds.{mean_of, tangent_of}
use Rattle.bound_tree.specs.Close.{IsTangent, IsLeftOpen}
use Rattle.bound_tree.specs.Cut.{is_cut, times}
use Rattle.bound_tree.proofs.Tangents.{one_tangent, reference_extends}
use Rattle.tangent_bound.proofs.Sizes.{finer_fits}
use Rattle.mean_bound.specs.Means.{IsMadeFor as IsMeanFor, IsAlong}
use Rattle.path_node.specs.Room.{NodeTables}
use Rattle.path_node.proofs.node.close_by_tangent.Goals as goal

pub bound_by-tangent-requires-clause-path : goal.bound_by-tangent-requires-clause-path
bound_by-tangent-requires-clause-path c = (reference_extends c.args.sc.now c.args.prefix.now c.sweep.ensures.sound c.requires.legal c.args.reference.now c.requires.reference).path

-- the front of as many positions as the prefix has is the prefix
at_prefix : (p : Problem) (q x : List ℕ) (k : ℕ) → k ≡ length q → take (length q) x ≡ q → (rate : ℕ) → tangent_of p rate (take k x) x ≡ tangent_of p rate q x
at_prefix p q x k same begins rate = ap (λ r. tangent_of p rate r x) (ap (λ (n : ℕ). take n x) same ∙ begins)

pub in_parts-finer-requires : goal.in_parts-finer-requires
in_parts-finer-requires c = rw (c.denominator-whole.ensures.value, c.sweep.ensures.value) (finer_fits c.args.sc.now c.args.standing.now.value c.sweep.ensures.sound (omega (arith, c.requires.exact.value)))

-- a prefix has no other tangent, so it is left open where this one isn't cut
left_open : (p : Problem) (s : Standing) (q : List ℕ) (b : ℕ) (whole : List ℕ) → IsProblem p → IsLegal p q → IsFalse (is_cut (mean_of p q) q s) →
    IsTangent p q b whole → IsFalse (is_cut b q (times p.sweep.denominator s)) → IsLeftOpen p s q
left_open p s q b whole sound legal mean tangent free = record {
  mean = mean;
  tangent = λ c other is. ap (λ n. is_cut n q (times p.sweep.denominator s)) (one_tangent p q sound legal c b other whole is tangent).0 ∙ free;
}

-- where the reference without its last look shows it
pub close_by_edge-requires-clause-open : goal.close_by_edge-requires-clause-open
close_by_edge-requires-clause-open c =
    let p = c.args.sc.now in
    let q = c.args.prefix.now in
    let whole = c.args.reference.now in
    let (rate, is) = c.requires.rate in
    let tangent : IsTangent p q (tangent_of p rate q whole) whole = record { rate = rate; is_rate = is; reference = c.requires.reference; bound = refl } in
    let free : IsFalse (is_cut (tangent_of p rate q whole) q (times p.sweep.denominator c.args.standing.now)) =
    rw (c.in_parts-finer.ensures, c.denominator-whole.ensures.value, c.sweep.ensures.value) at (c.is_seen_open.ensures.open c.if-is_seen_open.true rate is) in
    left_open p c.args.standing.now q (tangent_of p rate q whole) whole c.sweep.ensures.sound c.requires.legal c.requires.free tangent free

-- and where the tangent bound isn't cut
pub close_by_edge-requires-else-cuts-clause-open : goal.close_by_edge-requires-else-cuts-clause-open
close_by_edge-requires-else-cuts-clause-open c =
    let p = c.args.sc.now in
    let q = c.args.prefix.now in
    let whole = c.args.reference.now in
    let bound = c.bound_by-tangent.result in
    let tangent : IsTangent p q bound whole = record { rate = c.requires.rate.0; is_rate = c.requires.rate.1; reference = c.requires.reference; bound = c.bound_by-tangent.ensures.value c.requires.rate.0 c.requires.rate.1 ∙ at_prefix p c.args.prefix.now c.args.reference.now c.len-k.result c.len-k.ensures.value (reference_extends p c.args.prefix.now c.sweep.ensures.sound c.requires.legal c.args.reference.now c.requires.reference).front c.requires.rate.0 } in
    let test : c.cuts.result ≡ is_cut bound q (times p.sweep.denominator c.args.standing.now) = rw (c.in_parts-finer.ensures, c.denominator-whole.ensures.value, c.sweep.ensures.value) at c.cuts.ensures in
    left_open p c.args.standing.now q bound whole c.sweep.ensures.sound c.requires.legal c.requires.free tangent (sym test ∙ c.if-cuts.false)

pub returns-then-cuts-clause-closed : goal.returns-then-cuts-clause-closed
returns-then-cuts-clause-closed c =
    let p = c.args.sc.now in
    let tangent : IsTangent p c.args.prefix.now c.bound_by-tangent.result c.args.reference.now =
    record { rate = c.requires.rate.0; is_rate = c.requires.rate.1; reference = c.requires.reference; bound = c.bound_by-tangent.ensures.value c.requires.rate.0 c.requires.rate.1 ∙ at_prefix p c.args.prefix.now c.args.reference.now c.len-k.result c.len-k.ensures.value (reference_extends p c.args.prefix.now c.sweep.ensures.sound c.requires.legal c.args.reference.now c.requires.reference).front c.requires.rate.0 } in
    let test : c.cuts.result ≡ is_cut c.bound_by-tangent.result c.args.prefix.now (times p.sweep.denominator c.args.standing.now) = rw (c.in_parts-finer.ensures, c.denominator-whole.ensures.value, c.sweep.ensures.value) at c.cuts.ensures in
    (c.requires.shorter, c.requires.free, tangent, sym test ∙ c.if-cuts.true)

pub bound_by-tangent-requires-clause-onward : goal.bound_by-tangent-requires-clause-onward
bound_by-tangent-requires-clause-onward c =
    let p = c.args.sc.now in
    let made : IsMeanFor p c.scratch.inside.mean = rw (ap (λ (s : NodeTables). s.mean) c.scratch.view_is) c.requires.made.mean in
    let there : IsAlong c.args.prefix.now c.scratch.inside.mean = rw (ap (λ (s : NodeTables). s.mean) c.scratch.view_is) c.requires.there in
    c.onward-onward.ensures p c.args.prefix.now made there
