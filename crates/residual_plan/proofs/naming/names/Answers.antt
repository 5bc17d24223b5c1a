use Rattle.std.proofs.Common.{◌≡◌, ◌+◌, ◌++◌, ◌∷◌, [], List, ℕ, length, map, sym, ap, ◌∙◌, arith, append_assoc}
use Rattle.std.specs.List.{range_with_len}
use Rattle.std.proofs.lemmas.List.FromFn.{map-range_with_len_more}
use Rattle.residual_plan.specs.Forced.{forced_name, forced_names}
use Rattle.residual_plan.proofs.naming.names.Goals as goal

pub loop-i-preserved : goal.loop-i-preserved
loop-i-preserved c =
    let i : ℕ = c.loop-i.i in
    let own = c.args.sc.now.position_names in
    let more = map-range_with_len_more forced_name 0 i i (omega arith) in
    c.in_ok-push.ensures.items
    ∙ ap (λ ns. ns ++ c.forced_name.result ∷ []) c.loop-i.invariant
    ∙ ap (λ (n : List ℕ). (own ++ map forced_name (range_with_len 0 i)) ++ n ∷ []) c.forced_name.ensures
    ∙ append_assoc own (map forced_name (range_with_len 0 i)) (forced_name i ∷ [])
    ∙ ap (λ ns. own ++ ns) (sym more)

pub returns : goal.returns
unfolding forced_names
returns c =
    let all : c.loop-i.i ≡ length c.args.flown.now + 1 = omega (arith, c.loop-i-test.false, c.new_positions-i-end.ensures.value) in
    c.loop-i.invariant ∙ ap (λ n. c.args.sc.now.position_names ++ map forced_name (range_with_len 0 n)) all
