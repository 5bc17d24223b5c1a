use Rattle.std.proofs.Common.{◌≡◌, map, refl, ◌∙◌, ap, sym, arith}
use Rattle.std.specs.List.{range_with_len}
use Rattle.std.proofs.lemmas.List.FromFn.{map-range_with_len_more}
use Rattle.search_model.specs.Grids.{grid_name}
use Rattle.scenario_maker.proofs.shaping.grid_names.Goals as goal

pub loop-c-preserved : goal.loop-c-preserved
loop-c-preserved c = c.in_ok-push.ensures.items ∙ (rw (c.loop-c.invariant, c.grid_name.ensures) refl) ∙ sym (map-range_with_len_more (grid_name 5) 0 c.loop-c.c c.loop-c.c (omega arith))

pub returns : goal.returns
returns c =
    let all : c.loop-c.c ≡ 25 = omega arith in
    c.loop-c.invariant ∙ ap (λ n. map (grid_name 5) (range_with_len 0 n)) all
