use Rattle.std.proofs.Common.{ℕ, List, map, sym, ap, ◌∙◌, subst, unwrap_or}
use Rattle.sweep_table.specs.LookParts.{parts_over, IsSweep}
use Rattle.scenario_text.specs.State.{state_of}
use Rattle.scenario_text.proofs.Assembled.{overlook_right}
use Rattle.scenario_text.proofs.sweeps.sweep_of_parts.Goals as goal

pub of_right_parts-requires : goal.of_right_parts-requires
of_right_parts-requires c =
    let P : List ℕ → Type 0 = λ xs. IsSweep (parts_over c.args.draft.now.look xs) in
    subst P (sym (c.in_ok-overlook.ensures ∙ ap (map (λ o. unwrap_or o 0)) c.deref.ensures.value)) (overlook_right (state_of c.args.draft.now) c.requires.sound c.requires.whole c.requires.version)
