-- Masses with no look after a prefix are the forward masses of its looks.
use Rattle.std.proofs.Common.{zero, suc, ◌+◌, ◌*◌, ◌-◌, ◌≡◌, [], ◌∷◌, ◌++◌, Some, map, length, refl, sym, ap, ◌∙◌, arith}
use Rattle.std.specs.List.{range_with_len}
use Rattle.drift_chain.specs.DriftRows.{part_of}
use Rattle.search_model.specs.Tracks.{tracks}
use Rattle.search_model.specs.Exchange.{drifted}
use Rattle.list_laws.proofs.Sums.{sum_by-same}
use Rattle.belief_update.specs.Masses.{mass_of, looks_to}
use Rattle.belief_update.specs.Laws.{MassesForward, MassesDrift}
use Rattle.belief_update.proofs.BeliefSteps.{drift_mass_at}
use Rattle.belief_update.proofs.Looks.{length-looks_to, looks_to-drift}
use Rattle.belief_update.proofs.Rewards.{factors_along-looked}
use Rattle.belief_update.proofs.TrackSteps.{looked_along-nones}

pub masses_forward : MassesForward
unfolding mass_of
masses_forward p q t c short =
    rw (length-looks_to t q short)
    (sum_by-same _ _ (tracks p.cells (t - 1)) (λ x. rw (looked_along-nones p 1 (t - length q) (map Some q) (x ++ c ∷ []), factors_along-looked p 1 q (x ++ c ∷ [])) refl))

pub masses_drift : MassesDrift
unfolding drifted
masses_drift p q zero d = let none : length q + 1 + 0 ≡ length q + 1 = omega arith in rw none (sym (masses_forward p q (length q + 1) d (omega arith)))
masses_drift p q (suc n) d =
    let t = length q + 1 + n in
    let next : length q + 1 + suc n ≡ t + 1 = omega arith in
    rw next
    (sum_by-same _ (λ c. mass_of p (looks_to t q) c * part_of p.drift t c d) (range_with_len 0 p.cells) (λ c. rw (masses_drift p q n c) refl)
    ∙ drift_mass_at p (looks_to t q) t d (length-looks_to t q (omega arith)) (omega arith)
    ∙ ap (λ looks. mass_of p looks d) (sym (looks_to-drift t q (omega arith))))
