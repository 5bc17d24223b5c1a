use Rattle.std.proofs.Common.{◌≡◌, ◌∷◌, [], ℕ, refl}
use Rattle.sweep_table.specs.LookParts.{LookParts, look_row, factor_in, factor_of, misses}
use Rattle.belief_update.proofs.steps.weaken.Goals as goal

-- the factors of a look over its own cell alone
own_factors : (sweep : LookParts) (whole t a part : ℕ) → whole ≡ sweep.denominator → ((u : ℕ) → look_row sweep u a ≡ misses a part ∷ []) →
    (c : ℕ) → factor_in whole (misses a part ∷ []) c ≡ factor_of sweep t a c
unfolding factor_of
own_factors sweep whole t a part same own c = rw (same, own t) refl

pub weaken_own-requires : goal.weaken_own-requires
weaken_own-requires c = record {
  fits = λ x lt. rw (own_factors c.args.sweep.now _ c.args.t c.args.a _ c.denominator.ensures.value c.in-Some.ensures.row x) (c.requires.fits x lt);
}

pub returns-in-Some : goal.returns-in-Some
returns-in-Some c = record {
  each = λ x lt. rw (← own_factors c.args.sweep.now _ c.args.t c.args.a _ c.denominator.ensures.value c.in-Some.ensures.row x) (c.weaken_own.ensures.each x lt);
}
