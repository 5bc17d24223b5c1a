-- All kits of a pool stay all kits of it, whatever each of them did: for callers who run them beside each other.
use Rattle.std.proofs.Common.{◌≡◌, ℕ, List, [], ◌∷◌, length, get_or, refl, sym, ap, ◌∙◌, arith, slice_get, Some, ◌<◌}
use Rattle.std.proofs.lemmas.Option.{slice_get_within, slice_get-get_or}
use Rattle.steal_pool.specs.Kits.{KitView}
use Rattle.steal_pool.specs.Pools.{IsWhole, pool_of}

module _ {T : Type 0} where
  -- each kit is of its pool and at its place, as before
  abbrev pub KeepPlaces : List (KitView T) → List (KitView T) → Type 0
  KeepPlaces old new = (i : ℕ) (k k' : KitView T) → slice_get old i ≡ Some k → slice_get new i ≡ Some k' → (k'.pool ≡ k.pool) × (k'.place ≡ k.place)

  pool_kept : (old new : List (KitView T)) → length new ≡ length old → KeepPlaces old new → pool_of new ≡ pool_of old
  pool_kept [] [] many same = refl
  pool_kept [] (k' ∷ new) many same = absurd (omega arith)
  pool_kept (k ∷ old) [] many same = absurd (omega arith)
  pool_kept (k ∷ old) (k' ∷ new) many same = (same 0 k k' refl refl).0

  pub whole_kept : (old new : List (KitView T)) → length new ≡ length old → KeepPlaces old new → IsWhole old → IsWhole new
  whole_kept old new many same whole =
      let pools = pool_kept old new many same in
      record {
        all = many ∙ whole.all ∙ ap length (sym pools);
        each = λ i k' e.
            let within : i < length old = omega (arith, many, slice_get_within new i k' e) in
            let was = slice_get-get_or old i k' within in
            let stays = same i (get_or old i k') k' was e in
            let known = whole.each i (get_or old i k') was in
            (stays.0 ∙ known.0 ∙ sym pools, stays.1 ∙ known.1);
      }
