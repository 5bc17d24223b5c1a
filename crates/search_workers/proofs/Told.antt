-- What a seat has seen on the board or offered to it.
use Rattle.std.proofs.Common.{◌≡◌, [], ◌∷◌, ◌++◌, inl, inr, sym, subst, Contains}
use Rattle.std.proofs.lemmas.List.Elements.{Contains-append_left, Contains-append_right, Contains-append_cases}
use Rattle.search_model.specs.declared.standing.Standing.{Standing}
use Rattle.list_laws.proofs.Wholes.{Contains-last}
use Rattle.incumbent_board.specs.declared.offer.Offer.{Offer}
use Rattle.incumbent_board.specs.declared.offer.Offer.TheVariants.{Placed, Behind}
use Rattle.incumbent_board.specs.History.{last_of}
use Rattle.incumbent_board.specs.Boards.{SeatView, offers_of}
use Rattle.incumbent_board.specs.Offers.{OnPlaced, IfBehind}
use Rattle.search_workers.specs.Incumbents.{WasTold, Looked}
use Rattle.incumbent_board.proofs.Ends.{last_there}

-- a seat was told of what it offers
pub told_by_offer : (s : Standing) (old new : SeatView) (answer : Offer) →
    OnPlaced answer ((new.placed ≡ old.placed ++ s ∷ []) × (new.behind ≡ old.behind)) →
    IfBehind answer (λ _. (new.placed ≡ old.placed) × (new.behind ≡ old.behind ++ s ∷ [])) → WasTold new s
told_by_offer s old new Placed placed behind = record {
  among = Contains-append_right new.seen (offers_of new) s
      (Contains-append_left new.placed new.behind s (subst (λ xs. Contains xs s) (sym placed.0) (Contains-last old.placed s)));
}
told_by_offer s old new (Behind b) placed behind = record {
  among = Contains-append_right new.seen (offers_of new) s
      (Contains-append_right new.placed new.behind s (subst (λ xs. Contains xs s) (sym behind.1) (Contains-last old.behind s)));
}

-- and of what it was shown
pub told_by_look : (first shown : Standing) (old new : SeatView) → Looked first old shown new → WasTold new shown
told_by_look first shown old new looked =
    let h = looked.history.0 in
    record {
      among = Contains-append_left new.seen (offers_of new) shown
          (subst (Contains new.seen) (sym looked.history.1) (subst (λ xs. Contains xs (last_of xs)) (sym h.begins) (last_there first h.later)));
    }

-- what a seat was told, it stays told
pub still_told : (first shown s : Standing) (old new : SeatView) → Looked first old shown new → WasTold old s → WasTold new s
still_told first shown s old new looked told =
    let (rest, joined) = looked.seen in
    record {
      among = elim (Contains-append_cases old.seen (offers_of old) s told.among) [
        | inl seen ↦ Contains-append_left new.seen (offers_of new) s (subst (λ xs. Contains xs s) joined (Contains-append_left old.seen rest s seen))
        | inr offer ↦ Contains-append_right new.seen (offers_of new) s (rw (looked.offers.0, looked.offers.1) offer)
      ];
    }
