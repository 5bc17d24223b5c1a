-- All seats of a board, at a later time.
use Rattle.std.proofs.Common.{◌∙◌, arith}
use Rattle.list_laws.proofs.Matched.{AllZip-from_places, All-zip, sum_by-zip}
use Rattle.incumbent_board.specs.Boards.{IsSeatOf, IsSameSeat, SeatsStay}

pub seats_stay : SeatsStay
seats_stay b old new long same all =
    let zip = AllZip-from_places IsSameSeat old new long (λ k s here. same k s (omega (arith, here, long))) in
    record {
      each = All-zip IsSameSeat (IsSeatOf b) (IsSeatOf b) (λ _ _ k is. k.0 ∙ is) old new zip all.each;
      all = sum_by-zip IsSameSeat (λ s. s.stands) (λ _ _ k. k.1) old new zip ∙ all.all;
    }
