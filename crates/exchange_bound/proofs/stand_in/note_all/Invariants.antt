use Rattle.std.proofs.Common.{ℕ, ◌≡◌, List, length, take}
use Rattle.mean_bound.specs.Means.{IsMadeFor as IsMeanFor, IsAlong, IsFilledFor}
use Rattle.exchange_bound.specs.StandIns.{AreCandidates}
use Rattle.exchange_bound.proofs.stand_in.note_all.Given as goal

-- the candidates of the moves so far
abbrev pub invariant-loop-u : goal.invariant-loop-u
invariant-loop-u l = record {
  noted : AreCandidates l.sc l.prefix (take l.u-index l.u-items) l.n l.row;
  room : length l.row ≡ 64;
  mean : IsMeanFor l.sc l.mean;
  along : IsAlong l.prefix l.mean;
  filled : (q : List ℕ) → IsFilledFor l.sc q l.fn.mean → IsFilledFor l.sc q l.mean;
}
