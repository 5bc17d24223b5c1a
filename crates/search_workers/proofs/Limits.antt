-- A worker makes no more records than the limit.
use Rattle.std.proofs.Common.{ℕ, zero, suc, ◌<◌, ◌≤◌, List, [], ◌∷◌, nat_lt, length, get_or, arith, All, AllPairs}
use Rattle.std.proofs.lemmas.List.Sums.{count_by-le-length}
use Rattle.search_model.specs.declared.standing.Standing.{Standing}
use Rattle.search_model.specs.Problem.{Problem}
use Rattle.node_tickets.specs.Seats.{MayDraw}
use Rattle.search_workers.specs.Desks.{DeskView, IsInOrder}

-- a number of an ascending list is no smaller than its place
place_below : (ms : List ℕ) → AllPairs (λ m n. m < n) ms → (k : ℕ) → k < length ms → k ≤ get_or ms k 0
place_below ms up zero l = omega arith
place_below ms up (suc k) l =
    let before = place_below ms up k (omega (arith, l)) in
    let step = up k (suc k) 0 (omega arith) l in
    omega (arith, before, step)

-- so there are at most as many as the numbers below the limit
few_ascending : (ms : List ℕ) (limit : ℕ) → AllPairs (λ m n. m < n) ms → All (λ n. n < limit) ms → length ms ≤ limit
few_ascending [] limit up below = omega arith
few_ascending (m ∷ ms) limit up below =
    let last = place_below (m ∷ ms) up (length ms) (omega arith) in
    let under = below (length ms) 0 (omega arith) in
    omega (arith, last, under)

pub few_records : (p : Problem) (first : Standing) (d : DeskView) → IsInOrder p first d → MayDraw d.ticket → length d.records ≤ d.ticket.limit
few_records p first d order may = omega (arith, order.counted, count_by-le-length (λ n. nat_lt n d.ticket.limit) d.ticket.drawn, few_ascending d.ticket.drawn d.ticket.limit order.ascending may)
