-- Seats that come back, and what all of them drew.
use Rattle.std.proofs.Common.{◌≡◌, ℕ, ◌+◌, ◌<◌, ◌≤◌, ◌↔◌, min, List, [], ◌∷◌, ◌++◌, get_or, sym, refl, ap, ◌∙◌, subst, append_assoc, arith, All, IsPermutation, cond, ltb}
use Rattle.std.specs.List.{flat_map, range_with_len, sum_by}
use Rattle.std.proofs.lemmas.List.Elements.{All-head, All-tail, All-weaker}
use Rattle.std.proofs.lemmas.List.FromFn.{length-range_with_len, get_or-range_with_len}
use Rattle.std.proofs.lemmas.List.Sums.{sum_by-cons, sum_by-append}
use Rattle.std.proofs.lemmas.List.Sorted.{IsPermutation-sym, IsPermutation-trans, IsPermutation-append_comm, sum_by-IsPermutation, All-permutation}
use native.Mathlib.Decide.{dec_le}
use mathlib.Core.Logic.{dite}
use Rattle.node_tickets.specs.Seats.{TicketsView, SeatView, IsSeatOf, MayDraw, drawn_by, numbers_of}
use Rattle.list_laws.proofs.Changed.{flat_map-push}
use Rattle.list_laws.proofs.Exchanges.{IsPermutation-same, IsPermutation-swap_last}
use Rattle.list_laws.proofs.Wholes.{All-joined, All-parts}
use Rattle.node_tickets.proofs.Numbers.{low_of, low_range}
use Rattle.list_laws.proofs.Ranges.{range_below}

-- a seat takes the last one of some others
pub joined_more : (mine more all : List ℕ) (seats rest : List SeatView) (seat : SeatView) → seats ≡ rest ++ seat ∷ [] → more ≡ mine ++ seat.drawn →
    IsPermutation (mine ++ flat_map drawn_by seats) all → IsPermutation (more ++ flat_map drawn_by rest) all
joined_more mine more all seats rest seat split takes h =
    let whole : mine ++ (flat_map drawn_by rest ++ seat.drawn) ≡ mine ++ flat_map drawn_by seats = ap (λ (l : List ℕ). mine ++ l) (sym (flat_map-push drawn_by rest seat) ∙ ap (flat_map drawn_by) (sym split)) in
    subst (λ (l : List ℕ). IsPermutation (l ++ flat_map drawn_by rest) all) (sym takes)
    (IsPermutation-trans _ _ _ (IsPermutation-swap_last mine seat.drawn (flat_map drawn_by rest))
    (IsPermutation-trans _ _ _ (IsPermutation-same _ _ (append_assoc mine (flat_map drawn_by rest) seat.drawn ∙ whole)) h))

-- the last seat took all the others
pub joined_all : (all : List ℕ) (seats rest : List SeatView) (seat : SeatView) → seats ≡ rest ++ seat ∷ [] → IsPermutation all (seat.drawn ++ flat_map drawn_by rest) → IsPermutation (flat_map drawn_by seats) all
joined_all all seats rest seat split h =
    IsPermutation-trans _ _ _ (IsPermutation-same _ _ (ap (flat_map drawn_by) split ∙ flat_map-push drawn_by rest seat))
    (IsPermutation-trans _ _ _ (IsPermutation-append_comm (flat_map drawn_by rest) seat.drawn) (IsPermutation-sym _ _ h))

-- the numbers below the limit that some seats drew
numbers_all : (t : TicketsView) (seats : List SeatView) → All (IsSeatOf t) seats → sum_by numbers_of seats ≡ low_of t.limit (flat_map drawn_by seats)
numbers_all t [] each = refl
numbers_all t (s ∷ ss) each =
    let its = All-head (IsSeatOf t) s ss each in
    let mine : numbers_of s ≡ low_of t.limit s.drawn = ap (λ (l : ℕ). low_of l s.drawn) its.1 in
    let both : low_of t.limit (s.drawn ++ flat_map drawn_by ss) ≡ low_of t.limit s.drawn + low_of t.limit (flat_map drawn_by ss) = sum_by-append (λ n. cond (ltb n t.limit) 1 0) s.drawn (flat_map drawn_by ss) in
    omega (arith, sum_by-cons numbers_of s ss, mine, both, numbers_all t ss (All-tail (IsSeatOf t) s ss each))

-- are low where each seat's are
all_low : (t : TicketsView) (seats : List SeatView) → All (IsSeatOf t) seats → All MayDraw seats → All (λ n. n < t.limit) (flat_map drawn_by seats)
all_low t seats each may = All-joined (λ n. n < t.limit) drawn_by seats (λ k d here. subst (λ (l : ℕ). All (λ n. n < l) (get_or seats k d).drawn) (each k d here).1 (may k d here))

each_low : (t : TicketsView) (seats : List SeatView) → All (IsSeatOf t) seats → All (λ n. n < t.limit) (flat_map drawn_by seats) → All MayDraw seats
each_low t seats each low = λ k d here. subst (λ (l : ℕ). All (λ n. n < l) (get_or seats k d).drawn) (sym (each k d here).1) (All-parts (λ n. n < t.limit) drawn_by seats low k d here)

-- a range is low where it ends at the limit or below it
range_low : (limit n : ℕ) → All (λ x. x < limit) (range_with_len 0 n) → n ≤ limit
range_low limit n low = dite (dec_le n limit) (λ is. is) (λ no.
    absurd (omega (arith, low limit 0 (omega (arith, length-range_with_len 0 n)), get_or-range_with_len 0 n limit 0 (omega arith))))

-- what all seats drew, once it is known to be a range
pub all_numbers : (t : TicketsView) (seats : List SeatView) (n : ℕ) → All (IsSeatOf t) seats → IsPermutation (flat_map drawn_by seats) (range_with_len 0 n) → sum_by numbers_of seats ≡ min t.limit n
all_numbers t seats n each drawn =
    let same : low_of t.limit (range_with_len 0 n) ≡ low_of t.limit (flat_map drawn_by seats) = sum_by-IsPermutation (λ x. cond (ltb x t.limit) 1 0) _ _ drawn in
    numbers_all t seats each ∙ sym same ∙ low_range t.limit n

pub all_may : (t : TicketsView) (seats : List SeatView) (n : ℕ) → All (IsSeatOf t) seats → IsPermutation (flat_map drawn_by seats) (range_with_len 0 n) → All MayDraw seats ↔ (n ≤ t.limit)
all_may t seats n each drawn =
    let low = λ (x : ℕ). x < t.limit in (
      λ may. range_low t.limit n (All-permutation low _ _ drawn (all_low t seats each may)),
      λ few. each_low t seats each (All-permutation low _ _ (IsPermutation-sym _ _ drawn) (All-weaker (λ x. x < n) low (λ x h. omega arith) (range_with_len 0 n) (range_below n))),
    )
