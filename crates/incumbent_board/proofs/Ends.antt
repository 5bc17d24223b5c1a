-- The passes of all seats, joined, know the whole history.
use Rattle.std.proofs.Common.{◌≡◌, ℕ, ◌<◌, false, List, [], ◌∷◌, ◌++◌, length, drop, get_or, sym, refl, ap, ◌∙◌, subst, append_assoc, arith, All, Contains, IsPermutation}
use Rattle.std.specs.List.{flat_map}
use Rattle.std.proofs.lemmas.List.Sums.{sum_by-append, sum_by-cons}
use Rattle.std.proofs.lemmas.List.Elements.{All-nil, All-cons, All-append, All-head, All-tail}
use Rattle.std.proofs.lemmas.List.Sorted.{IsPermutation-trans, IsPermutation-append_right, IsPermutation-append_comm, Contains-permutation}
use mathlib.Core.List.{IsPrefix}
use Rattle.atomic_table.specs.Seated.{TableId}
use Rattle.search_model.specs.declared.standing.Standing.{Standing}
use Rattle.search_model.specs.Order.{better}
use Rattle.list_laws.proofs.Members.{Contains-head, Contains-tail}
use Rattle.search_model.proofs.Orders.{better_irreflexive, better_one_way, better_order}
use Rattle.incumbent_board.specs.declared.sight.Sight.{Sight}
use Rattle.incumbent_board.specs.History.{first_of, last_from, last_of, Rises, NoneBetter}
use Rattle.incumbent_board.specs.Words.{told_by}
use Rattle.incumbent_board.specs.Boards.{BoardView, SeatView, offers_of, AreAllSeats, EndsWith}
use Rattle.incumbent_board.specs.Rule.{ALL, cell_of, Closes, joined}
use Rattle.incumbent_board.specs.Joins.{IsOfSeat, Gathers}
use Rattle.incumbent_board.proofs.Histories.{first_seen, some_seen}
use Rattle.incumbent_board.proofs.Shown.{told_last}
use Rattle.list_laws.proofs.Changed.{flat_map-push}
use Rattle.list_laws.proofs.Exchanges.{IsPermutation-same}
use Rattle.list_laws.proofs.Halves.{All-front, All-back}
use Rattle.list_laws.proofs.Wholes.{All-joined, All-parts}

-- and one more
pub joins_more : (v w u : Sight) (done : List SeatView) (s : SeatView) → Gathers v done w → IsOfSeat s u → Gathers v (done ++ s ∷ []) (joined w u)
joins_more v w u done s k is = record {
  seats = omega (arith, k.seats, is.seats, sum_by-append (λ (y : SeatView). y.stands) done (s ∷ []), sum_by-cons (λ (y : SeatView). y.stands) s []);
  placed = longer_list (λ (y : SeatView). y.placed) v.placed w.placed u.placed k.placed is.placed;
  behind = longer_list (λ (y : SeatView). y.behind) v.behind w.behind u.behind k.behind is.behind;
  seen = λ history b. (
      let P : List Standing → Type 0 = λ seen. IsPrefix seen history in
      let told : All P ((w.seen ∷ w.told) ++ u.seen ∷ u.told) = b.told in
      let first : All P (w.seen ∷ w.told) = All-front P (w.seen ∷ w.told) (u.seen ∷ u.told) told in
      let second : All P (u.seen ∷ u.told) = All-back P (w.seen ∷ w.told) (u.seen ∷ u.told) told in
      let old = k.seen history (record { seen = All-head P w.seen w.told first; told = All-tail P w.seen w.told first }) in
      let Q : SeatView → Type 0 = λ y. IsPrefix y.seen history in
      (old.0, All-append Q done (s ∷ []) old.1 (All-cons Q s [] (subst P is.seen (All-head P u.seen u.told second)) (All-nil Q)))
      );
}
  where
    longer_list : (f : SeatView → List Standing) (a b c : List Standing) → b ≡ a ++ flat_map f done → c ≡ f s → b ++ c ≡ a ++ flat_map f (done ++ s ∷ [])
    longer_list f a b c e g =
        ap (λ (l : List Standing). l ++ c) e ∙ append_assoc a (flat_map f done) c ∙ ap (λ (l : List Standing). a ++ (flat_map f done ++ l)) g ∙ ap (λ (l : List Standing). a ++ l) (sym (flat_map-push f done s))

-- no earlier standing is better than the last
first_not_better : (a : Standing) (later : List Standing) → Rises a later → better a (last_from a later) ≡ false
first_not_better a [] r = better_irreflexive a
first_not_better a (b ∷ later) r = better_order.chain a b (last_from b later) (better_one_way b a r.0) (first_not_better b later r.1)

pub last_there : (a : Standing) (later : List Standing) → Contains (a ∷ later) (last_from a later)
last_there a [] = Contains-head a []
last_there a (b ∷ later) = Contains-tail a (last_from b later) (b ∷ later) (last_there b later)

-- offers are placed or behind
all_offers : (P : Standing → Type 0) (seats : List SeatView) → All P (flat_map (λ s. s.placed) seats) → All P (flat_map (λ s. s.behind) seats) → All P (flat_map (λ s. offers_of s) seats)
all_offers P seats placed behind = All-joined P (λ s. offers_of s) seats (λ k d here.
    let s = get_or seats k d in
    All-append P s.placed s.behind (All-parts P (λ (s : SeatView). s.placed) seats placed k d here) (All-parts P (λ (s : SeatView). s.behind) seats behind k d here))

-- what the last load of a pass that knows what all seats know tells
pub record Ended (b : BoardView) (seats : List SeatView) (answer : Standing) : Type 0 where
  pub history : EndsWith b seats answer
  pub best : NoneBetter (b.first ∷ flat_map (λ s. offers_of s) seats) answer
  pub known : Contains (b.first ∷ flat_map (λ s. s.placed) seats) answer

-- the history that was seen, cut at its first standing
cut_first : (history : List Standing) → 0 < length history → history ≡ first_of history ∷ drop 1 history
cut_first [] begun = absurd (omega arith)
cut_first (a ∷ later) begun = refl

all_of_both : (P : Standing → Type 0) (f : SeatView → List Standing) (rest : List SeatView) (one : SeatView) (a c all : List Standing) → all ≡ c → c ≡ a ++ flat_map f rest → a ≡ f one → All P all → All P (flat_map f (rest ++ one ∷ []))
all_of_both P f rest one a c all same e g each =
    let both : All P (a ++ flat_map f rest) = subst (All P) (same ∙ e) each in
    subst (All P) (sym (flat_map-push f rest one)) (All-append P (flat_map f rest) (f one) (All-back P a (flat_map f rest) both) (subst (All P) g (All-front P a (flat_map f rest) both)))

-- the joined pass stands for all seats
sum_is : (b : BoardView) (rest : List SeatView) (one : SeatView) (v w : Sight) → AreAllSeats b (rest ++ one ∷ []) → IsOfSeat one v → Gathers v rest w → w.seats ≡ ALL
sum_is b rest one v w all is k = omega (arith, k.seats, is.seats, all.all, sum_by-append (λ (y : SeatView). y.stands) rest (one ∷ []), sum_by-cons (λ (y : SeatView). y.stands) one [])

-- and placed what all placed
own_placed : (rest : List SeatView) (one : SeatView) (v w : Sight) (later : List Standing) → IsOfSeat one v → Gathers v rest w → IsPermutation later w.placed → IsPermutation later (flat_map (λ s. s.placed) (rest ++ one ∷ []))
own_placed rest one v w later is k own =
    let f : SeatView → List Standing = λ y. y.placed in
    IsPermutation-trans _ _ _ (subst (IsPermutation later) k.placed own)
    (IsPermutation-trans _ _ _ (IsPermutation-append_comm v.placed (flat_map f rest))
    (IsPermutation-same _ _ (ap (λ (l : List Standing). flat_map f rest ++ l) is.placed ∙ sym (flat_map-push f rest one))))

pub ended : (b : BoardView) (rest : List SeatView) (one : SeatView) (v w u : Sight) (words : List ℕ) → AreAllSeats b (rest ++ one ∷ []) → IsOfSeat one v → Gathers v rest w → Closes w words words u → Ended b (rest ++ one ∷ []) (told_by b.first words)
ended b rest one v w u words all is k (s, placed) =
    let begin = k.seen u.seen (record { seen = s.0.seen; told = s.0.told }) in
    let one_seen : IsPrefix one.seen u.seen = subst (λ (l : List Standing). IsPrefix l u.seen) is.seen begin.0.seen in
    let begun : 0 < length u.seen = some_seen one.seen u.seen one_seen is.begun in
    let of_board : one.board ≡ b = All-head (λ (y : SeatView). y.board ≡ b) one [] (All-back (λ (y : SeatView). y.board ≡ b) rest (one ∷ []) all.each) in
    let first : first_of u.seen ≡ b.first = first_seen one.seen u.seen one_seen is.begun ∙ is.first ∙ ap (λ (y : BoardView). y.first) of_board in
    let later = drop 1 u.seen in
    let cut : u.seen ≡ b.first ∷ later = cut_first u.seen begun ∙ ap (λ (y : Standing). y ∷ later) first in
    let rises : Rises b.first later = subst (λ (y : Standing). Rises y later) first s.0.rises in
    let answer : last_of u.seen ≡ told_by b.first words =
    sym (ap (told_by b.first) s.0.cell ∙ ap (λ (y : Standing). told_by y (cell_of u.seen)) (sym first) ∙ told_last u.seen begun s.0.fits) in
    let last : last_from b.first later ≡ told_by b.first words = ap last_of (sym cut) ∙ answer in
    let P : Standing → Type 0 = λ t. better t (told_by b.first words) ≡ false in
    let Q : SeatView → Type 0 = λ y. IsPrefix y.seen (b.first ∷ later) in
    let own = own_placed rest one v w later is k (placed (sum_is b rest one v w all is k)) in
    let best : All P (u.placed ++ u.behind) = subst (NoneBetter (u.placed ++ u.behind)) answer s.0.best in
    let all_placed = all_of_both P (λ y. y.placed) rest one v.placed w.placed u.placed (ap (λ (y : Sight). y.placed) s.1) k.placed is.placed (All-front P u.placed u.behind best) in
    let all_behind = all_of_both P (λ y. y.behind) rest one v.behind w.behind u.behind (ap (λ (y : Sight). y.behind) s.1) k.behind is.behind (All-back P u.placed u.behind best) in
    record {
      history = record {
        later = later;
        rises = rises;
        last = last;
        seen = All-append Q rest (one ∷ []) (subst (λ (l : List Standing). All (λ (y : SeatView). IsPrefix y.seen l) rest) cut begin.1) (All-cons Q one [] (subst (IsPrefix one.seen) cut one_seen) (All-nil Q));
        placed = own;
      };
      best = All-cons P b.first (flat_map (λ y. offers_of y) (rest ++ one ∷ [])) (subst (λ (y : Standing). better b.first y ≡ false) last (first_not_better b.first later rises)) (all_offers P (rest ++ one ∷ []) all_placed all_behind);
      known = subst (Contains (b.first ∷ flat_map (λ y. y.placed) (rest ++ one ∷ []))) last
          (Contains-permutation (b.first ∷ later) (b.first ∷ flat_map (λ y. y.placed) (rest ++ one ∷ [])) (last_from b.first later) (IsPermutation-append_right (b.first ∷ []) later _ own) (last_there b.first later));
    }

-- the other seats are of the same cell
pub rest_cells : (b : BoardView) (rest : List SeatView) (one : SeatView) (id : TableId) → AreAllSeats b (rest ++ one ∷ []) → id ≡ one.board.cell → All (λ s. s.board.cell ≡ id) rest
rest_cells b rest one id all same k d below =
    let Q : SeatView → Type 0 = λ y. y.board ≡ b in
    let of_board : one.board ≡ b = All-head Q one [] (All-back Q rest (one ∷ []) all.each) in
    ap (λ (y : BoardView). y.cell) (All-front Q rest (one ∷ []) all.each k d below) ∙ ap (λ (y : BoardView). y.cell) (sym of_board) ∙ sym same
