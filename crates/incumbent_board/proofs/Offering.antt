-- The tries of an offer.
use Rattle.std.proofs.Common.{◌≡◌, ℕ, ◌<◌, Bool, false, IsTrue, if◌then◌else◌, List, [], ◌∷◌, ◌++◌, length, sym, ap, ◌∙◌, arith, lit<}
use mathlib.Core.List.{IsPrefix}
use Rattle.search_model.specs.declared.standing.Standing.{Standing}
use Rattle.search_model.specs.Order.{better}
use Rattle.incumbent_board.specs.declared.offer.Offer.TheVariants.{Placed, Behind}
use Rattle.incumbent_board.specs.declared.sight.Sight.{Sight}
use Rattle.incumbent_board.specs.History.{first_of, last_of}
use Rattle.incumbent_board.specs.Words.{told_by}
use Rattle.incumbent_board.specs.Offers.{Tells}
use Rattle.incumbent_board.specs.Rule.{cell_of, behind_with, Weighs, Places}
use Rattle.incumbent_board.proofs.Histories.{prefix_trans, prefix_more, first_push, some_seen, first_seen}
use Rattle.incumbent_board.proofs.Shown.{Shown, shown, is_history}

-- between two tries: of what the pass knew at first, the offer is behind where the words that were met last show it to be
pub record Weighed (first s : Standing) (v : Sight) (words : List ℕ) (w : Sight) : Type 0 where
  pub seats : (w.seats ≡ v.seats) × (w.told ≡ v.told)
  pub seen : IsPrefix v.seen w.seen
  pub shown : Shown first w.seen words
  pub cell : words ≡ cell_of w.seen
  pub placed : w.placed ≡ v.placed
  pub behind : w.behind ≡ behind_with s w.seen v.behind

-- the first load
pub weighed : (first s : Standing) (v w : Sight) (words : List ℕ) → first_of v.seen ≡ first → 0 < length v.seen → Weighs s v words words w → Weighed first s v words w
weighed first s v w words same begun k = record {
  seats = (ap (λ (y : Sight). y.seats) k.1, ap (λ (y : Sight). y.told) k.1);
  seen = k.0.seen;
  shown = shown first v w words same begun k.0;
  cell = k.0.cell;
  placed = ap (λ (y : Sight). y.placed) k.1;
  behind = ap (λ (y : Sight). y.behind) k.1;
}

-- an offer that is better than what was shown isn't behind
not_behind : (s : Standing) (v w : Sight) → IsTrue (better s (last_of w.seen)) → w.behind ≡ behind_with s w.seen v.behind → w.behind ≡ v.behind
not_behind s v w up is = is ∙ ap (λ (b : Bool). if b then v.behind else v.behind ++ s ∷ []) up

-- a try that lost
pub weighed_again : (first s : Standing) (v w u : Sight) (words met : List ℕ) → Weighed first s v words w → IsTrue (better s (last_of w.seen)) → Weighs s w met met u → Weighed first s v met u
weighed_again first s v w u words met k up again =
    let next = weighed first s w u met k.shown.same k.shown.begun again in record {
      seats = (next.seats.0 ∙ k.seats.0, next.seats.1 ∙ k.seats.1);
      seen = prefix_trans v.seen w.seen u.seen k.seen next.seen;
      shown = next.shown;
      cell = next.cell;
      placed = next.placed ∙ k.placed;
      behind = next.behind ∙ ap (behind_with s u.seen) (not_behind s v w up k.behind);
    }

-- an offer that isn't better than what was shown
pub told_behind : (first s best : Standing) (v w : Sight) (words : List ℕ) → Weighed first s v words w → best ≡ told_by first words → better s best ≡ false → Tells first s v (Behind best) w
told_behind first s best v w words k is low =
    let last : best ≡ last_of w.seen = is ∙ k.shown.last in record {
      seats = k.seats;
      seen = k.seen;
      history = k.shown.history;
      next = tt;
      placed = tt;
      last = last;
      worse = low;
      behind = (k.placed, k.behind ∙ ap (λ (b : Bool). if b then v.behind else v.behind ++ s ∷ []) (sym (ap (better s) last) ∙ low));
    }

-- a try that took the place of what was shown
pub told_placed : (first s best : Standing) (v w u : Sight) (words : List ℕ) → Weighed first s v words w → best ≡ told_by first words → IsTrue (better s best) → Places s w u → Tells first s v Placed u
told_placed first s best v w u words k is up p =
    let up_last : IsTrue (better s (last_of w.seen)) = sym (ap (better s) (is ∙ k.shown.last)) ∙ up in
    let seen : u.seen ≡ p.before ++ s ∷ [] = ap (λ (y : Sight). y.seen) p.after in
    let begun = some_seen w.seen p.before p.seen k.shown.begun in
    let before : IsPrefix v.seen p.before = prefix_trans v.seen w.seen p.before k.seen p.seen in
    let same : first_of u.seen ≡ first = ap first_of seen ∙ first_push p.before s begun ∙ first_seen w.seen p.before p.seen k.shown.begun ∙ k.shown.same in record {
      seats = (ap (λ (y : Sight). y.seats) p.after ∙ k.seats.0, ap (λ (y : Sight). y.told) p.after ∙ k.seats.1);
      seen = rw seen (prefix_more v.seen p.before (s ∷ []) before);
      history = is_history first u.seen (rw seen (some_push p.before s)) same p.rises;
      next = record { before = p.before; seen = before; next = seen; better = p.better };
      placed = (ap (λ (y : Sight). y.placed) p.after ∙ ap (λ (l : List Standing). l ++ s ∷ []) k.placed, ap (λ (y : Sight). y.behind) p.after ∙ not_behind s v w up_last k.behind);
      last = tt;
      worse = tt;
      behind = tt;
    }
  where
    some_push : (history : List Standing) (t : Standing) → 0 < length (history ++ t ∷ [])
    some_push [] t = lit< tt
    some_push (a ∷ later) t = omega arith
