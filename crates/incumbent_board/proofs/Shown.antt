-- What a board shows by the words of its cell.
use Rattle.std.proofs.Common.{◌≡◌, ℕ, ◌^◌, ◌<◌, Bool, true, false, if◌then◌else◌, nat_eq, List, [], ◌∷◌, ◌++◌, length, drop, sym, refl, ap, ◌∙◌, subst, arith, All}
use lib.Pointwise.{pointwise, bytes_decides}
use Rattle.std.proofs.lemmas.List.Elements.{All-head, All-tail}
use Rattle.search_model.specs.declared.standing.Standing.{Standing}
use Rattle.incumbent_board.specs.declared.sight.Sight.{Sight}
use Rattle.incumbent_board.specs.History.{first_of, last_from, last_of, Rises, IsHistory, NoneBetter, MayStand}
use Rattle.incumbent_board.specs.Words.{words_of, spelled_by, blank, told_by}
use Rattle.incumbent_board.specs.Offers.{Shows}
use Rattle.incumbent_board.specs.Rule.{cell_of, FitsWords, Sees, Looks}
use Rattle.incumbent_board.proofs.Packing.{standing_back}
use Rattle.incumbent_board.proofs.Histories.{first_seen, some_seen, last_fits, words_not_blank}

-- the cell tells the last standing
pub told_last : (history : List Standing) → 0 < length history → All (FitsWords (first_of history)) (drop 1 history) → told_by (first_of history) (cell_of history) ≡ last_of history
told_last [] begun fits = absurd (omega arith)
told_last (a ∷ []) begun fits = refl
told_last (a ∷ b ∷ later) begun fits =
    let s = last_from b later in
    let h : FitsWords a s = last_fits a b later (All-head (FitsWords a) b later fits) (All-tail (FitsWords a) b later fits) in
    go s h (pointwise nat_eq (words_of s) blank) refl
  where
    go : (s : Standing) → FitsWords a s → (t : Bool) → pointwise nat_eq (words_of s) blank ≡ t → (if t then a else spelled_by (length a.path) (words_of s)) ≡ s
    go s h true is = absurd (words_not_blank a s h ((bytes_decides (words_of s) blank).0 is))
    go s h false is = ap (λ (n : ℕ). spelled_by n (words_of s)) (sym h.stands.size) ∙ standing_back s h.short h.bytes

-- the last of a history may stand on its board
last_stands : (history : List Standing) → 0 < length history → (first_of history).value < 2 ^ 127 → All (FitsWords (first_of history)) (drop 1 history) → MayStand (first_of history) (last_of history)
last_stands [] begun small fits = absurd (omega arith)
last_stands (a ∷ []) begun small fits = record { size = refl; value = small }
last_stands (a ∷ b ∷ later) begun small fits = (last_fits a b later (All-head (FitsWords a) b later fits) (All-tail (FitsWords a) b later fits)).stands

-- a list that rises from its first is a history
pub is_history : (first : Standing) (history : List Standing) → 0 < length history → first_of history ≡ first → Rises (first_of history) (drop 1 history) → IsHistory first history
is_history first [] begun same rises = absurd (omega arith)
is_history first (a ∷ later) begun same rises = record { later = later; begins = ap (λ (s : Standing). s ∷ later) same; rises = subst (λ (s : Standing). Rises s later) same rises }

-- what a step that sees the whole history tells of a board that began with a standing
pub record Shown (first : Standing) (seen : List Standing) (words : List ℕ) : Type 0 where
  pub begun : 0 < length seen
  pub same : first_of seen ≡ first
  pub history : IsHistory first seen
  pub last : told_by first words ≡ last_of seen
  pub stands : first.value < 2 ^ 127 → MayStand first (last_of seen)

pub shown : (first : Standing) (v w : Sight) (words : List ℕ) → first_of v.seen ≡ first → 0 < length v.seen → Sees v words w → Shown first w.seen words
shown first v w words same some_seen_before k =
    let begun = some_seen v.seen w.seen k.seen some_seen_before in
    let is : first_of w.seen ≡ first = first_seen v.seen w.seen k.seen some_seen_before ∙ same in record {
      begun = begun;
      same = is;
      history = is_history first w.seen begun is k.rises;
      last = ap (told_by first) k.cell ∙ ap (λ (s : Standing). told_by s (cell_of w.seen)) (sym is) ∙ told_last w.seen begun k.fits;
      stands = λ small. subst (λ (s : Standing). MayStand s (last_of w.seen)) is (last_stands w.seen begun (subst (λ (s : Standing). s.value < 2 ^ 127) (sym is) small) k.fits);
    }

-- a look
pub shows : (first answer : Standing) (v w : Sight) (words : List ℕ) → first_of v.seen ≡ first → 0 < length v.seen → first.value < 2 ^ 127 → Looks v words words w → answer ≡ told_by first words → Shows first v answer w
shows first answer v w words same some_seen_before small (k, after) is =
    let facts = shown first v w words same some_seen_before k in
    let last : answer ≡ last_of w.seen = is ∙ facts.last in
    let offers : w.placed ++ w.behind ≡ v.placed ++ v.behind = ap (λ (y : Sight). y.placed ++ y.behind) after in record {
      offers = (ap (λ (y : Sight). y.seats) after, ap (λ (y : Sight). y.told) after, ap (λ (y : Sight). y.placed) after, ap (λ (y : Sight). y.behind) after);
      seen = k.seen;
      history = facts.history;
      last = last;
      stands = subst (MayStand first) (sym last) (facts.stands small);
      best = subst (λ (l : List Standing). NoneBetter l answer) offers (subst (NoneBetter (w.placed ++ w.behind)) (sym last) k.best);
    }
