-- Histories and their beginnings.
use Rattle.std.proofs.Common.{◌≡◌, ⊎_elim, ◌⊎◌, ℕ, ◌/◌, ◌^◌, ◌-◌, ◌<◌, ◌≤◌, Bool, true, false, IsTrue, if◌then◌else◌, nat_lt, List, [], ◌∷◌, ◌++◌, length, drop, get_or, slice_index_or, sym, refl, ap, ◌∙◌, subst, append_assoc, arith, All, length-append, ltb-true, ltb-false}
use Rattle.std.proofs.lemmas.List.{append-nil, nil_from_length}
use Rattle.std.proofs.lemmas.List.Elements.{All-head, All-tail}
use mathlib.Core.List.{IsPrefix}
use Rattle.search_model.specs.declared.standing.Standing.{Standing}
use Rattle.search_model.specs.Order.{better}
use Rattle.search_model.proofs.Orders.{better_one_way, better_order}
use Rattle.incumbent_board.specs.History.{first_of, last_from, last_of, Rises, NoneBetter}
use Rattle.incumbent_board.specs.Words.{words_of, spelled_by, blank}
use Rattle.incumbent_board.specs.Rule.{cell_of, FitsWords, longer}
use Rattle.incumbent_board.proofs.Packing.{standing_back}
use Rattle.list_laws.proofs.Halves.{All-front}

module _ {X : Type 0} where
  pub prefix_self : (xs : List X) → IsPrefix xs xs
  prefix_self xs = ([], append-nil xs)

  pub prefix_none : (xs : List X) → IsPrefix [] xs
  prefix_none xs = (xs, refl)

  pub prefix_more : (xs ys zs : List X) → IsPrefix xs ys → IsPrefix xs (ys ++ zs)
  prefix_more xs ys zs p = (p.0 ++ zs, sym (append_assoc xs p.0 zs) ∙ ap (λ (l : List X). l ++ zs) p.1)

  pub prefix_trans : (xs ys zs : List X) → IsPrefix xs ys → IsPrefix ys zs → IsPrefix xs zs
  prefix_trans xs ys zs p q = subst (λ (l : List X). IsPrefix xs l) q.1 (prefix_more xs ys q.0 p)

  prefix_length : (xs ys : List X) → IsPrefix xs ys → length xs ≤ length ys
  prefix_length xs ys p = subst (λ (l : List X). length xs ≤ length l) p.1 (omega (arith, length-append xs p.0))

  -- a beginning that isn't shorter is the whole
  prefix_whole : (xs ys : List X) → IsPrefix xs ys → length ys ≤ length xs → xs ≡ ys
  prefix_whole xs ys p long =
      let n : length (xs ++ p.0) ≡ length ys = ap length p.1 in
      let none : p.0 ≡ [] = nil_from_length p.0 (omega (arith, length-append xs p.0)) in
      sym (append-nil xs) ∙ ap (λ (l : List X). xs ++ l) (sym none) ∙ p.1

-- the longer of two beginnings
pub longer_prefix : (a b h : List Standing) → IsPrefix a h → IsPrefix b h → IsPrefix (longer a b) h
longer_prefix a b h p q = go (nat_lt (length a) (length b))
  where
    go : (c : Bool) → IsPrefix (if c then b else a) h
    go true = q
    go false = p

pub longer_whole : (a b h : List Standing) → IsPrefix a h → IsPrefix b h → (a ≡ h) ⊎ (b ≡ h) → longer a b ≡ h
longer_whole a b h p q whole = go (nat_lt (length a) (length b)) refl
  where
    go : (c : Bool) → nat_lt (length a) (length b) ≡ c → (if c then b else a) ≡ h
    go true is = ⊎_elim (λ (e : a ≡ h). absurd (let n = prefix_length b h q in let m : length a ≡ length h = ap length e in omega (arith, ltb-true _ _ is))) (λ (e : b ≡ h). e) whole
    go false is = ⊎_elim (λ (e : a ≡ h). e) (λ (e : b ≡ h). prefix_whole a h p (let m : length b ≡ length h = ap length e in omega (arith, ltb-false _ _ is))) whole

-- the last entry, after one more
last_from_push : (a : Standing) (later : List Standing) (s : Standing) → last_from a (later ++ s ∷ []) ≡ s
last_from_push a [] s = refl
last_from_push a (b ∷ later) s = last_from_push b later s

pub last_push : (history : List Standing) (s : Standing) → last_of (history ++ s ∷ []) ≡ s
last_push [] s = refl
last_push (a ∷ later) s = last_from_push a later s

-- the first one stays
pub first_push : (history : List Standing) (s : Standing) → 0 < length history → first_of (history ++ s ∷ []) ≡ first_of history
first_push [] s some = absurd (omega arith)
first_push (a ∷ later) s some = refl

pub later_push : (history : List Standing) (s : Standing) → 0 < length history → drop 1 (history ++ s ∷ []) ≡ drop 1 history ++ s ∷ []
later_push [] s some = absurd (omega arith)
later_push (a ∷ later) s some = refl

pub cell_push : (history : List Standing) (s : Standing) → 0 < length history → cell_of (history ++ s ∷ []) ≡ words_of s
cell_push [] s some = absurd (omega arith)
cell_push (a ∷ []) s some = refl
cell_push (a ∷ b ∷ later) s some = ap words_of (last_from_push b later s)

rises_on : (a : Standing) (later : List Standing) (s : Standing) → Rises a later → IsTrue (better s (last_from a later)) → Rises a (later ++ s ∷ [])
rises_on a [] s r h = (h, tt)
rises_on a (b ∷ later) s r h = (r.0, rises_on b later s r.1 h)

-- a better standing may come next
pub rises_push : (history : List Standing) (s : Standing) → 0 < length history → Rises (first_of history) (drop 1 history) → IsTrue (better s (last_of history)) →
    Rises (first_of (history ++ s ∷ [])) (drop 1 (history ++ s ∷ []))
rises_push [] s some r h = absurd (omega arith)
rises_push (a ∷ later) s some r h = rises_on a later s r h

-- a history begins as its beginnings do
pub first_seen : (seen history : List Standing) → IsPrefix seen history → 0 < length seen → first_of history ≡ first_of seen
first_seen [] history p some = absurd (omega arith)
first_seen (a ∷ seen) history p some = ap first_of (sym p.1)

pub some_seen : {X : Type 0} (seen history : List X) → IsPrefix seen history → 0 < length seen → 0 < length history
some_seen seen history p some = let n = prefix_length seen history p in omega arith

-- what isn't better than t isn't better than what is better than t
none_better_one : (u t s : Standing) → IsTrue (better s t) → better u t ≡ false → better u s ≡ false
none_better_one u t s up not = better_order.chain u t s not (better_one_way s t up)

pub none_better_on : (us : List Standing) (t s : Standing) → IsTrue (better s t) → NoneBetter us t → NoneBetter us s
none_better_on us t s up all k d below = none_better_one (slice_index_or us k d) t s up (all k d below)

-- standings that were placed are the same where their words are
pub words_same : (f s t : Standing) → FitsWords f s → FitsWords f t → words_of s ≡ words_of t → s ≡ t
words_same f s t hs ht e =
    sym (standing_back s hs.short hs.bytes)
    ∙ ap (λ (n : ℕ). spelled_by n (words_of s)) (hs.stands.size ∙ sym ht.stands.size)
    ∙ ap (spelled_by (length t.path)) e
    ∙ standing_back t ht.short ht.bytes

-- no standing's words are blank
pub words_not_blank : (f s : Standing) → FitsWords f s → words_of s ≡ blank → ⊥
words_not_blank f s h e = let v = h.stands.value in let head : s.value / 2 ^ 64 ≡ 2 ^ 64 - 1 = ap (λ (l : List ℕ). get_or l 0 0) e in omega arith

pub last_fits : (f a : Standing) (later : List Standing) → FitsWords f a → All (FitsWords f) later → FitsWords f (last_from a later)
last_fits f a [] h all = h
last_fits f a (b ∷ later) h all = last_fits f b later (All-head (FitsWords f) b later all) (All-tail (FitsWords f) b later all)

last_from_seen : (a : Standing) (seen rest : List Standing) → All (FitsWords a) (seen ++ rest) → cell_of (a ∷ (seen ++ rest)) ≡ cell_of (a ∷ seen) → last_from a (seen ++ rest) ≡ last_from a seen
last_from_seen a [] [] holds same = refl
last_from_seen a [] (r ∷ rest) holds same = absurd (words_not_blank a (last_from r rest) (last_fits a r rest (All-head (FitsWords a) r rest holds) (All-tail (FitsWords a) r rest holds)) same)
last_from_seen a (b ∷ seen) rest holds same =
    let here : FitsWords a b = All-head (FitsWords a) b (seen ++ rest) holds in
    let later : All (FitsWords a) (seen ++ rest) = All-tail (FitsWords a) b (seen ++ rest) holds in
    words_same a (last_from b (seen ++ rest)) (last_from b seen) (last_fits a b (seen ++ rest) here later) (last_fits a b seen here (All-front (FitsWords a) seen rest later)) same

-- a beginning by which the cell holds what it holds ends with the same standing
pub last_seen : (seen history : List Standing) → IsPrefix seen history → 0 < length seen → All (FitsWords (first_of history)) (drop 1 history) → cell_of history ≡ cell_of seen → last_of history ≡ last_of seen
last_seen [] history p some holds same = absurd (omega arith)
last_seen (a ∷ seen) history (rest, is) some holds same =
    sym (ap last_of is) ∙ last_from_seen a seen rest (subst (λ (l : List Standing). All (FitsWords (first_of l)) (drop 1 l)) (sym is) holds) (ap cell_of is ∙ same)
