-- Where the children of a prefix are, once they were disposed of.
use Rattle.std.proofs.Common.{◌≡◌, ℕ, ◌+◌, ◌*◌, ◌-◌, ◌<◌, ◌≤◌, Bool, true, false, List, [], ◌∷◌, ◌++◌, reverse, length, inl, inr, refl, sym, ap, ◌∙◌, subst, arith, All, Contains, length-append, append_assoc, append-nil}
use Rattle.std.proofs.lemmas.Bool.{cases_lt}
use Rattle.std.proofs.lemmas.List.{length-reverse, get_or_append_left, get_or-append_right}
use Rattle.std.proofs.lemmas.List.Elements.{All-nil, All-push, All-append, All-weaker, All-contains, All-contains_itself, Contains-append_right}
use Rattle.std.proofs.lemmas.List.Sorted.{IsPermutation-reverse, All-permutation}
use Rattle.list_laws.proofs.Members.{Contains-head, Contains-tail}
use Rattle.search_core.specs.Counts.{count_of, SameItems}
use Rattle.search_core.proofs.Counts.{count_of-append, SameItems-permutation}
use Rattle.steal_pool.specs.Kits.{KitView, put_of, taken_of}
use Rattle.search_workers.specs.Children.{Shares, OnlyPut, Disposes, Wait, HandsOn}
use Rattle.search_workers.specs.Desks.{HasRoom}

waits_shared : (children put waiting put' waiting' : List (List ℕ)) → Shares children put waiting put' waiting' → Wait children waiting waiting'
waits_shared children put waiting put' waiting' s =
    let back = s.puts.back in
    let given = s.puts.given in
    let all : children ≡ s.least ∷ (given ++ back) = s.all ∙ ap (λ xs. s.least ∷ xs) s.puts.all in
    let behind = All-weaker (Contains back) (Contains (s.least ∷ (given ++ back))) (λ r h. Contains-tail s.least r (given ++ back) (Contains-append_right given back r h)) back (All-contains_itself back) in
    record {
      some = back ++ s.least ∷ [];
      last = s.last ∙ ap (λ xs. xs ++ s.least ∷ []) s.puts.kept ∙ append_assoc waiting back (s.least ∷ []);
      few = omega (arith, ap length all, length-append given back, length-append back (s.least ∷ []));
      among = subst (λ xs. All (Contains xs) (back ++ s.least ∷ [])) (sym all) (All-push (Contains (s.least ∷ (given ++ back))) back s.least behind (Contains-head s.least (given ++ back)));
    }

pub waits : (children : List (List ℕ)) (shares : Bool) (kit : KitView (List ℕ)) (waiting : List (List ℕ)) (kit' : KitView (List ℕ)) (waiting' : List (List ℕ)) →
    Disposes children shares kit waiting kit' waiting' → Wait children waiting waiting'
waits children true kit waiting kit' waiting' d = waits_shared children (put_of kit) waiting (put_of kit') waiting' d.0
waits children false kit waiting kit' waiting' d = record {
  some = reverse children;
  last = d.1;
  few = omega (arith, length-reverse children);
  among = All-permutation (Contains children) children (reverse children) (IsPermutation-reverse children) (All-contains_itself children);
}

shared_same : (children put waiting put' waiting' : List (List ℕ)) → Shares children put waiting put' waiting' → SameItems (put' ++ waiting') (put ++ (waiting ++ children))
shared_same children put waiting put' waiting' s q =
    let back = s.puts.back in
    let given = s.puts.given in
    omega (
      arith,
      ap (count_of q) s.all,
      ap (count_of q) s.puts.all,
      ap (count_of q) s.puts.added,
      ap (count_of q) s.puts.kept,
      ap (count_of q) s.last,
      count_of-append q given back,
      count_of-append q put given,
      count_of-append q waiting back,
      count_of-append q s.below (s.least ∷ []),
      count_of-append q put' waiting',
      count_of-append q put (waiting ++ children),
      count_of-append q waiting children,
    )

-- none is lost
pub disposed_same : (children : List (List ℕ)) (shares : Bool) (kit : KitView (List ℕ)) (waiting : List (List ℕ)) (kit' : KitView (List ℕ)) (waiting' : List (List ℕ)) →
    Disposes children shares kit waiting kit' waiting' → SameItems (put_of kit' ++ waiting') (put_of kit ++ (waiting ++ children))
disposed_same children true kit waiting kit' waiting' d = shared_same children (put_of kit) waiting (put_of kit') waiting' d.0
disposed_same children false kit waiting kit' waiting' d = λ q.
    omega (
      arith,
      ap (λ k. count_of q (put_of k)) d.0,
      ap (count_of q) d.1,
      SameItems-permutation children (reverse children) (IsPermutation-reverse children) q,
      count_of-append q (put_of kit') waiting',
      count_of-append q (put_of kit) (waiting ++ children),
      count_of-append q waiting children,
      count_of-append q waiting (reverse children),
    )

-- the kit did nothing else
pub disposed_kit : (children : List (List ℕ)) (shares : Bool) (kit : KitView (List ℕ)) (waiting : List (List ℕ)) (kit' : KitView (List ℕ)) (waiting' : List (List ℕ)) →
    Disposes children shares kit waiting kit' waiting' → OnlyPut kit kit'
disposed_kit children true kit waiting kit' waiting' d = d.1
disposed_kit children false kit waiting kit' waiting' d = record {
  pool = ap (λ k. k.pool) d.0;
  place = ap (λ k. k.place) d.0;
  taken = ap taken_of d.0;
  misses = ap (λ k. k.misses) d.0;
}

-- the children that were disposed of are handed on beside an agenda
pub disposed_on : (children : List (List ℕ)) (shares : Bool) (kit : KitView (List ℕ)) (agenda waiting : List (List ℕ)) (kit' : KitView (List ℕ)) (waiting' : List (List ℕ)) →
    Disposes children shares kit waiting kit' waiting' → HandsOn children kit agenda waiting kit' agenda waiting'
disposed_on children shares kit agenda waiting kit' waiting' d = record {
  only = disposed_kit children shares kit waiting kit' waiting' d;
  same = λ q. omega (
    arith,
    disposed_same children shares kit waiting kit' waiting' d q,
    count_of-append q (put_of kit' ++ agenda) waiting',
    count_of-append q (put_of kit) agenda,
    count_of-append q (put_of kit') agenda,
    count_of-append q (put_of kit) (waiting ++ children),
    count_of-append q (put_of kit ++ agenda) (waiting ++ children),
    count_of-append q (put_of kit') waiting',
  );
  wait = waits children shares kit waiting kit' waiting' d;
}

-- and so are those that were put on it
pub kept_on : (children : List (List ℕ)) (kit : KitView (List ℕ)) (agenda waiting agenda' : List (List ℕ)) → SameItems agenda' (agenda ++ children) →
    HandsOn children kit agenda waiting kit agenda' waiting
kept_on children kit agenda waiting agenda' same = record {
  only = record { pool = refl; place = refl; taken = refl; misses = refl };
  same = λ q. omega (
    arith,
    same q,
    count_of-append q agenda children,
    count_of-append q (put_of kit ++ agenda') waiting,
    count_of-append q (put_of kit) agenda',
    count_of-append q (put_of kit) agenda,
    count_of-append q (put_of kit ++ agenda) (waiting ++ children),
    count_of-append q waiting children,
  );
  wait = record { some = []; last = sym (append-nil waiting); few = omega arith; among = All-nil (Contains children) };
}

-- what holds of all that waited and of all children holds of all that waits now
pub all_wait : (P : List ℕ → Type 0) (children waiting waiting' : List (List ℕ)) → Wait children waiting waiting' → All P waiting → All P children → All P waiting'
all_wait P children waiting waiting' w before of =
    subst (All P) (sym w.last) (All-append P waiting w.some before (All-weaker (Contains children) P (λ r h. All-contains P children r of h) w.some w.among))

room_above : (ws ks : List (List ℕ)) (n : ℕ) → HasRoom ws → length ws + length ks ≤ 63 * n + 64 → All (λ r. length r ≡ n + 1) ks → HasRoom (ws ++ ks)
room_above ws ks n room few long k d l = elim (cases_lt k (length ws)) [
  | inl below ↦ rw (get_or_append_left ws ks d k below) (room k d below)
  | inr above ↦
      let here : k - length ws < length ks = omega (arith, above, l, length-append ws ks) in
      let size = long (k - length ws) d here in
      rw (get_or-append_right ws ks (length ws) k d refl above) (omega (arith, size, few, l, length-append ws ks))
]

-- there is room for up to 64 children above what is below their prefix
pub room_wait : (children waiting waiting' : List (List ℕ)) (n : ℕ) → Wait children waiting waiting' → HasRoom waiting → length waiting ≤ 63 * n → length children ≤ 64 →
    All (λ r. length r ≡ n + 1) children → HasRoom waiting'
room_wait children waiting waiting' n w room small few long =
    subst HasRoom (sym w.last)
    (room_above waiting w.some n room (omega (arith, w.few, small, few))
    (All-weaker (Contains children) (λ r. length r ≡ n + 1) (λ r h. All-contains (λ r. length r ≡ n + 1) children r long h) w.some w.among))
