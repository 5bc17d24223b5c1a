-- Prefixes on agendas, and what goes there and comes from there.
use Rattle.std.proofs.Common.{◌≡◌, ◌∙◌, ◌+◌, ℕ, List, [], ◌∷◌, ◌++◌, map, flat_map, ap, sym, refl, arith, IsPermutation, Option, Some, None, IfSome, IfNone}
use Rattle.std.proofs.lemmas.List.Sorted.{IsPermutation-map}
use Rattle.steal_pool.specs.Kits.{KitView, put_of, taken_of, TookOne}
use Rattle.search_core.specs.Counts.{count_of, SameItems}
use Rattle.search_core.proofs.Counts.{count_of-append, SameItems-permutation}
use Rattle.search_workers.specs.declared.agenda.Numbered.{Numbered}
use Rattle.list_laws.proofs.Mapped.{flat_map-map}
use Rattle.search_workers.specs.declared.agenda.Agenda.{Agenda}
use Rattle.search_workers.specs.declared.crew.Member.{Member}
use Rattle.search_workers.specs.Agendas.{kept, out_of}
use Rattle.search_workers.specs.Rounds.{MissedAll}
use Rattle.search_workers.specs.Turns.{Shifts}

-- the prefixes of a heap where one was put
pub pushed_same : (xs ys : List Numbered) (x : Numbered) → IsPermutation (x ∷ xs) ys → SameItems (map (λ i. i.prefix) ys) (map (λ i. i.prefix) xs ++ x.prefix ∷ [])
pushed_same xs ys x same q =
    let f : Numbered → List ℕ = λ i. i.prefix in
    omega (
      arith,
      SameItems-permutation (map f (x ∷ xs)) (map f ys) (IsPermutation-map f (x ∷ xs) ys same) q,
      count_of-append q (map f xs) (x.prefix ∷ []),
    )

-- and where one was taken
pub popped_same : (xs ys : List Numbered) (x : Numbered) → IsPermutation xs (x ∷ ys) → SameItems (map (λ i. i.prefix) xs) (map (λ i. i.prefix) ys ++ x.prefix ∷ [])
popped_same xs ys x same q =
    let f : Numbered → List ℕ = λ i. i.prefix in
    omega (
      arith,
      SameItems-permutation (map f xs) (map f (x ∷ ys)) (IsPermutation-map f xs (x ∷ ys) same) q,
      count_of-append q (map f ys) (x.prefix ∷ []),
    )

-- one child more was put
pub pushed_more : (before now more children : List (List ℕ)) (child : List ℕ) → SameItems now (before ++ children) → SameItems more (now ++ child ∷ []) →
    SameItems more (before ++ (children ++ child ∷ []))
pushed_more before now more children child same put q =
    omega (
      arith,
      same q,
      put q,
      count_of-append q before children,
      count_of-append q now (child ∷ []),
      count_of-append q before (children ++ child ∷ []),
      count_of-append q children (child ∷ []),
    )

module _ (kit kit' : KitView (List ℕ)) where
  -- a task was taken from a deque
  pub took_shift : (agenda : List (List ℕ)) (task : List ℕ) → TookOne kit task kit' → Shifts kit agenda kit' agenda (task ∷ [])
  took_shift agenda task took = record {
    pool = took.pool;
    place = took.place;
    same = λ q. omega (
      arith,
      SameItems-permutation (taken_of kit') (taken_of kit ++ task ∷ []) took.taken q,
      ap (count_of q) took.put,
      count_of-append q (taken_of kit) (task ∷ []),
      count_of-append q (taken_of kit') (put_of kit ++ agenda),
      count_of-append q (taken_of kit) ((put_of kit' ++ agenda) ++ task ∷ []),
      count_of-append q (put_of kit' ++ agenda) (task ∷ []),
      count_of-append q (put_of kit) agenda,
      count_of-append q (put_of kit') agenda,
    );
  }

  -- none was
  pub missed_shift : (agenda : List (List ℕ)) (steals : ℕ) → MissedAll kit steals kit' → Shifts kit agenda kit' agenda []
  missed_shift agenda steals missed = record {
    pool = ap (λ k. k.pool) missed.same;
    place = ap (λ k. k.place) missed.same;
    same = λ q. omega (
      arith,
      ap (λ k. count_of q (taken_of k)) missed.same,
      ap (λ k. count_of q (put_of k)) missed.same,
      count_of-append q (taken_of kit') (put_of kit ++ agenda),
      count_of-append q (taken_of kit) ((put_of kit' ++ agenda) ++ []),
      count_of-append q (put_of kit' ++ agenda) [],
      count_of-append q (put_of kit) agenda,
      count_of-append q (put_of kit') agenda,
    );
  }

  -- a prefix that was taken from the agenda was put into the own deque
  pub offered : (agenda rest : List (List ℕ)) (item : List ℕ) → (kit'.pool ≡ kit.pool) → (kit'.place ≡ kit.place) → taken_of kit' ≡ taken_of kit → put_of kit' ≡ put_of kit ++ item ∷ [] →
      SameItems agenda (rest ++ item ∷ []) → Shifts kit agenda kit' rest []
  offered agenda rest item pool place taken put same = record {
    pool = pool;
    place = place;
    same = λ q. omega (
      arith,
      same q,
      ap (count_of q) taken,
      ap (count_of q) put,
      count_of-append q rest (item ∷ []),
      count_of-append q (put_of kit) (item ∷ []),
      count_of-append q (taken_of kit') (put_of kit ++ agenda),
      count_of-append q (taken_of kit) ((put_of kit' ++ rest) ++ []),
      count_of-append q (put_of kit' ++ rest) [],
      count_of-append q (put_of kit) agenda,
      count_of-append q (put_of kit') rest,
    );
  }

  -- or was handed back
  pub offered_back : (agenda rest again : List (List ℕ)) (item back : List ℕ) → kit' ≡ kit → back ≡ item → SameItems agenda (rest ++ item ∷ []) → SameItems again (rest ++ back ∷ []) →
      Shifts kit agenda kit' again []
  offered_back agenda rest again item back kept is same put = record {
    pool = ap (λ k. k.pool) kept;
    place = ap (λ k. k.place) kept;
    same = λ q. omega (
      arith,
      same q,
      put q,
      ap (λ r. count_of q (r ∷ [])) is,
      ap (λ k. count_of q (taken_of k)) kept,
      ap (λ k. count_of q (put_of k)) kept,
      count_of-append q rest (item ∷ []),
      count_of-append q rest (back ∷ []),
      count_of-append q (taken_of kit') (put_of kit ++ agenda),
      count_of-append q (taken_of kit) ((put_of kit' ++ again) ++ []),
      count_of-append q (put_of kit' ++ again) [],
      count_of-append q (put_of kit) agenda,
      count_of-append q (put_of kit') again,
    );
  }

-- a task was taken, or none was
pub tried_shift : (kit kit' : KitView (List ℕ)) (agenda : List (List ℕ)) (steals : ℕ) (task : Option (List ℕ)) → IfSome task (λ q. TookOne kit q kit') → IfNone task (MissedAll kit steals kit') →
    Shifts kit agenda kit' agenda (out_of task)
tried_shift kit kit' agenda steals (Some q) got none = took_shift kit kit' agenda q got
tried_shift kit kit' agenda steals None got none = missed_shift kit kit' agenda steals none

-- a prefix was taken from the agenda
pub agenda_shift : (kit : KitView (List ℕ)) (agenda agenda' out : List (List ℕ)) → SameItems agenda (agenda' ++ out) → Shifts kit agenda kit agenda' out
agenda_shift kit agenda agenda' out same = record {
  pool = refl;
  place = refl;
  same = λ q. omega (
    arith,
    same q,
    count_of-append q agenda' out,
    count_of-append q (taken_of kit) (put_of kit ++ agenda),
    count_of-append q (taken_of kit) ((put_of kit ++ agenda') ++ out),
    count_of-append q (put_of kit ++ agenda') out,
    count_of-append q (put_of kit) agenda,
    count_of-append q (put_of kit) agenda',
  );
}

-- one after the other
pub shift_then : (a b c : KitView (List ℕ)) (x y z first more out : List (List ℕ)) → Shifts a x b y first → Shifts b y c z more →
    ((q : List ℕ) → count_of q out ≡ count_of q first + count_of q more) → Shifts a x c z out
shift_then a b c x y z first more out v w all = record {
  pool = w.pool ∙ v.pool;
  place = w.place ∙ v.place;
  same = λ q. omega (
    arith,
    v.same q,
    w.same q,
    all q,
    count_of-append q (taken_of b) (put_of a ++ x),
    count_of-append q (taken_of a) ((put_of b ++ y) ++ first),
    count_of-append q (put_of b ++ y) first,
    count_of-append q (taken_of c) (put_of b ++ y),
    count_of-append q (taken_of b) ((put_of c ++ z) ++ more),
    count_of-append q (put_of c ++ z) more,
    count_of-append q (taken_of c) (put_of a ++ x),
    count_of-append q (taken_of a) ((put_of c ++ z) ++ out),
    count_of-append q (put_of c ++ z) out,
  );
}

-- what is left of the deques, and what is on the agendas
pub settled_both : (put taken tasks agendas all : List (List ℕ)) → IsPermutation put (taken ++ tasks) → all ≡ tasks ++ agendas → SameItems (put ++ agendas) (taken ++ all)
settled_both put taken tasks agendas all left joined q =
    omega (
      arith,
      SameItems-permutation put (taken ++ tasks) left q,
      ap (count_of q) joined,
      count_of-append q put agendas,
      count_of-append q taken all,
      count_of-append q taken tasks,
      count_of-append q tasks agendas,
    )

-- what is on the agendas of all workers
pub kept_all : (agendas : List Agenda) (crew : List Member) → map kept agendas ≡ map (λ m. m.worker.agenda) crew → flat_map kept agendas ≡ flat_map (λ m. m.worker.agenda) crew
kept_all agendas crew same =
    let whole : List (List ℕ) → List (List ℕ) = λ qs. qs in
    let agenda : Member → List (List ℕ) = λ m. m.worker.agenda in
    sym (flat_map-map whole kept agendas) ∙ ap (flat_map whole) same ∙ flat_map-map whole agenda crew
