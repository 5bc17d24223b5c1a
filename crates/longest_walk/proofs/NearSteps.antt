-- The positions within reach of one, a number of moves after another.
use Rattle.std.proofs.Common.{ℕ, zero, suc, ◌+◌, ◌≤◌, ◌<◌, ◌≡◌, ◌↔◌, Bool, true, false, List, [], ◌∷◌, ◌++◌, length, take, slice_index, slice_index_or, set, replicate, inl, inr, refl, sym, ap, ◌∙◌, subst, arith, All, Contains, append_assoc, append-nil, length-append}
use Rattle.std.proofs.Math.ListN.{get_or-eq_default}
use Rattle.std.proofs.Math.Seq.{take-length, get_or-append_seam}
use Rattle.std.proofs.lemmas.Bool.{cases_lt, cases_eq, true≢false}
use Rattle.std.proofs.lemmas.List.{take-append-le, get_or_append_left, get_or-set_same, get_or-set_other, get_or_default, get_or-replicate, length-replicate}
use Rattle.std.proofs.lemmas.List.Elements.{Contains-append_left, Contains-append_right, Contains-append_cases, Contains-get_or, All-weaker, All-contains_itself}
use Rattle.search_grid.specs.Moves.{moves_from, IsGrid}
use Rattle.search_model.specs.Order.{Starts}
use Rattle.search_model.proofs.LegalLemmas.{move_within}
use Rattle.list_laws.proofs.Members.{Contains-nil, Contains-head, Contains-cons_cases}
use Rattle.longest_walk.specs.Near.{IsNear, NearRow, near_of, IsNearRow, AreMarks, IsJoined, IsGrown, IsLevel, row_at}

-- what is within reach of a position is one
pub near_within : (rows : List (List ℕ)) → IsGrid rows → (n a u : ℕ) → a < length rows → IsNear rows n a u → u < length rows
near_within rows grid zero a u here near = subst (λ v. v < length rows) near here
near_within rows grid (suc n) a u here (inl near) = near_within rows grid n a u here near
near_within rows grid (suc n) a u here (inr (b, near, move)) = move_within rows grid b u (near_within rows grid n a b here near) move

-- a longer list has what the shorter one has
pub starts_has : (old new : List ℕ) → Starts old new → (u : ℕ) → Contains old u → Contains new u
starts_has old new (rest, is) u had = subst (λ xs. Contains xs u) (sym is) (Contains-append_left old rest u had)

pub starts-itself : (xs : List ℕ) → Starts xs xs
starts-itself xs = ([], sym (append-nil xs))

pub starts_on : (xs ys zs : List ℕ) → Starts xs ys → Starts ys zs → Starts xs zs
starts_on xs ys zs (more, is) (rest, are) = (more ++ rest, are ∙ ap (λ vs. vs ++ rest) is ∙ append_assoc xs more rest)

-- and the same at its places
pub starts_at : (old new : List ℕ) → Starts old new → (i : ℕ) → i < length old → slice_index new i ≡ slice_index old i
starts_at old new (rest, is) i here = rw is (get_or_append_left old rest 0 i here)

pub starts_long : (old new : List ℕ) → Starts old new → length old ≤ length new
starts_long old new (rest, is) = rw (is, length-append) (omega arith)

starts_front : (old new : List ℕ) → Starts old new → (n : ℕ) → n ≤ length old → take n new ≡ take n old
starts_front old new (rest, is) n few = ap (take n) is ∙ take-append-le n old rest few

-- a position that is there already
pub joined_there : (order : List ℕ) (v : ℕ) → Contains order v → IsJoined order (v ∷ []) order
joined_there order v there = record {
  starts = starts-itself order;
  has = λ u. (
    (λ had. inl had),
    λ either. elim either [
      | inl had ↦ had
      | inr one ↦ elim (Contains-cons_cases v u [] one) [ inl same ↦ subst (Contains order) same there | inr none ↦ absurd (Contains-nil u none) ]
    ],
  );
}

-- a position that is added
pub joined_push : (order new : List ℕ) (v : ℕ) → new ≡ order ++ v ∷ [] → IsJoined order (v ∷ []) new
joined_push order new v is = rw is (record {
  starts = (v ∷ [], refl);
  has = λ u. (
    Contains-append_cases order (v ∷ []) u,
    λ either. elim either [
      | inl had ↦ Contains-append_left order (v ∷ []) u had
      | inr one ↦ Contains-append_right order (v ∷ []) u one
    ],
  );
})

-- with its mark
pub marks_push : (order new : List ℕ) (marks : List Bool) (v : ℕ) → AreMarks order marks → v < length marks → new ≡ order ++ v ∷ [] → AreMarks new (set marks v true)
marks_push order new marks v are here is = rw is (record {
  marked = λ u inside listed. elim (cases_eq u v) [
    | inl same ↦ rw same (get_or-set_same marks v true false here)
    | inr apart ↦ get_or-set_other marks v u true false apart ∙ are.marked u (omega (arith, inside, Rattle.std.proofs.lemmas.List.length-set marks v true)) (elim (Contains-append_cases order (v ∷ []) u listed) [
      | inl had ↦ had
      | inr one ↦ elim (Contains-cons_cases v u [] one) [ inl same ↦ absurd (apart (sym same)) | inr none ↦ absurd (Contains-nil u none) ]
    ])
  ];
  listed = λ u mark. elim (cases_eq u v) [
    | inl same ↦ Contains-append_right order (v ∷ []) u (subst (Contains (v ∷ [])) (sym same) (Contains-head v []))
    | inr apart ↦ Contains-append_left order (v ∷ []) u (are.listed u (sym (get_or-set_other marks v u true false apart) ∙ mark))
  ];
})

-- nothing is joined yet
pub joined-none : (old : List ℕ) → IsJoined old [] old
joined-none old = record { starts = starts-itself old; has = λ u. ((λ had. inl had), λ either. elim either [ inl had ↦ had | inr none ↦ absurd (Contains-nil u none) ]) }

-- one position more
pub joined_more : (old more now new : List ℕ) (v : ℕ) → IsJoined old more now → IsJoined now (v ∷ []) new → IsJoined old (more ++ v ∷ []) new
joined_more old more now new v first next = record {
  starts = starts_on old now new first.starts next.starts;
  has = λ u. (
    (λ there. elim ((next.has u).0 there) [
      | inl had ↦ elim ((first.has u).0 had) [ inl was ↦ inl was | inr one ↦ inr (Contains-append_left more (v ∷ []) u one) ]
      | inr one ↦ inr (Contains-append_right more (v ∷ []) u one)
    ]),
    λ either. elim either [
      | inl was ↦ (next.has u).1 (inl ((first.has u).1 (inl was)))
      | inr one ↦ elim (Contains-append_cases more (v ∷ []) u one) [
        | inl had ↦ (next.has u).1 (inl ((first.has u).1 (inr had)))
        | inr last ↦ (next.has u).1 (inr last)
      ]
    ],
  );
}

module _ (rows : List (List ℕ)) where
  -- nothing is grown yet
  pub grown-none : (from : ℕ) (old : List ℕ) → IsGrown rows from from old old
  grown-none from old = record {
    starts = starts-itself old;
    has = λ j u after before. absurd (omega (arith, after, before));
    only = λ u had. inl had;
  }

  -- one position more, whose moves are added
  pub grown_more : (from i : ℕ) (old now new : List ℕ) → i < length old → IsGrown rows from i old now → IsJoined now (moves_from rows (slice_index now i)) new → IsGrown rows from (i + 1) old new
  grown_more from i old now new inside so_far joined =
      let here : slice_index now i ≡ slice_index old i = starts_at old now so_far.starts i inside in
      record {
        starts = starts_on old now new so_far.starts joined.starts;
        has = λ j u after before move. elim (cases_lt j i) [
          | inl earlier ↦ (joined.has u).1 (inl (so_far.has j u after earlier move))
          | inr not ↦
              let same : j ≡ i = omega (arith, before, not) in
              (joined.has u).1 (inr (subst (λ b. Contains (moves_from rows b) u) (ap (slice_index old) same ∙ sym here) move))
        ];
        only = λ u there. elim ((joined.has u).0 there) [
          | inl had ↦ so_far.only u had
          | inr move ↦ inr (slice_index old i, Contains-get_or old i 0 inside, subst (λ b. Contains (moves_from rows b) u) here move)
        ];
      }

  -- all that are listed are those within n moves
  pub level_has : (n a from : ℕ) (r : NearRow) → IsLevel rows n a from r → (u : ℕ) → Contains r.order u ↔ IsNear rows n a u
  level_has n a from r level u =
      let whole : near_of r n ≡ r.order = ap (λ (k : ℕ). take k r.order) level.all ∙ take-length r.order in
      subst (λ xs. Contains xs u ↔ IsNear rows n a u) whole (level.near.exact n u (omega arith))

  -- within no moves there is the position alone
  pub level-first : (a : ℕ) (order counts : List ℕ) → IsJoined [] (a ∷ []) order → counts ≡ length order ∷ [] → IsLevel rows 0 a 0 (record { order = order; counts = counts })
  level-first a order counts joined is =
      let one : slice_index counts 0 ≡ length order = rw is refl in
      let whole : take (slice_index counts 0) order ≡ order = ap (λ (k : ℕ). take k order) one ∙ take-length order in
      let alone : (u : ℕ) → Contains order u ↔ (a ≡ u) = λ u. (
        (λ there. elim ((joined.has u).0 there) [
          | inl none ↦ absurd (Contains-nil u none)
          | inr one ↦ elim (Contains-cons_cases a u [] one) [ inl same ↦ same | inr none ↦ absurd (Contains-nil u none) ]
        ]),
        λ same. (joined.has u).1 (inr (subst (Contains (a ∷ [])) same (Contains-head a []))),
      ) in
      record {
        near = record {
          size = rw is refl;
          inside = λ m few. let first : m ≡ 0 = omega (arith, few) in rw first (omega (arith, one));
          exact = λ m u few. let first : m ≡ 0 = omega (arith, few) in rw first (subst (λ xs. Contains xs u ↔ (a ≡ u)) (sym whole) (alone u));
        };
        all = one;
        closed = λ j u none. absurd (omega (arith, none));
        inside = omega arith;
      }

  -- within one move more there are the moves of these, too
  pub level_more : (n a from : ℕ) (r : NearRow) (new counts : List ℕ) → IsLevel rows n a from r → IsGrown rows from (length r.order) r.order new → counts ≡ r.counts ++ length new ∷ [] →
      IsLevel rows (n + 1) a (length r.order) (record { order = new; counts = counts })
  level_more n a from r new counts level grown is =
      let old = r.order in
      let size : length r.counts ≡ n + 1 = level.near.size in
      let last : slice_index counts (n + 1) ≡ length new = rw (is, sym size) (get_or-append_seam r.counts (length new) [] 0) in
      let earlier : (m : ℕ) → m ≤ n → slice_index counts m ≡ slice_index r.counts m = λ m few. rw is (get_or_append_left r.counts (length new ∷ []) 0 m (omega (arith, few, size))) in
      let whole : take (slice_index counts (n + 1)) new ≡ new = ap (λ (k : ℕ). take k new) last ∙ take-length new in
      let moves : (j u : ℕ) → j < length old → Contains (moves_from rows (slice_index old j)) u → Contains new u = λ j u inside move. elim (cases_lt j from) [
        | inl before ↦ starts_has old new grown.starts u (level.closed j u before move)
        | inr not ↦ grown.has j u (omega (arith, not)) inside move
      ] in
      let all : (u : ℕ) → Contains new u ↔ IsNear rows (suc n) a u = λ u. (
        (λ there. elim (grown.only u there) [
          | inl had ↦ inl ((level_has n a from r level u).0 had)
          | inr (b, had, move) ↦ inr (b, (level_has n a from r level b).0 had, move)
        ]),
        λ near. elim near [
          | inl had ↦ starts_has old new grown.starts u ((level_has n a from r level u).1 had)
          | inr (b, had, move) ↦
              let (j, inside, at) = (level_has n a from r level b).1 had in
              moves j u inside (subst (λ c. Contains (moves_from rows c) u) (sym (get_or_default old j 0 b inside ∙ at)) move)
        ],
      ) in
      let up : n + 1 ≡ suc n = omega arith in
      record {
        near = record {
          size = rw (is, length-append) (omega (arith, size));
          inside = λ m few. elim (cases_lt n m) [
            | inl after ↦ let top : m ≡ n + 1 = omega (arith, after, few) in rw top (omega (arith, last))
            | inr not ↦ omega (arith, earlier m (omega (arith, not)), level.near.inside m (omega (arith, not)), starts_long old new grown.starts)
          ];
          exact = λ m u few. elim (cases_lt n m) [
            | inl after ↦ let top : m ≡ n + 1 = omega (arith, after, few) in rw top (subst (λ xs. Contains xs u ↔ IsNear rows (n + 1) a u) (sym whole) (rw up (all u)))
            | inr not ↦
                let within : m ≤ n = omega (arith, not) in
                let front : take (slice_index counts m) new ≡ take (slice_index r.counts m) old =
                ap (λ (k : ℕ). take k new) (earlier m within) ∙ starts_front old new grown.starts (slice_index r.counts m) (level.near.inside m within) in
                subst (λ xs. Contains xs u ↔ IsNear rows m a u) (sym front) (level.near.exact m u within)
          ];
        };
        all = last;
        closed = λ j u before move. moves j u before (subst (λ c. Contains (moves_from rows c) u) (starts_at old new grown.starts j before) move);
        inside = starts_long old new grown.starts;
      }

  -- all that are listed are positions
  pub level_within : IsGrid rows → (n a from : ℕ) (r : NearRow) → a < length rows → IsLevel rows n a from r → All (λ u. u < length rows) r.order
  level_within grid n a from r here level =
      All-weaker (Contains r.order) (λ u. u < length rows) (λ u had. near_within rows grid n a u here ((level_has n a from r level u).0 had)) r.order (All-contains_itself r.order)

-- no marks, no positions
pub marks-none : (n : ℕ) (marks : List Bool) → marks ≡ replicate n false → AreMarks [] marks
marks-none n marks is = record {
  marked = λ u inside listed. absurd (Contains-nil u listed);
  listed = λ u mark. elim (cases_lt u n) [
    | inl within ↦ absurd (true≢false (sym mark ∙ ap (λ bs. slice_index_or bs u false) is ∙ get_or-replicate n u false false within))
    | inr past ↦ absurd (true≢false (sym mark ∙ get_or-eq_default marks false (rw (is, length-replicate) past)))
  ];
}

-- a row more
pub rows_more : (rows : List (List ℕ)) (most a : ℕ) (old new : List NearRow) (r : NearRow) → length old ≡ a → new ≡ old ++ r ∷ [] →
    ((b : ℕ) → b < a → IsNearRow rows most b (row_at old b)) → IsNearRow rows most a r → (b : ℕ) → b < a + 1 → IsNearRow rows most b (row_at new b)
rows_more rows most a old new r long is before next b here =
    let none : NearRow = record { order = []; counts = [] } in
    elim (cases_lt b a) [
      | inl earlier ↦ rw is (subst (IsNearRow rows most b) (sym (get_or_append_left old (r ∷ []) none b (omega (arith, earlier, long)))) (before b earlier))
      | inr not ↦
          let same : b ≡ a = omega (arith, here, not) in
          rw (is, same) (subst (IsNearRow rows most a) (sym (ap (λ (i : ℕ). slice_index_or (old ++ r ∷ []) i none) (sym long) ∙ get_or-append_seam old r [] none)) next)
    ]
