-- Numbers change no node's place.
use Rattle.std.proofs.Common.{◌≡◌, ℕ, ◌+◌, ◌<◌, ◌≤◌, max, List, [], ◌∷◌, ◌++◌, map, length, take, drop, set, get_or, sym, refl, ap, ◌∙◌, arith}
use Rattle.std.proofs.lemmas.List.{append-nil, length-map, length-take, take_all, drop_all, drop_more, get_or_at, map_more}
use Rattle.std.proofs.lemmas.List.Edits.{map_over_more}
use Rattle.list_laws.proofs.Changed.{flat_map-push}
use Rattle.search_model.specs.Problem.{Problem}
use Rattle.bound_tree.specs.declared.gap.Numbers.{Numbers}
use Rattle.bound_tree.specs.declared.gap.GapKind.{GapKind}
use Rattle.bound_tree.specs.declared.gap.GapKind.TheVariants.{Closed, Waiting}
use Rattle.bound_tree.specs.declared.gap.GapNode.{GapNode}
use Rattle.search_model.specs.Bounds.{greatest}
use Rattle.search_model.proofs.Greatest.{greatest-cons, greatest-one, greatest-append}
use Rattle.bound_tree.specs.Gaps.{shape_of_kind, open_number, open_numbers}
use Rattle.gap_plan.specs.Nodes.{numbered_kind, numbered, record_at, prefix_at, closed_in, waiting_in}
use Rattle.gap_plan.proofs.Listed.{shapes_of}

-- an element that isn't changed yet
untouched : (f : GapNode → GapNode) (old : List GapNode) (i : ℕ) (d : GapNode) → i < length old → get_or (map f (take i old) ++ drop i old) i d ≡ get_or old i d
untouched f old i d inside =
    let front : List GapNode = map f (take i old) in
    let long : length front ≡ i = length-map (take i old) f ∙ omega (arith, length-take i old, inside) in
    ap (λ (l : List GapNode). get_or (front ++ l) i d) (drop_more old i d inside) ∙ get_or_at front _ _ d i long

module _ (numbers : Numbers) (p : Problem) where
  kind_stays : (q : List ℕ) (kind : GapKind) → shape_of_kind (numbered_kind numbers p q kind) ≡ shape_of_kind kind
  kind_stays q (Closed kind) = refl
  kind_stays q (Waiting n) = refl

  record_stays : (q : List ℕ) (kind : GapKind) → record_at q (numbered_kind numbers p q kind) ≡ record_at q kind
  record_stays q (Closed kind) = refl
  record_stays q (Waiting n) = refl

  prefix_stays : (q : List ℕ) (kind : GapKind) → prefix_at q (numbered_kind numbers p q kind) ≡ prefix_at q kind
  prefix_stays q (Closed kind) = refl
  prefix_stays q (Waiting n) = refl

  pub shapes_stay : (nodes : List GapNode) → shapes_of (map (numbered numbers p) nodes) ≡ shapes_of nodes
  shapes_stay [] = refl
  shapes_stay (node ∷ nodes) = rw (kind_stays node.prefix node.kind, shapes_stay nodes) refl

  pub closed_stay : (nodes : List GapNode) → closed_in (map (numbered numbers p) nodes) ≡ closed_in nodes
  closed_stay [] = refl
  closed_stay (node ∷ nodes) = rw (record_stays node.prefix node.kind, closed_stay nodes) refl

  pub waiting_stay : (nodes : List GapNode) → waiting_in (map (numbered numbers p) nodes) ≡ waiting_in nodes
  waiting_stay [] = refl
  waiting_stay (node ∷ nodes) = rw (prefix_stays node.prefix node.kind, waiting_stay nodes) refl

  -- the first i nodes have their numbers, and the greatest of them and of a value is known
  pub record IsPassed (old : List GapNode) (value i : ℕ) (now : List GapNode) (most : ℕ) : Type 0 where
    pub changed : now ≡ map (numbered numbers p) (take i old) ++ drop i old
    pub reached : most ≡ greatest (value ∷ open_numbers (map (numbered numbers p) (take i old)))

  pub passed_none : (old : List GapNode) (value : ℕ) → IsPassed old value 0 old value
  passed_none old value = record { changed = refl; reached = sym (greatest-one value) }

  -- the next node stands there as it was
  pub still_there : (old : List GapNode) (value i : ℕ) (now : List GapNode) (most : ℕ) (d : GapNode) → IsPassed old value i now most → i < length old → get_or now i d ≡ get_or old i d
  still_there old value i now most d passed inside = ap (λ (l : List GapNode). get_or l i d) passed.changed ∙ untouched (numbered numbers p) old i d inside

  pub passed_more : (old : List GapNode) (value i : ℕ) (now : List GapNode) (most next : ℕ) (was node : GapNode) → IsPassed old value i now most → i < length old →
      was ≡ get_or now i was → node ≡ numbered numbers p was → next ≡ greatest (most ∷ open_number node.kind) → IsPassed old value (i + 1) (set now i node) next
  passed_more old value i now most next was node passed inside at is more =
      let done = map (numbered numbers p) (take i old) in
      let here : was ≡ get_or old i was = at ∙ still_there old value i now most was passed inside in
      let grown : map (numbered numbers p) (take (i + 1) old) ≡ done ++ node ∷ [] =
      map_more (numbered numbers p) old i was inside ∙ ap (λ (x : GapNode). done ++ x ∷ []) (ap (numbered numbers p) (sym here) ∙ sym is) in
      let joined : open_numbers (done ++ node ∷ []) ≡ open_numbers done ++ open_number node.kind = flat_map-push (λ node. open_number node.kind) done node in
      record {
        changed = ap (set now i) is ∙ map_over_more (numbered numbers p) old now i was inside passed.changed at;
        reached =
            more ∙ greatest-cons most (open_number node.kind) ∙ ap (λ m. max m (greatest (open_number node.kind))) passed.reached
            ∙ sym (greatest-append (value ∷ open_numbers done) (open_number node.kind))
            ∙ ap (λ (ns : List ℕ). greatest (value ∷ ns)) (sym joined ∙ ap open_numbers (sym grown));
      }

  pub passed_all : (old : List GapNode) (value i : ℕ) (now : List GapNode) (most : ℕ) → IsPassed old value i now most → length old ≤ i →
      (now ≡ map (numbered numbers p) old) × (most ≡ greatest (value ∷ open_numbers now))
  passed_all old value i now most passed done =
      let whole : take i old ≡ old = take_all i old done in
      let none : drop i old ≡ [] = drop_all i old done in
      let written : now ≡ map (numbered numbers p) old = passed.changed ∙ ap (λ (l : List GapNode). map (numbered numbers p) l ++ drop i old) whole ∙ ap (λ (l : List GapNode). map (numbered numbers p) old ++ l) none ∙ append-nil (map (numbered numbers p) old) in
      (written, passed.reached ∙ ap (λ (l : List GapNode). greatest (value ∷ open_numbers (map (numbered numbers p) l))) whole ∙ ap (λ (l : List GapNode). greatest (value ∷ open_numbers l)) (sym written))
