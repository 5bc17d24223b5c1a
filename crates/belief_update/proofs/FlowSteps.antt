-- What entries of a flow hold, spans of them, and a flow with a step more.
use Rattle.std.proofs.Common.{ℕ, zero, suc, ◌+◌, ◌-◌, ◌*◌, ◌^◌, ◌<◌, ◌≤◌, ◌≡◌, ◌≢◌, ◌==◌, true, false, if◌then◌else◌, List, [], ◌∷◌, ◌++◌, length, get_or, take, drop, slice_index, refl, ap, ◌∙◌, arith, sum_by, All, inl, inr, length-append, length-drop, append_assoc, add-one, set, replicate, slice_index_or, get_or-set_same, get_or-set_other}
use Rattle.std.specs.List.{range_with_len}
use Rattle.std.proofs.Math.ListN.{get_or-append, length-set}
use Rattle.std.proofs.Math.Seq.{drop-append_seam, get_or-append_seam}
use Rattle.std.proofs.lemmas.Bool.{cases_eq, eq-eqb, ne_eqb}
use Rattle.std.proofs.lemmas.List.{get_or-replicate, length-replicate, take_all, take-append-le, drop-append-le}
use Rattle.std.proofs.lemmas.List.Elements.{All-append, All-weaker, All-head, All-tail, All-cons, All-nil}
use Rattle.std.proofs.lemmas.List.Sums.{sum_by_more, sum_by_more_le, sum_by-cons, sum_by-append}
use Rattle.drift_chain.specs.DriftRows.{DriftRows, row_of, part_of}
use Rattle.search_model.specs.Problem.{Problem, IsProblem}
use Rattle.list_laws.proofs.Sums.{sum_by-range-same}
use Rattle.belief_update.specs.declared.flows.UnitPart.{UnitPart}
use Rattle.belief_update.specs.declared.flows.Span.{Span}
use Rattle.belief_update.specs.Flows.{unit_of, held_in, entry_of, entries_in, span_of, HoldMasses, HoldUnit, HoldUnits, FlowState, IsFlow, AreFlows}
use Rattle.belief_update.proofs.Units.{unit_of-first, unit_of-step, unit_of-fits}

-- no entries hold nothing
pub held_in-none : (d : ℕ) → held_in [] d ≡ 0
unfolding held_in
held_in-none d = refl

-- an entry more adds its part at its own cell
pub held_in-cons : (entry : UnitPart) (entries : List UnitPart) (d : ℕ) → held_in (entry ∷ entries) d ≡ (if entry.cell == d then entry.part else 0) + held_in entries d
unfolding held_in
held_in-cons entry entries d = sum_by-cons (λ e. if e.cell == d then e.part else 0) entry entries

-- what entries and more of them hold
pub held_in-append : (entries more : List UnitPart) (d : ℕ) → held_in (entries ++ more) d ≡ held_in entries d + held_in more d
unfolding held_in
held_in-append entries more d = sum_by-append (λ e. if e.cell == d then e.part else 0) entries more

-- entries of cells below n hold nothing past them
held_in-past : (n : ℕ) (entries : List UnitPart) (d : ℕ) → n ≤ d → All (λ entry. entry.cell < n) entries → held_in entries d ≡ 0
held_in-past n [] d past below = held_in-none d
held_in-past n (entry ∷ entries) d past below =
    let here : entry.cell < n = All-head (λ e. e.cell < n) entry entries below in
    let apart : (entry.cell == d) ≡ false = ne_eqb entry.cell d (λ same. omega (arith, here, past, same)) in
    rw (held_in-cons entry entries d, apart) (omega (arith, held_in-past n entries d past (All-tail (λ e. e.cell < n) entry entries below)))

-- of a cell that has a mass an entry is noted
entry_of-some : (cell part : ℕ) → entry_of cell (suc part) ≡ record { cell = cell; part = suc part } ∷ []
entry_of-some cell part =
    let some : (suc part == 0) ≡ false = ne_eqb (suc part) 0 (λ none. omega (arith, none)) in
    rw some refl

-- what is noted of a cell holds its part
entry_of-same : (cell part : ℕ) → held_in (entry_of cell part) cell ≡ part
entry_of-same cell zero = held_in-none cell
entry_of-same cell (suc part) =
    let at : (cell == cell) ≡ true = eq-eqb cell cell refl in
    rw (entry_of-some cell part, held_in-cons (record { cell = cell; part = suc part }) [] cell, at, held_in-none cell) (omega arith)

-- and nothing in other cells
entry_of-other : (cell part d : ℕ) → d < cell → held_in (entry_of cell part) d ≡ 0
entry_of-other cell zero d before = held_in-none d
entry_of-other cell (suc part) d before =
    let apart : (cell == d) ≡ false = ne_eqb cell d (λ same. omega (arith, before, same)) in
    rw (entry_of-some cell part, held_in-cons (record { cell = cell; part = suc part }) [] d, apart, held_in-none d) refl

-- its entries are for that cell
entry_of-within : (cell part n : ℕ) → cell < n → All (λ entry. entry.cell < n) (entry_of cell part)
entry_of-within cell zero n below = All-nil (λ (e : UnitPart). e.cell < n)
entry_of-within cell (suc part) n below =
    let one : UnitPart = record { cell = cell; part = suc part } in
    rw (entry_of-some cell part) (All-cons (λ (e : UnitPart). e.cell < n) one [] below (All-nil (λ (e : UnitPart). e.cell < n)))

-- the entries have what the masses of the first n cells are
pub record HoldFront (masses : List ℕ) (n : ℕ) (entries : List UnitPart) : Type 0 where
  pub cells : All (λ entry. entry.cell < n) entries
  pub each : (d : ℕ) → d < n → held_in entries d ≡ slice_index masses d

-- some entries behind others have it, and those are all
abbrev pub NotedFront : List ℕ → ℕ → List UnitPart → List UnitPart → Type 0
NotedFront masses n before now = (rest : List UnitPart) × (now ≡ before ++ rest) × HoldFront masses n rest

-- with what is noted of the next cell, of one cell more
front_more : (masses : List ℕ) (n : ℕ) (entries : List UnitPart) → HoldFront masses n entries → HoldFront masses (n + 1) (entries ++ entry_of n (slice_index masses n))
front_more masses n entries front = record {
  cells = All-append (λ e. e.cell < n + 1) entries (entry_of n (slice_index masses n))
      (All-weaker (λ e. e.cell < n) (λ e. e.cell < n + 1) (λ e below. omega (arith, below)) entries front.cells)
      (entry_of-within n (slice_index masses n) (n + 1) (omega arith));
  each = λ d here. held_in-append entries (entry_of n (slice_index masses n)) d ∙ (elim (cases_eq d n) [
    | inl same ↦ rw (same, held_in-past n entries n (omega arith) front.cells, entry_of-same n (slice_index masses n)) (omega arith)
    | inr other ↦ let before : d < n = omega (arith, here, other) in rw (entry_of-other n (slice_index masses n) d before, front.each d before) (omega arith)
  ]);
}

-- behind some others, too
pub noted_more : (masses : List ℕ) (n : ℕ) (before now later : List UnitPart) → NotedFront masses n before now → later ≡ now ++ entry_of n (slice_index masses n) → NotedFront masses (n + 1) before later
noted_more masses n before now later (rest, is, front) more =
    let entries = entry_of n (slice_index masses n) in
    (rest ++ entries, more ∙ ap (λ (xs : List UnitPart). xs ++ entries) is ∙ append_assoc before rest entries, front_more masses n rest front)

-- a span reads the same in a longer list
entries_in-longer : (entries rest : List UnitPart) (span : Span) → span.from ≤ span.to → span.to ≤ length entries → entries_in (entries ++ rest) span ≡ entries_in entries span
entries_in-longer entries rest span order inside =
    let short : span.to - span.from ≤ length (drop span.from entries) = omega (arith, length-drop span.from entries, inside) in
    rw (drop-append-le span.from entries rest (omega (arith, order, inside))) (take-append-le (span.to - span.from) (drop span.from entries) rest short)

-- the span of what was added
entries_in-last : (entries rest : List UnitPart) → entries_in (entries ++ rest) (record { from = length entries; to = length (entries ++ rest) }) ≡ rest
entries_in-last entries rest =
    rw (drop-append_seam entries rest) (take_all (length (entries ++ rest) - length entries) rest (omega (arith, length-append entries rest)))

-- earlier spans stay
span_of-earlier : (spans : List Span) (span : Span) (n : ℕ) → 1 ≤ n → n ≤ length spans → span_of (spans ++ span ∷ []) n ≡ span_of spans n
span_of-earlier spans span n first made = get_or-append spans (span ∷ []) (record { from = 0; to = 0 }) (n - 1) (omega (arith, first, made))

-- the last span is the new one
span_of-last : (spans : List Span) (span : Span) → span_of (spans ++ span ∷ []) (length spans + 1) ≡ span
span_of-last spans span =
    let at : length spans + 1 - 1 ≡ length spans = omega arith in
    rw at (get_or-append_seam spans span [] (record { from = 0; to = 0 }))

module _ (p : Problem) (a : ℕ) where
  -- the next unit, as code sums it up
  next_unit : (f : FlowState) → IsFlow p a f → (d : ℕ) →
      sum_by (λ c. slice_index f.unit c * part_of p.drift 1 c d) (range_with_len 0 (length f.unit)) ≡ unit_of p a (length f.spans + 1) d
  next_unit f flow d =
      rw (flow.cells, add-one (length f.spans), unit_of-step p a (length f.spans) d)
      (sum_by-range-same p.cells _ _ (λ c here. ap (λ (m : ℕ). m * part_of p.drift 1 c d) (flow.unit c here)))

  -- it fits
  pub next_fits : IsProblem p → (f : FlowState) → IsFlow p a f → length f.spans + 1 < p.horizon → (d : ℕ) → d < length f.unit →
      sum_by (λ c. slice_index f.unit c * part_of p.drift 1 c d) (range_with_len 0 (length f.unit)) < 2 ^ 127
  next_fits sound f flow more d here = rw (next_unit f flow d) (unit_of-fits p sound a (length f.spans + 1) d more (omega (arith, here, flow.cells)))

  -- a row stays where there are more entries
  row_kept : (f : FlowState) → IsFlow p a f → (rest : List UnitPart) (n : ℕ) → 1 ≤ n → n ≤ length f.spans → HoldUnit p a n (entries_in (f.entries ++ rest) (span_of f.spans n))
  row_kept f flow rest n first made = rw (entries_in-longer f.entries rest (span_of f.spans n) (flow.order n first made) (flow.inside n first made)) (flow.rows n first made)

  -- entries that no span has yet change nothing
  pub flow_kept : (f : FlowState) → IsFlow p a f → (entries rest : List UnitPart) → entries ≡ f.entries ++ rest → IsFlow p a (record { unit = f.unit; entries = entries; spans = f.spans })
  flow_kept f flow entries rest is = rw is (record {
    cells = flow.cells;
    unit = flow.unit;
    order = flow.order;
    inside = λ n first made. omega (arith, length-append f.entries rest, flow.inside n first made);
    rows = row_kept f flow rest;
  })

  -- the entries of masses that are the unit's are the unit's
  held_unit : (n : ℕ) (ys : List ℕ) (rest : List UnitPart) → length ys ≡ p.cells → ((d : ℕ) → d < p.cells → slice_index ys d ≡ unit_of p a n d) → HoldMasses ys rest → HoldUnit p a n rest
  held_unit n ys rest cells unit held = record {
    cells = rw cells at held.cells;
    each = λ d here. held.each d (omega (arith, cells, here)) ∙ unit d here;
  }

  module _ (f : FlowState) (flow : IsFlow p a f) (rest : List UnitPart) where
    -- the span of what is added
    abbrev added : Span
    added = record { from = length f.entries; to = length (f.entries ++ rest) }

    -- the span of a step up to the new one is an earlier step's, or that of what is added
    span_cases : (P : ℕ → Span → Type 0) → ((n : ℕ) → 1 ≤ n → n ≤ length f.spans → P n (span_of f.spans n)) → P (length f.spans + 1) added →
        (n : ℕ) → 1 ≤ n → n ≤ length (f.spans ++ added ∷ []) → P n (span_of (f.spans ++ added ∷ []) n)
    span_cases P earlier last n first made =
        elim (cases_eq n (length f.spans + 1)) [
          | inl same ↦ rw (same, span_of-last f.spans added) last
          | inr other ↦
              let before : n ≤ length f.spans = omega (arith, made, length-append f.spans (added ∷ []), other) in
              rw (span_of-earlier f.spans added n first before) (earlier n first before)
        ]

    -- with the entries of the next unit the flow has a step more
    flow_more : (ys : List ℕ) → length ys ≡ p.cells → ((d : ℕ) → d < p.cells → slice_index ys d ≡ unit_of p a (length f.spans + 1) d) → HoldMasses ys rest →
        IsFlow p a (record { unit = ys; entries = f.entries ++ rest; spans = f.spans ++ added ∷ [] })
    flow_more ys cells unit held =
        let long : length (f.spans ++ added ∷ []) ≡ length f.spans + 1 = length-append f.spans (added ∷ []) in
        let behind : length (f.entries ++ rest) ≡ length f.entries + length rest = length-append f.entries rest in
        record {
          cells = cells;
          unit = λ d here. rw long (unit d here);
          order = span_cases (λ n span. span.from ≤ span.to) flow.order (omega (arith, behind));
          inside = span_cases (λ n span. span.to ≤ length (f.entries ++ rest)) (λ n first made. omega (arith, behind, flow.inside n first made)) (omega arith);
          rows = span_cases (λ n span. HoldUnit p a n (entries_in (f.entries ++ rest) span)) (row_kept f flow rest)
              (rw (entries_in-last f.entries rest) (held_unit (length f.spans + 1) ys rest cells unit held));
        }

    -- as code makes it
    pub flow_stepped : (ys : List ℕ) (entries : List UnitPart) (spans : List Span) → length ys ≡ length f.unit →
        ((d : ℕ) → d < length f.unit → slice_index ys d ≡ sum_by (λ c. slice_index f.unit c * part_of p.drift 1 c d) (range_with_len 0 (length f.unit))) →
        entries ≡ f.entries ++ rest → spans ≡ f.spans ++ (record { from = length f.entries; to = length entries }) ∷ [] → HoldMasses ys rest →
        IsFlow p a (record { unit = ys; entries = entries; spans = spans })
    flow_stepped ys entries spans size each more last held =
        rw (last, more) (flow_more ys (size ∙ flow.cells) (λ d here. each d (omega (arith, here, flow.cells)) ∙ next_unit f flow d) held)

  -- a flow that has no step yet
  pub flow_begun : (f : FlowState) → length f.unit ≡ p.cells → ((d : ℕ) → d < p.cells → slice_index f.unit d ≡ unit_of p a 0 d) → f.spans ≡ [] → IsFlow p a f
  flow_begun f cells unit none = record {
    cells = cells;
    unit = λ d here. rw none (unit d here);
    order = λ n first made. absurd (omega (arith, first, rw none at made));
    inside = λ n first made. absurd (omega (arith, first, rw none at made));
    rows = λ n first made. absurd (omega (arith, first, rw none at made));
  }

-- masses that are 0 but for a 1 in one cell are a unit there
pub first_unit : (p : Problem) (a : ℕ) (masses : List ℕ) → masses ≡ replicate p.cells 0 → a < p.cells → (d : ℕ) → d < p.cells → slice_index (set masses a 1) d ≡ unit_of p a 0 d
first_unit p a masses zeros inside d here =
    let long : length masses ≡ p.cells = ap length zeros ∙ length-replicate p.cells 0 in
    rw (unit_of-first p a d)
    (elim (cases_eq d a) [
      | inl same ↦
          let at : (d == a) ≡ true = eq-eqb d a same in
          rw (at, same) (get_or-set_same masses a 1 0 (omega (arith, inside, long)))
      | inr other ↦
          let apart : (d == a) ≡ false = ne_eqb d a other in
          rw (apart, get_or-set_other masses a d 1 0 other, zeros) (get_or-replicate p.cells d 0 0 here)
    ])

-- a flow more, of the next cell
pub flows_more : (p : Problem) (flows : List FlowState) (f : FlowState) (n : ℕ) → length flows ≡ n → ((a : ℕ) (none : FlowState) → a < n → IsFlow p a (slice_index_or flows a none)) → IsFlow p n f →
    (a : ℕ) (none : FlowState) → a < n + 1 → IsFlow p a (slice_index_or (flows ++ f ∷ []) a none)
flows_more p flows f n size each flow a none short =
    elim (cases_eq a n) [
      | inl same ↦ rw (same, ← size, get_or-append_seam flows f [] none) (rw size flow)
      | inr other ↦
          let before : a < n = omega (arith, short, other) in
          rw (get_or-append flows (f ∷ []) none a (omega (arith, before, size))) (each a none before)
    ]

-- one more entry: its part counts at its own cell alone
pub held_in_more-same : (entries : List UnitPart) (i : ℕ) (e : UnitPart) (d : ℕ) → i < length entries → (get_or entries i e).cell ≡ d →
    held_in (take (i + 1) entries) d ≡ held_in (take i entries) d + (get_or entries i e).part
unfolding held_in
held_in_more-same entries i e d h same =
    let test : ((get_or entries i e).cell == d) ≡ true = eq-eqb (get_or entries i e).cell d same in
    sum_by_more (λ entry. if entry.cell == d then entry.part else 0) entries i e h ∙ rw test refl

-- and nothing at others
pub held_in_more-other : (entries : List UnitPart) (i : ℕ) (e : UnitPart) (d : ℕ) → i < length entries → (get_or entries i e).cell ≢ d →
    held_in (take (i + 1) entries) d ≡ held_in (take i entries) d
unfolding held_in
held_in_more-other entries i e d h apart =
    let test : ((get_or entries i e).cell == d) ≡ false = ne_eqb (get_or entries i e).cell d apart in
    sum_by_more (λ entry. if entry.cell == d then entry.part else 0) entries i e h ∙ rw test (omega arith)

-- the parts so far and the next one are within what all entries hold
pub held_in_more-le : (entries : List UnitPart) (i : ℕ) (e : UnitPart) → i < length entries →
    held_in (take i entries) (get_or entries i e).cell + (get_or entries i e).part ≤ held_in entries (get_or entries i e).cell
unfolding held_in
held_in_more-le entries i e h =
    let c = (get_or entries i e).cell in
    let test : (c == c) ≡ true = eq-eqb c c refl in
    let le = sum_by_more_le (λ entry. if entry.cell == c then entry.part else 0) entries i e h in
    rw test at le

-- flows stay flows where one of them goes on
pub flows_set : (p : Problem) (flows : List FlowState) (i : ℕ) (f none : FlowState) → AreFlows p flows → (IsFlow p i (slice_index_or flows i none) → IsFlow p i f) → AreFlows p (set flows i f)
flows_set p flows i f none are more =
    let size : length (set flows i f) ≡ length flows = length-set flows i f in
    record {
      each = λ a other short.
          let there : a < length flows = omega (arith, short, size) in
          elim (cases_eq a i) [
            | inl same ↦ rw (same, get_or-set_same flows i f other (omega (arith, there, same))) (more (are.each i none (omega (arith, there, same))))
            | inr apart ↦ rw (get_or-set_other flows i a f other apart) (are.each a other there)
          ];
      all = λ some. size ∙ are.all (omega (arith, some, size));
      alike = λ some. are.alike (omega (arith, some, size));
    }

-- a drift without changes sends on the same in each period
pub steps_alike : (drift : DriftRows) → drift.changes ≡ [] → (t u c : ℕ) → row_of drift t c ≡ row_of drift u c
unfolding row_of
steps_alike drift none t u c = rw none refl

-- no units are nowhere
pub no_units : (p : Problem) (a n : ℕ) → HoldUnits p a 0 n []
no_units p a n = record {
  cells = All-nil (λ (e : UnitPart). e.cell < p.cells);
  each = λ d here. omega arith;
}

-- units are where one is
pub units_held : (p : Problem) (a units n : ℕ) (entries : List UnitPart) → HoldUnit p a n entries → HoldUnits p a units n entries
units_held p a units n entries hold = record {
  cells = hold.cells;
  each = λ d here. ap (λ (part : ℕ). units * part) (hold.each d here);
}
