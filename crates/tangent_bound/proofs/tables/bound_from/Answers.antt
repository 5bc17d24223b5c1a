use Rattle.std.proofs.Common.{ℕ, ◌≡◌, ◌<◌, ◌*◌, ◌-◌, ◌+◌, ◌^◌, List, ◌≤◌, length, take, drop, refl, sym, ap, ◌∙◌, arith}
use Rattle.std.proofs.lemmas.List.{length-take-le, take_all}
use Rattle.search_model.specs.Problem.{Problem}
use Rattle.search_model.specs.Legal.{last_of, IsPath}
use Rattle.search_model.specs.Tracks.{value_of}
use Rattle.search_model.specs.Bounds.{sum_along, gain_of}
use Rattle.belief_update.specs.Taken.{TakenState, IsTaken, IsTakenTo}
use Rattle.longest_walk.specs.Sums.{highest_sum}
use Rattle.search_model.specs.Reference.{greatest_sum}
use Rattle.tangent_bound.proofs.Continued.{IsTable, last_inside, rest_below, highest_bounded, greatest_bounded, rest_is}
use Rattle.tangent_bound.proofs.OneRate.{rate-le}
use Rattle.tangent_bound.proofs.Sizes.{most_fits}
use Rattle.tangent_bound.proofs.WholePath.{all_within, value_bounded}
use Rattle.tangent_bound.proofs.tables.bound_from.Goals as goal

pub fill_after-requires-clause-rate : goal.fill_after-requires-clause-rate
fill_after-requires-clause-rate c =
    rate-le c.args.sc.now c.positions-positions.ensures.sound c.args.rate c.requires.rate

-- the table before the walk is filled
table : (c : goal.After-last_after) → IsTable c.args.sc.now c.args.rate c.args.front.now c.args.reference.now c.fill_after.new.gains
table c = record { sound = c.positions-positions.ensures.sound; prefix = c.requires.prefix; more = c.requires.open; path = c.requires.path; begins = c.requires.begins; are = c.fill_after.ensures.gains }

pub fill_near-requires-clause-positions : goal.fill_near-requires-clause-positions
fill_near-requires-clause-positions c =
    let sound = c.positions-positions.ensures.sound in
    rw (c.grid.ensures.value, c.requires.positions) sound.grid_positions

pub fill_near-requires-clause-from : goal.fill_near-requires-clause-from
fill_near-requires-clause-from c =
    let sound = c.positions-positions.ensures.sound in
    rw (c.last_after.ensures.value, c.requires.positions) (omega (arith, last_inside (table c), sound.grid_positions))

-- the highest gains fit
gains_fit : (p : Problem) (rate : ℕ) (q x gains : List ℕ) → IsTable p rate q x gains → highest_sum p.positions (gain_of p rate x) (p.horizon - length q) (length q + 1) < 2 ^ 127
gains_fit p rate q x gains table = omega (arith, highest_bounded table, most_fits p table.sound (p.horizon - length q) (omega arith))

pub fill_near-requires-clause-fits : goal.fill_near-requires-clause-fits
fill_near-requires-clause-fits c =
    let p = c.args.sc.now in
    let all = table c in
    rw (c.requires.positions, c.requires.horizon, c.len-j.ensures.value, c.grid.ensures.value, c.last_after.ensures.value)
    (gain_of p c.args.rate c.args.reference.now, all.are, gains_fit p c.args.rate c.args.front.now c.args.reference.now c.fill_after.new.gains all)

pub sum_after-own-requires-clause-within : goal.sum_after-own-requires-clause-within
sum_after-own-requires-clause-within c =
    let sound = c.positions-positions.ensures.sound in
    rw (c.cells.ensures.value, c.positions-positions.ensures.value) (all_within c.args.sc.now sound c.args.reference.now c.requires.path.follows)

pub sum_after-own-requires-clause-fits : goal.sum_after-own-requires-clause-fits
sum_after-own-requires-clause-fits c =
    let p = c.args.sc.now in
    let left : ℕ = p.horizon - length c.args.front.now in
    let all : IsTable p c.args.rate c.args.front.now c.args.reference.now c.fill_after.new.gains =
    record { sound = c.positions-positions.ensures.sound; prefix = c.requires.prefix; more = c.requires.open; path = c.requires.path; begins = c.requires.begins; are = c.fill_after.ensures.gains } in
    rw (c.positions-positions.ensures.value, c.len-j.ensures.value, c.cells.ensures.value) (omega (arith, rest_is all, rest_below all, greatest_bounded all, most_fits p all.sound left (omega arith)))

-- the value of the reference
whole_value : (p : Problem) (x front : List ℕ) (k : ℕ) → IsPath p x → k ≤ length front → length front < p.horizon → (value result : ℕ) → (s : TakenState) → value ≡ value_of p (take k x) → IsTakenTo p (take k x) x p.horizon s →
    ((q r : List ℕ) → IsTaken p q r s → value ≡ value_of p q → length r ≡ p.horizon → result ≡ value_of p r) → result ≡ value_of p x
whole_value p x front k path order short value result s is to found =
    let begins : length (take k x) ≡ k = length-take-le k x (omega (arith, path.whole, order, short)) in
    let all : take p.horizon x ≡ x = take_all p.horizon x (omega (arith, path.whole)) in
    let taken = rw all at (to.taken (omega (arith, begins, order, short))) in
    found (take k x) x taken is path.whole

pub value-whole-requires : goal.value-whole-requires
value-whole-requires c =
    let p = c.args.sc.now in
    let x = c.args.reference.now in
    let k = c.args.k in
    let begins : length (take k x) ≡ k = length-take-le k x (omega (arith, c.requires.path.whole, c.requires.order, c.requires.open)) in
    let all : take p.horizon x ≡ x = take_all p.horizon x (omega (arith, c.requires.path.whole)) in
    let taken = rw all at (c.fill_after.ensures.taken.taken (omega (arith, begins, c.requires.order, c.requires.open))) in
    record { taken = (take k x, x, taken, c.requires.value, c.requires.path.whole ∙ sym c.horizon.ensures.value) }

pub overflow_mul-result : goal.overflow_mul-result
overflow_mul-result c =
    let p = c.args.sc.now in
    let x = c.args.reference.now in
    rw (c.from.ensures, c.denominator.ensures.value, c.sweep.ensures.value, (whole_value c.args.sc.now c.args.reference.now c.args.front.now c.args.k c.requires.path c.requires.order c.requires.open c.args.value c.value-whole.result c.fill_after.new.taken c.requires.value c.fill_after.ensures.taken (rw c.horizon.ensures.value at c.value-whole.ensures)))
    (omega (arith, value_bounded p x, most_fits p c.positions-positions.ensures.sound 1 (omega arith)))

-- the table at the end
table_then : (c : goal.After-greatest) → IsTable c.args.sc.now c.args.rate c.args.front.now c.args.reference.now c.fill_after.new.gains
table_then c = record { sound = c.positions-positions.ensures.sound; prefix = c.requires.prefix; more = c.requires.open; path = c.requires.path; begins = c.requires.begins; are = c.fill_after.ensures.gains }

-- the denominator of the looks times the value of the reference
scaled : (c : goal.After-greatest) → c.from.result * c.value-whole.result ≡ c.args.sc.now.sweep.denominator * value_of c.args.sc.now c.args.reference.now
scaled c = rw (c.from.ensures, c.denominator.ensures.value, c.sweep.ensures.value, (whole_value c.args.sc.now c.args.reference.now c.args.front.now c.args.k c.requires.path c.requires.order c.requires.open c.args.value c.value-whole.result c.fill_after.new.taken c.requires.value c.fill_after.ensures.taken (rw c.horizon.ensures.value at c.value-whole.ensures))) refl

-- the greatest sum of gains over the walks below the prefix
greatest : (c : goal.After-greatest) → let p = c.args.sc.now in let q = c.args.front.now in
    c.greatest.result ≡ greatest_sum p.moves (gain_of p c.args.rate c.args.reference.now) (p.horizon - length q) (length q + 1) (last_of p.start q)
greatest c =
    let p = c.args.sc.now in
    let q = c.args.front.now in
    let gains : ℕ → ℕ → ℕ = gain_of p c.args.rate c.args.reference.now in
    let horizon : c.fill_near.new.self.horizon ≡ c.args.sc.now.horizon = c.fill_near.ensures.horizon ∙ c.requires.horizon in
    let filled = rw (c.requires.positions, c.requires.horizon, c.len-j.ensures.value, c.grid.ensures.value, c.last_after.ensures.value) at c.fill_near.ensures.filled gains (table_then c).are in
    c.greatest.ensures.near p.moves gains (last_of p.start q) (length q) filled
    ∙ ap (λ (h : ℕ). greatest_sum p.moves gains (h - length q) (length q + 1) (last_of p.start q)) horizon

-- the sum of the gains along the reference
own : (c : goal.After-greatest) → let p = c.args.sc.now in let q = c.args.front.now in
    c.sum_after-own.result ≡ sum_along (gain_of p c.args.rate c.args.reference.now) (length q + 1) (drop (length q) c.args.reference.now)
own c = rw (c.positions-positions.ensures.value, c.len-j.ensures.value, c.cells.ensures.value) at c.sum_after-own.ensures ∙ rest_is (table_then c)

pub overflow_add-result : goal.overflow_add-result
overflow_add-result c =
    let p = c.args.sc.now in
    let left : ℕ = p.horizon - length c.args.front.now in
    omega (arith, scaled c, greatest c, greatest_bounded (table_then c), value_bounded p c.args.reference.now, most_fits p c.positions-positions.ensures.sound (left + 1) (omega arith))

pub overflow_sub-result : goal.overflow_sub-result
overflow_sub-result c = omega (arith, greatest c, own c, rest_below (table_then c))

pub returns-clause-value : goal.returns-clause-value
returns-clause-value c = rw (scaled c, greatest c, own c) refl
