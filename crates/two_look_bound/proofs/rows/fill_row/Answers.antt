use Rattle.std.proofs.Common.{ℕ, ◌≡◌, ◌+◌, ◌*◌, ◌<◌, List, length, slice_index, inl, inr, refl, ap, ◌∙◌, arith, All, Contains}
use Rattle.std.proofs.lemmas.Bool.{cases_eq}
use Rattle.std.proofs.lemmas.List.Elements.{All-get_or, Contains-get_or}
use Rattle.search_grid.specs.Moves.{moves_from}
use Rattle.edge_bound.proofs.UnitTable.{row_inside}
use Rattle.two_look_bound.specs.Pairs.{edge_and_rest}
use Rattle.two_look_bound.proofs.Walking.{move_inside, apart_rows}
use Rattle.two_look_bound.proofs.rows.fill_row.Goals as goal

pub fill_pairs-requires-clause-parts : goal.fill_pairs-requires-clause-parts
fill_pairs-requires-clause-parts c = rw (c.later_parts-parts.ensures, c.len.ensures.value) refl

-- a listed position is one
inside : (n : ℕ) (some : List ℕ) (j : ℕ) → All (λ a. a < n) some → j < length some → slice_index some j < n
inside n some j all short = All-get_or (λ a. a < n) some j 0 short all

pub fill_pairs-requires-clause-here : goal.fill_pairs-requires-clause-here
fill_pairs-requires-clause-here c =
    let p = c.args.given.now.sc.now in
    let a = inside p.positions c.args.some.now c.loop-a.a-index c.requires.inside c.loop-a-test.true in
    let here : c.from.result * c.from-positions.result ≡ slice_index c.args.some.now c.loop-a.a-index * c.args.given.now.sc.now.positions = rw (c.from.ensures, c.from-positions.ensures, c.positions.ensures.value) refl in
    rw here (omega (arith, row_inside p.positions p.positions (slice_index c.args.some.now c.loop-a.a-index) a, c.requires.size, c.loop-a.invariant.size))

pub fill_pairs-requires-clause-rewards : goal.fill_pairs-requires-clause-rewards
fill_pairs-requires-clause-rewards c b move = c.requires.rewards (slice_index c.args.some.now c.loop-a.a-index) b (Contains-get_or c.args.some.now c.loop-a.a-index 0 c.loop-a-test.true) move

pub loop-a-preserved : goal.loop-a-preserved
loop-a-preserved c =
    let p = c.args.given.now.sc.now in
    let q = c.args.given.now.prefix.now in
    let s = c.args.s in
    let some = c.args.some.now in
    let a = slice_index some c.loop-a.a-index in
    let here : c.from.result * c.from-positions.result ≡ slice_index c.args.some.now c.loop-a.a-index * c.args.given.now.sc.now.positions = rw (c.from.ensures, c.from-positions.ensures, c.positions.ensures.value) refl in
    let each = rw here at c.fill_pairs.ensures.each in
    let kept = rw here at c.fill_pairs.ensures.kept in
    let filled : (j b : ℕ) → j < c.loop-a.a-index + 1 → Contains (moves_from p.moves (slice_index some j)) b →
    slice_index c.fill_pairs.new.earlier (slice_index some j * p.positions + b) ≡ edge_and_rest p q s (slice_index some j) b =
    λ j b short move. elim (cases_eq (slice_index some j) a) [
      | inl same ↦ rw same (each b (rw same at move))
      | inr apart ↦
          let not : j ≡ c.loop-a.a-index → ⊥ = λ e. apart (ap (slice_index some) e) in
          let before : j < c.loop-a.a-index = omega (arith, short, not) in
          let at = inside p.positions some j c.requires.inside (omega (arith, before, c.loop-a-test.true)) in
          let there = move_inside p c.recall_sound.ensures (slice_index some j) b at move in
          kept (slice_index some j * p.positions + b) (apart_rows p.positions a (slice_index some j) b there apart) ∙ c.loop-a.invariant.each j b before move
    ] in
    record {
      each = filled;
      size = c.fill_pairs.ensures.size ∙ c.loop-a.invariant.size;
      room = c.fill_pairs.ensures.room ∙ c.loop-a.invariant.room;
    }
