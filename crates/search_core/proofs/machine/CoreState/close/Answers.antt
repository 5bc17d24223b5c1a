use Rattle.std.proofs.Common.{◌≡◌, ℕ, ◌<◌, List, length, arith, rules, Contains}
use Rattle.bound_tree.specs.Accepts.{children_by, expected_by}
use Rattle.search_core.proofs.Answered.{Contains-place, held_is_legal, held_is_short, close_refused}
use Rattle.search_core.proofs.machine.CoreState.close.Goals as goal

pub moves_below-moves-requires : goal.moves_below-moves-requires
moves_below-moves-requires c =
    held_is_legal c.args.sc.now c.args.self.now c.args.node.now.prefix c.requires.balanced
    (Contains-place c.args.self.now.hands c.in-Some.place c.args.node.now.prefix (search rules))

pub returns-in_err-reserve : goal.returns-in_err-reserve
returns-in_err-reserve c =
    close_refused c.args.sc.now c.args.self.now _ c.args.node.now c.args.j c.from_residual.result
    (Contains-place c.args.self.now.hands c.in-Some.place c.args.node.now.prefix (search rules))
    (search rules) c.from_residual.ensures.1 (search rules)

pub returns-in_err-push : goal.returns-in_err-push
returns-in_err-push c =
    close_refused c.args.sc.now c.args.self.now _ c.args.node.now c.args.j c.from_residual-in_err-push.result
    (Contains-place c.args.self.now.hands c.in-Some.place c.args.node.now.prefix (search rules))
    (search rules) c.from_residual-in_err-push.ensures.1 (search rules)

pub replace_held-requires-clause-shorter : goal.replace_held-requires-clause-shorter
replace_held-requires-clause-shorter c = λ some.
    let held : Contains c.args.self.now.hands c.args.node.now.prefix = Contains-place c.args.self.now.hands c.in-Some.place c.args.node.now.prefix (search rules) in
    let within : c.args.j < length c.args.self.now.standings = search rules in
    let sound = c.recall_sound.ensures in
    let short = held_is_short c.args.sc.now c.args.self.now c.args.node.now c.args.j sound c.requires.balanced c.requires.allowed held within (c.moves_below-moves.ensures.branch some) in
    omega (arith, short, sound.horizon.1)

pub returns : goal.returns
returns c = (
  Contains-place c.args.self.now.hands c.in-Some.place c.args.node.now.prefix (search rules),
  search rules,
  λ q.
      let old : List (List ℕ) = c.args.self.now.hands in
      let same : c.reserve.new.self.items ≡ old = search rules in
      let children : children_by c.args.node.now.prefix c.moves_below-moves.result.now ≡ expected_by c.args.sc.now c.args.node.now.prefix c.args.node.now.kind = c.moves_below-moves.ensures.children in
      let made = c.replace_held.ensures q in
      rw (same, children) at made,
  search rules,
  search rules,
  search rules,
)
