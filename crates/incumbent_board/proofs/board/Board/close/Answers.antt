use Rattle.std.proofs.Common.{◌≡◌, [], ◌∷◌, ◌++◌, subst}
use Rattle.incumbent_board.specs.Boards.{AreAllSeats}
use Rattle.incumbent_board.proofs.Ends.{ended, rest_cells}
use Rattle.incumbent_board.proofs.board.Board.close.Goals as goal

pub join_all-requires-clause-seats : goal.join_all-requires-clause-seats
join_all-requires-clause-seats g c =
    let split : c.args.seats.items ≡ c.pop.new.self.items ++ c.in-Some.one ∷ [] = c.in-Some.ensures.items in
    rest_cells c.args.self c.pop.new.self.items c.in-Some.one _ (subst (AreAllSeats c.args.self) split c.requires) c.pass_of-place.ensures.cell

pub returns-clause-history : goal.returns-clause-history
returns-clause-history g c =
    let split : c.args.seats.items ≡ c.pop.new.self.items ++ c.in-Some.one ∷ [] = c.in-Some.ensures.items in
    let k = ended c.args.self c.pop.new.self.items c.in-Some.one _ _ _ _ (subst (AreAllSeats c.args.self) split c.requires) c.pass_of-place.ensures.knows c.join_all.ensures.joins c.last_look-words.ensures.closes in
    (rw (split, c.standing.ensures) k.history)

pub returns-clause-best : goal.returns-clause-best
returns-clause-best g c =
    let split : c.args.seats.items ≡ c.pop.new.self.items ++ c.in-Some.one ∷ [] = c.in-Some.ensures.items in
    let k = ended c.args.self c.pop.new.self.items c.in-Some.one _ _ _ _ (subst (AreAllSeats c.args.self) split c.requires) c.pass_of-place.ensures.knows c.join_all.ensures.joins c.last_look-words.ensures.closes in
    (rw (split, c.standing.ensures) k.best)

pub returns-clause-known : goal.returns-clause-known
returns-clause-known g c =
    let split : c.args.seats.items ≡ c.pop.new.self.items ++ c.in-Some.one ∷ [] = c.in-Some.ensures.items in
    let k = ended c.args.self c.pop.new.self.items c.in-Some.one _ _ _ _ (subst (AreAllSeats c.args.self) split c.requires) c.pass_of-place.ensures.knows c.join_all.ensures.joins c.last_look-words.ensures.closes in
    (rw (split, c.standing.ensures) k.known)
