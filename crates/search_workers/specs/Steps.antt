-- What a step at a desk does.
use Rattle.std.specs.Prelude.{◌≡◌, ◌≢◌, ℕ, List, [], ◌∷◌, ◌++◌}
use Rattle.search_model.specs.Problem.{Problem}
use Rattle.bound_tree.specs.declared.node.Kind.{Kind}
use Rattle.bound_tree.specs.declared.node.Kind.TheVariants.{Branch}
use Rattle.bound_tree.specs.Close.{IsClosed, IsAtLeast}
use Rattle.incumbent_board.specs.Boards.{IsSameSeat}
use Rattle.node_tickets.specs.Seats.{MayDraw}
use Rattle.search_workers.specs.declared.closing.Closing.{Closing}
use Rattle.search_workers.specs.declared.closing.Closing.TheVariants.{Branches, Ends, Full, NoMemory}
use Rattle.search_workers.specs.Desks.{DeskView, DrewFull}
use Rattle.search_workers.specs.Incumbents.{best_after}

-- the last prefix that waited has a record now, and waits no more
pub record Records (old : DeskView) (q : List ℕ) (kind : Kind) (new : DeskView) : Type 0 where
  pub waited : old.waiting ≡ new.waiting ++ q ∷ []
  pub records : new.records ≡ old.records ++ record { prefix = q; kind = kind } ∷ []

-- it is closed under the standing in use, and a better path takes that standing's place
pub record ClosesUnder (p : Problem) (old : DeskView) (q : List ℕ) (kind : Kind) (new : DeskView) : Type 0 where
  pub recorded : Records old q kind new
  pub closed : IsClosed p old.last q kind
  pub last : new.last ≡ best_after old.last q kind

-- how the last prefix that waited was closed
abbrev pub MakesRecord : Problem → DeskView → Closing → DeskView → Type 0
MakesRecord p old (Branches q) new = ClosesUnder p old q Branch new
MakesRecord p old Ends new = (q : List ℕ) × (kind : Kind) × (kind ≢ Branch) × ClosesUnder p old q kind new
MakesRecord p old Full new = ⊥
MakesRecord p old NoMemory new = ⊥

-- nothing changed in what is recorded and what waits
pub record Stays (old new : DeskView) : Type 0 where
  pub waiting : new.waiting ≡ old.waiting
  pub records : new.records ≡ old.records

-- what became of the last prefix that waited
abbrev pub Closes : DeskView → Closing → DeskView → Type 0
Closes old (Branches q) new = Records old q Branch new × MayDraw new.ticket
Closes old Ends new = ((q : List ℕ) × (kind : Kind) × (kind ≢ Branch) × Records old q kind new) × MayDraw new.ticket
Closes old Full new = Stays old new × DrewFull new.ticket
Closes old NoMemory new = Stays old new × MayDraw new.ticket

-- a scout left: nothing is recorded, and the standing in use is no worse than before
pub record Scouts (old new : DeskView) : Type 0 where
  pub stays : Stays old new
  pub ticket : new.ticket ≡ old.ticket
  pub seat : IsSameSeat old.seat new.seat
  pub last : IsAtLeast new.last old.last
