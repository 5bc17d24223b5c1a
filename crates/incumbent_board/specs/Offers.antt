-- What looks and offers tell.
use Rattle.std.specs.Prelude.{◌≡◌, false, List, [], ◌∷◌, ◌++◌, IsTrue}
use mathlib.Core.List.{IsPrefix}
use Rattle.search_model.specs.declared.standing.Standing.{Standing}
use Rattle.search_model.specs.Order.{better}
use Rattle.incumbent_board.specs.declared.offer.Offer.{Offer}
use Rattle.incumbent_board.specs.declared.offer.Offer.TheVariants.{Placed, Behind}
use Rattle.incumbent_board.specs.declared.sight.Sight.{Sight}
use Rattle.incumbent_board.specs.History.{last_of, IsHistory, NoneBetter, MayStand}

-- a fact for each answer
abbrev pub MatchOffer : Offer → Type 0 → (Standing → Type 0) → Type 0
MatchOffer Placed placed behind = placed
MatchOffer (Behind b) placed behind = behind b

-- a fact where the offer was placed
abbrev pub OnPlaced : Offer → Type 0 → Type 0
OnPlaced answer fact = MatchOffer answer fact (λ b. Unit {0})

-- a fact of the standing that the offer was behind
abbrev pub IfBehind : Offer → (Standing → Type 0) → Type 0
IfBehind answer fact = MatchOffer answer (Unit {0}) fact

-- the standing came next in the history, after what was seen and maybe more, the last of which it is better than
pub record ComesNext (old : List Standing) (s : Standing) (new : List Standing) : Type 0 where
  pub before : List Standing
  pub seen : IsPrefix old before
  pub next : new ≡ before ++ s ∷ []
  pub better : IsTrue (better s (last_of before))

-- what a look tells a pass, on a board that began with a standing
pub record Shows (first : Standing) (v : Sight) (answer : Standing) (w : Sight) : Type 0 where
  pub offers : (w.seats ≡ v.seats) × (w.told ≡ v.told) × (w.placed ≡ v.placed) × (w.behind ≡ v.behind)
  pub seen : IsPrefix v.seen w.seen
  pub history : IsHistory first w.seen
  pub last : answer ≡ last_of w.seen
  pub stands : MayStand first answer
  pub best : NoneBetter (v.placed ++ v.behind) answer

-- what an offer tells a pass
pub record Tells (first s : Standing) (v : Sight) (answer : Offer) (w : Sight) : Type 0 where
  pub seats : (w.seats ≡ v.seats) × (w.told ≡ v.told)
  pub seen : IsPrefix v.seen w.seen
  pub history : IsHistory first w.seen
  pub next : OnPlaced answer (ComesNext v.seen s w.seen)
  pub placed : OnPlaced answer ((w.placed ≡ v.placed ++ s ∷ []) × (w.behind ≡ v.behind))
  pub last : IfBehind answer (λ b. b ≡ last_of w.seen)
  pub worse : IfBehind answer (λ b. better s b ≡ false)
  pub behind : IfBehind answer (λ b. (w.placed ≡ v.placed) × (w.behind ≡ v.behind ++ s ∷ []))
