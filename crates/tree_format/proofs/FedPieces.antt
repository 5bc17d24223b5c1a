-- Pieces of a plan's text, and its end.
use Rattle.std.proofs.Common.{◌≡◌, ℕ, zero, suc, ◌<◌, ◌≤◌, ◌+◌, ◌-◌, List, [], ◌++◌, length, take, drop, Err, refl, sym, ap, subst, ◌∙◌, arith, append_assoc, inl, inr}
use Rattle.std.proofs.Math.Seq.{take-add}
use Rattle.std.proofs.lemmas.Bool.{cases_lt}
use Rattle.std.proofs.lemmas.List.{append-nil, take_all, take_rest}
use Rattle.std.proofs.lemmas.List.Elements.{All-nil}
use Rattle.search_model.specs.Problem.{Problem}
use Rattle.tree_format.specs.declared.plan_line.Family.{Family}
use Rattle.tree_format.specs.declared.kind.PlanKind.TheVariants.{EarlyEnd}
use Rattle.tree_format.specs.declared.due.Due.{Due}
use Rattle.tree_format.specs.declared.plan_line.Stage.{Stage}
use Rattle.tree_format.specs.declared.plan_line.Stage.TheVariants as due
use Rattle.tree_format.specs.declared.plan_item.PlanItem.{PlanItem}
use Rattle.tree_format.specs.declared.plan_item.Step.{Step}
use Rattle.tree_format.specs.declared.plan_item.Step.TheVariants.{More}
use Rattle.text_rows.specs.Lines.{HasNoFeed}
use Rattle.tree_format.specs.Reading.{at_start, at_line_number, unread, unless_more, text_at}
use Rattle.tree_format.specs.Gathering.{Gathered, nothing_gathered}
use Rattle.tree_format.specs.FeedSteps.{Stand}
use Rattle.tree_format.specs.Feeding.{told, HasRead, IfRead, Tells, IsWhole, IsCutOff, GoesOn}
use Rattle.tree_format.proofs.AtLines.{at_early, at_end}
use Rattle.tree_format.proofs.Gatherings.{gathered_nothing}

-- a feed that was fed nothing
pub nothing_read : (family : Family) (p : Problem) (d : Due) (path : List ℕ) (line : Gathered) → d ≡ at_start family → path ≡ [] → line ≡ nothing_gathered → HasRead family p [] [] (record { number = 1; due = d; standing = record { path = path; value = 0 }; weight = 0; ceiling = 0; line = line })
nothing_read family p d path line first none nothing = record {
  before = [];
  reached = unread family;
  begun = [];
  whole = refl;
  feeds = All-nil HasNoFeed;
  open_line = All-nil (λ (b : ℕ). b ≡ 10 → ⊥);
  right = refl;
  behind_end = λ _. refl;
  tell = refl;
  stand = ap (λ (x : Due). record { number = 1; due = x; standing = record { path = path; value = 0 }; weight = 0; ceiling = 0; line = line }) first
      ∙ ap (λ (q : List ℕ). record { number = 1; due = at_start family; standing = record { path = q; value = 0 }; weight = 0; ceiling = 0; line = line }) none
      ∙ ap (λ (g : Gathered). record { number = 1; due = at_start family; standing = record { path = []; value = 0 }; weight = 0; ceiling = 0; line = g }) (nothing ∙ sym (gathered_nothing nothing_gathered));
}

-- so many bytes of a piece were fed, and none of them completed an item or decided a fault
pub record IsFedTo (family : Family) (p : Problem) (fed : List ℕ) (items : List PlanItem) (piece : List ℕ) (i : ℕ) (feed : Stand) : Type 0 where
  pub here : HasRead family p (fed ++ take i piece) items feed
  pub earlier : (n : ℕ) → n < i → Tells family p (fed ++ take n piece) items

-- no byte more
pub nothing_more : (family : Family) (p : Problem) (fed : List ℕ) (items : List PlanItem) (feed : Stand) → HasRead family p fed items feed → (rest : List ℕ) (n : ℕ) → n < 1 → Tells family p (fed ++ take n rest) items
nothing_more family p fed items feed read rest zero lt = (feed, subst (λ (bytes : List ℕ). HasRead family p bytes items feed) (sym (append-nil fed)) read)
nothing_more family p fed items feed read rest (suc n) lt = absurd (omega (arith, lt))

-- the bytes of a piece from a place on, as a slice has them
abbrev pub rest_of : List ℕ → ℕ → List ℕ
rest_of piece i = take (length piece - i) (drop i piece)

-- the first of these, so many
next_bytes : (fed piece : List ℕ) (i k : ℕ) → (fed ++ take i piece) ++ take k (rest_of piece i) ≡ fed ++ take (i + k) piece
next_bytes fed piece i k =
    append_assoc fed (take i piece) (take k (rest_of piece i)) ∙ ap (λ (t : List ℕ). fed ++ (take i piece ++ take k t)) (take_rest piece i) ∙ ap (λ (t : List ℕ). fed ++ t) (sym (take-add i k piece))

-- those before a place, where none before it did
pub fed_before : (family : Family) (p : Problem) (fed : List ℕ) (items : List PlanItem) (piece : List ℕ) (i k : ℕ) (feed : Stand) → IsFedTo family p fed items piece i feed → IfRead p feed (λ family bytes told. (n : ℕ) → n < k → Tells family p (bytes ++ take n (rest_of piece i)) told) → (n : ℕ) → n < i + k → Tells family p (fed ++ take n piece) items
fed_before family p fed items piece i k feed to first n lt = elim (cases_lt n i) [
  | inl below ↦ to.earlier n below
  | inr above ↦
      let same : i + (n - i) ≡ n = omega (arith, above) in
      subst (λ (m : ℕ). Tells family p (fed ++ take m piece) items) same (subst (λ (bytes : List ℕ). Tells family p bytes items) (next_bytes fed piece i (n - i)) (first family (fed ++ take i piece) items to.here (n - i) (omega (arith, lt, above))))
]

-- more bytes of it, and what they brought
pub fed_on : (family : Family) (p : Problem) (fed : List ℕ) (items : List PlanItem) (piece : List ℕ) (i k : ℕ) (step brought : Step) (old new : Stand) → IsFedTo family p fed items piece i old → IfRead p old (λ family bytes told. GoesOn family p (bytes ++ take k (rest_of piece i)) told step new) → step ≡ brought → GoesOn family p (fed ++ take (i + k) piece) items brought new
fed_on family p fed items piece i k step brought old new to taken is =
    subst (λ (s : Step). GoesOn family p (fed ++ take (i + k) piece) items s new) is (subst (λ (bytes : List ℕ). GoesOn family p bytes items step new) (next_bytes fed piece i k) (taken family (fed ++ take i piece) items to.here))

-- and its last byte
pub fed_all : (family : Family) (p : Problem) (fed : List ℕ) (items : List PlanItem) (piece : List ℕ) (i : ℕ) (feed : Stand) → length piece ≤ i → IsFedTo family p fed items piece i feed → GoesOn family p (fed ++ take (length piece) piece) items More feed
fed_all family p fed items piece i feed le to =
    let same : take i piece ≡ take (length piece) piece = take_all i piece le ∙ sym (take_all (length piece) piece (omega arith)) in
    subst (λ (t : List ℕ). HasRead family p (fed ++ t) items feed) same to.here

-- The end of the bytes.
module _ (family : Family) (p : Problem) (fed : List ℕ) (items : List PlanItem) (feed : Stand) (read : HasRead family p fed items feed) where
  -- behind the end they are the text of a plan
  pub read_whole : feed.due.stage ≡ due.Ended → IsWhole family p fed items
  read_whole over =
      let ended : read.reached.due.stage ≡ due.Ended = sym (ap (λ (s : Stand). s.due.stage) read.stand) ∙ over in
      record {
        plan = read.reached.plan;
        spelled = ap (text_at family p) read.whole
            ∙ at_end family p read.before read.reached read.feeds read.right read.begun ended
            ∙ ap (λ (t : List ℕ). unless_more (1 + length read.before) t read.reached.plan) (read.behind_end ended);
        tell = read.tell ∙ ap (λ (t : Stage). told t read.reached.plan) ended;
      }

  -- before it a line feed is missing
  pub read_early : (feed.due.stage ≡ due.Ended → ⊥) → IsCutOff family p fed (at_line_number feed.number EarlyEnd)
  read_early goes = record {
    first = ap (text_at family p) read.whole
        ∙ at_early family p read.before read.reached read.feeds read.right read.begun (λ ended. goes (ap (λ (s : Stand). s.due.stage) read.stand ∙ ended)) read.open_line
        ∙ ap (λ (s : Stand). Err (at_line_number s.number EarlyEnd)) (sym read.stand);
    early = refl;
  }
