-- What a step answers, told fault by fault.
use Rattle.std.proofs.Common.{◌≡◌, ℕ, ◌<◌, List, ◌∷◌, length, sym, ap, ◌∙◌, subst, arith, Contains, Result, Ok, Err, ◌↔◌}
use Rattle.std.proofs.lemmas.Option.{slice_get-get_or, slice_get_within, get_or_from_slice_get}
use Rattle.std.proofs.lemmas.List.Elements.{All-contains, Contains-append_left, Contains-append_right}
use Rattle.std.proofs.Common.{slice_get, Some, get_or, [], ◌++◌}
use Rattle.std.specs.Result.{IsErrAnd, IsErrOf}
use Rattle.search_model.specs.declared.standing.Standing.{Standing}
use Rattle.search_model.specs.Problem.{Problem, IsProblem}
use Rattle.search_model.specs.Legal.{IsLegal}
use Rattle.list_laws.proofs.Members.{Contains-head}
use Rattle.bound_tree.specs.declared.node.Kind.TheVariants.{Branch}
use Rattle.bound_tree.specs.declared.node.TreeNode.{TreeNode}
use Rattle.bound_tree.specs.Accepts.{prefixes_of}
use Rattle.bound_tree.specs.Close.{IsClosed}
use Rattle.search_core.specs.declared.event.CoreEvent.{CoreEvent}
use Rattle.search_core.specs.declared.event.CoreEvent.TheVariants.{Put, Take, Close, Learn}
use Rattle.search_core.specs.declared.event.CoreFault.{CoreFault}
use Rattle.search_core.specs.declared.event.CoreFault.TheVariants.{NotPooled, NotHeld, NoStanding, NoMemory}
use Rattle.search_core.specs.Counts.{SameItems}
use Rattle.search_core.specs.Balance.{Core, standing_in, IsBalanced}
use Rattle.search_core.specs.Steps.{IsAllowed, Steps, NeedsHeld, MissesPool, MissesHands, MissesStanding, HasNoFault, Answers}
use Rattle.search_core.proofs.Counts.{Contains-same}
use Rattle.search_core.proofs.FromBounds.{short_from_branch}
use Rattle.search_core.proofs.Kept.{kept}

-- what a place gives stands in the list
pub Contains-place : {X : Type 0} (xs : List X) (i : ℕ) (x : X) → slice_get xs i ≡ Some x → Contains xs x
Contains-place xs i x at = (i, slice_get_within xs i x at, get_or_from_slice_get xs i x x at)

-- what goes from one list stands there
gone_stands : (q : List ℕ) (xs ys : List (List ℕ)) → SameItems xs (q ∷ ys) → Contains xs q
gone_stands q xs ys same = Contains-same q (q ∷ ys) xs (λ z. sym (same z)) (Contains-head q ys)

-- what is held is legal
pub held_is_legal : (p : Problem) (c : Core) (q : List ℕ) → IsBalanced p c → Contains c.hands q → IsLegal p q
held_is_legal p c q b held =
    All-contains (IsLegal p) (standing_in c.pool c.hands c.records) q b.legal
    (Contains-append_left (c.pool ++ c.hands) (prefixes_of c.records) q (Contains-append_right c.pool c.hands q held))

-- a Branch that may be closed is shorter than the horizon
pub held_is_short : (p : Problem) (c : Core) (node : TreeNode) (j : ℕ) → IsProblem p → IsBalanced p c → IsAllowed p c (Close node j) →
    Contains c.hands node.prefix → j < length c.standings → node.kind ≡ Branch → length node.prefix < p.horizon
held_is_short p c node j sound b allowed held within branch =
    let none : Standing = record { path = []; value = 0 } in
    let s : Standing = get_or c.standings j none in
    let closed : IsClosed p s node.prefix node.kind = allowed held s (slice_get-get_or c.standings j none within) in
    short_from_branch p s node.prefix sound (held_is_legal p c node.prefix b held) (subst (λ kind. IsClosed p s node.prefix kind) branch closed)

no_fault : (c : Core) (node : TreeNode) (j : ℕ) → Contains c.hands node.prefix → j < length c.standings → HasNoFault c (Close node j)
no_fault c node j held within = record {
  pool = λ q m. (let other = m.0 in cc);
  hands = λ q m. m.1 (subst (Contains c.hands) m.0 held);
  standing = λ i m. (let same : j ≡ i = (let e = m.1 in cc) in let past = m.3 in omega (arith, within, same, past));
}

-- without memory a Close is refused, and nothing changes
pub close_refused : (p : Problem) (c d : Core) (node : TreeNode) (j : ℕ) (r : Result (Unit {0}) CoreFault) → Contains c.hands node.prefix → j < length c.standings →
    IsErrAnd r (λ f. f ≡ NoMemory) → d ≡ c → Answers p c (Close node j) r d
close_refused p c d node j (Ok done) held within err same = absurd err
close_refused p c d node j (Err fault) held within err same =
    subst (λ f. Answers p c (Close node j) (Err f) d) (sym err) (same, no_fault c node j held within)

-- a balance is kept, whatever the answer
pub balanced_after : (p : Problem) (c : Core) (e : CoreEvent) (r : Result (Unit {0}) CoreFault) (d : Core) → IsProblem p → IsBalanced p c → IsAllowed p c e →
    Answers p c e r d → IsBalanced p d
balanced_after p c e (Ok done) d sound b allowed a = kept p c d e sound b allowed a
balanced_after p c e (Err fault) d sound b allowed a = subst (IsBalanced p) (sym a.0) b

-- an event that was taken had its prefix where it needs it
taken_pooled : (p : Problem) (c d : Core) (e : CoreEvent) (q : List ℕ) → Steps p c e d → e ≡ Take q → Contains c.pool q
taken_pooled p c d e q s is = let at = subst (λ e. Steps p c e d) is s in gone_stands q c.pool d.pool at.0.gone

taken_held : (p : Problem) (c d : Core) (e : CoreEvent) (q : List ℕ) → Steps p c e d → NeedsHeld e q → Contains c.hands q
taken_held p c d (Put r) q s is = subst (Contains c.hands) is (gone_stands r c.hands d.hands s.0.gone)
taken_held p c d (Take r) q s is = absurd is
taken_held p c d (Close node j) q s is = subst (Contains c.hands) is s.0
taken_held p c d (Learn t) q s is = absurd is

taken_known : (p : Problem) (c d : Core) (e : CoreEvent) (node : TreeNode) (j : ℕ) → Steps p c e d → e ≡ Close node j → j < length c.standings
taken_known p c d e node j s is = let at = subst (λ e. Steps p c e d) is s in at.1

one_held : (e : CoreEvent) (q r : List ℕ) → NeedsHeld e q → NeedsHeld e r → q ≡ r
one_held (Put p) q r h g = sym h ∙ g
one_held (Take p) q r h g = absurd h
one_held (Close node j) q r h g = sym h ∙ g
one_held (Learn s) q r h g = absurd h

-- an event is no Take and Close at once
take_or_close : (e : CoreEvent) (q : List ℕ) (node : TreeNode) (j : ℕ) → e ≡ Take q → e ≡ Close node j → ⊥
take_or_close e q node j h g = cc

module _ (p : Problem) (c d : Core) (e : CoreEvent) where
  pub not_pooled : (r : Result (Unit {0}) CoreFault) → Answers p c e r d → (q : List ℕ) → IsErrOf r (NotPooled q) ↔ MissesPool c e q
  not_pooled (Ok done) a q = ((λ h. absurd (let bad : ⊥ = cc in bad)), λ m. absurd (m.1 (taken_pooled p c d e q a m.0)))
  not_pooled (Err (NotPooled s)) a q = (
    (λ h. let same : s ≡ q = cc in subst (λ z. MissesPool c e z) same a.1),
    λ m. (let same : s ≡ q = (let one = a.1.0 in let two = m.0 in cc) in ap (λ (z : List ℕ). let f : Result (Unit {0}) CoreFault = Err (NotPooled z) in f) same),
  )
  not_pooled (Err (NotHeld s)) a q = (
    (λ h. absurd (let bad : ⊥ = cc in bad)),
    λ m. absurd (let none : NeedsHeld (Take q) s = subst (λ z. NeedsHeld z s) m.0 a.1.0 in none),
  )
  not_pooled (Err (NoStanding i)) a q = ((λ h. absurd (let bad : ⊥ = cc in bad)), λ m. absurd (take_or_close e q a.1.0 i m.0 a.1.1))
  not_pooled (Err NoMemory) a q = ((λ h. absurd (let bad : ⊥ = cc in bad)), λ m. absurd (a.1.pool q m))

  pub not_held : (r : Result (Unit {0}) CoreFault) → Answers p c e r d → (q : List ℕ) → IsErrOf r (NotHeld q) ↔ MissesHands c e q
  not_held (Ok done) a q = ((λ h. absurd (let bad : ⊥ = cc in bad)), λ m. absurd (m.1 (taken_held p c d e q a m.0)))
  not_held (Err (NotPooled s)) a q = (
    (λ h. absurd (let bad : ⊥ = cc in bad)),
    λ m. absurd (let none : NeedsHeld (Take s) q = subst (λ z. NeedsHeld z q) a.1.0 m.0 in none),
  )
  not_held (Err (NotHeld s)) a q = (
    (λ h. let same : s ≡ q = cc in subst (λ z. MissesHands c e z) same a.1),
    λ m. ap (λ (z : List ℕ). let f : Result (Unit {0}) CoreFault = Err (NotHeld z) in f) (one_held e s q a.1.0 m.0),
  )
  not_held (Err (NoStanding i)) a q = (
    (λ h. absurd (let bad : ⊥ = cc in bad)),
    λ m. absurd (m.1 (let same : a.1.0.prefix ≡ q = subst (λ z. NeedsHeld z q) a.1.1 m.0 in subst (Contains c.hands) same a.1.2)),
  )
  not_held (Err NoMemory) a q = ((λ h. absurd (let bad : ⊥ = cc in bad)), λ m. absurd (a.1.hands q m))

  pub no_standing : (r : Result (Unit {0}) CoreFault) → Answers p c e r d → (j : ℕ) → IsErrOf r (NoStanding j) ↔ MissesStanding c e j
  no_standing (Ok done) a j = (
    (λ h. absurd (let bad : ⊥ = cc in bad)),
    λ m. absurd (let within = taken_known p c d e m.0 j a m.1 in let past = m.3 in omega (arith, within, past)),
  )
  no_standing (Err (NotPooled s)) a j = ((λ h. absurd (let bad : ⊥ = cc in bad)), λ m. absurd (take_or_close e s m.0 j a.1.0 m.1))
  no_standing (Err (NotHeld s)) a j = (
    (λ h. absurd (let bad : ⊥ = cc in bad)),
    λ m. absurd (a.1.1 (let same : m.0.prefix ≡ s = subst (λ z. NeedsHeld z s) m.1 a.1.0 in subst (Contains c.hands) same m.2)),
  )
  no_standing (Err (NoStanding i)) a j = (
    (λ h. let same : i ≡ j = cc in subst (λ z. MissesStanding c e z) same a.1),
    λ m. (let same : i ≡ j = (let one = a.1.1 in let two = m.1 in cc) in ap (λ (z : ℕ). let f : Result (Unit {0}) CoreFault = Err (NoStanding z) in f) same),
  )
  no_standing (Err NoMemory) a j = ((λ h. absurd (let bad : ⊥ = cc in bad)), λ m. absurd (a.1.standing j m))
