-- The levels of a prefix, one look more, and what they are to another prefix by what both have in common.
use Rattle.std.proofs.Common.{ℕ, ◌+◌, ◌-◌, ◌<◌, ◌≤◌, ◌≡◌, ◌==◌, false, List, [], ◌∷◌, ◌++◌, length, take, set, slice_index, slice_index_or, get_or, arith, inl, inr, ap, sym, ◌∙◌, subst, get_or-set_same, get_or-set_other, length-set, length-append}
use Rattle.std.proofs.lemmas.Bool.{cases_lt, cases_order}
use Rattle.std.proofs.lemmas.List.{set-append_right, get_or_append_left, get_or-append-add, get_or_default, length-take-le, take_all}
use Rattle.std.proofs.lemmas.List.Sums.{common_prefix_len-le}
use Rattle.search_model.specs.Problem.{Problem}
use Rattle.belief_update.specs.Onward.{OnwardState, IsMadeBehind, IsOnward}
use Rattle.belief_update.specs.Levels.{AreLevels, AreRooms, level_at}
use Rattle.belief_update.specs.Taken.{TakenState, IsTaken, IsTakenTo}
use Rattle.belief_update.specs.Trails.{common_of}
use Rattle.belief_update.proofs.TrailSteps.{front_more, shorter_front, common_front}

-- no level
abbrev pub none : OnwardState
none = record { belief = record { period = 0; looked = false; masses = [] }; rows = []; value = 0 }

-- with another level, made for as many looks, the rooms still are
pub rooms_set : (p : Problem) (levels : List OnwardState) (i : ℕ) (new : OnwardState) → i < length levels → IsMadeBehind p i new → AreRooms p levels → AreRooms p (set levels i new)
rooms_set p levels i new there made rooms k inside = elim (cases_order k i) [
  | inl same ↦ rw (same, get_or-set_same levels i new none there) made
  | inr apart ↦ rw (get_or-set_other levels i k new none (λ e. omega (arith, e, apart))) (rooms k (omega (arith, inside, length-set levels i new)))
]

-- and so they are with one more behind them
pub rooms_more : (p : Problem) (levels : List OnwardState) (new : OnwardState) → IsMadeBehind p (length levels) new → AreRooms p levels → AreRooms p (levels ++ new ∷ [])
rooms_more p levels new made rooms k inside = elim (cases_lt k (length levels)) [
  | inl before ↦ rw (get_or_append_left levels (new ∷ []) none k before) (rooms k before)
  | inr behind ↦
      let here : k ≡ length levels + 0 = omega (arith, behind, inside, length-append levels (new ∷ [])) in
      let place : length levels ≡ length levels + 0 = omega arith in
      rw (here, get_or-append-add levels (new ∷ []) 0 none, ← place) made
]

-- the level after look i, behind those before it
pub level_more : (p : Problem) (looks : List ℕ) (i : ℕ) (levels front back : List OnwardState) (new : OnwardState) → levels ≡ front ++ back → length front ≡ i + 1 → i < length looks → length looks < p.horizon →
    AreLevels p looks i levels → IsMadeBehind p (i + 1) new → IsOnward p (take i looks ++ slice_index looks i ∷ []) new → AreLevels p looks (i + 1) (front ++ set back 0 new)
level_more p looks i levels front back new parts size inside short are made onward =
    let place : i + 1 - (i + 1) ≡ 0 = omega arith in
    let whole : set levels (i + 1) new ≡ front ++ set back 0 new =
    ap (λ (xs : List OnwardState). set xs (i + 1) new) parts ∙ set-append_right front back (i + 1) (i + 1) new size (omega arith) ∙ ap (λ (k : ℕ). front ++ set back k new) place in
    let there : i + 1 < length levels = omega (arith, are.size, inside, short) in
    subst (AreLevels p looks (i + 1)) whole (record {
      size = length-set levels (i + 1) new ∙ are.size;
      made = rooms_set p levels (i + 1) new there made are.made;
      after = λ k few below. elim (cases_lt i k) [
        | inl past ↦
            let same : k ≡ i + 1 = omega (arith, past, few) in
            rw (same, get_or-set_same levels (i + 1) new none there, front_more looks i inside) onward
        | inr before ↦ rw (get_or-set_other levels (i + 1) k new none (λ e. omega (arith, e, before))) (are.after k before below)
      ];
    })

-- the levels of a prefix up to some looks are those of any prefix that begins with them
pub levels_shared : (p : Problem) (q r : List ℕ) (n m : ℕ) (levels : List OnwardState) → n ≤ m → take n q ≡ take n r → AreLevels p q m levels → AreLevels p r n levels
levels_shared p q r n m levels le same are = record {
  size = are.size;
  made = are.made;
  after = λ k few below. rw (← shorter_front q r k n few same) (are.after k (omega (arith, few, le)) below);
}

-- a level is read in the front of a cut
pub level_in_front : (p : Problem) (q : List ℕ) (i : ℕ) (levels front back : List OnwardState) (d : OnwardState) → levels ≡ front ++ back → i < length front → IsOnward p q (level_at levels i) → IsOnward p q (slice_index_or front i d)
level_in_front p q i levels front back d parts inside on =
    subst (IsOnward p q) (ap (λ (xs : List OnwardState). level_at xs i) parts ∙ get_or_append_left front back none i inside ∙ get_or_default front i none d inside) on

-- and the first one behind it is made for the periods after so many looks as the front has levels
pub level_behind : (p : Problem) (levels front back : List OnwardState) (d : OnwardState) → levels ≡ front ++ back → 1 ≤ length back → AreRooms p levels → IsMadeBehind p (length front) (slice_index_or back 0 d)
level_behind p levels front back d parts some made =
    let place : length front ≡ length front + 0 = omega arith in
    let here = ap (level_at levels) place ∙ ap (λ (xs : List OnwardState). level_at xs (length front + 0)) parts ∙ get_or-append-add front back 0 none ∙ get_or_default back 0 none d some in
    subst (IsMadeBehind p (length front)) here (made (length front) (omega (arith, ap length parts, length-append front back, some)))

-- what both have in common is a part of each
pub common_within : (old q : List ℕ) (same : ℕ) → same ≡ common_of old q → (same ≤ length old) × (same ≤ length q)
common_within old q same is =
    let le = common_prefix_len-le (λ a b. a == b) old q in
    (omega (arith, is, le.0), omega (arith, is, le.1))

-- the level that is read is that of what both have in common
pub common_level : (p : Problem) (old q : List ℕ) (same : ℕ) (levels : List OnwardState) (o : OnwardState) → same ≡ common_of old q → length old < p.horizon → AreLevels p old (length old) levels → o ≡ get_or levels same o → IsOnward p (take same q) o
common_level p old q same levels o is short are read =
    let few = (common_within old q same is).0 in
    let inside : same < p.horizon = omega (arith, few, short) in
    let there : same < length levels = omega (arith, are.size, inside) in
    let shared = levels_shared p old q (common_of old q) (length old) levels (common_prefix_len-le (λ a b. a == b) old q).0 (common_front old q) are in
    let value = get_or_default levels same (record { belief = record { period = 0; looked = false; masses = [] }; rows = []; value = 0 }) o there ∙ sym read in
    subst (IsOnward p (take same q)) value (shared.after same (omega (arith, is)) inside)

-- what the looks of a prefix after its first k took
pub all_taken : (p : Problem) (q : List ℕ) (k looks : ℕ) (s : TakenState) → looks ≡ length q → k ≤ length q → (k ≡ looks → ⊥) → IsTakenTo p (take k q) q looks s → IsTaken p (take k q) q s
all_taken p q k looks s whole inside fewer to =
    let long : length (take k q) ≡ k = length-take-le k q inside in
    let all : take looks q ≡ q = take_all looks q (omega (arith, whole)) in
    subst (λ (r : List ℕ). IsTaken p (take k q) r s) all (to.taken (omega (arith, long, inside, whole, fewer)))
