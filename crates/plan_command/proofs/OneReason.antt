-- A prefix that is forced, and a product that is made, isn't refused; and there is one reason where one is.
use Rattle.std.proofs.Common.{ℕ, ◌≡◌, ◌+◌, ◌*◌, ◌<◌, ◌≤◌, List, [], ◌++◌, length, take, ◌⊎◌, Some, inl, inr, refl, sym, ap, ◌∙◌, subst, arith, Contains, length-append}
use Rattle.std.proofs.Math.Nat.{mul-le-mul}
use Rattle.std.proofs.Math.Seq.{take-append-add}
use Rattle.std.proofs.lemmas.List.{get_or-append-add}
use Rattle.std.proofs.lemmas.List.Elements.{Contains-get_or, Contains-append_left, All-contains}
use Rattle.std.proofs.lemmas.List.FromFn.{get_or-map-range_with_len}
use Rattle.list_laws.proofs.Members.{Contains-map_cases}
use Rattle.exact_parts.specs.Width.{Fits}
use Rattle.search_grid.specs.Moves.{moves_from}
use Rattle.search_model.specs.Names.{IsRepeated, name_in}
use Rattle.search_model.specs.Problem.{Problem, IsProblem, position_name, position_named}
use Rattle.search_model.specs.Legal.{IsLegal}
use Rattle.tree_format.specs.Reading.{all_of}
use Rattle.tree_format.proofs.Said.{all_of-map, position_named-name}
use Rattle.residual_plan.specs.Forced.{forced_count, forced_name, forced_names, IsForced, IsNameTaken}
use Rattle.residual_plan.proofs.NewNames.{count_names}
use Rattle.duo_search.specs.Product.{both_at, first_at, second_at, product_moves, IsProduct}
use Rattle.duo_search.specs.Refusals.{HasManyMoves, FitsTwo}
use Rattle.duo_search.proofs.Numbers.{first_is, second_is, both_within}
use Rattle.duo_search.proofs.PairMoves.{length-pairs}
use Rattle.plan_command.specs.declared.flown.FlownWhy.{FlownWhy}
use Rattle.plan_command.specs.declared.flown.FlownWhy.TheVariants.{UnknownName, NotLegal, TooManyPositions, NameTaken}
use Rattle.plan_command.specs.declared.pairing.DuoWhy.{DuoWhy}
use Rattle.plan_command.specs.declared.pairing.DuoWhy.TheVariants as duos
use Rattle.plan_command.specs.Flown.{AreNamed, IsFlown, HasStranger, IsAstray, IsUnforced}
use Rattle.plan_command.specs.Duos.{Names, IsUnpaired, IsBadDuo}
use Rattle.plan_command.specs.MadeLaws.{OnePrefixIsNamed, FlownIsntRefused, ForcedIsntRefused, OneWhyIsntForced, ProductIsntRefused, OneWhyIsntPaired}

-- what the names say is the prefix
says_prefix : (p : Problem) → IsProblem p → (names : List (List ℕ)) (flown : List ℕ) → AreNamed p names flown → all_of (position_named p) names ≡ Some flown
says_prefix p sound names flown is =
    ap (all_of (position_named p)) (sym is.named) ∙ all_of-map (position_named p) (position_name p) (λ a. a < p.positions) (position_named-name p sound) flown is.positions

pub one_prefix_is_named : OnePrefixIsNamed
one_prefix_is_named p names flown other sound is also =
    let both : Some flown ≡ Some other = sym (says_prefix p sound names flown is) ∙ says_prefix p sound names other also in
    cc

-- the name of a position is a position's
is_known : (p : Problem) → IsProblem p → (a : ℕ) → a < p.positions → Contains p.position_names (position_name p a)
is_known p sound a within = Contains-get_or p.position_names a [] (omega (arith, within, sound.position_names.count))

-- positions are no strangers
no_stranger : (p : Problem) (names : List (List ℕ)) (flown : List ℕ) → IsProblem p → AreNamed p names flown → ¬ HasStranger p names
no_stranger p names flown sound is (name, there, strange) =
    let (a, inside, named) = Contains-map_cases (position_name p) flown name (subst (λ ns. Contains ns name) (sym is.named) there) in
    strange (subst (λ n. Contains p.position_names n) named (is_known p sound a (All-contains (λ b. b < p.positions) flown a is.positions inside)))

not_astray : (p : Problem) (names : List (List ℕ)) (flown : List ℕ) → IsProblem p → IsFlown p names flown → ¬ IsAstray p names
not_astray p names flown sound (is, legal) (other, also, astray) = astray (subst (IsLegal p) (one_prefix_is_named p names flown other sound is also) legal)

pub flown_isnt_refused : FlownIsntRefused
flown_isnt_refused p names flown UnknownName sound is unflown = no_stranger p names flown sound is.0 unflown
flown_isnt_refused p names flown NotLegal sound is unflown = not_astray p names flown sound is unflown
flown_isnt_refused p names flown TooManyPositions sound is unflown = unflown
flown_isnt_refused p names flown NameTaken sound is unflown = unflown

name_at : (k i : ℕ) → i ≤ k → name_in (forced_names k) i ≡ forced_name i
unfolding forced_names
name_at k i le = get_or-map-range_with_len forced_name 0 (k + 1) i i [] (omega (arith, le)) (omega arith)

-- a scenario that forces a prefix has no name twice
free_names : (p q : Problem) (flown : List ℕ) → IsProblem q → IsForced p flown q → ¬ IsNameTaken p flown
free_names p q flown made forced (i, within, taken) =
    let xs = p.position_names in
    let ys = forced_names (length flown) in
    let place = length xs + i in
    let here : name_in (xs ++ ys) place ≡ forced_name i = get_or-append-add xs ys i [] ∙ name_at (length flown) i within in
    let front : take place (xs ++ ys) ≡ xs ++ take i ys = take-append-add xs ys i in
    let before : Contains (take place (xs ++ ys)) (forced_name i) = subst (λ ns. Contains ns (forced_name i)) (sym front) (Contains-append_left xs (take i ys) (forced_name i) taken) in
    let again : Contains (take place (xs ++ ys)) (name_in (xs ++ ys) place) = subst (λ n. Contains (take place (xs ++ ys)) n) (sym here) before in
    let inside : place < length (xs ++ ys) = omega (arith, within, length-append xs ys, count_names (length flown)) in
    made.position_names.differ place (subst (λ ns. IsRepeated ns place) (sym forced.position_names) (inside, again))

not_unforced : (p q : Problem) (flown : List ℕ) (why : FlownWhy) → IsProblem q → IsForced p flown q → ¬ IsUnforced p flown why
not_unforced p q flown UnknownName made forced none = none
not_unforced p q flown NotLegal made forced none = none
not_unforced p q flown TooManyPositions made forced many = omega (arith, many, forced.positions, made.positions.1)
not_unforced p q flown NameTaken made forced (few, taken) = free_names p q flown made forced taken

-- a reason names the one prefix
of_prefix : (p : Problem) (names : List (List ℕ)) (flown other : List ℕ) (why : FlownWhy) → IsProblem p → IsFlown p names flown → IsFlown p names other → IsUnforced p other why → IsUnforced p flown why
of_prefix p names flown other why sound is also unforced = subst (λ q. IsUnforced p q why) (one_prefix_is_named p names other flown sound also.0 is.0) unforced

pub forced_isnt_refused : ForcedIsntRefused
forced_isnt_refused p q names flown UnknownName sound made is forced bad = no_stranger p names flown sound is.0 bad
forced_isnt_refused p q names flown NotLegal sound made is forced bad = not_astray p names flown sound is bad
forced_isnt_refused p q names flown TooManyPositions sound made is forced (other, also, many) =
    not_unforced p q flown TooManyPositions made forced (of_prefix p names flown other TooManyPositions sound is also many)
forced_isnt_refused p q names flown NameTaken sound made is forced (other, also, taken) =
    not_unforced p q flown NameTaken made forced (of_prefix p names flown other NameTaken sound is also taken)

-- too many positions aren't few
many_or_few : (p : Problem) (names : List (List ℕ)) (flown other : List ℕ) → IsProblem p → IsFlown p names flown → IsFlown p names other → 200 < forced_count p flown → IsUnforced p other NameTaken → ⊥
many_or_few p names flown other sound is also many taken = let (few, free) = of_prefix p names flown other NameTaken sound is also taken in omega (arith, many, few)

pub one_why_isnt_forced : OneWhyIsntForced
one_why_isnt_forced p names UnknownName UnknownName sound a b = refl
one_why_isnt_forced p names UnknownName NotLegal sound a (flown, is, astray) = absurd (no_stranger p names flown sound is a)
one_why_isnt_forced p names UnknownName TooManyPositions sound a (flown, is, many) = absurd (no_stranger p names flown sound is.0 a)
one_why_isnt_forced p names UnknownName NameTaken sound a (flown, is, taken) = absurd (no_stranger p names flown sound is.0 a)
one_why_isnt_forced p names NotLegal UnknownName sound (flown, is, astray) b = absurd (no_stranger p names flown sound is b)
one_why_isnt_forced p names NotLegal NotLegal sound a b = refl
one_why_isnt_forced p names NotLegal TooManyPositions sound a (flown, is, many) = absurd (not_astray p names flown sound is a)
one_why_isnt_forced p names NotLegal NameTaken sound a (flown, is, taken) = absurd (not_astray p names flown sound is a)
one_why_isnt_forced p names TooManyPositions UnknownName sound (flown, is, many) b = absurd (no_stranger p names flown sound is.0 b)
one_why_isnt_forced p names TooManyPositions NotLegal sound (flown, is, many) b = absurd (not_astray p names flown sound is b)
one_why_isnt_forced p names TooManyPositions TooManyPositions sound a b = refl
one_why_isnt_forced p names TooManyPositions NameTaken sound (flown, is, many) (other, also, taken) = absurd (many_or_few p names flown other sound is also many taken)
one_why_isnt_forced p names NameTaken UnknownName sound (flown, is, taken) b = absurd (no_stranger p names flown sound is.0 b)
one_why_isnt_forced p names NameTaken NotLegal sound (flown, is, taken) b = absurd (not_astray p names flown sound is b)
one_why_isnt_forced p names NameTaken TooManyPositions sound (flown, is, taken) (other, also, many) = absurd (many_or_few p names other flown sound also is many taken)
one_why_isnt_forced p names NameTaken NameTaken sound a b = refl

-- both together have as many moves as one has, times as the other has
count_moves : (p : Problem) (i j : ℕ) → j < p.positions → length (product_moves p (both_at p.positions i j)) ≡ length (moves_from p.moves i) * length (moves_from p.moves j)
unfolding product_moves
count_moves p i j below =
    let n = both_at p.positions i j in
    let moves : ℕ → ℕ = λ a. length (moves_from p.moves a) in
    length-pairs p.positions (moves_from p.moves (second_at p.positions n)) (moves_from p.moves (first_at p.positions n))
    ∙ ap (λ a. moves a * moves (second_at p.positions n)) (first_is p.positions i j below) ∙ ap (λ b. moves i * moves b) (second_is p.positions i j below)

module _ (p q : Problem) (second : ℕ) (made : IsProblem q) (product : IsProduct p second q) where
  few_positions : 14 < p.positions → ⊥
  few_positions many = omega (arith, mul-le-mul many many, product.positions, made.positions.1)

  few_moves : HasManyMoves p → ⊥
  few_moves (i, j, first, other, many) =
      let n = both_at p.positions i j in
      let within = both_within p.positions i j first other in
      let row = ap length (product.moves n within) in
      let few = (made.grid.each n (omega (arith, within, product.positions, made.grid_positions))).few in
      omega (arith, many, few, row, count_moves p i j other)

  coarse : 1000 < p.sweep.denominator → ⊥
  coarse fine = omega (arith, mul-le-mul fine fine, product.denominator, made.sweep.denominator.1)

  narrow : FitsTwo p
  narrow =
      let d = q.drift.denominator in
      let g = p.sweep.denominator * p.sweep.denominator in
      subst (λ a. Fits a p.drift.denominator g p.horizon) product.target.total
      (subst (λ z. Fits q.total z g p.horizon) product.target.drift_denominator
      (subst (λ z. Fits q.total d z p.horizon) product.denominator
      (subst (λ t. Fits q.total d q.sweep.denominator t) product.target.horizon made.fits)))

  not_unpaired : (why : DuoWhy) → ¬ IsUnpaired p why
  not_unpaired duos.UnknownName none = none
  not_unpaired duos.TooManyPositions many = few_positions many
  not_unpaired duos.TooManyMoves (few, many) = few_moves many
  not_unpaired duos.TooFine (few, free, fine) = coarse fine
  not_unpaired duos.TooWide (few, free, coarse, wide) = wide narrow

-- the name of a second start is a position's
second_known : (p : Problem) (name : List ℕ) (second : ℕ) → IsProblem p → Names p name second → Contains p.position_names name
second_known p name second sound is = subst (λ n. Contains p.position_names n) is.1 (is_known p sound second is.0)

pub product_isnt_refused : ProductIsntRefused
product_isnt_refused p q name second duos.UnknownName sound made is product bad = bad (second_known p name second sound is)
product_isnt_refused p q name second duos.TooManyPositions sound made is product (other, also, why) = not_unpaired p q second made product duos.TooManyPositions why
product_isnt_refused p q name second duos.TooManyMoves sound made is product (other, also, why) = not_unpaired p q second made product duos.TooManyMoves why
product_isnt_refused p q name second duos.TooFine sound made is product (other, also, why) = not_unpaired p q second made product duos.TooFine why
product_isnt_refused p q name second duos.TooWide sound made is product (other, also, why) = not_unpaired p q second made product duos.TooWide why

-- one reason at most stands against a product
one_refusal : (p : Problem) (why other : DuoWhy) → IsUnpaired p why → IsUnpaired p other → why ≡ other
one_refusal p duos.UnknownName other a b = absurd a
one_refusal p duos.TooManyPositions duos.UnknownName a b = absurd b
one_refusal p duos.TooManyPositions duos.TooManyPositions a b = refl
one_refusal p duos.TooManyPositions duos.TooManyMoves a (few, many) = absurd (omega (arith, a, few))
one_refusal p duos.TooManyPositions duos.TooFine a (few, free, fine) = absurd (omega (arith, a, few))
one_refusal p duos.TooManyPositions duos.TooWide a (few, free, coarse, wide) = absurd (omega (arith, a, few))
one_refusal p duos.TooManyMoves duos.UnknownName a b = absurd b
one_refusal p duos.TooManyMoves duos.TooManyPositions (few, many) b = absurd (omega (arith, b, few))
one_refusal p duos.TooManyMoves duos.TooManyMoves a b = refl
one_refusal p duos.TooManyMoves duos.TooFine (few, many) (low, free, fine) = absurd (free many)
one_refusal p duos.TooManyMoves duos.TooWide (few, many) (low, free, coarse, wide) = absurd (free many)
one_refusal p duos.TooFine duos.UnknownName a b = absurd b
one_refusal p duos.TooFine duos.TooManyPositions (few, free, fine) b = absurd (omega (arith, b, few))
one_refusal p duos.TooFine duos.TooManyMoves (few, free, fine) (low, many) = absurd (free many)
one_refusal p duos.TooFine duos.TooFine a b = refl
one_refusal p duos.TooFine duos.TooWide (few, free, fine) (low, none, coarse, wide) = absurd (omega (arith, fine, coarse))
one_refusal p duos.TooWide duos.UnknownName a b = absurd b
one_refusal p duos.TooWide duos.TooManyPositions (few, free, coarse, wide) b = absurd (omega (arith, b, few))
one_refusal p duos.TooWide duos.TooManyMoves (few, free, coarse, wide) (low, many) = absurd (free many)
one_refusal p duos.TooWide duos.TooFine (few, free, coarse, wide) (low, none, fine) = absurd (omega (arith, fine, coarse))
one_refusal p duos.TooWide duos.TooWide a b = refl

-- the name is no position's, or it is one's and the product is refused
first_or_later : (p : Problem) (name : List ℕ) (why : DuoWhy) → IsProblem p → IsBadDuo p name why → (why ≡ duos.UnknownName) ⊎ (Contains p.position_names name × IsUnpaired p why)
first_or_later p name duos.UnknownName sound bad = inl refl
first_or_later p name duos.TooManyPositions sound (second, is, why) = inr (second_known p name second sound is, why)
first_or_later p name duos.TooManyMoves sound (second, is, why) = inr (second_known p name second sound is, why)
first_or_later p name duos.TooFine sound (second, is, why) = inr (second_known p name second sound is, why)
first_or_later p name duos.TooWide sound (second, is, why) = inr (second_known p name second sound is, why)

unknown : (p : Problem) (name : List ℕ) (why : DuoWhy) → why ≡ duos.UnknownName → IsBadDuo p name why → ¬ Contains p.position_names name
unknown p name why first bad = subst (λ w. IsBadDuo p name w) first bad

pub one_why_isnt_paired : OneWhyIsntPaired
one_why_isnt_paired p name why other sound a b =
    elim (first_or_later p name why sound a) [
      | inl first ↦ elim (first_or_later p name other sound b) [
        | inl also ↦ first ∙ sym also
        | inr (known, later) ↦ absurd (unknown p name why first a known)
      ]
      | inr (known, later) ↦ elim (first_or_later p name other sound b) [
        | inl first ↦ absurd (unknown p name other first b known)
        | inr (again, also) ↦ one_refusal p why other later also
      ]
    ]
