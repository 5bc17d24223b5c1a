-- A scenario of which a request makes a text isn't refused for its own text, and one that is refused is refused in one way.
use Rattle.std.proofs.Common.{ℕ, ◌≡◌, ◌⊎◌, List, inl, inr, refl, sym, ap, ◌∙◌, subst}
use Rattle.search_model.specs.Problem.{Problem, IsProblem}
use Rattle.tree_checker.specs.declared.verdict.RejectAt.{RejectAt}
use Rattle.plan_command.specs.declared.flown.FlownWhy.{FlownWhy}
use Rattle.plan_command.specs.declared.flown.FlownWhy.TheVariants as flown
use Rattle.plan_command.specs.declared.pairing.DuoWhy.{DuoWhy}
use Rattle.plan_command.specs.declared.request.Request.{Request}
use Rattle.plan_command.specs.declared.request.Request.TheVariants.{Plan, Check, Report, Make, Drill, Convert, Gap, CheckGap, Replan, Map, Duo}
use Rattle.plan_command.specs.declared.status.Refusal.{Refusal}
use Rattle.plan_command.specs.declared.status.Refusal.TheVariants.{Rejected, BadScenario, BadPlan, BadFlown, BadDuo, TooManyNodes}
use Rattle.plan_command.specs.Words.{names_behind}
use Rattle.plan_command.specs.Plans.{IsTooMany, IsUnplanned}
use Rattle.plan_command.specs.Flown.{IsUnflown, IsBadFlown}
use Rattle.plan_command.specs.Replans.{ForcesNames, IsUnreplanned, IsUnmapped}
use Rattle.plan_command.specs.Duos.{PairsNamed, IsBadDuo, IsUnpairedFrom}
use Rattle.plan_command.specs.Commands.{MakesText, IsUnmade}
use Rattle.plan_command.specs.Complete.{IsByText}
use Rattle.plan_command.proofs.OneReason.{flown_isnt_refused, forced_isnt_refused, one_why_isnt_forced, product_isnt_refused, one_why_isnt_paired}

-- Each refusal is for a reason of its own kind, or for too many records.
abbrev pub ForReason : {W : Type 0} → (W → Refusal) → (W → Type 0) → Refusal → Type 0
ForReason {W} Named Holds refusal = (why : W) × (refusal ≡ Named why) × Holds why

abbrev pub ForCount : (ℕ → Type 0) → Refusal → Type 0
ForCount Holds refusal = (limit : ℕ) × (refusal ≡ TooManyNodes limit) × Holds limit

pub why_unplanned : (nodes : ℕ) (p : Problem) (refusal : Refusal) → IsUnplanned nodes p refusal → ForCount (λ limit. (limit ≡ nodes) × IsTooMany p nodes) refusal
why_unplanned nodes p (TooManyNodes limit) unmade = (limit, refl, unmade)
why_unplanned nodes p (Rejected at) unmade = absurd unmade
why_unplanned nodes p (BadScenario fault) unmade = absurd unmade
why_unplanned nodes p (BadPlan fault) unmade = absurd unmade
why_unplanned nodes p (BadFlown why) unmade = absurd unmade
why_unplanned nodes p (BadDuo why) unmade = absurd unmade

pub why_unreplanned : (nodes : ℕ) (p : Problem) (names : List (List ℕ)) (refusal : Refusal) → IsUnreplanned nodes p names refusal →
    ForReason BadFlown (IsBadFlown p names) refusal ⊎ ForCount (λ limit. (q : Problem) × ForcesNames p names q × ((limit ≡ nodes) × IsTooMany q nodes)) refusal
why_unreplanned nodes p names (BadFlown why) unmade = inl (why, refl, unmade)
why_unreplanned nodes p names (TooManyNodes limit) unmade = inr (limit, refl, unmade)
why_unreplanned nodes p names (Rejected at) unmade = absurd unmade
why_unreplanned nodes p names (BadScenario fault) unmade = absurd unmade
why_unreplanned nodes p names (BadPlan fault) unmade = absurd unmade
why_unreplanned nodes p names (BadDuo why) unmade = absurd unmade

pub why_unmapped : (p : Problem) (names : List (List ℕ)) (refusal : Refusal) → IsUnmapped p names refusal → ForReason BadFlown (IsUnflown p names) refusal
why_unmapped p names (BadFlown why) unmade = (why, refl, unmade)
why_unmapped p names (TooManyNodes limit) unmade = absurd unmade
why_unmapped p names (Rejected at) unmade = absurd unmade
why_unmapped p names (BadScenario fault) unmade = absurd unmade
why_unmapped p names (BadPlan fault) unmade = absurd unmade
why_unmapped p names (BadDuo why) unmade = absurd unmade

pub why_unpaired : (nodes : ℕ) (p : Problem) (name : List ℕ) (refusal : Refusal) → IsUnpairedFrom nodes p name refusal →
    ForReason BadDuo (IsBadDuo p name) refusal ⊎ ForCount (λ limit. (q : Problem) × PairsNamed p name q × ((limit ≡ nodes) × IsTooMany q nodes)) refusal
why_unpaired nodes p name (BadDuo why) unmade = inl (why, refl, unmade)
why_unpaired nodes p name (TooManyNodes limit) unmade = inr (limit, refl, unmade)
why_unpaired nodes p name (Rejected at) unmade = absurd unmade
why_unpaired nodes p name (BadScenario fault) unmade = absurd unmade
why_unpaired nodes p name (BadPlan fault) unmade = absurd unmade
why_unpaired nodes p name (BadFlown why) unmade = absurd unmade

-- too many records aren't told by the text alone
counts_beyond : (limit : ℕ) (refusal : Refusal) → refusal ≡ TooManyNodes limit → IsByText refusal → ⊥
counts_beyond limit refusal same by = subst IsByText same by

-- a forced prefix isn't refused, and no second start of which there is a product
pub forces_or_not : (p q : Problem) (names : List (List ℕ)) (why : FlownWhy) → IsProblem p → ForcesNames p names q → IsBadFlown p names why → ⊥
forces_or_not p q names why sound (made, (flown, is, forced)) unmade = forced_isnt_refused p q names flown why sound made is forced unmade

pub pairs_or_not : (p q : Problem) (name : List ℕ) (why : DuoWhy) → IsProblem p → PairsNamed p name q → IsBadDuo p name why → ⊥
pairs_or_not p q name why sound (made, (second, named, product)) unmade = product_isnt_refused p q name second why sound made named product unmade

-- what stands against a map stands against a plan behind the prefix, too
bad_flown_of : (p : Problem) (names : List (List ℕ)) (why : FlownWhy) → IsUnflown p names why → IsBadFlown p names why
bad_flown_of p names flown.UnknownName unmade = unmade
bad_flown_of p names flown.NotLegal unmade = unmade
bad_flown_of p names flown.TooManyPositions unmade = absurd unmade
bad_flown_of p names flown.NameTaken unmade = absurd unmade

-- where a text is made, nothing is refused for the input's text
pub made_or_unmade : (words : List (List ℕ)) (request : Request) (p : Problem) (text : List ℕ) (refusal : Refusal) → IsProblem p → IsByText refusal → MakesText words request p text → IsUnmade words request p refusal → ⊥
made_or_unmade words (Plan workers nodes) p text refusal sound by makes unmade =
    let why = why_unplanned nodes p refusal unmade in counts_beyond why.0 refusal why.1 by
made_or_unmade words (Gap workers nodes) p text refusal sound by makes unmade = unmade
made_or_unmade words (Replan workers nodes at) p text refusal sound by (q, forces, planned) unmade =
    elim (why_unreplanned nodes p (names_behind at words) refusal unmade) [
      | inl (why, same, bad) ↦ forces_or_not p q (names_behind at words) why sound forces bad
      | inr (limit, same, many) ↦ counts_beyond limit refusal same by
    ]
made_or_unmade words (Map at) p text refusal sound by (prefix, is, told) unmade =
    let why = why_unmapped p (names_behind at words) refusal unmade in flown_isnt_refused p (names_behind at words) prefix why.0 sound is why.2
made_or_unmade words (Duo workers nodes second) p text refusal sound by (q, pairs, planned) unmade =
    elim (why_unpaired nodes p second refusal unmade) [
      | inl (why, same, bad) ↦ pairs_or_not p q second why sound pairs bad
      | inr (limit, same, many) ↦ counts_beyond limit refusal same by
    ]
made_or_unmade words Check p text refusal sound by makes unmade = makes
made_or_unmade words CheckGap p text refusal sound by makes unmade = makes
made_or_unmade words (Report json) p text refusal sound by makes unmade = makes
made_or_unmade words (Make number) p text refusal sound by makes unmade = makes
made_or_unmade words (Drill number workers) p text refusal sound by makes unmade = makes
made_or_unmade words Convert p text refusal sound by makes unmade = makes

-- and what is refused for it is refused in no other way
pub unmade_once : (words : List (List ℕ)) (request : Request) (p : Problem) (a b : Refusal) → IsProblem p → IsByText b → IsUnmade words request p a → IsUnmade words request p b → a ≡ b
unmade_once words (Plan workers nodes) p a b sound by h g =
    let why = why_unplanned nodes p b g in absurd (counts_beyond why.0 b why.1 by)
unmade_once words (Gap workers nodes) p a b sound by h g = absurd h
unmade_once words (Replan workers nodes at) p a b sound by h g =
    let names = names_behind at words in
    elim (why_unreplanned nodes p names b g) [
      | inr (limit, d, many) ↦ absurd (counts_beyond limit b d by)
      | inl (w, d, worse) ↦ elim (why_unreplanned nodes p names a h) [
        | inl (v, e, bad) ↦ e ∙ ap (λ (x : FlownWhy). BadFlown x) (one_why_isnt_forced p names v w sound bad worse) ∙ sym d
        | inr (limit, e, (q, forces, many)) ↦ absurd (forces_or_not p q names w sound forces worse)
      ]
    ]
unmade_once words (Map at) p a b sound by h g =
    let names = names_behind at words in
    let (v, e, bad) = why_unmapped p names a h in
    let (w, d, worse) = why_unmapped p names b g in
    e ∙ ap (λ (x : FlownWhy). BadFlown x) (one_why_isnt_forced p names v w sound (bad_flown_of p names v bad) (bad_flown_of p names w worse)) ∙ sym d
unmade_once words (Duo workers nodes second) p a b sound by h g =
    elim (why_unpaired nodes p second b g) [
      | inr (limit, d, many) ↦ absurd (counts_beyond limit b d by)
      | inl (w, d, worse) ↦ elim (why_unpaired nodes p second a h) [
        | inl (v, e, bad) ↦ e ∙ ap (λ (x : DuoWhy). BadDuo x) (one_why_isnt_paired p second v w sound bad worse) ∙ sym d
        | inr (limit, e, (q, pairs, many)) ↦ absurd (pairs_or_not p q second w sound pairs worse)
      ]
    ]
unmade_once words Check p a b sound by h g = absurd h
unmade_once words CheckGap p a b sound by h g = absurd h
unmade_once words (Report json) p a b sound by h g = absurd h
unmade_once words (Make number) p a b sound by h g = absurd h
unmade_once words (Drill number workers) p a b sound by h g = absurd h
unmade_once words Convert p a b sound by h g = absurd h

-- a scenario that was read is no plan that isn't accepted
pub never_rejected : (words : List (List ℕ)) (request : Request) (p : Problem) (at : RejectAt) → IsUnmade words request p (Rejected at) → ⊥
never_rejected words (Plan workers nodes) p reason unmade = unmade
never_rejected words (Gap workers nodes) p reason unmade = unmade
never_rejected words (Replan workers nodes at) p reason unmade = unmade
never_rejected words (Map at) p reason unmade = unmade
never_rejected words (Duo workers nodes second) p reason unmade = unmade
never_rejected words Check p reason unmade = unmade
never_rejected words CheckGap p reason unmade = unmade
never_rejected words (Report json) p reason unmade = unmade
never_rejected words (Make number) p reason unmade = unmade
never_rejected words (Drill number workers) p reason unmade = unmade
never_rejected words Convert p reason unmade = unmade
