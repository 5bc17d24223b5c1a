-- How many legal prefixes there are.
use Rattle.std.proofs.Common.{ℕ, zero, suc, ◌+◌, ◌*◌, ◌^◌, ◌≤◌, ◌≡◌, ◌≢◌, List, [], ◌∷◌, length, get_or, add-one, map, refl, sym, ap, ◌∙◌, arith, flat_map}
use Rattle.std.specs.Prelude.{All, AllPairs, Contains}
use Rattle.std.proofs.Math.Nat.{mul-le-mul_left, pow-succ', pow-zero, mul-add}
use Rattle.std.proofs.lemmas.Bool.{true≢false}
use Rattle.std.proofs.lemmas.List.{length-map}
use Rattle.std.proofs.lemmas.List.Elements.{All-weaker}
use Rattle.search_grid.specs.Moves.{moves_from}
use Rattle.search_model.specs.Legal.{Follows, IsLegal}
use Rattle.search_model.specs.Order.{smaller}
use Rattle.list_laws.proofs.Members.{Contains-head, Contains-tail, Contains-map, Contains-flat_map}
use Rattle.search_model.proofs.Orders.{smaller_irreflexive}
use Rattle.list_laws.proofs.Sums.{sum_by-range-suc}
use Rattle.scenario_maker.specs.Made.{made_problem}
use Rattle.scenario_maker.specs.Laws.{powers_up_to, FewPrefixes, FewMadePrefixes}
use Rattle.scenario_maker.proofs.Cells.{few_moves, row_few}
use Rattle.scenario_maker.proofs.Listed.{length-le_listed, length-flat_map-le}

-- all lists of up to n positions that follow the moves from a
unfoldable prefixes : List (List ℕ) → ℕ → ℕ → List (List ℕ)
prefixes rows zero a = [] ∷ []
prefixes rows (suc n) a = [] ∷ flat_map (λ b. map (λ q. b ∷ q) (prefixes rows n b)) (moves_from rows a)

prefix_listed : (rows : List (List ℕ)) (n a : ℕ) (q : List ℕ) → Follows rows a q → length q ≤ n → Contains (prefixes rows n a) q
unfolding prefixes
prefix_listed rows zero a [] follows short = Contains-head [] []
prefix_listed rows zero a (b ∷ q) follows short = absurd (omega arith)
prefix_listed rows (suc n) a [] follows short = Contains-head [] (flat_map (λ b. map (λ q. b ∷ q) (prefixes rows n b)) (moves_from rows a))
prefix_listed rows (suc n) a (b ∷ q) follows short =
    Contains-tail [] (b ∷ q) (flat_map (λ b. map (λ q. b ∷ q) (prefixes rows n b)) (moves_from rows a))
    (Contains-flat_map (λ b. map (λ q. b ∷ q) (prefixes rows n b)) (moves_from rows a) b (b ∷ q) follows.0
    (Contains-map (λ q. b ∷ q) (prefixes rows n b) q (prefix_listed rows n b q follows.1 (omega arith))))

-- one power more
powers_more : (m n : ℕ) → powers_up_to m (suc n) ≡ powers_up_to m n + m ^ suc n
powers_more m n = rw (add-one (suc n), add-one n) (sum_by-range-suc (λ k. m ^ k) (suc n))

-- they are a first one, and then m times as many as up to the power before
powers_times : (m n : ℕ) → powers_up_to m (suc n) ≡ 1 + m * powers_up_to m n
powers_times m zero =
    let first : m ^ 1 ≡ m = pow-succ' m 0 ∙ rw (pow-zero m) (omega arith) in
    rw (pow-zero m, first) (omega arith)
powers_times m (suc n) =
    let before = powers_times m n in
    let more = powers_more m n in
    let next = powers_more m (suc n) in
    let power : m ^ suc (suc n) ≡ m * m ^ suc n = pow-succ' m (suc n) in
    let spread : m * powers_up_to m (suc n) ≡ m * powers_up_to m n + m * m ^ suc n = ap (λ k. m * k) more ∙ mul-add m (powers_up_to m n) (m ^ suc n) in
    omega (arith, before, next, power, spread)

prefixes_few : (rows : List (List ℕ)) (m : ℕ) → All (λ row. length row ≤ m) rows → (n a : ℕ) → length (prefixes rows n a) ≤ powers_up_to m n
unfolding prefixes
prefixes_few rows m few zero a = omega (arith, pow-zero m)
prefixes_few rows m few (suc n) a =
    let k = powers_up_to m n in
    let each : (b : ℕ) → length (map (λ q. b ∷ q) (prefixes rows n b)) ≤ k = λ b. rw length-map (prefixes_few rows m few n b) in
    let joined = length-flat_map-le (λ b. map (λ q. b ∷ q) (prefixes rows n b)) k each (moves_from rows a) in
    let wide : k * length (moves_from rows a) ≤ k * m = mul-le-mul_left k (row_few rows m a few) in
    omega (arith, joined, wide, powers_times m n)

pub few_prefixes : FewPrefixes
few_prefixes p m few qs are =
    let all = prefixes p.moves p.horizon p.start in
    let apart : AllPairs (λ q r. q ≢ r) qs = λ i j d before inside. λ same.
    let less = are.ascending i j d before inside in
    true≢false (sym less ∙ ap (λ r. smaller (get_or qs i d) r) (sym same) ∙ smaller_irreflexive (get_or qs i d)) in
    let listed : All (Contains all) qs = All-weaker (IsLegal p) (Contains all) (λ q legal. prefix_listed p.moves p.horizon p.start q legal.follows legal.short) qs are.legal in
    omega (arith, length-le_listed qs all apart listed, prefixes_few p.moves m few p.horizon p.start)

pub few_made_prefixes : FewMadePrefixes
unfolding made_problem
few_made_prefixes number qs are =
    let most : powers_up_to 5 8 ≡ 488281 = refl in
    omega (arith, few_prefixes (made_problem number) 5 few_moves qs are, most)
