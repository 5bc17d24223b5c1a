-- The limits of what words spell, for those who serve the requests.
use Rattle.std.proofs.Common.{ℕ, ◌≤◌, ◌<◌, ◌^◌, List, inl, inr, arith}
use Rattle.plan_command.specs.declared.request.Request.TheVariants.{Plan, Drill, Gap, Replan, Map, Duo}
use Rattle.plan_command.specs.declared.request.TheConstants.{WORKERS, MOST_WORKERS, MOST_CLOSED}
use Rattle.plan_command.specs.Options.{IsOption, AreOptions}
use Rattle.plan_command.specs.Words.{Spells, IsCrew, AreFlown, names_behind}
use Rattle.bound_tree.specs.declared.tree.TheConstants.{MOST_NODES}

option_within : (name : List ℕ) (most default n : ℕ) (words : List (List ℕ)) → 1 ≤ default → default ≤ most → IsOption name most default n words → (1 ≤ n) × (n ≤ most)
option_within name most default n words low high (inl (out, same)) = (omega (arith, same, low), omega (arith, same, high))
option_within name most default n words low high (inr (is, least, greatest)) = (least, greatest)

-- what options say is within the limits
pub crew_asked : (most workers nodes : ℕ) (words : List (List ℕ)) → AreOptions most workers nodes words → IsCrew workers
crew_asked most w n words (crew, limit, a, b, order) = option_within _ MOST_WORKERS WORKERS w crew (omega arith) (omega arith) a

pub nodes_asked : (most workers nodes : ℕ) (words : List (List ℕ)) → 1 ≤ most → AreOptions most workers nodes words → (1 ≤ nodes) × (nodes ≤ most)
nodes_asked most w n words some (crew, limit, a, b, order) = option_within _ most most n limit some (omega arith) b

-- and what a request says
pub plan_asked : (words : List (List ℕ)) (workers nodes : ℕ) → Spells words (Plan workers nodes) → IsCrew workers × ((1 ≤ nodes) × (nodes ≤ MOST_NODES))
plan_asked words w n (options, are, is) = (crew_asked MOST_NODES w n options are, nodes_asked MOST_NODES w n options (omega arith) are)

pub drill_asked : (words : List (List ℕ)) (number workers : ℕ) → Spells words (Drill number workers) → (number < 2 ^ 64) × IsCrew workers
drill_asked words number w (small, (options, are, is)) = (small, crew_asked 0 w 0 options are)

pub gap_asked : (words : List (List ℕ)) (workers nodes : ℕ) → Spells words (Gap workers nodes) → IsCrew workers × ((1 ≤ nodes) × (nodes ≤ MOST_CLOSED))
gap_asked words w n (options, are, is) = (crew_asked MOST_CLOSED w n options are, nodes_asked MOST_CLOSED w n options (omega arith) are)

pub replan_asked : (words : List (List ℕ)) (workers nodes flown : ℕ) → Spells words (Replan workers nodes flown) → IsCrew workers × ((1 ≤ nodes) × (nodes ≤ MOST_NODES))
replan_asked words w n flown (named, (options, are, is)) = (crew_asked MOST_NODES w n options are, nodes_asked MOST_NODES w n options (omega arith) are)

pub duo_asked : (words : List (List ℕ)) (workers nodes : ℕ) (second : List ℕ) → Spells words (Duo workers nodes second) → IsCrew workers × ((1 ≤ nodes) × (nodes ≤ MOST_NODES))
duo_asked words w n second (named, (options, are, is)) = (crew_asked MOST_NODES w n options are, nodes_asked MOST_NODES w n options (omega arith) are)

-- the names behind `flown`
pub replan_names : (words : List (List ℕ)) (workers nodes flown : ℕ) → Spells words (Replan workers nodes flown) → AreFlown (names_behind flown words)
replan_names words w n flown spelled = spelled.0

pub map_names : (words : List (List ℕ)) (flown : ℕ) → Spells words (Map flown) → AreFlown (names_behind flown words)
map_names words flown spelled = spelled.0
