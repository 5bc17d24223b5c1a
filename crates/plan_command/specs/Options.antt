-- The options of a command.
use Rattle.std.specs.Prelude.{◌≡◌, ◌≤◌, ◌⊎◌, ℕ, List, [], ◌∷◌, ◌++◌, codes}
use Rattle.std.specs.Fmt.{decimal}
use Rattle.plan_command.specs.declared.request.TheConstants.{WORKERS, MOST_WORKERS}

-- an option that may be left out: no words, and the number is the default; or its name, and a decimal from 1 to the most
abbrev pub IsOption : List ℕ → ℕ → ℕ → ℕ → List (List ℕ) → Type 0
IsOption name most default n words =
    ((words ≡ []) × (n ≡ default)) ⊎ ((words ≡ name ∷ decimal n ∷ []) × (1 ≤ n) × (n ≤ most))

-- `--workers` and `--nodes`, in any order, each at most once; no `--nodes` means the most, and there is none where that is 0
abbrev pub AreOptions : ℕ → ℕ → ℕ → List (List ℕ) → Type 0
AreOptions most workers nodes words =
    (crew : List (List ℕ)) × (limit : List (List ℕ))
    × IsOption (codes "--workers") MOST_WORKERS WORKERS workers crew × IsOption (codes "--nodes") most most nodes limit
    × ((words ≡ crew ++ limit) ⊎ (words ≡ limit ++ crew))

-- the words of a command with options: those in front of them, the options, and those behind them
abbrev pub IsRow : List (List ℕ) → ℕ → ℕ → ℕ → List (List ℕ) → List (List ℕ) → Type 0
IsRow front most workers nodes behind words =
    (options : List (List ℕ)) × AreOptions most workers nodes options × (words ≡ front ++ (options ++ behind))
