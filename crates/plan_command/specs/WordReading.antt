-- The words of the command line, read one after the other.
use Rattle.std.specs.Prelude.{ℕ, Bool, true, false, ◌+◌, ◌&&◌, nat_le, if◌then◌else◌, List, [], ◌∷◌, length, take, drop, position, codes, Option, Some, None}
use Rattle.std.specs.List.{list_all}
use Rattle.std.specs.Option.{option_map}
use Rattle.std.specs.Str.{bytes_eq}
use Rattle.exact_parts.specs.declared.number.Number.{Number}
use Rattle.exact_parts.specs.declared.number.Number.TheVariants.{NotPlain, Above, Of}
use Rattle.exact_parts.specs.Decimal.{number_at}
use Rattle.search_model.specs.Names.{is_name}
use Rattle.plan_command.specs.declared.request.Request.{Request}
use Rattle.plan_command.specs.declared.request.Request.TheVariants.{Plan, Check, Report, Make, Drill, Convert, Gap, CheckGap, Replan, Map, Duo}
use Rattle.plan_command.specs.declared.request.TheConstants.{WORKERS, MOST_WORKERS, MOST_CLOSED, MOST_FLOWN}
use Rattle.bound_tree.specs.declared.tree.TheConstants.{MOST_NODES}

-- the number that a word spells, where it is within these limits
abbrev pub at_least : ℕ → Number → Option ℕ
at_least least (Of n) = if nat_le least n then Some n else None
at_least least NotPlain = None
at_least least Above = None

abbrev pub number_within : ℕ → ℕ → List ℕ → Option ℕ
number_within least most word = at_least least (number_at most word)

abbrev pub number_in : List ℕ → Option ℕ
number_in word = number_within 0 18446744073709551615 word

-- what two values make, where there are both
abbrev pub of_both : {X Y Z : Type 0} → (X → Y → Z) → Option X → Option Y → Option Z
of_both make (Some x) y = option_map (make x) y
of_both make None y = None

-- the number of an option, or its default
abbrev pub option_at : List ℕ → ℕ → ℕ → List (List ℕ) → Option ℕ
option_at name most default [] = Some default
option_at name most default (word ∷ value ∷ []) = if bytes_eq word name then number_within 1 most value else None
option_at name most default _ = None

abbrev pub workers_at : List (List ℕ) → Option ℕ
workers_at words = option_at (codes "--workers") MOST_WORKERS WORKERS words

abbrev pub nodes_at : ℕ → List (List ℕ) → Option ℕ
nodes_at most words = option_at (codes "--nodes") most most words

-- whether the first word is this one
abbrev pub begins_with : List ℕ → List (List ℕ) → Bool
begins_with name [] = false
begins_with name (word ∷ words) = bytes_eq word name

-- the numbers of the options, workers first
unfoldable pub options_at : ℕ → List (List ℕ) → Option (ℕ × ℕ)
options_at most words =
    if begins_with (codes "--nodes") words
    then of_both (λ n w. (w, n)) (nodes_at most (take 2 words)) (workers_at (drop 2 words))
    else of_both (λ w n. (w, n)) (workers_at (take 2 words)) (nodes_at most (drop 2 words))

abbrev pub plan_at : List (List ℕ) → Option Request
plan_at words = option_map (λ o. Plan o.0 o.1) (options_at MOST_NODES words)

abbrev pub gap_at : List (List ℕ) → Option Request
gap_at words = option_map (λ o. Gap o.0 o.1) (options_at MOST_CLOSED words)

-- a request that has no words behind its command
abbrev pub alone_at : Request → List (List ℕ) → Option Request
alone_at request [] = Some request
alone_at request (word ∷ words) = None

abbrev pub report_at : List (List ℕ) → Option Request
report_at [] = Some (Report false)
report_at (name ∷ value ∷ []) = if bytes_eq name (codes "--json") && bytes_eq value (codes "yes") then Some (Report true) else None
report_at _ = None

abbrev pub make_at : List (List ℕ) → Option Request
make_at (number ∷ []) = option_map (λ n. Make n) (number_in number)
make_at _ = None

abbrev pub drill_at : List (List ℕ) → Option Request
drill_at [] = None
drill_at (number ∷ options) = of_both (λ n o. Drill n o.0) (number_in number) (options_at 0 options)

-- a word that is a name
abbrev pub name_in : List ℕ → Option (List ℕ)
name_in word = if is_name word then Some word else None

-- whether words are 1 to 32 names
unfoldable pub are_flown : List (List ℕ) → Bool
are_flown names = nat_le 1 (length names) && (nat_le (length names) MOST_FLOWN && list_all is_name names)

-- the first place of a word
abbrev pub place_of : List ℕ → List (List ℕ) → Option ℕ
place_of name words = position (λ word. bytes_eq word name) words

-- options in front of `flown` at this place, and names behind it
abbrev pub replan_from : List (List ℕ) → Option ℕ → Option Request
replan_from words (Some k) =
    if are_flown (drop (k + 1) words) then option_map (λ o. Replan o.0 o.1 (k + 2)) (options_at MOST_NODES (take k words)) else None
replan_from words None = None

abbrev pub replan_at : List (List ℕ) → Option Request
replan_at words = replan_from words (place_of (codes "flown") words)

abbrev pub map_at : List (List ℕ) → Option Request
map_at [] = None
map_at (word ∷ names) = if bytes_eq word (codes "flown") && are_flown names then Some (Map 2) else None

-- options, and the one word behind `start`
abbrev pub duo_with : Option (ℕ × ℕ) → List (List ℕ) → Option Request
duo_with options (name ∷ []) = of_both (λ second o. Duo o.0 o.1 second) (name_in name) options
duo_with options _ = None

abbrev pub duo_from : List (List ℕ) → Option ℕ → Option Request
duo_from words (Some k) = duo_with (options_at MOST_NODES (take k words)) (drop (k + 1) words)
duo_from words None = None

abbrev pub duo_at : List (List ℕ) → Option Request
duo_at words = duo_from words (place_of (codes "start") words)

-- the request that the words spell
unfoldable pub request_at : List (List ℕ) → Option Request
request_at [] = None
request_at (command ∷ words) =
    if bytes_eq command (codes "plan") then plan_at words else
    (if bytes_eq command (codes "check") then alone_at Check words else
    (if bytes_eq command (codes "report") then report_at words else
    (if bytes_eq command (codes "make") then make_at words else
    (if bytes_eq command (codes "drill") then drill_at words else
    (if bytes_eq command (codes "convert") then alone_at Convert words else
    (if bytes_eq command (codes "gap") then gap_at words else
    (if bytes_eq command (codes "checkgap") then alone_at CheckGap words else
    (if bytes_eq command (codes "replan") then replan_at words else
    (if bytes_eq command (codes "map") then map_at words else
    (if bytes_eq command (codes "duo") then duo_at words else None))))))))))
