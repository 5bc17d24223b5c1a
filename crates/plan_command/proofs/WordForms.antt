-- Words read one after the other spell a request, and the words of a request are read as it.
use Rattle.std.proofs.Common.{ℕ, ◌≡◌, ◌≤◌, ◌<◌, ◌^◌, ◌+◌, ◌-◌, Bool, true, false, List, [], ◌∷◌, ◌++◌, Option, Some, None, length, length-append, take, drop, refl, sym, ap, ◌∙◌, subst, arith, codes, suc}
use Rattle.std.specs.Str.{bytes_eq}
use Rattle.std.specs.Fmt.{decimal}
use Rattle.std.specs.List.{list_all, prefix_len}
use Rattle.std.specs.Option.{option_map}
use Rattle.std.specs.Prelude.{All, not, ◌&&◌}
use Rattle.std.proofs.lemmas.Bool.{cond_both, and_parts, lt-ltb, leb-true, le-leb}
use Rattle.std.proofs.lemmas.List.{append-nil, take-append-drop, drop_more, length-drop}
use Rattle.std.proofs.Math.Seq.{drop-append-add, take-append_seam}
use Rattle.std.proofs.lemmas.List.Elements.{All-nil, All-cons, All-head, All-tail}
use Rattle.std.proofs.lemmas.List.Quantifiers.{position-Some}
use Rattle.exact_parts.specs.Decimal.{is_plain}
use Rattle.search_model.specs.Names.{IsName, is_name}
use Rattle.search_model.proofs.NameLemmas.{is_name_tells, is_name_of}
use Rattle.plan_command.specs.declared.request.Request.{Request}
use Rattle.plan_command.specs.declared.request.Request.TheVariants.{Plan, Check, Report, Make, Drill, Convert, Gap, CheckGap, Replan, Map, Duo}
use Rattle.plan_command.specs.Options.{AreOptions, IsRow}
use Rattle.plan_command.specs.Words.{Spells, SpellNone, AreFlown}
use Rattle.plan_command.specs.WordReading.{number_in, options_at, plan_at, gap_at, alone_at, report_at, make_at, drill_at, name_in, are_flown, place_of, replan_from, replan_at, map_at, duo_with, duo_from, duo_at, request_at}
use Rattle.plan_command.specs.declared.request.TheConstants.{MOST_CLOSED}
use Rattle.bound_tree.specs.declared.tree.TheConstants.{MOST_NODES}
use Rattle.plan_command.proofs.OptionForms.{some_tells, none_of_some, is_that, IsNumber, number_tells, number_of_text, mapped_tells, both_tell, both_read, two_words, options_tell, options_read, options_lack, no_nodes, Lacks}

-- the options that are read spell the request
abbrev Told : List ℕ → List (List ℕ) → Option Request → Type 0
Told command words o = (r : Request) → o ≡ Some r → Spells (command ∷ words) r

any_tells : (n : ℕ) (word : List ℕ) → number_in word ≡ Some n → IsNumber 0 18446744073709551615 word n
any_tells n word e = number_tells 0 18446744073709551615 n word (omega arith) e

any_of_text : (n : ℕ) → n < 2 ^ 64 → number_in (decimal n) ≡ Some n
any_of_text n small = number_of_text 0 18446744073709551615 n (omega arith) (omega arith) (omega (arith, small))

-- a request that has options alone behind its command
row_told : (command : List ℕ) (most : ℕ) (make : ℕ × ℕ → Request) (words : List (List ℕ)) → most < 2 ^ 128 →
    ((w n : ℕ) → IsRow (command ∷ []) most w n [] (command ∷ words) → Spells (command ∷ words) (make (w, n))) → Told command words (option_map make (options_at most words))
row_told command most make words wide spelled r e =
    let told = mapped_tells make (options_at most words) r e in
    subst (Spells (command ∷ words)) told.2
    (spelled told.0.0 told.0.1 (words, options_tell most _ _ words wide told.1, ap (λ (ws : List (List ℕ)). command ∷ ws) (sym (append-nil words))))

plan_told : (words : List (List ℕ)) → Told (codes "plan") words (plan_at words)
plan_told words = row_told (codes "plan") MOST_NODES (λ o. Plan o.0 o.1) words (omega arith) (λ w n row. row)

gap_told : (words : List (List ℕ)) → Told (codes "gap") words (gap_at words)
gap_told words = row_told (codes "gap") MOST_CLOSED (λ o. Gap o.0 o.1) words (omega arith) (λ w n row. row)

alone_told : (command : List ℕ) (request : Request) (words : List (List ℕ)) → Spells (command ∷ []) request → Told command words (alone_at request words)
alone_told command request [] spelled r e = subst (Spells (command ∷ [])) (some_tells request r e) spelled
alone_told command request (a ∷ words) spelled r e = absurd (none_of_some r e)

report_told : (words : List (List ℕ)) → Told (codes "report") words (report_at words)
report_told [] r e = subst (Spells (codes "report" ∷ [])) (some_tells (Report false) r e) refl
report_told (a ∷ []) r e = absurd (none_of_some r e)
report_told (a ∷ b ∷ []) r e =
    cond_both (bytes_eq a (codes "--json") && bytes_eq b (codes "yes")) _ _ (Told (codes "report") (a ∷ b ∷ []))
    (λ is r e.
    let names = and_parts _ _ is in
    subst (Spells (codes "report" ∷ a ∷ b ∷ [])) (some_tells (Report true) r e) (ap (λ (ws : List (List ℕ)). codes "report" ∷ ws) (two_words _ _ _ _ (is_that a _ names.0) (is_that b _ names.1))))
    (λ other r e. absurd (none_of_some r e)) r e
report_told (a ∷ b ∷ c ∷ words) r e = absurd (none_of_some r e)

make_told : (words : List (List ℕ)) → Told (codes "make") words (make_at words)
make_told [] r e = absurd (none_of_some r e)
make_told (a ∷ []) r e =
    let told = mapped_tells _ (number_in a) r e in
    let number = any_tells told.0 a told.1 in
    subst (Spells (codes "make" ∷ a ∷ [])) told.2 (omega (arith, number.high), ap (λ (z : List ℕ). codes "make" ∷ z ∷ []) number.text)
make_told (a ∷ b ∷ words) r e = absurd (none_of_some r e)

drill_told : (words : List (List ℕ)) → Told (codes "drill") words (drill_at words)
drill_told [] r e = absurd (none_of_some r e)
drill_told (a ∷ words) r e =
    let told = both_tell (λ n (o : ℕ × ℕ). Drill n o.0) (number_in a) (options_at 0 words) r e in
    let number = any_tells told.0 a told.2 in
    let options = options_tell 0 told.1.0 told.1.1 words (omega arith) told.3 in
    let P : ℕ → Type 0 = λ n. AreOptions 0 told.1.0 n words in
    subst (Spells (codes "drill" ∷ a ∷ words)) told.4 (
      omega (arith, number.high),
      (words, subst P (no_nodes told.1.0 told.1.1 words options) options, ap (λ (z : List ℕ). codes "drill" ∷ z ∷ words) number.text ∙ ap (λ (ws : List (List ℕ)). codes "drill" ∷ decimal told.0 ∷ ws) (sym (append-nil words))),
    )

-- names that pass the test
names_tell : (names : List (List ℕ)) → list_all is_name names ≡ true → All IsName names
names_tell [] e = All-nil IsName
names_tell (x ∷ names) e = let parts = and_parts _ _ e in All-cons IsName x names (is_name_tells x parts.0) (names_tell names parts.1)

names_pass : (names : List (List ℕ)) → All IsName names → list_all is_name names ≡ true
names_pass [] all = refl
names_pass (x ∷ names) all = rw (is_name_of x (All-head IsName x names all), names_pass names (All-tail IsName x names all)) refl

flown_tells : (names : List (List ℕ)) → are_flown names ≡ true → AreFlown names
unfolding are_flown
flown_tells names e =
    let parts = and_parts _ _ e in
    let more = and_parts _ _ parts.1 in
    (leb-true _ _ parts.0, leb-true _ _ more.0, names_tell names more.1)

flown_passes : (names : List (List ℕ)) → AreFlown names → are_flown names ≡ true
unfolding are_flown
flown_passes names (some, few, all) = rw (le-leb _ _ some, le-leb _ _ few) (names_pass names all)

-- the words around the first place of a word
around : (name : List ℕ) (words : List (List ℕ)) (k : ℕ) → place_of name words ≡ Some k → words ≡ take k words ++ (name ∷ drop (k + 1) words)
around name words k e =
    let told = position-Some (λ word. bytes_eq word name) words k [] e in
    sym (take-append-drop k words) ∙ ap (λ (ws : List (List ℕ)). take k words ++ ws) (drop_more words k [] told.0 ∙ ap (λ (w : List ℕ). w ∷ drop (k + 1) words) (is_that _ name told.1))

prefix_behind : {X : Type 0} (p : X → Bool) (xs : List X) (y : X) (ys : List X) → list_all p xs ≡ true → p y ≡ false → prefix_len p (xs ++ (y ∷ ys)) ≡ length xs
prefix_behind p [] y ys all stop = rw stop refl
prefix_behind p (x ∷ xs) y ys all stop =
    let parts = and_parts (p x) (list_all p xs) all in rw (parts.0, prefix_behind p xs y ys parts.1 stop) (let step : 1 + length xs ≡ suc (length xs) = omega arith in step)

place_behind : (it : List ℕ) (front behind : List (List ℕ)) → Lacks it front → bytes_eq it it ≡ true → place_of it (front ++ (it ∷ behind)) ≡ Some (length front)
place_behind it front behind lacks same =
    let at : prefix_len (λ word. not (bytes_eq word it)) (front ++ (it ∷ behind)) ≡ length front = prefix_behind (λ word. not (bytes_eq word it)) front it behind lacks (ap not same) in
    rw (at, length-append front (it ∷ behind), lt-ltb (length front) (length front + suc (length behind)) (omega arith)) refl

-- the number of a place behind a word is that of the words up to there
place_told : (front words : List (List ℕ)) (it : List ℕ) (flown : ℕ) → words ≡ front ++ (it ∷ drop flown words) → 1 ≤ length (drop flown words) → flown ≡ length front + 1
place_told front words it flown is some =
    let whole : length words ≡ length front + suc (length (drop flown words)) = ap length is ∙ length-append front (it ∷ drop flown words) in
    let left : length (drop flown words) ≡ length words - flown = length-drop flown words in
    omega (arith, whole, left, some)

behind_one : (k : ℕ) (word : List ℕ) (words : List (List ℕ)) → drop (k + 2) (word ∷ words) ≡ drop (k + 1) words
behind_one k word words = ap (λ (n : ℕ). drop n (word ∷ words)) (let step : k + 2 ≡ suc (k + 1) = omega arith in step)

replan_from_told : (words : List (List ℕ)) (place : Option ℕ) → place_of (codes "flown") words ≡ place → Told (codes "replan") words (replan_from words place)
replan_from_told words None at r e = absurd (none_of_some r e)
replan_from_told words (Some k) at r e =
    cond_both (are_flown (drop (k + 1) words)) _ _ (Told (codes "replan") words)
    (λ are r e.
    let told = mapped_tells (λ (o : ℕ × ℕ). Replan o.0 o.1 (k + 2)) (options_at MOST_NODES (take k words)) r e in
    let P : List (List ℕ) → Type 0 = λ names. AreFlown names × IsRow (codes "replan" ∷ []) MOST_NODES told.0.0 told.0.1 (codes "flown" ∷ names) (codes "replan" ∷ words) in
    subst (Spells (codes "replan" ∷ words)) told.2
    (subst P (sym (behind_one k (codes "replan") words)) (
      flown_tells _ are,
      (take k words, options_tell MOST_NODES _ _ (take k words) (omega arith) told.1, ap (λ (ws : List (List ℕ)). codes "replan" ∷ ws) (around (codes "flown") words k at)),
    )))
    (λ other r e. absurd (none_of_some r e)) r e

map_told : (words : List (List ℕ)) → Told (codes "map") words (map_at words)
map_told [] r e = absurd (none_of_some r e)
map_told (word ∷ names) r e =
    cond_both (bytes_eq word (codes "flown") && are_flown names) _ _ (Told (codes "map") (word ∷ names))
    (λ is r e.
    let parts = and_parts _ _ is in
    subst (Spells (codes "map" ∷ word ∷ names)) (some_tells (Map 2) r e)
    (flown_tells names parts.1, ap (λ (w : List ℕ). codes "map" ∷ w ∷ names) (is_that word _ parts.0)))
    (λ other r e. absurd (none_of_some r e)) r e

named : (word name : List ℕ) → name_in word ≡ Some name → (word ≡ name) × IsName word
named word name = cond_both (is_name word) _ _ (λ (o : Option (List ℕ)). o ≡ Some name → (word ≡ name) × IsName word) (λ is e. (some_tells word name e, is_name_tells word is)) (λ other e. absurd (none_of_some name e))

duo_with_told : (options words names : List (List ℕ)) → words ≡ options ++ (codes "start" ∷ names) → Told (codes "duo") words (duo_with (options_at MOST_NODES options) names)
duo_with_told options words [] at r e = absurd (none_of_some r e)
duo_with_told options words (word ∷ []) at r e =
    let told = both_tell (λ second (o : ℕ × ℕ). Duo o.0 o.1 second) (name_in word) (options_at MOST_NODES options) r e in
    let name = named word told.0 told.2 in
    subst (Spells (codes "duo" ∷ words)) told.4 (
      subst IsName name.0 name.1,
      (options, options_tell MOST_NODES _ _ options (omega arith) told.3, ap (λ (ws : List (List ℕ)). codes "duo" ∷ ws) (at ∙ ap (λ (w : List ℕ). options ++ (codes "start" ∷ w ∷ [])) name.0)),
    )
duo_with_told options words (word ∷ more ∷ names) at r e = absurd (none_of_some r e)

duo_from_told : (words : List (List ℕ)) (place : Option ℕ) → place_of (codes "start") words ≡ place → Told (codes "duo") words (duo_from words place)
duo_from_told words None at r e = absurd (none_of_some r e)
duo_from_told words (Some k) at r e = duo_with_told (take k words) words (drop (k + 1) words) (around (codes "start") words k at) r e

-- words behind a command that passes its test
behind : (command name : List ℕ) (words : List (List ℕ)) (o : Option Request) → Told name words o → bytes_eq command name ≡ true → Told command words o
behind command name words o told is r e = subst (λ (c : List ℕ). Spells (c ∷ words) r) (sym (is_that command name is)) (told r e)

-- the request that is read is spelled
pub read_is_spelled : (words : List (List ℕ)) (r : Request) → request_at words ≡ Some r → Spells words r
unfolding request_at
read_is_spelled [] r e = absurd (none_of_some r e)
read_is_spelled (command ∷ words) r e =
    let T = Told command words in
    cond_both (bytes_eq command (codes "plan")) _ _ T (behind command _ words _ (plan_told words))
    (λ p. cond_both (bytes_eq command (codes "check")) _ _ T (behind command _ words _ (alone_told (codes "check") Check words refl))
    (λ c. cond_both (bytes_eq command (codes "report")) _ _ T (behind command _ words _ (report_told words))
    (λ t. cond_both (bytes_eq command (codes "make")) _ _ T (behind command _ words _ (make_told words))
    (λ m. cond_both (bytes_eq command (codes "drill")) _ _ T (behind command _ words _ (drill_told words))
    (λ d. cond_both (bytes_eq command (codes "convert")) _ _ T (behind command _ words _ (alone_told (codes "convert") Convert words refl))
    (λ v. cond_both (bytes_eq command (codes "gap")) _ _ T (behind command _ words _ (gap_told words))
    (λ g. cond_both (bytes_eq command (codes "checkgap")) _ _ T (behind command _ words _ (alone_told (codes "checkgap") CheckGap words refl))
    (λ k. cond_both (bytes_eq command (codes "replan")) _ _ T (behind command _ words _ (replan_from_told words _ refl))
    (λ q. cond_both (bytes_eq command (codes "map")) _ _ T (behind command _ words _ (map_told words))
    (λ a. cond_both (bytes_eq command (codes "duo")) _ _ T (behind command _ words _ (duo_from_told words _ refl))
    (λ o r e. absurd (none_of_some r e)))))))))))) r e

flown_not_plain : is_plain (codes "flown") ≡ false
unfolding is_plain
flown_not_plain = refl

start_not_plain : is_plain (codes "start") ≡ false
unfolding is_plain
start_not_plain = refl

-- a request that is spelled is read
row_read : (most : ℕ) (make : ℕ × ℕ → Request) (options : List (List ℕ)) (w n : ℕ) → most < 2 ^ 128 → AreOptions most w n options →
    option_map make (options_at most (options ++ [])) ≡ Some (make (w, n))
row_read most make options w n wide are = rw (append-nil options) (ap (option_map make) (options_read most w n options wide are))

plan_read : (options : List (List ℕ)) (w n : ℕ) → AreOptions MOST_NODES w n options → plan_at (options ++ []) ≡ Some (Plan w n)
plan_read options w n are = row_read MOST_NODES (λ o. Plan o.0 o.1) options w n (omega arith) are

gap_read : (options : List (List ℕ)) (w n : ℕ) → AreOptions MOST_CLOSED w n options → gap_at (options ++ []) ≡ Some (Gap w n)
gap_read options w n are = row_read MOST_CLOSED (λ o. Gap o.0 o.1) options w n (omega arith) are

drill_read : (number w : ℕ) (options : List (List ℕ)) → number < 2 ^ 64 → AreOptions 0 w 0 options → drill_at (decimal number ∷ (options ++ [])) ≡ Some (Drill number w)
drill_read number w options small are = rw (append-nil options) (both_read (λ n (o : ℕ × ℕ). Drill n o.0) _ _ number (w, 0) (any_of_text number small) (options_read 0 w 0 options (omega arith) are))

replan_read : (options names : List (List ℕ)) (w n flown : ℕ) → AreOptions MOST_NODES w n options → AreFlown names → flown ≡ length options + 2 → replan_at (options ++ (codes "flown" ∷ names)) ≡ Some (Replan w n flown)
replan_read options names w n flown are named is =
    let lacks = options_lack (codes "flown") MOST_NODES w n options (omega arith) flown_not_plain refl refl are in
    ap (replan_from (options ++ (codes "flown" ∷ names))) (place_behind (codes "flown") options names lacks refl)
    ∙ rw (drop-append-add options (codes "flown" ∷ names) 1, flown_passes names named, take-append_seam options (codes "flown" ∷ names), is)
    (ap (option_map (λ o. Replan o.0 o.1 (length options + 2))) (options_read MOST_NODES w n options (omega arith) are))

map_read : (names : List (List ℕ)) (flown : ℕ) → AreFlown names → flown ≡ 2 → map_at (codes "flown" ∷ names) ≡ Some (Map flown)
map_read names flown named is = rw (flown_passes names named, is) refl

duo_read : (options : List (List ℕ)) (w n : ℕ) (name : List ℕ) → AreOptions MOST_NODES w n options → IsName name → duo_at (options ++ (codes "start" ∷ name ∷ [])) ≡ Some (Duo w n name)
duo_read options w n name are named =
    let lacks = options_lack (codes "start") MOST_NODES w n options (omega arith) start_not_plain refl refl are in
    ap (duo_from (options ++ (codes "start" ∷ name ∷ []))) (place_behind (codes "start") options (name ∷ []) lacks refl)
    ∙ rw (drop-append-add options (codes "start" ∷ name ∷ []) 1, is_name_of name named, take-append_seam options (codes "start" ∷ name ∷ []))
    (ap (option_map (λ o. Duo o.0 o.1 name)) (options_read MOST_NODES w n options (omega arith) are))

pub spelled_is_read : (words : List (List ℕ)) (r : Request) → Spells words r → request_at words ≡ Some r
unfolding request_at
spelled_is_read words (Plan w n) (options, are, is) = ap request_at is ∙ plan_read options w n are
spelled_is_read words Check is = rw is refl
spelled_is_read words (Report false) is = rw is refl
spelled_is_read words (Report true) is = rw is refl
spelled_is_read words (Make n) (small, is) = rw is (ap (option_map (λ n. Make n)) (any_of_text n small))
spelled_is_read words (Drill n w) (small, (options, are, is)) = ap request_at is ∙ drill_read n w options small are
spelled_is_read words Convert is = rw is refl
spelled_is_read words (Gap w n) (options, are, is) = ap request_at is ∙ gap_read options w n are
spelled_is_read words CheckGap is = rw is refl
spelled_is_read words (Replan w n flown) (named, (options, are, is)) =
    let place = place_told (codes "replan" ∷ options) words (codes "flown") flown is named.0 in
    ap request_at is ∙ replan_read options (drop flown words) w n flown are named (omega (arith, place))
spelled_is_read words (Map flown) (named, is) = ap request_at is ∙ map_read (drop flown words) flown named (place_told (codes "map" ∷ []) words (codes "flown") flown is named.0)
spelled_is_read words (Duo w n name) (named, (options, are, is)) = ap request_at is ∙ duo_read options w n name are named

-- words spell at most one request
pub spelled_once : (words : List (List ℕ)) (r s : Request) → Spells words r → Spells words s → r ≡ s
spelled_once words r s h g = some_tells r s (sym (spelled_is_read words r h) ∙ spelled_is_read words s g)

pub read_none : (words : List (List ℕ)) → None ≡ request_at words → SpellNone words
read_none words none r spelled = none_of_some r (none ∙ spelled_is_read words r spelled)

pub read_some : (words : List (List ℕ)) (r : Request) → Some r ≡ request_at words → Spells words r
read_some words r some = read_is_spelled words r (sym some)

pub ruleset form_steps = (read_none, read_some)
