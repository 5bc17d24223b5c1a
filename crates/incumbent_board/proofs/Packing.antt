-- Six words give the standing back.
use Rattle.std.proofs.Common.{⊎_elim, ◌≡◌, ℕ, ◌+◌, ◌-◌, ◌^◌, ◌<◌, ◌≤◌, List, [], ◌∷◌, ◌++◌, length, take, drop, get_or, slice_index, sym, refl, ap, ◌∙◌, append_assoc, arith, All, map, replicate}
use Rattle.std.specs.Int.{w64, to_be_bytes}
use Rattle.std.specs.List.{flat_map}
use Rattle.std.proofs.lemmas.List.{append-nil, length-replicate, length-append, length-take-le, length-drop, get_or_past, take_all}
use Rattle.std.proofs.lemmas.Bool.{cases_lt}
use Rattle.std.proofs.Math.Seq.{take-add}
use Rattle.std.proofs.lemmas.List.Elements.{All-append, All-replicate, All-take, All-drop}
use Rattle.std.proofs.lemmas.Nat.{be_bytes_8, div-add-mod'}
use Rattle.search_model.specs.declared.standing.Standing.{Standing}
use Rattle.search_model.specs.PathPlaces.{padded}
use Rattle.search_model.proofs.Places.{take-padded}
use Rattle.incumbent_board.specs.Words.{words_of, spelled_by, eight_from}

-- a list of six is its elements
pub six_items : (xs : List ℕ) → length xs ≡ 6 → xs ≡ slice_index xs 0 ∷ slice_index xs 1 ∷ slice_index xs 2 ∷ slice_index xs 3 ∷ slice_index xs 4 ∷ slice_index xs 5 ∷ []
six_items [] l = absurd (omega arith)
six_items (a ∷ []) l = absurd (omega arith)
six_items (a ∷ b ∷ []) l = absurd (omega arith)
six_items (a ∷ b ∷ c ∷ []) l = absurd (omega arith)
six_items (a ∷ b ∷ c ∷ d ∷ []) l = absurd (omega arith)
six_items (a ∷ b ∷ c ∷ d ∷ e ∷ []) l = absurd (omega arith)
six_items (a ∷ b ∷ c ∷ d ∷ e ∷ f ∷ []) l = refl
six_items (a ∷ b ∷ c ∷ d ∷ e ∷ f ∷ g ∷ xs) l = absurd (omega arith)

length-padded : (n : ℕ) (xs : List ℕ) → length xs ≤ n → length (padded n xs) ≡ n
length-padded n xs fits = omega (arith, length-append xs (replicate (n - length xs) 0), length-replicate {A = ℕ} (n - length xs) 0)

-- a byte, or a zero after the end, is below 256
byte_at : (xs : List ℕ) → All (λ c. c < 256) xs → (i : ℕ) → get_or xs i 0 < 256
byte_at xs bytes i = ⊎_elim (λ (h : i < length xs). bytes i 0 h) (λ (h : length xs ≤ i). rw (get_or_past xs i 0 h) (omega arith)) (cases_lt i (length xs))

-- eight bytes that are read as a word and written again
eight_back : (places : List ℕ) (from : ℕ) → from + 8 ≤ length places → All (λ c. c < 256) places → to_be_bytes w64 (eight_from places from) ≡ take 8 (drop from places)
eight_back places from within bytes =
    be_bytes_8
    (take 8 (drop from places))
    (eight_from places from)
    (length-take-le 8 (drop from places) (omega (arith, length-drop from places)))
    (byte_at (take 8 (drop from places)) (All-take (λ c. c < 256) 8 (drop from places) (All-drop (λ c. c < 256) from places bytes)))
    refl

-- thirty-two places, eight by eight
by_eights : (places : List ℕ) → length places ≡ 32 → take 8 (drop 0 places) ++ (take 8 (drop 8 places) ++ (take 8 (drop 16 places) ++ (take 8 (drop 24 places) ++ []))) ≡ places
by_eights places long =
    let a = take 8 places in
    let b = take 8 (drop 8 places) in
    let c = take 8 (drop 16 places) in
    let d = take 8 (drop 24 places) in
    let sixteen : a ++ b ≡ take 16 places = sym (take-add 8 8 places) in
    let more : (a ++ b) ++ c ≡ take 24 places = ap (λ (l : List ℕ). l ++ c) sixteen ∙ sym (take-add 16 8 places) in
    let all : ((a ++ b) ++ c) ++ d ≡ places = ap (λ (l : List ℕ). l ++ d) more ∙ sym (take-add 24 8 places) ∙ take_all 32 places (omega arith) in
    ap (λ (l : List ℕ). a ++ (b ++ (c ++ l))) (append-nil d) ∙ sym (append_assoc a b (c ++ d)) ∙ sym (append_assoc (a ++ b) c d) ∙ all

-- four pieces, each of which is known
four_pieces : (f : ℕ → List ℕ) (g : ℕ → ℕ) (a b c d : List ℕ) → f (g 0) ≡ a → f (g 8) ≡ b → f (g 16) ≡ c → f (g 24) ≡ d → flat_map f (map g (0 ∷ 8 ∷ 16 ∷ 24 ∷ [])) ≡ a ++ (b ++ (c ++ (d ++ [])))
four_pieces f g a b c d p q r t = rw (p, q, r, t) refl

-- the positions that are packed are those that are unpacked
pub cells_back : (xs : List ℕ) → length xs ≤ 32 → All (λ c. c < 256) xs → flat_map (to_be_bytes w64) (map (eight_from (padded 32 xs)) (0 ∷ 8 ∷ 16 ∷ 24 ∷ [])) ≡ padded 32 xs
cells_back xs small bytes =
    let places = padded 32 xs in
    let long : length places ≡ 32 = length-padded 32 xs small in
    let all : All (λ c. c < 256) places = All-append (λ c. c < 256) xs (replicate (32 - length xs) 0) bytes (All-replicate (λ c. c < 256) (32 - length xs) 0 (omega arith)) in
    four_pieces
    (to_be_bytes w64)
    (eight_from places)
    (take 8 (drop 0 places))
    (take 8 (drop 8 places))
    (take 8 (drop 16 places))
    (take 8 (drop 24 places))
    (eight_back places 0 (omega arith) all)
    (eight_back places 8 (omega arith) all)
    (eight_back places 16 (omega arith) all)
    (eight_back places 24 (omega arith) all)
    ∙ by_eights places long

same_standing : (s t : Standing) → s.path ≡ t.path → s.value ≡ t.value → s ≡ t
same_standing s t path value = ap (λ (x : List ℕ). record { path = x; value = s.value }) path ∙ ap (λ (x : ℕ). record { path = t.path; value = x }) value

-- a standing that is packed and unpacked
pub standing_back : (s : Standing) → length s.path ≤ 32 → All (λ c. c < 256) s.path → spelled_by (length s.path) (words_of s) ≡ s
standing_back s small bytes =
    same_standing
    (spelled_by (length s.path) (words_of s))
    s
    (ap (take (length s.path)) (cells_back s.path small bytes) ∙ take-padded 32 s.path)
    (div-add-mod' s.value (2 ^ 64))
