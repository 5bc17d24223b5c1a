-- What stands before the plan text.
use Rattle.std.proofs.Common.{ℕ, suc, zero, ◌≡◌, ◌<◌, ◌+◌, true, false, List, [], ◌∷◌, ◌++◌, length, get_or, take, drop, refl, sym, ap, ◌∙◌, arith}
use Rattle.std.specs.List.{list_all}
use Rattle.std.proofs.lemmas.Bool.{and_parts}
use Rattle.plan_command.specs.Spaces.{is_space, starts_with_space}

-- one more blank
pub spaces_more : (text : List ℕ) (i : ℕ) → i < length text → list_all is_space (take i text) ≡ true → is_space (get_or text i 0) ≡ true → list_all is_space (take (i + 1) text) ≡ true
spaces_more [] i lt all here = absurd (omega (arith, lt))
spaces_more (c ∷ cs) zero lt all here = rw here refl
spaces_more (c ∷ cs) (suc i) lt all here =
    let parts = and_parts (is_space c) (list_all is_space (take i cs)) all in
    let n : suc i + 1 ≡ suc (i + 1) = omega arith in
    rw n (rw (parts.0, spaces_more cs i (omega (arith, lt)) parts.1 here) refl)

-- the first byte of a rest
starts_at : (text : List ℕ) (i : ℕ) → i < length text → starts_with_space (drop i text) ≡ is_space (get_or text i 0)
starts_at [] i lt = absurd (omega (arith, lt))
starts_at (c ∷ cs) zero lt = refl
starts_at (c ∷ cs) (suc i) lt = starts_at cs i (omega (arith, lt))

dropped_all : (text : List ℕ) → drop (length text) text ≡ []
dropped_all [] = refl
dropped_all (c ∷ cs) = dropped_all cs

-- of two ways to skip blanks to what begins with none, both skip the same
pub skipped_alike : (xs ys rest more : List ℕ) → list_all is_space xs ≡ true → list_all is_space ys ≡ true → starts_with_space rest ≡ false → starts_with_space more ≡ false → xs ++ rest ≡ ys ++ more → rest ≡ more
skipped_alike [] [] rest more hx hy sr sm e = e
skipped_alike [] (y ∷ ys) rest more hx hy sr sm e =
    let parts = and_parts (is_space y) (list_all is_space ys) hy in
    let bad : true ≡ false = sym parts.0 ∙ ap starts_with_space (sym e) ∙ sr in cc
skipped_alike (x ∷ xs) [] rest more hx hy sr sm e =
    let parts = and_parts (is_space x) (list_all is_space xs) hx in
    let bad : true ≡ false = sym parts.0 ∙ ap starts_with_space e ∙ sm in cc
skipped_alike (x ∷ xs) (y ∷ ys) rest more hx hy sr sm e =
    skipped_alike xs ys rest more (and_parts (is_space x) (list_all is_space xs) hx).1 (and_parts (is_space y) (list_all is_space ys) hy).1 sr sm (cc)
