-- What holds of two lists one after the other.
use Rattle.std.proofs.Common.{List, ◌++◌, arith, subst, length, All, length-append, ◌+◌}
use Rattle.std.proofs.lemmas.List.{get_or_append_left, get_or-append-add}

-- what holds of all of two joined lists holds of all of the first, and of all of the second
pub All-front : {X : Type 0} (P : X → Type 0) (xs ys : List X) → All P (xs ++ ys) → All P xs
All-front P xs ys h = λ k d l. subst P (get_or_append_left xs ys d k l) (h k d (omega (arith, l, length-append xs ys)))

pub All-back : {X : Type 0} (P : X → Type 0) (xs ys : List X) → All P (xs ++ ys) → All P ys
All-back P xs ys h = λ k d l. subst P (get_or-append-add xs ys k d) (h (length xs + k) d (omega (arith, l, length-append xs ys)))
