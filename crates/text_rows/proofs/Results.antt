-- What a reader answers, which is right or has a fault.
use Rattle.std.proofs.Common.{◌≡◌, Bool, true, false, cond, Result, Ok, Err, refl}

pub err_ok : {X E : Type 0} (k : E) (t : X) → ◌≡◌ {A = Result X E} (Err k) (Ok t) → ⊥
err_ok k t e = let bad : ⊥ = cc in bad

pub same_ok : {X E : Type 0} (s t : X) → ◌≡◌ {A = Result X E} (Ok s) (Ok t) → s ≡ t
same_ok s t e = cc

-- a test that had to pass
pub let_through : {X E : Type 0} (b : Bool) (k : E) (r : Result X E) (t : X) → cond b r (Err k) ≡ Ok t → (b ≡ true) × (r ≡ Ok t)
let_through true k r t e = (refl, e)
let_through false k r t e = absurd (err_ok k t e)
