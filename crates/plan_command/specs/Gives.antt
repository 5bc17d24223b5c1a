-- What a function returns that makes a text.
use Rattle.std.specs.Prelude.{ℕ, List, Result, Ok, Err}
use Rattle.std.specs.Global.{Vec}
use Rattle.plan_command.specs.declared.status.Refusal.{Refusal}
use Rattle.plan_command.specs.declared.status.Stop.{Stop}
use Rattle.plan_command.specs.declared.status.Stop.TheVariants.{Refused, NoMemory}

-- such a text, or such a refusal, unless memory ran out
abbrev pub Gives : (List ℕ → Type 0) → (Refusal → Type 0) → Result (Vec ℕ) Stop → Type 0
Gives Makes Refuses (Ok text) = Makes text.items
Gives Makes Refuses (Err (Refused refusal)) = Refuses refusal
Gives Makes Refuses (Err NoMemory) = Unit {0}
Gives Makes Refuses (Err _) = ⊥
