use Rattle.std.proofs.Common.{◌≡◌, ◌<◌, ℕ, List, length, take, ap, refl, ◌∙◌, arith}
use Rattle.std.proofs.lemmas.List.{length-take-le}
use Rattle.search_model.specs.Problem.{Problem}
use Rattle.search_model.specs.Legal.{IsPath}
use Rattle.search_model.specs.Bounds.{IsRate, tangent_of}
use Rattle.search_model.proofs.Rates.{one_rate}
use Rattle.tangent_bound.proofs.OneRate.{found_is_rate, rate_there}
use Rattle.tangent_bound.proofs.WholePath.{front_legal}
use Rattle.tangent_bound.proofs.tables.TangentTables.bound_by.Goals as goal

pub unwrap-rate-requires : goal.unwrap-rate-requires
unwrap-rate-requires c =
    let same : c.self.inside.rate ≡ c.args.self.now.rate = ap (λ w. w.rate) c.self.view_is in
    rw same (rate_there c.args.sc.now c.args.self.now.rate c.requires.made.rate c.requires.rate)

pub bound_from-requires-clause-rate : goal.bound_from-requires-clause-rate
bound_from-requires-clause-rate c = found_is_rate c.args.sc.now c.args.self.now.rate c.self.inside.rate c.unwrap-rate.result c.requires.made.rate (ap (λ w. w.rate) c.self.view_is) c.unwrap-rate.ensures

-- so many positions of the reference
long : (p : Problem) (x : List ℕ) (j : ℕ) → IsPath p x → j < p.horizon → length (take j x) ≡ j
long p x j path short = length-take-le j x (omega (arith, short, path.whole))

pub bound_from-requires-clause-value : goal.bound_from-requires-clause-value
bound_from-requires-clause-value c = rw (c.len.ensures.value, c.requires.begins) (c.value.ensures c.args.sc.now c.args.prefix.now c.requires.onward)

pub bound_from-requires-clause-onward : goal.bound_from-requires-clause-onward
bound_from-requires-clause-onward c = rw (c.len.ensures.value, c.requires.begins) c.requires.onward

pub bound_from-requires-clause-order : goal.bound_from-requires-clause-order
bound_from-requires-clause-order c = rw (c.first.ensures, c.len.ensures.value, long c.args.sc.now c.args.reference.now c.args.j c.requires.path c.requires.open) c.requires.order

pub bound_from-requires-clause-prefix : goal.bound_from-requires-clause-prefix
bound_from-requires-clause-prefix c = rw c.first.ensures (front_legal c.args.sc.now c.args.reference.now c.requires.path c.args.j (omega (arith, c.requires.open)))

pub bound_from-requires-clause-open : goal.bound_from-requires-clause-open
bound_from-requires-clause-open c = rw (c.first.ensures, long c.args.sc.now c.args.reference.now c.args.j c.requires.path c.requires.open) c.requires.open

pub bound_from-requires-clause-begins : goal.bound_from-requires-clause-begins
bound_from-requires-clause-begins c = rw (c.first.ensures, long c.args.sc.now c.args.reference.now c.args.j c.requires.path c.requires.open) refl

pub returns-clause-value : goal.returns-clause-value
returns-clause-value c = λ rate is.
    let p = c.args.sc.now in
    let kept : IsRate p c.unwrap-rate.result = found_is_rate p c.args.self.now.rate c.self.inside.rate c.unwrap-rate.result c.requires.made.rate (ap (λ w. w.rate) c.self.view_is) c.unwrap-rate.ensures in
    rw c.first.ensures at (c.bound_from.ensures.value) ∙ ap (λ r. tangent_of p r (take c.args.j c.args.reference.now) c.args.reference.now) (one_rate p c.unwrap-rate.result rate kept is)
