use Rattle.std.proofs.Common.{◌≡◌, ap, arith}
use Rattle.belief_update.proofs.TakenSteps.{beside_is, beside_fits}
use Rattle.belief_update.proofs.taken.Taken.mass.Goals as goal

pub overflow_mul-result : goal.overflow_mul-result
overflow_mul-result c =
    let (q, r, beside) = c.requires.beside in
    let scale : c.self.inside.scale ≡ c.args.self.now.scale = ap (λ s. s.scale) c.self.view_is in
    rw (c.at.ensures, scale) (omega (arith, beside_fits c.args.sc.now c.recall_sound.ensures q r _ _ beside c.args.c c.requires.cell))

-- the mass with the looks, and what they took, are the scaled mass
pub overflow_sub-result : goal.overflow_sub-result
overflow_sub-result c =
    let (q, r, beside) = c.requires.beside in
    let scale : c.self.inside.scale ≡ c.args.self.now.scale = ap (λ s. s.scale) c.self.view_is in
    rw (c.at.ensures, c.masses-taken.ensures, scale) (omega (arith, beside_is c.args.sc.now c.recall_sound.ensures q r _ _ beside c.args.c c.requires.cell))

pub returns : goal.returns
returns c q r beside =
    let scale : c.self.inside.scale ≡ c.args.self.now.scale = ap (λ s. s.scale) c.self.view_is in
    rw (c.at.ensures, c.masses-taken.ensures, scale) (omega (arith, beside_is c.args.sc.now c.recall_sound.ensures q r _ _ beside c.args.c c.requires.cell))
