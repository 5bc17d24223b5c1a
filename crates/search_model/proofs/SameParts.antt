-- Problems that agree in each part.
use Rattle.std.proofs.Common.{◌≡◌}
use Rattle.search_model.specs.Problem.{Problem}

-- problems that agree in each part are the same
pub same_problem : (p q : Problem) → p.names ≡ q.names → p.position_names ≡ q.position_names → p.cells ≡ q.cells → p.positions ≡ q.positions → p.horizon ≡ q.horizon → p.start ≡ q.start → p.total ≡ q.total → p.first ≡ q.first →
    p.moves ≡ q.moves → p.drift ≡ q.drift → p.sweep ≡ q.sweep → p ≡ q
same_problem p q names position_names cells positions horizon start total first moves drift sweep = λ i. record {
  names = names i;
  position_names = position_names i;
  cells = cells i;
  positions = positions i;
  horizon = horizon i;
  start = start i;
  total = total i;
  first = first i;
  moves = moves i;
  drift = drift i;
  sweep = sweep i;
}
