use Rattle.std.proofs.Common.{ℕ, ◌≡◌, ◌≤◌, ◌<◌, ◌*◌, [], ◌∷◌, ◌++◌, ◌∙◌, ap, subst, arith}
use Rattle.sweep_table.specs.LookParts.{misses}
use Rattle.duo_search.specs.Product.{product_factor}
use Rattle.duo_search.proofs.PairLooks.{entry_kept, entry_left}
use Rattle.duo_search.proofs.looks.joint_look.Goals as goal
use Rattle.duo_search.proofs.looks.joint_look.Goals.{then-part-denominator+in_ok-push, else-part-denominator}

pub loop-cell-preserved : goal.loop-cell-preserved
loop-cell-preserved c =
    let p = c.args.sc.now in
    let cell = c.loop-cell.cell in
    let f : ℕ → ℕ = product_factor p c.args.t c.args.both in
    let parts : c.denominator-denominator.result ≡ p.sweep.denominator = c.denominator-denominator.ensures.value ∙ ap (λ s. s.denominator) c.sweep.ensures.value in
    let part : c.joint_part-part.result ≡ f cell = c.joint_part-part.ensures in
    elim c.if-part-denominator.branch [
      | then-part-denominator+in_ok-push w ↦
          let below : c.joint_part-part.result < c.denominator-denominator.result * c.denominator-denominator.result = omega arith in
          let less : f cell < p.sweep.denominator * p.sweep.denominator = subst (λ n. n < p.sweep.denominator * p.sweep.denominator) part (subst (λ n. c.joint_part-part.result < n * n) parts below) in
          ap (λ row. row.items) w.row-is ∙ w.in_ok-push.ensures.items ∙ ap (λ n. c.loop-cell.row.items ++ misses cell n ∷ []) part ∙ entry_kept f _ cell c.loop-cell.row.items less c.loop-cell.invariant
      | else-part-denominator w ↦
          let above : c.denominator-denominator.result * c.denominator-denominator.result ≤ c.joint_part-part.result = omega arith in
          let all : p.sweep.denominator * p.sweep.denominator ≤ f cell = subst (λ n. p.sweep.denominator * p.sweep.denominator ≤ n) part (subst (λ n. n * n ≤ c.joint_part-part.result) parts above) in
          ap (λ row. row.items) w.row-is ∙ entry_left f _ cell c.loop-cell.row.items all c.loop-cell.invariant
    ]
