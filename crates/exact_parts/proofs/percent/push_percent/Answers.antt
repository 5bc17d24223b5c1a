use Rattle.std.proofs.Common.{◌∙◌, ap, ◌++◌}
use Rattle.exact_parts.proofs.Percents.{text_written}
use Rattle.exact_parts.proofs.percent.push_percent.Goals as goal

pub returns-clause-ok : goal.returns-clause-ok
returns-clause-ok c =
    let text = text_written c.digits-point.new.to _ c.digits-point.result c.thousandths-n.result c.digits-point.array_long c.digits-point.ensures.text c.digits-point.ensures.len c.thousandths-n.ensures.most in
    let items = rw (c.in_ok-extend_from_slice.was) at c.extend_from_slice.ensures.items in
    rw (← c.thousandths-n.ensures.value) (items ∙ ap (λ xs. c.args.out.now.items ++ xs) text)
