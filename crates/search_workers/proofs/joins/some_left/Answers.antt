use Rattle.std.proofs.Common.{rules, sym}
use Rattle.search_workers.proofs.joins.some_left.Goals as goal

pub returns-then-eq : goal.returns-then-eq
returns-then-eq c = (c.loop-member.member-index, c.member-item.result, search rules, sym c.member-item.is, search rules)
