use Rattle.std.proofs.Common.{nat_lt, length, ◌*◌}
use Rattle.bound_tree.specs.Accepts.{children_of}
use Rattle.search_workers.specs.Agendas.{kept}
use Rattle.search_workers.proofs.Disposed.{kept_on, disposed_on}
use Rattle.search_workers.proofs.children.hand_on.Goals as goal

pub returns-then-agenda-clause-hands_on : goal.returns-then-agenda-clause-hands_on
returns-then-agenda-clause-hands_on c =
    kept_on (children_of c.args.sc.now c.args.prefix.now) c.args.kit.now (kept c.args.agenda.now) c.args.stack.now (kept c.push_children.new.self) c.push_children.ensures.kept

pub returns-else-agenda-clause-hands_on : goal.returns-else-agenda-clause-hands_on
returns-else-agenda-clause-hands_on c =
    disposed_on (children_of c.args.sc.now c.args.prefix.now) (nat_lt (length c.args.prefix.now * 2) c.args.sc.now.horizon) c.args.kit.now (kept c.args.agenda.now) c.args.stack.now
    c.dispose.new.kit c.dispose.new.stack c.dispose.ensures
