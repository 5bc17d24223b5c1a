use Rattle.std.proofs.Common.{◌∙◌, sym, arith}
use Rattle.period_rows.proofs.FoundRows.{place-of_given, row-unchanged, row-changed}
use Rattle.period_rows.proofs.changes.RowChanges.row_or.Goals as goal

pub index-requires : goal.index-requires
index-requires c = omega (arith, place-of_given c.self.inside.list.items c.self.inside.index.keys c.self.invariant c.args.t c.args.owner c.in-Some.place (sym c.in-Some.is ∙ c.get_index_of.ensures.index))

pub returns-in-Some : goal.returns-in-Some
returns-in-Some c =
    rw (← c.self.view_is) (c.deref.ensures.value ∙ row-changed c.self.inside.list.items c.self.inside.index.keys c.self.invariant c.args.t c.args.owner c.args.base.now c.in-Some.place c.index.result.now
    (sym c.in-Some.is ∙ c.get_index_of.ensures.index) c.index.ensures)

pub returns-in-None : goal.returns-in-None
returns-in-None c =
    rw (← c.self.view_is) (row-unchanged c.self.inside.list.items c.self.inside.index.keys c.self.invariant c.args.t c.args.owner c.args.base.now (sym c.in-None.is ∙ c.get_index_of.ensures.index))
