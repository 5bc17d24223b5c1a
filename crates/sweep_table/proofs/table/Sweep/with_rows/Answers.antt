use Rattle.std.proofs.Common.{◌≡◌, length, map, refl, arith}
use Rattle.period_rows.specs.Changes.{change_of}
use Rattle.sweep_table.proofs.MadeChanges.{made_faultless, made_right, made_sound, made_same}
use Rattle.sweep_table.proofs.table.Sweep.with_rows.Goals as goal

pub invariant_of-result : goal.invariant_of-result
invariant_of-result c =
    made_sound c.self.inside.denominator c.self.inside.looks c.args.self c.self.view_is c.in_ok-cells.field-0 c.in_ok-cells.ensures c.in_ok-changes.changes c.in_ok-changes.ensures.right
    c.self.invariant c.requires

pub returns-clause-right : goal.returns-clause-right
returns-clause-right c =
    made_right c.self.inside.denominator c.self.inside.looks c.args.self c.self.view_is c.in_ok-cells.field-0 c.in_ok-cells.ensures c.in_ok-changes.changes c.in_ok-changes.ensures.right

pub returns-clause-sound : goal.returns-clause-sound
returns-clause-sound c =
    made_sound c.self.inside.denominator c.self.inside.looks c.args.self c.self.view_is c.in_ok-cells.field-0 c.in_ok-cells.ensures c.in_ok-changes.changes c.in_ok-changes.ensures.right
    c.self.invariant c.requires

pub returns-clause-kept : goal.returns-clause-kept
returns-clause-kept c =
    made_same c.self.inside.denominator c.self.inside.looks c.args.self c.self.view_is c.in_ok-cells.field-0 c.in_ok-cells.ensures c.in_ok-changes.changes c.in_ok-changes.ensures.right
    _ c.in_ok-changes.ensures.same

pub returns-clause-faultless : goal.returns-clause-faultless
returns-clause-faultless c =
    let size : c.len.result ≡ length c.in_ok-cells.field-0.rows.items = omega (arith, c.len.ensures) in
    λ ok. made_faultless c.self.inside.denominator c.self.inside.looks c.args.self c.self.view_is c.in_ok-cells.field-0 c.in_ok-cells.ensures c.in_ok-changes.changes
    (map change_of c.args.changes.items) c.len.result size (c.in_ok-changes.ensures.faultless refl)
