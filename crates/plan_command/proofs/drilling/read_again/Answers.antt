use Rattle.plan_command.proofs.Versions.{written_reads, no_fault_told}
use Rattle.plan_command.proofs.drilling.read_again.Goals as goal

pub returns-in-Ok : goal.returns-in-Ok
returns-in-Ok c =
    let plan = c.args.plan.now in
    c.in-Ok.ensures.exact plan (written_reads c.args.sc.now plan _ _ _ c.new-text.ensures.items c.in_ok-print_plan_for.ensures.ok c.deref.ensures.value c.in_ok-print_plan_for.ensures.spelled)

pub unreachable-requires : goal.unreachable-requires
unreachable-requires c =
    let plan = c.args.plan.now in
    let reads = written_reads c.args.sc.now plan _ _ _ c.new-text.ensures.items c.in_ok-print_plan_for.ensures.ok c.deref.ensures.value c.in_ok-print_plan_for.ensures.spelled in
    no_fault_told plan _ _ c.in-Err-Fault.field-0-is (c.in-Err-Fault.ensures.exact plan reads)
