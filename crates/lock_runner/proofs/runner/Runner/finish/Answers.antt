use Rattle.std.proofs.Common.{All, subst}
use Rattle.lock_runner.specs.Seats.{IsTold}
use Rattle.lock_runner.proofs.Ends.{finished, with_record, without_memory}
use Rattle.lock_runner.proofs.runner.Runner.finish.Goals as goal

pub returns-in-Ok-into_record : goal.returns-in-Ok-into_record
returns-in-Ok-into_record c =
    let told = subst (λ xs. All IsTold xs) c.as_slice.ensures.value c.all_are_told.ensures in
    let all = finished c.self.inside.gate c.args.self c.args.seats.items c.in-Ok.field-0 c.self.view_is c.self.invariant told c.in-Ok.ensures in
    let e = c.in-Ok-into_record.ensures in
    with_record c.args.self c.args.seats.items c.in-Ok.field-0.machine c.in-Ok-into_record.record all.0 all.1 e.«record» e.taken e.legal

pub returns-in-Err-into_record : goal.returns-in-Err-into_record
returns-in-Err-into_record c =
    let told = subst (λ xs. All IsTold xs) c.as_slice.ensures.value c.all_are_told.ensures in
    let all = finished c.self.inside.gate c.args.self c.args.seats.items c.in-Ok.field-0 c.self.view_is c.self.invariant told c.in-Ok.ensures in
    without_memory c.args.self c.args.seats.items c.in-Ok.field-0.machine c.in-Err-into_record.machine all.0 all.1 c.in-Err-into_record.ensures.same
