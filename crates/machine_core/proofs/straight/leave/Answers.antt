use Rattle.std.proofs.Common.{arith}
use Rattle.machine_core.proofs.Carried.{Prepared, leave_done}
use Rattle.machine_core.proofs.straight.leave.Goals as goal

pub overflow_add-depth : goal.overflow_add-depth
overflow_add-depth c =
    let (root, key, answer, (start, actor, call, own, answers, at)) = c.requires.there in
    omega (arith, at.ends.deep, c.looks_at.ensures.few)

pub count_call-requires-clause-begun : goal.count_call-requires-clause-begun
count_call-requires-clause-begun c =
    let (root, key, answer, (start, actor, call, own, answers, at)) = c.requires.there in
    omega (arith, at.fit.can.begun)

pub count_call-requires-clause-steps : goal.count_call-requires-clause-steps
count_call-requires-clause-steps c =
    let (root, key, answer, (start, actor, call, own, answers, at)) = c.requires.there in
    omega (arith, at.fit.can.steps, at.fit.can.life, at.ends.deep, c.looks_at.ensures.few)

pub returns : goal.returns
returns c root key answer start actor call own answers at =
    let before = c.args.parts.now in
    let p : Prepared = record { start = start; before = before; actor = actor; call = call; root = root; place = c.args.place; arrived = at } in
    leave_done p c.count_call.new.parts c.looks_at.result answer answers c.looks_at.ensures.value c.count_call.ensures
