use Rattle.std.proofs.Common.{arith, refl}
use Rattle.machine_core.specs.Seen.{seen}
use Rattle.machine_core.proofs.Carried.{Prepared, can_swap_at, drafted_first, remove_done}
use Rattle.machine_core.proofs.straight.remove.Goals as goal

pub take_out-requires : goal.take_out-requires
take_out-requires c =
    let (root, key, (start, actor, call, own, removes, at)) = c.requires.there in
    record {
      can = can_swap_at (seen c.args.parts.now) actor call root at.fit.can at.keyed c.args.place 1 at.ends (omega arith);
      lit = at.ends.lit;
      here = (_, at.ends.here);
    }

pub overflow_add-depth : goal.overflow_add-depth
overflow_add-depth c =
    let (root, key, (start, actor, call, own, removes, at)) = c.requires.there in
    omega (arith, at.ends.deep, c.requires.few)

pub count_call-requires-clause-begun : goal.count_call-requires-clause-begun
count_call-requires-clause-begun c =
    let (root, key, (start, actor, call, own, removes, at)) = c.requires.there in
    omega (arith, at.fit.can.begun)

pub count_call-requires-clause-steps : goal.count_call-requires-clause-steps
count_call-requires-clause-steps c =
    let (root, key, (start, actor, call, own, removes, at)) = c.requires.there in
    omega (arith, at.fit.can.steps, at.fit.can.life, at.ends.deep, c.requires.few)

pub returns : goal.returns
returns c root key start actor call own removes at =
    let before = c.args.parts.now in
    let p : Prepared = record { start = start; before = before; actor = actor; call = call; root = root; place = c.args.place; arrived = at } in
    remove_done p c.count_call.new.parts c.take_out.new.heap c.args.more removes c.requires.few c.requires.leaves
    (record {
      draft_is = c.take_out.ensures.drafts (seen before) call (drafted_first before at.fit.kept at.fit.settled) at.ends.flag;
      private = refl;
      records = c.take_out.ensures.records;
    })
    c.count_call.ensures
