use Rattle.std.proofs.Common.{arith, refl, sym, ap, ◌∙◌, subst}
use Rattle.machine_core.specs.Vocabulary.{key_hash, flag_of}
use Rattle.machine_core.specs.Descending.{IsHere}
use Rattle.machine_core.specs.Seen.{seen}
use Rattle.machine_core.proofs.Carried.{Prepared, can_swap_at, drafted_first, put_done}
use Rattle.machine_core.proofs.straight.put.Goals as goal

pub put_single-requires : goal.put_single-requires
put_single-requires c =
    let (root, (start, actor, call, own, puts, at)) = c.requires.there in
    let place = c.args.place in
    record {
      can = can_swap_at (seen c.args.parts.now) actor call root at.fit.can at.keyed place 2 at.ends (omega arith);
      lit = at.ends.lit;
      here = subst (λ key. IsHere c.args.parts.now.heap.heap place.main place.flag key place.position place.entry) (sym own) at.ends.here;
    }

pub overflow_add-depth : goal.overflow_add-depth
overflow_add-depth c =
    let (root, (start, actor, call, own, puts, at)) = c.requires.there in
    omega (arith, at.ends.deep, c.looks_at.ensures.few)

pub count_call-requires-clause-begun : goal.count_call-requires-clause-begun
count_call-requires-clause-begun c =
    let (root, (start, actor, call, own, puts, at)) = c.requires.there in
    omega (arith, at.fit.can.begun)

pub count_call-requires-clause-steps : goal.count_call-requires-clause-steps
count_call-requires-clause-steps c =
    let (root, (start, actor, call, own, puts, at)) = c.requires.there in
    omega (arith, at.fit.can.steps, at.fit.can.life, at.ends.deep, c.looks_at.ensures.few)

pub returns : goal.returns
returns c root start actor call own asks at =
    let before = c.args.parts.now in
    let p : Prepared = record { start = start; before = before; actor = actor; call = call; root = root; place = c.args.place; arrived = at } in
    put_done p c.count_call.new.parts c.put_single.new.heap c.looks_at.result asks.0
    (record {
      draft_is = c.put_single.ensures.drafts (seen before) call (drafted_first before at.fit.kept at.fit.settled) (sym own) (sym asks.1)
          (at.ends.flag ∙ ap (λ k. flag_of (key_hash (seen before) k) c.args.place.depth) (sym own));
      private = refl;
      records = c.put_single.ensures.records;
    })
    c.looks_at.ensures.value c.count_call.ensures
