use Rattle.std.proofs.Common.{arith, refl, sym, ap, ◌∙◌, subst}
use Rattle.machine_core.specs.Vocabulary.{key_hash, flag_of}
use Rattle.machine_core.specs.Descending.{IsHere}
use Rattle.machine_core.specs.Seen.{seen}
use Rattle.machine_core.proofs.Carried.{Prepared, can_swap_at, drafted_first, other_lives, part_done}
use Rattle.machine_core.proofs.straight.part.Goals as goal

pub put_beside-levels-requires : goal.put_beside-levels-requires
put_beside-levels-requires c =
    let (start, actor, call, own, puts, at) = c.requires.there in
    let place = c.args.place in
    record {
      can = can_swap_at (seen c.args.parts.now) actor call c.args.root at.fit.can at.keyed place 28 at.ends (omega arith);
      here = subst (λ key. IsHere c.args.parts.now.heap.heap place.main place.flag key place.position place.entry) (sym own) at.ends.here;
      other = c.requires.other;
      old = other_lives (seen c.args.parts.now) actor call c.args.root at.fit.can at.keyed place at.ends c.requires.other;
      lit = at.ends.lit;
      shallow = omega (arith, at.ends.deep);
    }

pub overflow_add-depth : goal.overflow_add-depth
overflow_add-depth c =
    let (start, actor, call, own, puts, at) = c.requires.there in
    omega (arith, at.ends.deep, c.put_beside-levels.ensures.few)

pub overflow_add-depth-2 : goal.overflow_add-depth-2
overflow_add-depth-2 c =
    let (start, actor, call, own, puts, at) = c.requires.there in
    omega (arith, at.ends.deep, c.put_beside-levels.ensures.few)

pub count_call-requires-clause-begun : goal.count_call-requires-clause-begun
count_call-requires-clause-begun c =
    let (start, actor, call, own, puts, at) = c.requires.there in
    omega (arith, at.fit.can.begun)

pub count_call-requires-clause-steps : goal.count_call-requires-clause-steps
count_call-requires-clause-steps c =
    let (start, actor, call, own, puts, at) = c.requires.there in
    omega (arith, at.fit.can.steps, at.fit.can.life, at.ends.deep, c.put_beside-levels.ensures.few)

pub returns : goal.returns
returns c start actor call own asks at =
    let before = c.args.parts.now in
    let p : Prepared = record { start = start; before = before; actor = actor; call = call; root = c.args.root; place = c.args.place; arrived = at } in
    part_done p c.count_call.new.parts c.put_beside-levels.new.heap c.put_beside-levels.result c.requires.other asks.0
    (c.put_beside-levels.ensures.drafts (seen before) call c.args.root (drafted_first before at.fit.kept at.fit.settled) (sym own) (sym asks.1)
    (at.ends.flag ∙ ap (λ k. flag_of (key_hash (seen before) k) c.args.place.depth) (sym own)) refl (sym c.generation_at-generation.ensures))
    c.put_beside-levels.ensures.records c.count_call.ensures
