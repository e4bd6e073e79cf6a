use Rattle.std.proofs.Common.{refl, ap}
use Rattle.machine_model.specs.Beneath.slot_arena.specs.declared.nodes.Node.TheVariants.{Single}
use Rattle.lock_free.proofs.OwnMakes.{single_word, single_ready, new_there, stock_there, drafted_is}
use Rattle.lock_free.proofs.makes.make_single.Goals as goal

pub draft-requires-clause-own : goal.draft-requires-clause-own
draft-requires-clause-own c = single_word c.args.actor.now.me.0 c.in_ok-slot.slot c.take.new.actor.me.0 (c.in_ok-slot.ensures {u = tt}).slot c.args.key c.args.value c.requires.making

pub make-requires-clause-making : goal.make-requires-clause-making
make-requires-clause-making c = single_ready c.args.actor.now.me.0 c.in_ok-slot.slot c.take.new.actor.me.0 (c.in_ok-slot.ensures {u = tt}).slot c.args.key c.args.value c.requires.making
    c.draft.new.actor.me.0 (ap (λ x. x.0) c.draft.ensures.drafted)

pub returns-clause-stock : goal.returns-clause-stock
returns-clause-stock c = stock_there c.args.actor.now.me.0 0 c.in_ok-slot.slot c.take.new.actor.me.0 (c.in_ok-slot.ensures {u = tt}).slot c.draft.new.actor.me.0
    (drafted_is c.take.new.actor.me.0 _ _ c.draft.new.actor.me.0 (ap (λ x. x.0) c.draft.ensures.drafted)) (Single c.args.key c.args.value) c.requires.making refl
    c.args.words.now.table_id.words c.draft.ensures.sound _ c.args.value c.make.new.actor.me.0 c.make.ensures.made c.take.new.stock c.note.new.self c.take.ensures.stock c.note.ensures.sizes
    c.note.ensures.noted c.note.ensures.limbo

pub returns-clause-made : goal.returns-clause-made
returns-clause-made c = new_there c.args.actor.now.me.0 0 c.in_ok-slot.slot c.take.new.actor.me.0 (c.in_ok-slot.ensures {u = tt}).slot c.draft.new.actor.me.0
    (drafted_is c.take.new.actor.me.0 _ _ c.draft.new.actor.me.0 (ap (λ x. x.0) c.draft.ensures.drafted)) (Single c.args.key c.args.value) c.requires.making refl
    c.args.words.now.table_id.words c.draft.ensures.sound _ c.args.value c.make.new.actor.me.0 c.make.ensures.made
