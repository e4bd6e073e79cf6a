use Rattle.std.proofs.Common.{refl, subst, sym}
use Rattle.machine_model.specs.Beneath.slot_arena.specs.declared.nodes.Node.TheVariants.{Indirection}
use Rattle.lock_free.specs.Owing.{HoldsRaised}
use Rattle.lock_free.proofs.OwnMakes.{link_fits, link_ready, new_there, stock_there}
use Rattle.lock_free.proofs.makes.make_link.Goals as goal

pub to_word-requires : goal.to_word-requires
to_word-requires c = link_fits c.args.words.now.table_id.words c.args.actor.now.me.0 c.requires.sound c.in_ok-slot.slot c.take.new.actor.me.0 (c.in_ok-slot.ensures {u = tt}).slot
    c.args.generation c.requires.generation c.args.main c.requires.making.0 c.requires.making.1 c.requires.making.2 c.requires.making.3

pub make-requires-clause-making : goal.make-requires-clause-making
make-requires-clause-making c = link_ready c.args.words.now.table_id.words c.args.actor.now.me.0 c.requires.sound c.in_ok-slot.slot c.take.new.actor.me.0
    (c.in_ok-slot.ensures {u = tt}).slot c.args.generation c.requires.generation c.args.main c.requires.making.0 c.requires.making.1 c.requires.making.2 c.requires.making.3
    c.to_word.result c.to_word.ensures

pub make-requires-clause-raised : goal.make-requires-clause-raised
make-requires-clause-raised c = subst HoldsRaised (sym (c.in_ok-slot.ensures {u = tt}).slot.is) c.requires.raised

pub returns-clause-stock : goal.returns-clause-stock
returns-clause-stock c = stock_there c.args.actor.now.me.0 0 c.in_ok-slot.slot c.take.new.actor.me.0 (c.in_ok-slot.ensures {u = tt}).slot c.take.new.actor.me.0 refl
    (Indirection c.args.generation c.requires.making.0) c.requires.making.1 refl c.args.words.now.table_id.words c.take.ensures.sound _ c.to_word.result c.make.new.actor.me.0 c.make.ensures.made
    c.take.new.stock c.note.new.self c.take.ensures.stock c.note.ensures.sizes c.note.ensures.noted c.note.ensures.limbo

pub returns-clause-made : goal.returns-clause-made
returns-clause-made c = new_there c.args.actor.now.me.0 0 c.in_ok-slot.slot c.take.new.actor.me.0 (c.in_ok-slot.ensures {u = tt}).slot c.take.new.actor.me.0 refl
    (Indirection c.args.generation c.requires.making.0) c.requires.making.1 refl c.args.words.now.table_id.words c.take.ensures.sound _ c.to_word.result c.make.new.actor.me.0 c.make.ensures.made
