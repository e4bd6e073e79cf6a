use Rattle.std.proofs.Common.{◌<◌, sym, ap, subst, ◌∙◌, length}
use Rattle.std.proofs.lemmas.List.{length-map}
use Rattle.trie_words.specs.Codes.{entry_of}
use Rattle.lock_free.specs.Halves.{entries_of_halves}
use Rattle.lock_free.specs.Owing.{HoldsRaised}
use Rattle.lock_free.specs.Places.{class_for}
use Rattle.lock_free.specs.SeenEntries.{HasWritten, IsOwnSlot}
use Rattle.lock_free.specs.Stocks.{HasSlot, NotesLast}
use Rattle.lock_free.proofs.MainMakes.{small_class, own_slot, header_fits, main_ready, class_is, kind_is}
use Rattle.lock_free.proofs.OwnMakes.{new_there, stock_there}
use Rattle.lock_free.proofs.makes.make_main.Goals as goal

pub take-requires-clause-class : goal.take-requires-clause-class
take-requires-clause-class c = subst (λ k. k < 3) (sym c.class_for-class.ensures) (small_class (length c.args.halves.now))

pub write_entries-requires-clause-own : goal.write_entries-requires-clause-own
write_entries-requires-clause-own c =
    subst (λ k. IsOwnSlot c.take.new.actor.me.0 c.in_ok-slot.slot k) (length-map c.args.halves.now entry_of)
    (own_slot c.args.words.now.table_id.words c.args.actor.now.me.0 c.requires.sound c.args.header.shape (entries_of_halves c.args.halves.now) c.requires.making c.args.header.previous
    c.requires.over
    c.in_ok-slot.slot c.take.new.actor.me.0
    (subst (λ k. HasSlot c.args.actor.now.me.0 k c.in_ok-slot.slot c.take.new.actor.me.0) (c.class_for-class.ensures ∙ sym (ap class_for (length-map c.args.halves.now entry_of)))
    (c.in_ok-slot.ensures {u = tt}).slot))

pub to_word-requires : goal.to_word-requires
to_word-requires c =
    header_fits c.args.words.now.table_id.words c.args.actor.now.me.0 c.requires.sound c.args.header.shape (entries_of_halves c.args.halves.now) c.requires.making c.args.header.previous
    c.requires.over

pub make-requires-clause-making : goal.make-requires-clause-making
make-requires-clause-making c =
    main_ready c.args.words.now.table_id.words c.args.actor.now.me.0 c.requires.sound c.args.header.shape (entries_of_halves c.args.halves.now) c.requires.making c.args.header.previous
    c.requires.over
    c.in_ok-slot.slot c.take.new.actor.me.0
    (subst (λ k. HasSlot c.args.actor.now.me.0 k c.in_ok-slot.slot c.take.new.actor.me.0) (c.class_for-class.ensures ∙ sym (ap class_for (length-map c.args.halves.now entry_of)))
    (c.in_ok-slot.ensures {u = tt}).slot)
    c.write_entries.new.actor.me.0 (subst (λ k. HasWritten c.take.new.actor.me.0 c.in_ok-slot.slot (entries_of_halves c.args.halves.now) k c.write_entries.new.actor.me.0) (sym (length-map
    c.args.halves.now entry_of)) c.write_entries.ensures.written)
    c.to_word.result c.to_word.ensures

pub make-requires-clause-raised : goal.make-requires-clause-raised
make-requires-clause-raised c = subst HoldsRaised (sym c.write_entries.ensures.written.is) (subst HoldsRaised (sym (c.in_ok-slot.ensures {u = tt}).slot.is) c.requires.raised)

pub returns-clause-stock : goal.returns-clause-stock
returns-clause-stock c = stock_there c.args.actor.now.me.0 c.class_for-class.result c.in_ok-slot.slot c.take.new.actor.me.0 (c.in_ok-slot.ensures {u = tt}).slot c.write_entries.new.actor.me.0
    c.write_entries.ensures.written.is c.requires.making.node c.requires.making.making
    (c.class_for-class.ensures ∙ sym (ap class_for (length-map c.args.halves.now entry_of)) ∙ class_is c.args.words.now.table_id.words c.args.actor.now.me.0 c.requires.sound c.args.header.shape
    (entries_of_halves c.args.halves.now) c.requires.making
    c.args.header.previous c.requires.over)
    c.args.words.now.table_id.words c.write_entries.ensures.sound _ c.to_word.result c.make.new.actor.me.0 c.make.ensures.made c.take.new.stock c.note.new.self c.take.ensures.stock
    c.note.ensures.sizes
    (subst (λ k. NotesLast c.take.new.stock k c.class_for-class.result c.note.new.self)
    (kind_is c.args.words.now.table_id.words c.args.actor.now.me.0 c.requires.sound c.args.header.shape (entries_of_halves c.args.halves.now) c.requires.making c.args.header.previous
    c.requires.over) c.note.ensures.noted)
    c.note.ensures.limbo

pub returns-clause-made : goal.returns-clause-made
returns-clause-made c = new_there c.args.actor.now.me.0 c.class_for-class.result c.in_ok-slot.slot c.take.new.actor.me.0 (c.in_ok-slot.ensures {u = tt}).slot c.write_entries.new.actor.me.0
    c.write_entries.ensures.written.is c.requires.making.node c.requires.making.making
    (c.class_for-class.ensures ∙ sym (ap class_for (length-map c.args.halves.now entry_of)) ∙ class_is c.args.words.now.table_id.words c.args.actor.now.me.0 c.requires.sound c.args.header.shape
    (entries_of_halves c.args.halves.now) c.requires.making
    c.args.header.previous c.requires.over)
    c.args.words.now.table_id.words c.write_entries.ensures.sound _ c.to_word.result c.make.new.actor.me.0 c.make.ensures.made
