use Rattle.std.proofs.Common.{refl, sym, ◌∙◌}
use Rattle.lock_free.proofs.MovedOn.{cleaned_moved, cleaned_pool, parts_besides, is_out, moved_stock, parted_moved, still_settled}
use Rattle.lock_free.proofs.parting.part_settled.Goals as goal

pub clean_own_settled-requires-clause-settled : goal.clean_own_settled-requires-clause-settled
clean_own_settled-requires-clause-settled c =
    still_settled c.args.actor.now.me.0 c.args.handle c.args.offer c.args.opens c.args.is_writable c.args.is_carried_out c.requires.settled c.open_settled.new.actor.me.0
    c.open_settled.ensures.done

pub part-requires-clause-stock : goal.part-requires-clause-stock
part-requires-clause-stock c =
    let v = c.args.actor.now.me.0 in
    let u = c.open_settled.new.actor.me.0 in
    let w = c.clean_own_settled.new.actor.me.0 in
    moved_stock c.args.words.now.table_id.words v w c.requires.sound c.requires.runs.0 c.requires.runs.1
    (cleaned_moved v c.args.handle c.args.offer c.args.opens c.args.is_writable c.args.is_carried_out c.requires.settled u c.open_settled.ensures.done w c.clean_own_settled.ensures.done)
    c.args.stock.now c.args.stock.now c.requires.stock refl
    (c.requires.stock.pool
    ∙ sym (cleaned_pool v c.args.handle c.args.offer c.args.opens c.args.is_writable c.args.is_carried_out c.requires.settled u c.open_settled.ensures.done w c.clean_own_settled.ensures.done))

pub part-requires-clause-parting : goal.part-requires-clause-parting
part-requires-clause-parting c =
    is_out c.args.actor.now.me.0 c.args.handle c.args.offer c.args.opens c.args.is_writable c.args.is_carried_out c.requires.settled c.open_settled.new.actor.me.0
    c.open_settled.ensures.done c.clean_own_settled.new.actor.me.0 c.clean_own_settled.ensures.done

pub returns-clause-moved : goal.returns-clause-moved
returns-clause-moved c =
    parted_moved c.args.actor.now.me.0 c.args.handle c.args.offer c.args.opens c.args.is_writable c.args.is_carried_out c.requires.settled c.open_settled.new.actor.me.0
    c.open_settled.ensures.done c.clean_own_settled.new.actor.me.0 c.clean_own_settled.ensures.done c.part.new.actor.me.0 c.part.ensures.parted

pub returns-clause-parted : goal.returns-clause-parted
returns-clause-parted c =
    parts_besides c.args.actor.now.me.0 c.args.handle c.args.offer c.args.opens c.args.is_writable c.args.is_carried_out c.requires.settled c.open_settled.new.actor.me.0
    c.open_settled.ensures.done c.clean_own_settled.new.actor.me.0 c.clean_own_settled.ensures.done c.part.new.actor.me.0 c.part.ensures.parted
