use Rattle.std.proofs.Common.{true, false, sym, subst}
use Rattle.lock_free.specs.OwnOffers.{IsOwnCopy}
use Rattle.lock_free.proofs.MovedOn.{moved_both, moved_saw}
use Rattle.lock_free.proofs.OwnLooks.{seen_runs, seen_stock, settled_seen}
use Rattle.lock_free.proofs.parting.part_copy.Goals as goal

pub part_settled-requires-clause-stock : goal.part_settled-requires-clause-stock
part_settled-requires-clause-stock c =
    seen_stock c.args.words.now.table_id.words c.args.actor.now.me.0 c.requires.sound c.requires.runs.0 c.requires.runs.1 c.see_fate.new.actor.me.0 c.in-CarriedOut.ensures.seen.0 c.args.stock.now
    c.requires.stock

pub part_settled-requires-clause-settled : goal.part_settled-requires-clause-settled
part_settled-requires-clause-settled c =
    settled_seen c.args.words.now.table_id.words c.args.actor.now.me.0 c.requires.sound c.args.handle c.args.offer c.args.opens c.is_writable-writable.result true
    (subst (λ z. IsOwnCopy c.args.actor.now.me.0 c.args.handle c.args.offer c.args.opens z) (sym c.is_writable-writable.ensures) c.requires.own) c.see_fate.new.actor.me.0 c.in-CarriedOut.ensures.seen

pub part_settled-requires-clause-runs : goal.part_settled-requires-clause-runs
part_settled-requires-clause-runs c =
    seen_runs c.args.words.now.table_id.words c.args.actor.now.me.0 c.requires.sound c.requires.runs.0 c.requires.runs.1 c.see_fate.new.actor.me.0 c.in-CarriedOut.ensures.seen.0

pub returns-in-CarriedOut-clause-moved : goal.returns-in-CarriedOut-clause-moved
returns-in-CarriedOut-clause-moved c =
    moved_both c.args.actor.now.me.0 c.see_fate.new.actor.me.0 c.part_settled.new.actor.me.0
    (moved_saw c.args.words.now.table_id.words c.args.actor.now.me.0 c.see_fate.new.actor.me.0 c.requires.sound c.in-CarriedOut.ensures.seen.0) c.part_settled.ensures.moved

pub part_settled-requires-in-TakenBack-clause-stock : goal.part_settled-requires-in-TakenBack-clause-stock
part_settled-requires-in-TakenBack-clause-stock c =
    seen_stock c.args.words.now.table_id.words c.args.actor.now.me.0 c.requires.sound c.requires.runs.0 c.requires.runs.1 c.see_fate.new.actor.me.0 c.in-TakenBack.ensures.seen.0 c.args.stock.now
    c.requires.stock

pub part_settled-requires-in-TakenBack-clause-settled : goal.part_settled-requires-in-TakenBack-clause-settled
part_settled-requires-in-TakenBack-clause-settled c =
    settled_seen c.args.words.now.table_id.words c.args.actor.now.me.0 c.requires.sound c.args.handle c.args.offer c.args.opens c.is_writable-writable.result false
    (subst (λ z. IsOwnCopy c.args.actor.now.me.0 c.args.handle c.args.offer c.args.opens z) (sym c.is_writable-writable.ensures) c.requires.own) c.see_fate.new.actor.me.0 c.in-TakenBack.ensures.seen

pub part_settled-requires-in-TakenBack-clause-runs : goal.part_settled-requires-in-TakenBack-clause-runs
part_settled-requires-in-TakenBack-clause-runs c =
    seen_runs c.args.words.now.table_id.words c.args.actor.now.me.0 c.requires.sound c.requires.runs.0 c.requires.runs.1 c.see_fate.new.actor.me.0 c.in-TakenBack.ensures.seen.0

pub returns-in-TakenBack-clause-moved : goal.returns-in-TakenBack-clause-moved
returns-in-TakenBack-clause-moved c =
    moved_both c.args.actor.now.me.0 c.see_fate.new.actor.me.0 c.part_settled-in-TakenBack.new.actor.me.0
    (moved_saw c.args.words.now.table_id.words c.args.actor.now.me.0 c.see_fate.new.actor.me.0 c.requires.sound c.in-TakenBack.ensures.seen.0) c.part_settled-in-TakenBack.ensures.moved

pub returns-in-Undecided-clause-stock : goal.returns-in-Undecided-clause-stock
returns-in-Undecided-clause-stock c =
    seen_stock c.args.words.now.table_id.words c.args.actor.now.me.0 c.requires.sound c.requires.runs.0 c.requires.runs.1 c.see_fate.new.actor.me.0 c.in-Undecided.ensures.seen.0 c.args.stock.now
    c.requires.stock

pub returns-in-Undecided-clause-moved : goal.returns-in-Undecided-clause-moved
returns-in-Undecided-clause-moved c =
    moved_saw c.args.words.now.table_id.words c.args.actor.now.me.0 c.see_fate.new.actor.me.0 c.requires.sound c.in-Undecided.ensures.seen.0
