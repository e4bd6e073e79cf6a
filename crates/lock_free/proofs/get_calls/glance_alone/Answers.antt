use Rattle.std.proofs.Common.{inr}
use Rattle.history.specs.declared.calls.Call.TheVariants.{Get}
use Rattle.lock_free.proofs.CallsUnderWay.{rests_still}
use Rattle.lock_free.proofs.GetsWhole.{told_at_once}
use Rattle.lock_free.proofs.Waiting.{waited_none}
use Rattle.lock_free.proofs.get_calls.glance_alone.Goals as goal

pub returns-then-handle-ge-HANDLES-clause-told : goal.returns-then-handle-ge-HANDLES-clause-told
returns-then-handle-ge-HANDLES-clause-told c = let v = c.args.actor.now.me.0 in inr (waited_none v.actor v.account)

pub returns-then-handle-ge-HANDLES-clause-left : goal.returns-then-handle-ge-HANDLES-clause-left
returns-then-handle-ge-HANDLES-clause-left c = rests_still c.args.actor.now.me.0 c.requires.ready

pub returns-clause-stock : goal.returns-clause-stock
returns-clause-stock c = c.glance.ensures.stock c.args.stock.now c.requires.stock

pub returns-clause-told : goal.returns-clause-told
returns-clause-told c =
    told_at_once c.args.words.now.table_id.words c.args.actor.now.me.0 c.glance.new.actor.me.0 (Get c.args.handle c.args.key) c.glance.result c.glance.ensures.told
