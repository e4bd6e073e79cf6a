use Rattle.std.proofs.Common.{sym, subst}
use Rattle.lock_free.specs.BegunCalls.{WasDeniedSo}
use Rattle.lock_free.specs.Stocks.{IsStock}
use Rattle.lock_free.proofs.CallsBegun.{begun_keeps, denied_again, denied_keeps, denied_so, ready_caller}
use Rattle.lock_free.proofs.LimboStays.{pinned_late}
use Rattle.lock_free.proofs.beginning.begin_call.Goals as goal

pub start-requires-clause-late : goal.start-requires-clause-late
start-requires-clause-late g c = pinned_late c.args.stock.now c.begin.new.self c.args.actor.now.me.0 c.requires.stock c.begin.ensures c.epoch.result c.epoch.ensures.seen

pub start-requires-clause-caller : goal.start-requires-clause-caller
start-requires-clause-caller g c = ready_caller c.args.actor.now.me.0 c.args.call c.requires.ready

pub returns-in-Ok-clause-stock : goal.returns-in-Ok-clause-stock
returns-in-Ok-clause-stock g c =
    let v = c.args.actor.now.me.0 in
    begun_keeps v c.args.call c.requires.ready c.in-Ok.way c.start.new.actor.me.0 (c.in-Ok.ensures {u = tt}).called c.begin.new.self
    (subst (λ s. IsStock s v) (sym c.begin.ensures) c.requires.stock)

pub returns-in-Err-clause-stock : goal.returns-in-Err-clause-stock
returns-in-Err-clause-stock g c =
    let v = c.args.actor.now.me.0 in
    denied_keeps v c.args.call c.requires.ready c.in-Err.denial c.start.new.actor.me.0 (c.in-Err.ensures {u = tt}).called c.begin.new.self
    (subst (λ s. IsStock s v) (sym c.begin.ensures) c.requires.stock)

pub returns-in-Err-clause-begun : goal.returns-in-Err-clause-begun
returns-in-Err-clause-begun g c =
    let v = c.args.actor.now.me.0 in
    let x = c.start.new.actor.me.0 in
    subst (λ e. WasDeniedSo v c.args.call e x) (sym c.from.ensures) (denied_so v c.args.call c.requires.ready c.in-Err.denial x (c.in-Err.ensures {u = tt}).called)

pub returns-in-Err-clause-rests : goal.returns-in-Err-clause-rests
returns-in-Err-clause-rests g c = denied_again c.args.actor.now.me.0 c.args.call c.requires.ready c.in-Err.denial c.start.new.actor.me.0 (c.in-Err.ensures {u = tt}).called
