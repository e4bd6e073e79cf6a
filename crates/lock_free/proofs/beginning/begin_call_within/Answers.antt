use Rattle.std.proofs.Common.{Ok, inl, inr, sym, subst}
use Rattle.lock_free.specs.BegunCalls.{WasDeniedSo}
use Rattle.lock_free.specs.Calling.{CalledOrNot}
use Rattle.lock_free.specs.Stocks.{IsStock}
use Rattle.lock_free.proofs.CallsBegun.{begun_keeps, denied_again, denied_keeps, denied_so, late_again, late_keeps, late_ran_out, ready_caller}
use Rattle.lock_free.proofs.LimboStays.{pinned_late}
use Rattle.lock_free.proofs.beginning.begin_call_within.Goals as goal

pub start_within-requires-clause-late : goal.start_within-requires-clause-late
start_within-requires-clause-late c = pinned_late c.args.stock.now c.begin.new.self c.args.actor.now.me.0 c.requires.stock c.begin.ensures c.epoch.result c.epoch.ensures.seen

pub start_within-requires-clause-caller : goal.start_within-requires-clause-caller
start_within-requires-clause-caller c = ready_caller c.args.actor.now.me.0 c.args.call c.requires.ready

pub returns-in-Ok-Some-clause-stock : goal.returns-in-Ok-Some-clause-stock
returns-in-Ok-Some-clause-stock c =
    let v = c.args.actor.now.me.0 in
    let u = c.start_within.new.actor.me.0 in
    begun_keeps v c.args.call c.requires.ready c.in-Ok-Some.way u (subst (λ r. CalledOrNot v c.args.call (Ok r) u) c.in-Ok-Some.field-0-is (c.in-Ok-Some.ensures {u = tt}).called)
    c.begin.new.self (subst (λ s. IsStock s v) (sym c.begin.ensures) c.requires.stock)

pub returns-in-Ok-Some-clause-begun : goal.returns-in-Ok-Some-clause-begun
returns-in-Ok-Some-clause-begun c =
    let v = c.args.actor.now.me.0 in
    let u = c.start_within.new.actor.me.0 in
    inl (subst (λ r. CalledOrNot v c.args.call (Ok r) u) c.in-Ok-Some.field-0-is (c.in-Ok-Some.ensures {u = tt}).called)

pub returns-in-Ok-None-clause-stock : goal.returns-in-Ok-None-clause-stock
returns-in-Ok-None-clause-stock c =
    let v = c.args.actor.now.me.0 in
    let x = c.start_within.new.actor.me.0 in
    late_keeps v c.args.call c.requires.ready x (subst (λ r. CalledOrNot v c.args.call (Ok r) x) c.in-Ok-None.field-0-is (c.in-Ok-None.ensures {u = tt}).called)
    c.begin.new.self (subst (λ s. IsStock s v) (sym c.begin.ensures) c.requires.stock)

pub returns-in-Ok-None-clause-begun : goal.returns-in-Ok-None-clause-begun
returns-in-Ok-None-clause-begun c =
    let v = c.args.actor.now.me.0 in
    let x = c.start_within.new.actor.me.0 in
    inr (late_ran_out v c.args.call c.requires.ready x (subst (λ r. CalledOrNot v c.args.call (Ok r) x) c.in-Ok-None.field-0-is (c.in-Ok-None.ensures {u = tt}).called))

pub returns-in-Ok-None-clause-rests : goal.returns-in-Ok-None-clause-rests
returns-in-Ok-None-clause-rests c =
    let v = c.args.actor.now.me.0 in
    let x = c.start_within.new.actor.me.0 in
    late_again v c.args.call c.requires.ready x (subst (λ r. CalledOrNot v c.args.call (Ok r) x) c.in-Ok-None.field-0-is (c.in-Ok-None.ensures {u = tt}).called)

pub returns-in-Err-clause-stock : goal.returns-in-Err-clause-stock
returns-in-Err-clause-stock c =
    let v = c.args.actor.now.me.0 in
    denied_keeps v c.args.call c.requires.ready c.in-Err.denial c.start_within.new.actor.me.0 (c.in-Err.ensures {u = tt}).called c.begin.new.self
    (subst (λ s. IsStock s v) (sym c.begin.ensures) c.requires.stock)

pub returns-in-Err-clause-begun : goal.returns-in-Err-clause-begun
returns-in-Err-clause-begun c =
    let v = c.args.actor.now.me.0 in
    let x = c.start_within.new.actor.me.0 in
    inl (subst (λ e. WasDeniedSo v c.args.call e x) (sym c.from.ensures) (denied_so v c.args.call c.requires.ready c.in-Err.denial x (c.in-Err.ensures {u = tt}).called))

pub returns-in-Err-clause-rests : goal.returns-in-Err-clause-rests
returns-in-Err-clause-rests c = denied_again c.args.actor.now.me.0 c.args.call c.requires.ready c.in-Err.denial c.start_within.new.actor.me.0 (c.in-Err.ensures {u = tt}).called
