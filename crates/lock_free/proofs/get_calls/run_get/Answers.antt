use Rattle.std.proofs.Common.{Ok, Err, inl, inr, subst, ◌∙◌}
use Rattle.history.specs.declared.calls.Call.TheVariants.{Get}
use Rattle.lock_free.specs.declared.call_errors.CallError.TheVariants.{NoHandle}
use Rattle.lock_free.specs.GlanceGets.{HasGlancedAtKey}
use Rattle.lock_free.proofs.BetweenCalls.{same_seat}
use Rattle.lock_free.proofs.CallsBegun.{still_now}
use Rattle.lock_free.proofs.CallsDenied.{no_handle_denied}
use Rattle.lock_free.proofs.CallsUnderWay.{few_then, left_both}
use Rattle.lock_free.proofs.GetsWhole.{got_anew, got_first}
use Rattle.lock_free.proofs.get_calls.run_get.Goals as goal

pub returns-then-handle-ge-HANDLES-clause-told : goal.returns-then-handle-ge-HANDLES-clause-told
returns-then-handle-ge-HANDLES-clause-told g c =
    let v = c.args.actor.now.me.0 in
    let call = Get c.args.handle c.args.key in
    got_first v v call (Err NoHandle) (same_seat v) (no_handle_denied v call c.if-handle-ge-HANDLES.true, tt)

pub returns-in-Some-clause-told : goal.returns-in-Some-clause-told
returns-in-Some-clause-told g c =
    let v = c.args.actor.now.me.0 in
    let call = Get c.args.handle c.args.key in
    let at = c.glance.new.actor.me.0 in
    got_first v at call (Ok c.in-Some.value) c.glance.ensures.left.same
    (subst (λ r. HasGlancedAtKey c.args.words.now.table_id.words v call r at) c.in-Some.is c.glance.ensures.told, tt)

pub returns-in-Some-clause-stock : goal.returns-in-Some-clause-stock
returns-in-Some-clause-stock g c = c.glance.ensures.stock c.args.stock.now c.requires.stock

pub get_at_last-requires-clause-stock : goal.get_at_last-requires-clause-stock
get_at_last-requires-clause-stock g c = c.glance.ensures.stock c.args.stock.now c.requires.stock

pub get_at_last-requires-clause-its : goal.get_at_last-requires-clause-its
get_at_last-requires-clause-its g c = c.glance.ensures.left.same.actor ∙ c.requires.its

pub get_at_last-requires-clause-few : goal.get_at_last-requires-clause-few
get_at_last-requires-clause-few g c = few_then c.args.actor.now.me.0 c.glance.new.actor.me.0 c.glance.ensures.left.same c.requires.few

pub get_at_last-requires-clause-ready : goal.get_at_last-requires-clause-ready
get_at_last-requires-clause-ready g c = c.glance.ensures.left.rests

pub returns-in-None-clause-left : goal.returns-in-None-clause-left
returns-in-None-clause-left g c = left_both c.args.actor.now.me.0 c.glance.new.actor.me.0 c.get_at_last.new.actor.me.0 c.glance.ensures.left.same c.get_at_last.ensures.left

pub returns-in-None-clause-told : goal.returns-in-None-clause-told
returns-in-None-clause-told g c =
    let n = c.args.words.now.table_id.words in
    let v = c.args.actor.now.me.0 in
    let call = Get c.args.handle c.args.key in
    let at = c.glance.new.actor.me.0 in
    let same = c.glance.ensures.left.same in
    elim (subst (λ r. HasGlancedAtKey n v call r at) c.in-None.is c.glance.ensures.told) [
      | inl refused ↦
          got_anew v at c.get_at_last.new.actor.me.0 c.args.handle c.args.key c.get_at_last.result same refused
          (c.get_at_last.ensures.told at (same_seat at) (still_now n at call c.glance.ensures.sound c.glance.ensures.left.rests))
      | inr (still, waited) ↦ c.get_at_last.ensures.told v same still
    ]
