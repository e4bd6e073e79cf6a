use Rattle.std.proofs.Common.{refl, sym, subst}
use Rattle.history.specs.declared.calls.Call.TheVariants.{Count}
use Rattle.history.specs.declared.replies.Reply.TheVariants as reply
use Rattle.lock_free.specs.Accesses.{IsToldAccess}
use Rattle.lock_free.proofs.AccessTold.{asked_may, told_begun, told_so}
use Rattle.lock_free.proofs.CallEnds.{cancelled_with}
use Rattle.lock_free.proofs.CallsDenied.{no_handle_denied}
use Rattle.lock_free.proofs.CallsUnderWay.{left_again}
use Rattle.lock_free.proofs.OneWalk.Whole.{ended_left}
use Rattle.lock_free.proofs.access_calls.ask_access.Goals as goal

pub returns-then-handle-ge-HANDLES-clause-told : goal.returns-then-handle-ge-HANDLES-clause-told
returns-then-handle-ge-HANDLES-clause-told g c = (refl, no_handle_denied c.args.actor.now.me.0 (Count c.args.handle) c.if-handle-ge-HANDLES.true)

pub refuse-requires-clause-may : goal.refuse-requires-clause-may
refuse-requires-clause-may g c =
    let n = c.args.words.now.table_id.words in
    let v = c.args.actor.now.me.0 in
    asked_may c.seats_are_explained.ensures n v c.requires.sound c.args.handle c.requires.ready c.in-Ok.field-0 c.begin_call.new.actor.me.0 (c.in-Ok.ensures {u = tt}).begun c.begin_call.ensures.sound

pub returns-in-Ok-clause-left : goal.returns-in-Ok-clause-left
returns-in-Ok-clause-left g c =
    let n = c.args.words.now.table_id.words in
    let v = c.args.actor.now.me.0 in
    let u = c.begin_call.new.actor.me.0 in
    let x = c.refuse.new.actor.me.0 in
    let way = c.in-Ok.field-0 in
    let begun = (c.in-Ok.ensures {u = tt}).begun in
    let may = asked_may c.seats_are_explained.ensures n v c.requires.sound c.args.handle c.requires.ready way u begun c.begin_call.ensures.sound in
    ended_left n v c.requires.sound c.requires.ready (Count c.args.handle) way u begun c.begin_call.ensures.sound reply.NoSlots x (cancelled_with u x reply.NoSlots may c.refuse.ensures.refused)

pub returns-in-Ok-clause-told : goal.returns-in-Ok-clause-told
returns-in-Ok-clause-told g c =
    let n = c.args.words.now.table_id.words in
    let v = c.args.actor.now.me.0 in
    let u = c.begin_call.new.actor.me.0 in
    let x = c.refuse.new.actor.me.0 in
    let way = c.in-Ok.field-0 in
    let begun = (c.in-Ok.ensures {u = tt}).begun in
    let may = asked_may c.seats_are_explained.ensures n v c.requires.sound c.args.handle c.requires.ready way u begun c.begin_call.ensures.sound in
    told_begun c.seats_are_explained.ensures n v c.requires.sound c.args.handle c.requires.ready way u begun c.begin_call.ensures.sound x
    (cancelled_with u x reply.NoSlots may c.refuse.ensures.refused)

pub returns-in-Err-clause-left : goal.returns-in-Err-clause-left
returns-in-Err-clause-left g c = left_again c.args.actor.now.me.0 c.begin_call.new.actor.me.0 c.requires.ready (c.in-Err.ensures {u = tt}).rests

pub returns-in-Err-clause-told : goal.returns-in-Err-clause-told
returns-in-Err-clause-told g c =
    let v = c.args.actor.now.me.0 in
    let x = c.begin_call.new.actor.me.0 in
    subst (λ r. IsToldAccess v c.args.handle r x) (sym c.access_denied.ensures)
    (told_so c.seats_are_explained.ensures c.args.words.now.table_id.words v c.requires.sound c.args.handle c.requires.ready c.in-Err.why x (c.in-Err.ensures {u = tt}).begun)
