use Rattle.std.proofs.Common.{◌⊎◌, inl, refl, sym, subst}
use Rattle.history.specs.declared.calls.Call.TheVariants.{Count}
use Rattle.history.specs.declared.replies.Reply.TheVariants as reply
use Rattle.lock_free.specs.Accesses.{IsToldAccess}
use Rattle.lock_free.specs.SeatCalls.{RanOut}
use Rattle.lock_free.proofs.AccessTold.{asked_may, told_begun, told_or_out}
use Rattle.lock_free.proofs.CallEnds.{cancelled_with}
use Rattle.lock_free.proofs.CallsBegun.{begun_so}
use Rattle.lock_free.proofs.CallsDenied.{no_handle_denied}
use Rattle.lock_free.proofs.CallsUnderWay.{left_again}
use Rattle.lock_free.proofs.OneWalk.Whole.{ended_left}
use Rattle.lock_free.proofs.access_calls.ask_access_within.Goals as goal

pub returns-then-handle-ge-HANDLES-clause-told : goal.returns-then-handle-ge-HANDLES-clause-told
returns-then-handle-ge-HANDLES-clause-told c = inl (refl, no_handle_denied c.args.actor.now.me.0 (Count c.args.handle) c.if-handle-ge-HANDLES.true)

pub refuse-requires-clause-may : goal.refuse-requires-clause-may
refuse-requires-clause-may c =
    let n = c.args.words.now.table_id.words in
    let v = c.args.actor.now.me.0 in
    let u = c.begin_call_within.new.actor.me.0 in
    let way = c.in-Ok.field-0 in
    let begun = begun_so v (Count c.args.handle) way u (c.in-Ok.ensures {u = tt}).begun in
    asked_may c.seats_are_explained.ensures n v c.requires.sound c.args.handle c.requires.ready way u begun c.begin_call_within.ensures.sound

pub returns-in-Ok-clause-left : goal.returns-in-Ok-clause-left
returns-in-Ok-clause-left c =
    let n = c.args.words.now.table_id.words in
    let v = c.args.actor.now.me.0 in
    let u = c.begin_call_within.new.actor.me.0 in
    let x = c.refuse.new.actor.me.0 in
    let way = c.in-Ok.field-0 in
    let begun = begun_so v (Count c.args.handle) way u (c.in-Ok.ensures {u = tt}).begun in
    let may = asked_may c.seats_are_explained.ensures n v c.requires.sound c.args.handle c.requires.ready way u begun c.begin_call_within.ensures.sound in
    ended_left n v c.requires.sound c.requires.ready (Count c.args.handle) way u begun c.begin_call_within.ensures.sound reply.NoSlots x (cancelled_with u x reply.NoSlots may c.refuse.ensures.refused)

pub returns-in-Ok-clause-told : goal.returns-in-Ok-clause-told
returns-in-Ok-clause-told c =
    let n = c.args.words.now.table_id.words in
    let v = c.args.actor.now.me.0 in
    let u = c.begin_call_within.new.actor.me.0 in
    let x = c.refuse.new.actor.me.0 in
    let way = c.in-Ok.field-0 in
    let begun = begun_so v (Count c.args.handle) way u (c.in-Ok.ensures {u = tt}).begun in
    let may = asked_may c.seats_are_explained.ensures n v c.requires.sound c.args.handle c.requires.ready way u begun c.begin_call_within.ensures.sound in
    inl (told_begun c.seats_are_explained.ensures n v c.requires.sound c.args.handle c.requires.ready way u begun c.begin_call_within.ensures.sound x
    (cancelled_with u x reply.NoSlots may c.refuse.ensures.refused))

pub returns-in-Err-clause-left : goal.returns-in-Err-clause-left
returns-in-Err-clause-left c = left_again c.args.actor.now.me.0 c.begin_call_within.new.actor.me.0 c.requires.ready (c.in-Err.ensures {u = tt}).rests

pub returns-in-Err-clause-told : goal.returns-in-Err-clause-told
returns-in-Err-clause-told c =
    let v = c.args.actor.now.me.0 in
    let x = c.begin_call_within.new.actor.me.0 in
    subst (λ r. IsToldAccess v c.args.handle r x ⊎ RanOut v r x) (sym c.access_denied.ensures)
    (told_or_out c.seats_are_explained.ensures c.args.words.now.table_id.words v c.requires.sound c.args.handle c.requires.ready c.in-Err.why x (c.in-Err.ensures {u = tt}).begun)
