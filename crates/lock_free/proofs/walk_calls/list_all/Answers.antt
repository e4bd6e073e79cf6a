use Rattle.std.proofs.Common.{None, Err, refl, ap, ◌∙◌}
use Rattle.std.proofs.lemmas.Result.{err_from_is_err_and}
use Rattle.history.specs.declared.calls.Call.TheVariants.{Entries}
use Rattle.history.specs.declared.replies.Reply.TheVariants as reply
use Rattle.lock_free.specs.WholeCalls.{reply_or_none}
use Rattle.lock_free.proofs.CallsDenied.{no_handle_denied}
use Rattle.lock_free.proofs.CallsUnderWay.{left_again}
use Rattle.lock_free.proofs.Unbegun.{denied_told, denied_why}
use Rattle.lock_free.proofs.OneWalk.Whole.{begun_walk, entries_walk, ended_left, lack_fits, walk_told}
use Rattle.lock_free.proofs.walk_calls.list_all.Goals as goal

pub begin_call-requires-clause-ready : goal.begin_call-requires-clause-ready
begin_call-requires-clause-ready g c =
    record { opens = None; rests = c.requires.ready; number = refl; stays = refl }

pub returns-then-handle-ge-HANDLES-clause-told : goal.returns-then-handle-ge-HANDLES-clause-told
returns-then-handle-ge-HANDLES-clause-told g c =
    no_handle_denied c.args.actor.now.me.0 (Entries c.args.handle) c.if-handle-ge-HANDLES.true

pub list_from-requires-clause-at : goal.list_from-requires-clause-at
list_from-requires-clause-at g c =
    let v = c.args.actor.now.me.0 in
    let u = c.begin_call.new.actor.me.0 in
    begun_walk c.args.words.now.table_id.words v c.requires.sound c.requires.ready Entries c.args.handle (entries_walk c.args.handle) c.in_ok-way.way u (c.in_ok-way.ensures {u = tt}).begun

pub returns-clause-left : goal.returns-clause-left
returns-clause-left g c =
    let v = c.args.actor.now.me.0 in
    let u = c.begin_call.new.actor.me.0 in
    ended_left c.args.words.now.table_id.words v c.requires.sound c.requires.ready (Entries c.args.handle) c.in_ok-way.way u (c.in_ok-way.ensures {u = tt}).begun c.begin_call.ensures.sound
    (reply_or_none (λ pairs. reply.Pairs pairs.items) c.list_from.result) c.list_from.new.actor.me.0 c.list_from.ensures.ended

pub returns-clause-told : goal.returns-clause-told
returns-clause-told g c =
    let v = c.args.actor.now.me.0 in
    let u = c.begin_call.new.actor.me.0 in
    walk_told c.args.words.now.table_id.words v c.requires.sound c.requires.ready (λ pairs. reply.Pairs pairs.items) (Entries c.args.handle) c.in_ok-way.way u
    (c.in_ok-way.ensures {u = tt}).begun c.begin_call.ensures.sound c.list_from.result
    c.list_from.new.actor.me.0 c.list_from.ensures.lacks c.list_from.ensures.ended

pub returns-clause-why : goal.returns-clause-why
returns-clause-why g c =
    lack_fits Entries c.args.handle refl refl c.list_from.result c.list_from.ensures.lacks

pub returns-in_err-way-clause-left : goal.returns-in_err-way-clause-left
returns-in_err-way-clause-left g c = left_again c.args.actor.now.me.0 c.begin_call.new.actor.me.0 c.requires.ready c.in_err-way.ensures.rests

pub returns-in_err-way-clause-told : goal.returns-in_err-way-clause-told
returns-in_err-way-clause-told g c =
    let p = err_from_is_err_and c.from_residual.result c.from_residual.ensures.1 in
    let is = p.1 ∙ ap (λ e. Err e) p.2 in
    denied_told (λ pairs. reply.Pairs pairs.items) c.args.actor.now.me.0 c.requires.ready (Entries c.args.handle) c.in_err-way.field-0.0 c.begin_call.new.actor.me.0
    c.from_residual.result is c.in_err-way.ensures.begun

pub returns-in_err-way-clause-why : goal.returns-in_err-way-clause-why
returns-in_err-way-clause-why g c =
    let p = err_from_is_err_and c.from_residual.result c.from_residual.ensures.1 in
    let is = p.1 ∙ ap (λ e. Err e) p.2 in
    denied_why c.args.actor.now.me.0 (Entries c.args.handle) c.in_err-way.field-0.0 c.begin_call.new.actor.me.0 c.from_residual.result is c.in_err-way.ensures.begun
