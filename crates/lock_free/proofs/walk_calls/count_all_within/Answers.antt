use Rattle.std.proofs.Common.{None, Err, inl, refl, ap, ◌∙◌}
use Rattle.std.proofs.lemmas.Result.{err_from_is_err_and}
use Rattle.history.specs.declared.calls.Call.TheVariants.{Count}
use Rattle.history.specs.declared.replies.Reply.TheVariants as reply
use Rattle.lock_free.specs.WholeCalls.{reply_or_none}
use Rattle.lock_free.proofs.CallsDenied.{no_handle_denied}
use Rattle.lock_free.proofs.CallsBegun.{begun_so}
use Rattle.lock_free.proofs.CallsUnderWay.{left_again}
use Rattle.lock_free.proofs.Unbegun.{unbegun_told, unbegun_why}
use Rattle.lock_free.proofs.OneWalk.Whole.{begun_walk, count_walk, ended_left, lack_fits, walk_told}
use Rattle.lock_free.proofs.walk_calls.count_all_within.Goals as goal

pub begin_call_within-requires-clause-ready : goal.begin_call_within-requires-clause-ready
begin_call_within-requires-clause-ready c =
    record { opens = None; rests = c.requires.ready; number = refl; stays = refl }

pub returns-then-handle-ge-HANDLES-clause-told : goal.returns-then-handle-ge-HANDLES-clause-told
returns-then-handle-ge-HANDLES-clause-told c =
    inl (no_handle_denied c.args.actor.now.me.0 (Count c.args.handle) c.if-handle-ge-HANDLES.true)

pub count_from-requires-clause-at : goal.count_from-requires-clause-at
count_from-requires-clause-at c =
    let v = c.args.actor.now.me.0 in
    let u = c.begin_call_within.new.actor.me.0 in
    begun_walk c.args.words.now.table_id.words v c.requires.sound c.requires.ready Count c.args.handle (count_walk c.args.handle) c.in_ok-way.way u
    (begun_so v (Count c.args.handle) c.in_ok-way.way u (c.in_ok-way.ensures {u = tt}).begun)

pub count_from-requires-clause-way : goal.count_from-requires-clause-way
count_from-requires-clause-way c =
    let v = c.args.actor.now.me.0 in
    let u = c.begin_call_within.new.actor.me.0 in
    (begun_so v (Count c.args.handle) c.in_ok-way.way u (c.in_ok-way.ensures {u = tt}).begun).3

pub returns-clause-left : goal.returns-clause-left
returns-clause-left c =
    let v = c.args.actor.now.me.0 in
    let u = c.begin_call_within.new.actor.me.0 in
    ended_left c.args.words.now.table_id.words v c.requires.sound c.requires.ready (Count c.args.handle) c.in_ok-way.way u
    (begun_so v (Count c.args.handle) c.in_ok-way.way u (c.in_ok-way.ensures {u = tt}).begun) c.begin_call_within.ensures.sound
    (reply_or_none reply.Count c.count_from.result) c.count_from.new.actor.me.0 c.count_from.ensures.ended

pub returns-clause-told : goal.returns-clause-told
returns-clause-told c =
    let v = c.args.actor.now.me.0 in
    let u = c.begin_call_within.new.actor.me.0 in
    inl (walk_told c.args.words.now.table_id.words v c.requires.sound c.requires.ready reply.Count (Count c.args.handle) c.in_ok-way.way u
    (begun_so v (Count c.args.handle) c.in_ok-way.way u (c.in_ok-way.ensures {u = tt}).begun) c.begin_call_within.ensures.sound c.count_from.result
    c.count_from.new.actor.me.0 c.count_from.ensures.lacks c.count_from.ensures.ended)

pub returns-clause-why : goal.returns-clause-why
returns-clause-why c =
    lack_fits Count c.args.handle refl refl c.count_from.result c.count_from.ensures.lacks

pub returns-in_err-way-clause-left : goal.returns-in_err-way-clause-left
returns-in_err-way-clause-left c = left_again c.args.actor.now.me.0 c.begin_call_within.new.actor.me.0 c.requires.ready c.in_err-way.ensures.rests

pub returns-in_err-way-clause-told : goal.returns-in_err-way-clause-told
returns-in_err-way-clause-told c =
    let p = err_from_is_err_and c.from_residual.result c.from_residual.ensures.1 in
    let is = p.1 ∙ ap (λ e. Err e) p.2 in
    unbegun_told reply.Count c.args.actor.now.me.0 c.requires.ready (Count c.args.handle) c.in_err-way.field-0.0 c.begin_call_within.new.actor.me.0 c.from_residual.result is
    c.in_err-way.ensures.begun

pub returns-in_err-way-clause-why : goal.returns-in_err-way-clause-why
returns-in_err-way-clause-why c =
    let p = err_from_is_err_and c.from_residual.result c.from_residual.ensures.1 in
    let is = p.1 ∙ ap (λ e. Err e) p.2 in
    unbegun_why c.args.actor.now.me.0 (Count c.args.handle) c.in_err-way.field-0.0 c.begin_call_within.new.actor.me.0 c.from_residual.result is refl c.in_err-way.ensures.begun
