use Rattle.std.proofs.Common.{None, Err, inl, refl, sym, ap, subst, ◌∙◌}
use Rattle.std.proofs.lemmas.Result.{err_from_is_err_and}
use Rattle.history.specs.declared.calls.Call.TheVariants.{Entries}
use Rattle.history.specs.declared.replies.Reply.TheVariants as reply
use Rattle.lock_free.specs.declared.walks.Reached.{Reached}
use Rattle.lock_free.specs.Scans.{entered_by, HasBegunScan, HasEnteredScan}
use Rattle.lock_free.specs.SeatCalls.{WasRefused}
use Rattle.lock_free.proofs.CallsBegun.{begun_so}
use Rattle.lock_free.proofs.CallsDenied.{no_handle_denied}
use Rattle.lock_free.proofs.CallsUnderWay.{left_again}
use Rattle.lock_free.proofs.Scannings.{scan_entered, scan_listing, scan_lost_ended, scan_lost_may, scan_lost_stock, scan_refused, scan_same, scan_start, scan_stock}
use Rattle.lock_free.proofs.Unbegun.{unbegun_told, unbegun_why}
use Rattle.lock_free.proofs.OneWalk.Whole.{ended_left}
use Rattle.lock_free.proofs.scans.enter_within.Goals as goal

pub returns-then-handle-ge-HANDLES-clause-begun : goal.returns-then-handle-ge-HANDLES-clause-begun
returns-then-handle-ge-HANDLES-clause-begun c = inl (no_handle_denied c.args.actor.now.me.0 (Entries c.args.handle) c.if-handle-ge-HANDLES.true)

pub returns-in_err-way-clause-left : goal.returns-in_err-way-clause-left
returns-in_err-way-clause-left c =
    let p = err_from_is_err_and c.from_residual.result c.from_residual.ensures.1 in
    let is = p.1 ∙ ap (λ e. Err e) p.2 in
    let x = c.begin_call_within.new.actor.me.0 in
    subst (λ r. HasEnteredScan c.args.actor.now.me.0 r x) (sym is) (left_again c.args.actor.now.me.0 x c.requires.ready c.in_err-way.ensures.rests)

pub returns-in_err-way-clause-begun : goal.returns-in_err-way-clause-begun
returns-in_err-way-clause-begun c =
    let p = err_from_is_err_and c.from_residual.result c.from_residual.ensures.1 in
    let is = p.1 ∙ ap (λ e. Err e) p.2 in
    let v = c.args.actor.now.me.0 in
    let x = c.begin_call_within.new.actor.me.0 in
    let why = c.in_err-way.field-0.0 in
    subst (λ r. HasBegunScan v c.args.handle (entered_by r) x) (sym is)
    (unbegun_told {A = Reached} (λ r. reply.NoSlots) v c.requires.ready (Entries c.args.handle) why x (Err why) refl c.in_err-way.ensures.begun)

pub returns-in_err-way-clause-why : goal.returns-in_err-way-clause-why
returns-in_err-way-clause-why c =
    let p = err_from_is_err_and c.from_residual.result c.from_residual.ensures.1 in
    let is = p.1 ∙ ap (λ e. Err e) p.2 in
    unbegun_why c.args.actor.now.me.0 (Entries c.args.handle) c.in_err-way.field-0.0 c.begin_call_within.new.actor.me.0 c.from_residual.result is refl c.in_err-way.ensures.begun

pub begin_within-requires-clause-way : goal.begin_within-requires-clause-way
begin_within-requires-clause-way c =
    (begun_so c.args.actor.now.me.0 (Entries c.args.handle) c.in_ok-way.way c.begin_call_within.new.actor.me.0 (c.in_ok-way.ensures {u = tt}).begun).3

pub begin_within-requires-clause-at : goal.begin_within-requires-clause-at
begin_within-requires-clause-at c =
    let v = c.args.actor.now.me.0 in
    let u = c.begin_call_within.new.actor.me.0 in
    let begun = begun_so v (Entries c.args.handle) c.in_ok-way.way u (c.in_ok-way.ensures {u = tt}).begun in
    scan_start c.args.words.now.table_id.words v c.requires.sound c.requires.ready c.args.handle c.in_ok-way.way u begun c.begin_call_within.ensures.sound

pub refuse-requires-clause-stock : goal.refuse-requires-clause-stock
refuse-requires-clause-stock c =
    let v = c.args.actor.now.me.0 in
    let u = c.begin_call_within.new.actor.me.0 in
    let begun = begun_so v (Entries c.args.handle) c.in_ok-way.way u (c.in_ok-way.ensures {u = tt}).begun in
    scan_lost_stock c.args.words.now.table_id.words v c.requires.sound c.requires.ready c.args.handle c.in_ok-way.way u begun c.begin_call_within.ensures.sound c.begin_within.new.actor.me.0
    (c.in-Err.ensures {u = tt}).begun c.begin_call_within.new.stock c.begin_call_within.ensures.stock

pub refuse-requires-clause-may : goal.refuse-requires-clause-may
refuse-requires-clause-may c =
    let v = c.args.actor.now.me.0 in
    let u = c.begin_call_within.new.actor.me.0 in
    let begun = begun_so v (Entries c.args.handle) c.in_ok-way.way u (c.in_ok-way.ensures {u = tt}).begun in
    scan_lost_may c.args.words.now.table_id.words v c.requires.sound c.requires.ready c.args.handle c.in_ok-way.way u begun c.begin_call_within.ensures.sound c.begin_within.new.actor.me.0
    (c.in-Err.ensures {u = tt}).begun

pub returns-in-Ok-clause-stock : goal.returns-in-Ok-clause-stock
returns-in-Ok-clause-stock c =
    let v = c.args.actor.now.me.0 in
    let u = c.begin_call_within.new.actor.me.0 in
    let begun = begun_so v (Entries c.args.handle) c.in_ok-way.way u (c.in_ok-way.ensures {u = tt}).begun in
    scan_stock c.args.words.now.table_id.words v c.requires.sound c.requires.ready c.args.handle c.in_ok-way.way u begun c.begin_call_within.ensures.sound c.begin_within.new.actor.me.0 c.in-Ok.walker
    (c.in-Ok.ensures {u = tt}).begun c.begin_call_within.new.stock c.begin_call_within.ensures.stock

pub returns-in-Ok-clause-left : goal.returns-in-Ok-clause-left
returns-in-Ok-clause-left c =
    let n = c.args.words.now.table_id.words in
    let v = c.args.actor.now.me.0 in
    let u = c.begin_call_within.new.actor.me.0 in
    let w = c.begin_within.new.actor.me.0 in
    let begun = begun_so v (Entries c.args.handle) c.in_ok-way.way u (c.in_ok-way.ensures {u = tt}).begun in
    let walked = (c.in-Ok.ensures {u = tt}).begun in (
      scan_same n v c.requires.sound c.requires.ready c.args.handle c.in_ok-way.way u begun c.begin_call_within.ensures.sound w c.in-Ok.walker walked,
      scan_listing n v c.requires.sound c.requires.ready c.args.handle c.in_ok-way.way u begun c.begin_call_within.ensures.sound w c.in-Ok.walker walked,
    )

pub returns-in-Ok-clause-begun : goal.returns-in-Ok-clause-begun
returns-in-Ok-clause-begun c =
    let v = c.args.actor.now.me.0 in
    let u = c.begin_call_within.new.actor.me.0 in
    let begun = begun_so v (Entries c.args.handle) c.in_ok-way.way u (c.in_ok-way.ensures {u = tt}).begun in
    scan_entered c.args.words.now.table_id.words v c.requires.sound c.requires.ready c.args.handle c.in_ok-way.way u begun c.begin_call_within.ensures.sound
    c.begin_within.new.actor.me.0 c.in-Ok.walker (c.in-Ok.ensures {u = tt}).begun

pub returns-in-Err-clause-left : goal.returns-in-Err-clause-left
returns-in-Err-clause-left c =
    let n = c.args.words.now.table_id.words in
    let v = c.args.actor.now.me.0 in
    let u = c.begin_call_within.new.actor.me.0 in
    let x = c.refuse.new.actor.me.0 in
    let begun = begun_so v (Entries c.args.handle) c.in_ok-way.way u (c.in_ok-way.ensures {u = tt}).begun in
    ended_left n v c.requires.sound c.requires.ready (Entries c.args.handle) c.in_ok-way.way u begun c.begin_call_within.ensures.sound reply.NoSlots x
    (scan_lost_ended n v c.requires.sound c.requires.ready c.args.handle c.in_ok-way.way u begun c.begin_call_within.ensures.sound c.begin_within.new.actor.me.0
    (c.in-Err.ensures {u = tt}).begun x c.refuse.ensures.refused)

pub returns-in-Err-clause-begun : goal.returns-in-Err-clause-begun
returns-in-Err-clause-begun c =
    let n = c.args.words.now.table_id.words in
    let v = c.args.actor.now.me.0 in
    let u = c.begin_call_within.new.actor.me.0 in
    let w = c.begin_within.new.actor.me.0 in
    let x = c.refuse.new.actor.me.0 in
    let begun = begun_so v (Entries c.args.handle) c.in_ok-way.way u (c.in_ok-way.ensures {u = tt}).begun in
    let lacks = (c.in-Err.ensures {u = tt}).begun in
    inl (subst (λ e. WasRefused v (Entries c.args.handle) None e x) (sym c.from.ensures)
    (scan_refused n v c.requires.sound c.requires.ready c.args.handle c.in_ok-way.way u begun c.begin_call_within.ensures.sound w lacks c.in-Err.why x
    (scan_lost_ended n v c.requires.sound c.requires.ready c.args.handle c.in_ok-way.way u begun c.begin_call_within.ensures.sound w lacks x c.refuse.ensures.refused)))
