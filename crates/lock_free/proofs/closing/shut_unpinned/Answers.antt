use Rattle.std.proofs.Common.{◌≤◌, ◌∙◌, ap, refl, sym, subst, arith}
use Rattle.trie_words.specs.Codes.{root_code}
use Rattle.trie_words.specs.declared.pins.Pin.{Pin}
use Rattle.lock_free.specs.declared.rules.View.{View}
use Rattle.lock_free.specs.declared.sizes.Sizes.{Sizes}
use Rattle.lock_free.specs.Closing.{ShutOrNot}
use Rattle.lock_free.specs.Rules.{SaysClosing}
use Rattle.lock_free.specs.SeatWords.{pinned_for, unpinned, IsIdle, WouldClose}
use Rattle.lock_free.specs.Stocks.{IsStock}
use Rattle.lock_free.proofs.BetweenCalls.{idle_stock}
use Rattle.lock_free.proofs.LimboStays.{pinned_late}
use Rattle.lock_free.proofs.closing.shut_unpinned.Goals as goal

pub pin-requires-clause-late : goal.pin-requires-clause-late
pin-requires-clause-late c = pinned_late c.args.stock.now c.args.stock.now c.args.actor.now.me.0 c.requires.stock refl c.epoch.result c.epoch.ensures.seen

pub shut_pinned-closed-requires-clause-stock : goal.shut_pinned-closed-requires-clause-stock
shut_pinned-closed-requires-clause-stock c =
    let v = c.args.actor.now.me.0 in
    let p = c.pin.ensures.pinned in
    let is = ap (λ me. me.0) p.2 in
    let idle = c.requires.rests.idle in
    subst (IsStock c.args.stock.now) (sym is) (idle_stock c.args.stock.now v (pinned_for v p.0 _) idle idle refl refl c.requires.stock)

pub shut_pinned-closed-requires-clause-marked : goal.shut_pinned-closed-requires-clause-marked
shut_pinned-closed-requires-clause-marked c =
    let v = c.args.actor.now.me.0 in
    let p = c.pin.ensures.pinned in
    let is = ap (λ me. me.0) p.2 in
    subst (λ (x : View). SaysClosing (root_code c.args.marked) x.actor) (sym is) c.requires.marked

pub shut_pinned-closed-requires-clause-closing : goal.shut_pinned-closed-requires-clause-closing
shut_pinned-closed-requires-clause-closing c =
    let v = c.args.actor.now.me.0 in
    let p = c.pin.ensures.pinned in
    let is = ap (λ me. me.0) p.2 in
    subst (λ (x : View). WouldClose x c.args.handle x.sizes.seats) (sym is) c.requires.closing

pub shut_pinned-closed-requires-clause-pinned : goal.shut_pinned-closed-requires-clause-pinned
shut_pinned-closed-requires-clause-pinned c =
    let v = c.args.actor.now.me.0 in
    let p = c.pin.ensures.pinned in
    let is = ap (λ me. me.0) p.2 in
    (p.0, ap (λ (x : View). x.pin) is)

pub shut_pinned-closed-requires-clause-outside : goal.shut_pinned-closed-requires-clause-outside
shut_pinned-closed-requires-clause-outside c =
    let v = c.args.actor.now.me.0 in
    let p = c.pin.ensures.pinned in
    let is = ap (λ me. me.0) p.2 in
    ap (λ (x : View). x.entered) is

pub shut_pinned-closed-requires-clause-idle : goal.shut_pinned-closed-requires-clause-idle
shut_pinned-closed-requires-clause-idle c =
    let v = c.args.actor.now.me.0 in
    let p = c.pin.ensures.pinned in
    let is = ap (λ me. me.0) p.2 in
    subst IsIdle (sym is) c.requires.rests.idle

pub unpin-requires-clause-its : goal.unpin-requires-clause-its
unpin-requires-clause-its c =
    let v = c.args.actor.now.me.0 in
    let p = c.pin.ensures.pinned in
    let is = ap (λ me. me.0) p.2 in
    c.shut_pinned-closed.ensures.its ∙ ap (λ (x : View). x.actor) is ∙ c.requires.its

pub unpin-requires-clause-few : goal.unpin-requires-clause-few
unpin-requires-clause-few c =
    let v = c.args.actor.now.me.0 in
    let p = c.pin.ensures.pinned in
    let is = ap (λ me. me.0) p.2 in
    subst (λ n. n ≤ c.shut_pinned-closed.new.actor.me.0.sizes.seats) (sym (c.shut_pinned-closed.ensures.its ∙ ap (λ (x : View). x.actor) is))
    (subst (λ (s : Sizes). v.actor ≤ s.seats) (sym (c.shut_pinned-closed.ensures.sizes ∙ ap (λ (x : View). x.sizes) is)) c.requires.few)

pub returns-clause-stock : goal.returns-clause-stock
returns-clause-stock c =
    let rest = c.shut_pinned-closed.new.actor.me.0 in
    let idle = c.shut_pinned-closed.ensures.idle in
    subst (IsStock c.shut_pinned-closed.new.stock) (sym (ap (λ me. me.0) c.unpin.ensures.unpinned))
    (idle_stock c.shut_pinned-closed.new.stock rest (unpinned rest) idle idle refl refl c.shut_pinned-closed.ensures.stock)

pub returns-clause-shut : goal.returns-clause-shut
returns-clause-shut c =
    let v = c.args.actor.now.me.0 in
    let p = c.pin.ensures.pinned in
    let is = ap (λ me. me.0) p.2 in
    record {
      pinned = p.0;
      call = _;
      to_none = (let e = ap (λ (q : Pin). q.handle) p.1 in omega (arith, e));
      rest = c.shut_pinned-closed.new.actor.me.0;
      shut = subst (λ x. ShutOrNot x c.args.handle c.shut_pinned-closed.result c.shut_pinned-closed.new.actor.me.0) is c.shut_pinned-closed.ensures.shut;
      after_is = ap (λ me. me.0) c.unpin.ensures.unpinned;
    }
