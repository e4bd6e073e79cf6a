use Rattle.std.proofs.Common.{◌∙◌, ap, refl, sym, subst, arith}
use Rattle.std.proofs.lemmas.Option.{none-some}
use Rattle.lock_free.specs.declared.reclaiming.Kind.TheVariants as kinds
use Rattle.lock_free.specs.declared.rules.View.{View}
use Rattle.lock_free.specs.declared.sizes.Sizes.{Sizes}
use Rattle.lock_free.specs.Counts.{without_one}
use Rattle.lock_free.specs.HandleWords.{slot_named, ShutBy}
use Rattle.lock_free.specs.Places.{small_class}
use Rattle.lock_free.specs.Raising.{OwesOne}
use Rattle.lock_free.specs.SeatWords.{IsIdle, WouldClose}
use Rattle.lock_free.specs.Stocks.{IsStock}
use Rattle.lock_free.proofs.SharedMakes.{stock_kept}
use Rattle.lock_free.proofs.Shutting.{closed_stock, has_shut, kept_same, root_owes}
use Rattle.lock_free.proofs.closing.shut_pinned.Goals as goal

pub close-requires-clause-closing : goal.close-requires-clause-closing
close-requires-clause-closing c =
    subst (λ (s : Sizes). WouldClose c.args.actor.now.me.0 c.args.handle s.seats) (sym (c.sizes.ensures ∙ c.requires.stock.sizes)) c.requires.closing

pub close-requires-clause-all : goal.close-requires-clause-all
close-requires-clause-all c = let same = ap (λ (s : Sizes). s.seats) (c.sizes.ensures ∙ c.requires.stock.sizes) in omega (arith, same)

pub close-requires-clause-outside : goal.close-requires-clause-outside
close-requires-clause-outside c inside = none-some c.args.handle (sym c.requires.outside ∙ inside)

pub returns-then-not-close-clause-stock : goal.returns-then-not-close-clause-stock
returns-then-not-close-clause-stock c = subst (IsStock c.args.stock.now) (sym (c.if-not-close.ensures.closed.1 refl)) c.requires.stock

pub returns-then-not-close-clause-idle : goal.returns-then-not-close-clause-idle
returns-then-not-close-clause-idle c = subst IsIdle (sym (c.if-not-close.ensures.closed.1 refl)) c.requires.idle

pub returns-then-not-close-clause-sizes : goal.returns-then-not-close-clause-sizes
returns-then-not-close-clause-sizes c = ap (λ (x : View). x.sizes) (c.if-not-close.ensures.closed.1 refl)

pub returns-then-not-close-clause-its : goal.returns-then-not-close-clause-its
returns-then-not-close-clause-its c = ap (λ (x : View). x.actor) (c.if-not-close.ensures.closed.1 refl)

pub returns-then-not-close-clause-shut : goal.returns-then-not-close-clause-shut
returns-then-not-close-clause-shut c = c.if-not-close.ensures.closed.1 refl

pub release-requires-clause-sizes : goal.release-requires-clause-sizes
release-requires-clause-sizes c =
    let v = c.args.actor.now.me.0 in
    let y = c.close.new.actor.me.0 in
    let name = slot_named c.args.marked in
    let s : ShutBy v c.args.handle name y = c.if-not-close.ensures.closed.0 refl in
    (closed_stock v c.args.handle name y s c.args.stock.now c.requires.idle c.requires.stock).sizes

pub release-requires-clause-limbo : goal.release-requires-clause-limbo
release-requires-clause-limbo c =
    let v = c.args.actor.now.me.0 in
    let y = c.close.new.actor.me.0 in
    let name = slot_named c.args.marked in
    let s : ShutBy v c.args.handle name y = c.if-not-close.ensures.closed.0 refl in
    (closed_stock v c.args.handle name y s c.args.stock.now c.requires.idle c.requires.stock).limbo

pub release-requires-clause-owed : goal.release-requires-clause-owed
release-requires-clause-owed c =
    let v = c.args.actor.now.me.0 in
    let y = c.close.new.actor.me.0 in
    let name = slot_named c.args.marked in
    let s : ShutBy v c.args.handle name y = c.if-not-close.ensures.closed.0 refl in
    let owes = subst (λ n. OwesOne y s.root kinds.Indirection small_class n) (sym c.root_slot.ensures) (root_owes v c.args.handle name y s c.requires.pinned.0 c.requires.pinned.1) in
    (s.root, owes)

pub returns-clause-stock : goal.returns-clause-stock
returns-clause-stock c =
    let v = c.args.actor.now.me.0 in
    let y = c.close.new.actor.me.0 in
    let name = slot_named c.args.marked in
    let s : ShutBy v c.args.handle name y = c.if-not-close.ensures.closed.0 refl in
    let owes = subst (λ n. OwesOne y s.root kinds.Indirection small_class n) (sym c.root_slot.ensures) (root_owes v c.args.handle name y s c.requires.pinned.0 c.requires.pinned.1) in
    let kept = c.release.ensures.released s.root owes in
    let z = c.release.new.actor.me.0 in
    stock_kept c.args.stock.now c.release.new.stock y (without_one s.root y.owed) z (closed_stock v c.args.handle name y s c.args.stock.now c.requires.idle c.requires.stock) kept
    c.release.ensures.same c.release.ensures.limbo

pub returns-clause-sizes : goal.returns-clause-sizes
returns-clause-sizes c =
    let v = c.args.actor.now.me.0 in
    let y = c.close.new.actor.me.0 in
    let name = slot_named c.args.marked in
    let s : ShutBy v c.args.handle name y = c.if-not-close.ensures.closed.0 refl in
    let owes = subst (λ n. OwesOne y s.root kinds.Indirection small_class n) (sym c.root_slot.ensures) (root_owes v c.args.handle name y s c.requires.pinned.0 c.requires.pinned.1) in
    let kept = c.release.ensures.released s.root owes in
    let z = c.release.new.actor.me.0 in
    (kept_same v c.args.handle name y s (without_one s.root y.owed) z kept).0

pub returns-clause-its : goal.returns-clause-its
returns-clause-its c =
    let v = c.args.actor.now.me.0 in
    let y = c.close.new.actor.me.0 in
    let name = slot_named c.args.marked in
    let s : ShutBy v c.args.handle name y = c.if-not-close.ensures.closed.0 refl in
    let owes = subst (λ n. OwesOne y s.root kinds.Indirection small_class n) (sym c.root_slot.ensures) (root_owes v c.args.handle name y s c.requires.pinned.0 c.requires.pinned.1) in
    let kept = c.release.ensures.released s.root owes in
    let z = c.release.new.actor.me.0 in
    (kept_same v c.args.handle name y s (without_one s.root y.owed) z kept).1

pub returns-clause-idle : goal.returns-clause-idle
returns-clause-idle c =
    let v = c.args.actor.now.me.0 in
    let y = c.close.new.actor.me.0 in
    let name = slot_named c.args.marked in
    let s : ShutBy v c.args.handle name y = c.if-not-close.ensures.closed.0 refl in
    let owes = subst (λ n. OwesOne y s.root kinds.Indirection small_class n) (sym c.root_slot.ensures) (root_owes v c.args.handle name y s c.requires.pinned.0 c.requires.pinned.1) in
    let kept = c.release.ensures.released s.root owes in
    let z = c.release.new.actor.me.0 in
    (kept_same v c.args.handle name y s (without_one s.root y.owed) z kept).2

pub returns-clause-shut : goal.returns-clause-shut
returns-clause-shut c =
    let v = c.args.actor.now.me.0 in
    let y = c.close.new.actor.me.0 in
    let name = slot_named c.args.marked in
    let s : ShutBy v c.args.handle name y = c.if-not-close.ensures.closed.0 refl in
    let owes = subst (λ n. OwesOne y s.root kinds.Indirection small_class n) (sym c.root_slot.ensures) (root_owes v c.args.handle name y s c.requires.pinned.0 c.requires.pinned.1) in
    let kept = c.release.ensures.released s.root owes in
    let z = c.release.new.actor.me.0 in
    has_shut v c.args.handle name y s c.requires.pinned.0 c.requires.pinned.1 z kept
