use Rattle.std.proofs.Common.{ap, arith, refl, subst, sym}
use Rattle.lock_free.specs.Freed.{kept_free, next_chain, FreesRipe}
use Rattle.lock_free.specs.Stocks.{HasRoomFor, Stocked}
use Rattle.lock_free.proofs.ClassesFree.{each_class_freed, freed_after_seen, freed_before}
use Rattle.lock_free.proofs.LetGo.{known_epoch, knowing_is, knowing_more, knowing_reclaimed, more_reclaimed}
use Rattle.lock_free.proofs.FreesOn.{knowing_stock}
use Rattle.lock_free.proofs.replaced.reclaim_some.Goals as goal

pub free_ripe-requires-clause-stock : goal.free_ripe-requires-clause-stock
free_ripe-requires-clause-stock c =
    let v = c.args.actor.now.me.0 in
    let w = c.see_epoch-epoch.new.actor.me.0 in
    let epoch = c.see_epoch-epoch.result in
    let is = ap (λ (me : _). me.0) c.see_epoch-epoch.ensures.seen.1 in
    knowing_stock c.args.stock.now c.see.new.self v w (knowing_more v w epoch is c.see_epoch-epoch.ensures.seen.0) c.requires.stock epoch (known_epoch v w epoch is) c.see.ensures

pub returns-then-not-has_any-clause-stock : goal.returns-then-not-has_any-clause-stock
returns-then-not-has_any-clause-stock c =
    let v = c.args.actor.now.me.0 in
    let w = c.see_epoch-epoch.new.actor.me.0 in
    let epoch = c.see_epoch-epoch.result in
    let is = ap (λ (me : _). me.0) c.see_epoch-epoch.ensures.seen.1 in
    knowing_stock c.args.stock.now c.see.new.self v w (knowing_more v w epoch is c.see_epoch-epoch.ensures.seen.0) c.requires.stock epoch (known_epoch v w epoch is) c.see.ensures

pub returns-clause-stock : goal.returns-clause-stock
returns-clause-stock c =
    let w = c.free_ripe-3.new.actor.me.0 in
    let stock = c.free_ripe-3.new.stock in
    let more = c.advance.ensures.tried.0 in
    knowing_stock stock stock w c.advance.new.actor.me.0 more c.free_ripe-3.ensures.stock stock.limbo.seen
    (let low = c.free_ripe-3.ensures.stock.limbo.seen in let grows = more.grows in omega (arith, low, grows)) refl

pub returns-clause-reclaimed : goal.returns-clause-reclaimed
returns-clause-reclaimed c =
    let v = c.args.actor.now.me.0 in
    let w = c.see_epoch-epoch.new.actor.me.0 in
    let seen = knowing_reclaimed v w (knowing_is v w c.see_epoch-epoch.result (ap (λ (me : _). me.0) c.see_epoch-epoch.ensures.seen.1)) in
    let small = c.free_ripe.new.actor.me.0 in
    let medium = c.free_ripe-2.new.actor.me.0 in
    let wide = c.free_ripe-3.new.actor.me.0 in
    more_reclaimed v wide c.advance.new.actor.me.0
    (more_reclaimed v medium wide
    (more_reclaimed v small medium (more_reclaimed v w small seen c.free_ripe.ensures.reclaimed) c.free_ripe-2.ensures.reclaimed) c.free_ripe-3.ensures.reclaimed)
    (knowing_reclaimed wide c.advance.new.actor.me.0 c.advance.ensures.tried.0.is)

pub returns-clause-freed : goal.returns-clause-freed
returns-clause-freed c many class low room =
    let v = c.args.actor.now.me.0 in
    let w = c.see_epoch-epoch.new.actor.me.0 in
    let wide = c.free_ripe-3.new.actor.me.0 in
    let end = c.advance.new.actor.me.0 in
    let is = knowing_is v w c.see_epoch-epoch.result (ap (λ (me : _). me.0) c.see_epoch-epoch.ensures.seen.1) in
    let stock = c.see.new.self in
    let last = knowing_reclaimed wide end c.advance.ensures.tried.0.is in
    let freed = subst (λ (s : Stocked). FreesRipe (next_chain s.limbo class) s.limbo.seen w wide) c.see.ensures
    (each_class_freed stock.limbo stock w c.free_ripe.new.stock.limbo c.free_ripe.new.stock c.free_ripe.new.actor.me.0 c.free_ripe-2.new.stock.limbo
    c.free_ripe-2.new.stock c.free_ripe-2.new.actor.me.0 wide c.free_ripe.ensures.others c.free_ripe-2.ensures.others
    c.free_ripe.ensures.reclaimed c.free_ripe-2.ensures.reclaimed c.free_ripe-3.ensures.reclaimed (c.free_ripe.ensures.freed many)
    (c.free_ripe-2.ensures.freed many) (c.free_ripe-3.ensures.freed many) class low (subst (λ s. HasRoomFor s class kept_free) (sym c.see.ensures) room)) in
    freed_before (next_chain c.args.stock.now.limbo class) v.epoch v wide end
    (freed_after_seen (next_chain c.args.stock.now.limbo class) v.epoch c.see_epoch-epoch.result v w wide c.see_epoch-epoch.ensures.seen.0 is freed)
    last
