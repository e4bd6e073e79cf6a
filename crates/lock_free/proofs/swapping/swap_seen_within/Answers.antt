use Rattle.std.proofs.Common.{sym, subst}
use Rattle.lock_free.specs.Leaving.{HasLeftSwap}
use Rattle.lock_free.specs.LettingMadeGo.{KeepsNamed}
use Rattle.lock_free.specs.Stocks.{HasSwapped}
use Rattle.lock_free.proofs.Leavings.{if_err, if_ok}
use Rattle.lock_free.proofs.StockStays.{stock_stayed}
use Rattle.lock_free.proofs.SwapsSeen.{keeps_named, left_since, main_held, swap_then, swapped_since, way_then}
use Rattle.lock_free.proofs.swapping.swap_seen_within.Goals as goal

pub see_taken-requires-clause-held : goal.see_taken-requires-clause-held
see_taken-requires-clause-held c =
    main_held c.args.words.now.table_id.words c.args.actor.now.me.0 c.requires.sound c.args.indirection c.args.link c.args.class c.args.fresh c.requires.swapping

pub swap_made_within-requires-clause-stock : goal.swap_made_within-requires-clause-stock
swap_made_within-requires-clause-stock c =
    let at = c.requires.swapping in
    stock_stayed c.args.words.now.table_id.words c.args.actor.now.me.0 c.see_taken.new.actor.me.0 c.requires.sound at.4.0 at.4.1 c.args.stock.now c.requires.stock c.see_taken.ensures.seen.0

pub swap_made_within-requires-clause-way : goal.swap_made_within-requires-clause-way
swap_made_within-requires-clause-way c =
    way_then c.args.words.now.table_id.words c.args.actor.now.me.0 c.requires.sound c.args.indirection c.args.link c.args.class c.args.fresh c.requires.swapping c.see_taken.new.actor.me.0
    c.see_taken.ensures.seen.0 c.args.way c.requires.way

pub swap_made_within-requires-clause-swapping : goal.swap_made_within-requires-clause-swapping
swap_made_within-requires-clause-swapping c =
    swap_then c.args.words.now.table_id.words c.args.actor.now.me.0 c.requires.sound c.args.indirection c.args.link c.args.class c.args.fresh c.requires.swapping c.see_taken.new.actor.me.0
    c.see_taken.ensures.seen.0

pub swap_made_within-requires-clause-drops : goal.swap_made_within-requires-clause-drops
swap_made_within-requires-clause-drops c why i replaced made s = tt

pub swap_made_within-requires-clause-kept : goal.swap_made_within-requires-clause-kept
swap_made_within-requires-clause-kept c =
    subst (KeepsNamed c.see_taken.new.actor.me.0) (sym c.deref.ensures.0)
    (keeps_named c.args.words.now.table_id.words c.args.actor.now.me.0 c.requires.sound c.args.indirection c.args.link c.args.class c.args.fresh c.requires.swapping c.see_taken.new.actor.me.0
    c.see_taken.new.halves.items c.see_taken.ensures.seen)

pub returns-clause-done : goal.returns-clause-done
returns-clause-done c =
    let v = c.args.actor.now.me.0 in
    let w = c.see_taken.new.actor.me.0 in
    let z = c.swap_made_within.new.actor.me.0 in
    if_ok (λ swapped. HasSwapped w swapped z) (λ swapped. HasSwapped v swapped z)
    (λ swapped h. swapped_since c.args.words.now.table_id.words v c.requires.sound c.args.indirection c.args.link c.args.class c.args.fresh c.requires.swapping w
    c.see_taken.ensures.seen.0 swapped z h)
    c.swap_made_within.result c.swap_made_within.ensures.done

pub returns-clause-left : goal.returns-clause-left
returns-clause-left c =
    let v = c.args.actor.now.me.0 in
    let w = c.see_taken.new.actor.me.0 in
    let z = c.swap_made_within.new.actor.me.0 in
    if_err (λ left. HasLeftSwap w left z) (λ left. HasLeftSwap v left z)
    (λ left h. left_since c.args.words.now.table_id.words v c.requires.sound c.args.indirection c.args.link c.args.class c.args.fresh c.requires.swapping w
    c.see_taken.ensures.seen.0 left z h)
    c.swap_made_within.result c.swap_made_within.ensures.left
