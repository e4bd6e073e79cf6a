use Rattle.std.proofs.Common.{false, ap, subst, ◌∙◌}
use Rattle.lock_free.specs.declared.reclaiming.Kind.TheVariants as kinds
use Rattle.lock_free.specs.CopyGifts.{main_given, root_given}
use Rattle.lock_free.specs.CopySteps.{HasCopied, copied_line}
use Rattle.lock_free.specs.Counts.{how_often}
use Rattle.lock_free.specs.Outcomes.{HasConcluded}
use Rattle.lock_free.proofs.CopiesHung.{moved_hung}
use Rattle.lock_free.proofs.CopiesLeft.{carried_stock, completes_own, concluding, copied_on, ends, left_roots, moved_own, on_stock}
use Rattle.lock_free.proofs.CopyOutcome.{copied_then, main_given_so, may_hung, owed_hung, private_none, root_gifts, root_may, then}
use Rattle.lock_free.proofs.OffersLater.{offer_later}
use Rattle.lock_free.proofs.SharedMakes.{stock_kept}
use Rattle.lock_free.proofs.copies.complete_own_on.Goals as goal

pub is_expected_on-requires-clause-completing : goal.is_expected_on-requires-clause-completing
is_expected_on-requires-clause-completing c = completes_own c.args.actor.now.me.0 c.args.way.handle c.args.completing c.requires.completing

pub returns-in-Err-clause-on : goal.returns-in-Err-clause-on
returns-in-Err-clause-on c = copied_on c.args.actor.now.me.0 c.args.way.handle c.args.completing c.requires.completing c.in-Err.next c.is_expected_on.new.actor.me.0 (c.in-Err.ensures {u = tt}).on

pub returns-in-Err-clause-stock : goal.returns-in-Err-clause-stock
returns-in-Err-clause-stock c =
    on_stock c.args.actor.now.me.0 c.args.way.handle c.args.completing c.requires.completing c.args.words.now.table_id.words c.requires.sound c.in-Err.next c.is_expected_on.new.actor.me.0
    (copied_on c.args.actor.now.me.0 c.args.way.handle c.args.completing c.requires.completing c.in-Err.next c.is_expected_on.new.actor.me.0 (c.in-Err.ensures {u =
    tt}).on) c.args.stock.now c.requires.stock

-- ---- it looks

pub see_copy_main-main-requires-clause-known : goal.see_copy_main-main-requires-clause-known
see_copy_main-main-requires-clause-known c = (
  c.args.way.handle,
  offer_later c.args.actor.now.me.0 c.is_expected_on.new.actor.me.0 (c.in-Ok.ensures {u = tt}).expected.come.later c.args.way.handle c.args.completing.offer c.requires.completing.its,
)

pub see_copy_main-main-requires-clause-concluding : goal.see_copy_main-main-requires-clause-concluding
see_copy_main-main-requires-clause-concluding c = (
  c.in-Ok.is_expected,
  concluding c.args.actor.now.me.0 c.args.way.handle c.args.completing c.requires.completing c.is_expected_on.new.actor.me.0 c.args.words.now.table_id.words c.requires.sound
      c.is_expected_on.ensures.sound c.in-Ok.is_expected (c.in-Ok.ensures {u = tt}).expected,
)

pub conclude-requires-clause-concluding : goal.conclude-requires-clause-concluding
conclude-requires-clause-concluding c =
    let before = c.args.actor.now.me.0 in
    let n = c.args.words.now.table_id.words in
    let u = c.see_copy_main-main.new.actor.me.0 in
    let r = then before c.args.way.handle c.args.completing c.requires.completing c.args.which c.requires.which n c.requires.sound c.in-Ok.is_expected c.is_expected_on.new.actor.me.0
    c.is_expected_on.ensures.sound (c.in-Ok.ensures {u = tt}).expected c.see_copy_main-main.result u c.see_copy_main-main.ensures.saw in
    concluding before c.args.way.handle c.args.completing c.requires.completing u n c.requires.sound c.see_copy_main-main.ensures.sound c.in-Ok.is_expected r

-- ---- it was carried out

pub release_root-requires-clause-sizes : goal.release_root-requires-clause-sizes
release_root-requires-clause-sizes c =
    let before = c.args.actor.now.me.0 in
    let n = c.args.words.now.table_id.words in
    let u = c.see_copy_main-main.new.actor.me.0 in
    let r = then before c.args.way.handle c.args.completing c.requires.completing c.args.which c.requires.which n c.requires.sound c.in-Ok.is_expected c.is_expected_on.new.actor.me.0
    c.is_expected_on.ensures.sound (c.in-Ok.ensures {u = tt}).expected c.see_copy_main-main.result u c.see_copy_main-main.ensures.saw in
    (carried_stock before c.args.way.handle c.args.completing c.requires.completing u n c.requires.sound c.see_copy_main-main.ensures.sound c.in-Ok.is_expected r c.conclude.new.actor.me.0
    c.conclude.ensures.sound c.conclude.result c.conclude.ensures.concluded c.if-conclude.true c.args.stock.now c.requires.stock).sizes

pub release_root-requires-clause-limbo : goal.release_root-requires-clause-limbo
release_root-requires-clause-limbo c =
    let before = c.args.actor.now.me.0 in
    let n = c.args.words.now.table_id.words in
    let u = c.see_copy_main-main.new.actor.me.0 in
    let r = then before c.args.way.handle c.args.completing c.requires.completing c.args.which c.requires.which n c.requires.sound c.in-Ok.is_expected c.is_expected_on.new.actor.me.0
    c.is_expected_on.ensures.sound (c.in-Ok.ensures {u = tt}).expected c.see_copy_main-main.result u c.see_copy_main-main.ensures.saw in
    (carried_stock before c.args.way.handle c.args.completing c.requires.completing u n c.requires.sound c.see_copy_main-main.ensures.sound c.in-Ok.is_expected r c.conclude.new.actor.me.0
    c.conclude.ensures.sound c.conclude.result c.conclude.ensures.concluded c.if-conclude.true c.args.stock.now c.requires.stock).limbo

pub release_root-requires-clause-given : goal.release_root-requires-clause-given
release_root-requires-clause-given c =
    let before = c.args.actor.now.me.0 in
    let n = c.args.words.now.table_id.words in
    let u = c.see_copy_main-main.new.actor.me.0 in
    let r = then before c.args.way.handle c.args.completing c.requires.completing c.args.which c.requires.which n c.requires.sound c.in-Ok.is_expected c.is_expected_on.new.actor.me.0
    c.is_expected_on.ensures.sound (c.in-Ok.ensures {u = tt}).expected c.see_copy_main-main.result u c.see_copy_main-main.ensures.saw in (
      c.requires.completing.its.its.offer.root,
      root_may before c.args.way.handle c.args.completing c.requires.completing c.args.which c.requires.which n c.requires.sound c.in-Ok.is_expected u c.see_copy_main-main.ensures.sound r
          c.conclude.new.actor.me.0 c.conclude.ensures.sound c.conclude.result c.conclude.ensures.concluded c.if-conclude.true,
    )

pub returns-then-conclude-clause-stock : goal.returns-then-conclude-clause-stock
returns-then-conclude-clause-stock c =
    let before = c.args.actor.now.me.0 in
    let n = c.args.words.now.table_id.words in
    let u = c.see_copy_main-main.new.actor.me.0 in
    let x = c.conclude.new.actor.me.0 in
    let z = c.release_root.new.actor.me.0 in
    let root = c.requires.completing.its.its.offer.root in
    let r = then before c.args.way.handle c.args.completing c.requires.completing c.args.which c.requires.which n c.requires.sound c.in-Ok.is_expected c.is_expected_on.new.actor.me.0
    c.is_expected_on.ensures.sound (c.in-Ok.ensures {u = tt}).expected c.see_copy_main-main.result u c.see_copy_main-main.ensures.saw in
    let may = root_may before c.args.way.handle c.args.completing c.requires.completing c.args.which c.requires.which n c.requires.sound c.in-Ok.is_expected u c.see_copy_main-main.ensures.sound r x
    c.conclude.ensures.sound c.conclude.result c.conclude.ensures.concluded c.if-conclude.true in
    stock_kept c.args.stock.now c.release_root.new.stock x z.owed z
    (carried_stock before c.args.way.handle c.args.completing c.requires.completing u n c.requires.sound c.see_copy_main-main.ensures.sound c.in-Ok.is_expected r x c.conclude.ensures.sound
    c.conclude.result c.conclude.ensures.concluded c.if-conclude.true c.args.stock.now c.requires.stock)
    (c.release_root.ensures.released root may).kept c.release_root.ensures.same c.release_root.ensures.limbo

pub returns-then-conclude-clause-copied : goal.returns-then-conclude-clause-copied
returns-then-conclude-clause-copied c =
    let before = c.args.actor.now.me.0 in
    let n = c.args.words.now.table_id.words in
    let u = c.see_copy_main-main.new.actor.me.0 in
    let x = c.conclude.new.actor.me.0 in
    let z = c.release_root.new.actor.me.0 in
    let root = c.requires.completing.its.its.offer.root in
    let r = then before c.args.way.handle c.args.completing c.requires.completing c.args.which c.requires.which n c.requires.sound c.in-Ok.is_expected c.is_expected_on.new.actor.me.0
    c.is_expected_on.ensures.sound (c.in-Ok.ensures {u = tt}).expected c.see_copy_main-main.result u c.see_copy_main-main.ensures.saw in
    let may = root_may before c.args.way.handle c.args.completing c.requires.completing c.args.which c.requires.which n c.requires.sound c.in-Ok.is_expected u c.see_copy_main-main.ensures.sound r x
    c.conclude.ensures.sound c.conclude.result c.conclude.ensures.concluded c.if-conclude.true in
    subst (λ b. HasCopied before b z) c.if-conclude.true
    (copied_then before x z c.conclude.result
    (moved_own before c.args.way.handle c.args.completing c.requires.completing u n c.requires.sound c.see_copy_main-main.ensures.sound c.in-Ok.is_expected r x c.conclude.ensures.sound
    c.conclude.result c.conclude.ensures.concluded)
    (root_given c.args.which root)
    (root_gifts before c.args.way.handle c.args.completing c.requires.completing c.args.which c.requires.which n c.requires.sound c.in-Ok.is_expected u c.see_copy_main-main.ensures.sound r x
    c.conclude.ensures.sound c.conclude.result c.conclude.ensures.concluded c.if-conclude.true) (c.release_root.ensures.released root may))

-- ---- it was taken back

pub hang_left-requires-clause-left : goal.hang_left-requires-clause-left
hang_left-requires-clause-left c =
    let before = c.args.actor.now.me.0 in
    let n = c.args.words.now.table_id.words in
    let u = c.see_copy_main-main.new.actor.me.0 in
    let r = then before c.args.way.handle c.args.completing c.requires.completing c.args.which c.requires.which n c.requires.sound c.in-Ok.is_expected c.is_expected_on.new.actor.me.0
    c.is_expected_on.ensures.sound (c.in-Ok.ensures {u = tt}).expected c.see_copy_main-main.result u c.see_copy_main-main.ensures.saw in
    left_roots before c.args.way.handle c.args.completing c.requires.completing u n c.requires.sound c.see_copy_main-main.ensures.sound c.in-Ok.is_expected r c.conclude.new.actor.me.0
    c.conclude.ensures.sound c.conclude.result c.conclude.ensures.concluded c.if-conclude.false c.args.stock.now c.requires.stock

pub release_main-requires-clause-sizes : goal.release_main-requires-clause-sizes
release_main-requires-clause-sizes c = c.hang_left.ensures.stock.sizes

pub release_main-requires-clause-limbo : goal.release_main-requires-clause-limbo
release_main-requires-clause-limbo c = c.hang_left.ensures.stock.limbo

pub release_main-requires-clause-given : goal.release_main-requires-clause-given
release_main-requires-clause-given c =
    let before = c.args.actor.now.me.0 in
    let n = c.args.words.now.table_id.words in
    let s = c.args.completing in
    let to = c.requires.completing in
    let u = c.see_copy_main-main.new.actor.me.0 in
    let x = c.conclude.new.actor.me.0 in
    let y = c.hang_left.new.actor.me.0 in
    let r = then before c.args.way.handle s to c.args.which c.requires.which n c.requires.sound c.in-Ok.is_expected c.is_expected_on.new.actor.me.0 c.is_expected_on.ensures.sound
    (c.in-Ok.ensures {u = tt}).expected c.see_copy_main-main.result u c.see_copy_main-main.ensures.saw in
    let h = subst (λ b. HasConcluded u b x) c.if-conclude.false c.conclude.ensures.concluded in
    let g = main_given_so before c.args.way.handle s to c.args.which c.requires.which n c.requires.sound c.in-Ok.is_expected c.is_expected_on.new.actor.me.0 c.is_expected_on.ensures.sound
    (c.in-Ok.ensures {u = tt}).expected c.see_copy_main-main.result u c.see_copy_main-main.ensures.saw c.see_copy_main-main.ensures.sound x c.conclude.ensures.sound h in
    let may = may_hung n x c.conclude.ensures.sound y c.hang_left.ensures.hung (record to.at.0 { line = copied_line false to.at.0 })
    (ends before c.args.way.handle s to u n c.requires.sound c.see_copy_main-main.ensures.sound c.in-Ok.is_expected r x c.conclude.ensures.sound false h to.at.0 to.at.1)
    (private_none before c.args.way.handle s to c.args.which c.requires.which n c.requires.sound c.in-Ok.is_expected u c.see_copy_main-main.ensures.sound r x c.conclude.ensures.sound false h)
    g.node kinds.Main c.see_copy_main-main.result.class c.see_copy_main-main.result.slot (main_given c.args.which g.node) g.may in
    (g.node, may)

pub returns-clause-stock : goal.returns-clause-stock
returns-clause-stock c =
    let before = c.args.actor.now.me.0 in
    let n = c.args.words.now.table_id.words in
    let s = c.args.completing in
    let to = c.requires.completing in
    let u = c.see_copy_main-main.new.actor.me.0 in
    let x = c.conclude.new.actor.me.0 in
    let y = c.hang_left.new.actor.me.0 in
    let r = then before c.args.way.handle s to c.args.which c.requires.which n c.requires.sound c.in-Ok.is_expected c.is_expected_on.new.actor.me.0 c.is_expected_on.ensures.sound
    (c.in-Ok.ensures {u = tt}).expected c.see_copy_main-main.result u c.see_copy_main-main.ensures.saw in
    let h = subst (λ b. HasConcluded u b x) c.if-conclude.false c.conclude.ensures.concluded in
    let g = main_given_so before c.args.way.handle s to c.args.which c.requires.which n c.requires.sound c.in-Ok.is_expected c.is_expected_on.new.actor.me.0 c.is_expected_on.ensures.sound
    (c.in-Ok.ensures {u = tt}).expected c.see_copy_main-main.result u c.see_copy_main-main.ensures.saw c.see_copy_main-main.ensures.sound x c.conclude.ensures.sound h in
    let may = may_hung n x c.conclude.ensures.sound y c.hang_left.ensures.hung (record to.at.0 { line = copied_line false to.at.0 })
    (ends before c.args.way.handle s to u n c.requires.sound c.see_copy_main-main.ensures.sound c.in-Ok.is_expected r x c.conclude.ensures.sound false h to.at.0 to.at.1)
    (private_none before c.args.way.handle s to c.args.which c.requires.which n c.requires.sound c.in-Ok.is_expected u c.see_copy_main-main.ensures.sound r x c.conclude.ensures.sound false h)
    g.node kinds.Main c.see_copy_main-main.result.class c.see_copy_main-main.result.slot (main_given c.args.which g.node) g.may in
    let z = c.release_main.new.actor.me.0 in
    stock_kept c.hang_left.new.stock c.release_main.new.stock y z.owed z c.hang_left.ensures.stock (c.release_main.ensures.released g.node may).kept c.release_main.ensures.same
    c.release_main.ensures.limbo

pub returns-clause-copied : goal.returns-clause-copied
returns-clause-copied c =
    let before = c.args.actor.now.me.0 in
    let n = c.args.words.now.table_id.words in
    let s = c.args.completing in
    let to = c.requires.completing in
    let u = c.see_copy_main-main.new.actor.me.0 in
    let x = c.conclude.new.actor.me.0 in
    let y = c.hang_left.new.actor.me.0 in
    let r = then before c.args.way.handle s to c.args.which c.requires.which n c.requires.sound c.in-Ok.is_expected c.is_expected_on.new.actor.me.0 c.is_expected_on.ensures.sound
    (c.in-Ok.ensures {u = tt}).expected c.see_copy_main-main.result u c.see_copy_main-main.ensures.saw in
    let h = subst (λ b. HasConcluded u b x) c.if-conclude.false c.conclude.ensures.concluded in
    let g = main_given_so before c.args.way.handle s to c.args.which c.requires.which n c.requires.sound c.in-Ok.is_expected c.is_expected_on.new.actor.me.0 c.is_expected_on.ensures.sound
    (c.in-Ok.ensures {u = tt}).expected c.see_copy_main-main.result u c.see_copy_main-main.ensures.saw c.see_copy_main-main.ensures.sound x c.conclude.ensures.sound h in
    let may = may_hung n x c.conclude.ensures.sound y c.hang_left.ensures.hung (record to.at.0 { line = copied_line false to.at.0 })
    (ends before c.args.way.handle s to u n c.requires.sound c.see_copy_main-main.ensures.sound c.in-Ok.is_expected r x c.conclude.ensures.sound false h to.at.0 to.at.1)
    (private_none before c.args.way.handle s to c.args.which c.requires.which n c.requires.sound c.in-Ok.is_expected u c.see_copy_main-main.ensures.sound r x c.conclude.ensures.sound false h)
    g.node kinds.Main c.see_copy_main-main.result.class c.see_copy_main-main.result.slot (main_given c.args.which g.node) g.may in
    let z = c.release_main.new.actor.me.0 in
    copied_then before y z false
    (moved_hung n before x c.conclude.ensures.sound false
    (moved_own before c.args.way.handle s to u n c.requires.sound c.see_copy_main-main.ensures.sound c.in-Ok.is_expected r x c.conclude.ensures.sound false h) y c.hang_left.ensures.hung)
    (main_given c.args.which g.node) (λ j. ap (how_often j) (owed_hung x y c.hang_left.ensures.hung) ∙ g.gifts j) (c.release_main.ensures.released g.node may)
