use Rattle.std.proofs.Common.{sym, ap, subst, ◌∙◌}
use Rattle.lock_free.specs.OwnOffers.{once_unopening, unopening, IsAtOwnOpen, IsItsOwn}
use Rattle.lock_free.specs.RootWords.{IsOpenedBy}
use Rattle.lock_free.proofs.Cleanings.{opening_known}
use Rattle.lock_free.proofs.MovedOn.{done_own}
use Rattle.lock_free.proofs.OwnLooks.{open_copy_own, open_old_own}
use Rattle.lock_free.proofs.parting.open_handle.Goals.{then-is_writable, else-is_writable}
use Rattle.lock_free.proofs.parting.open_handle.Goals as goal

pub see_news-requires-clause-known : goal.see_news-requires-clause-known
see_news-requires-clause-known c = opening_known c.args.actor.now.me.0 c.args.handle c.args.offer c.requires.opened.0.0

pub see_olds-requires-clause-known : goal.see_olds-requires-clause-known
see_olds-requires-clause-known c = opening_known c.args.actor.now.me.0 c.args.handle c.args.offer c.requires.opened.0.0

pub open_own-requires-clause-opening : goal.open_own-requires-clause-opening
open_own-requires-clause-opening c =
    let n = c.args.words.now.table_id.words in
    let v = c.args.actor.now.me.0 in
    elim c.if-is_writable.branch [
      | then-is_writable w ↦
          subst (λ x. IsAtOwnOpen x.me.0 c.args.handle c.args.offer c.if-is_writable.opened) (sym w.actor-is)
          (subst (λ r. IsAtOwnOpen w.see_news.new.actor.me.0 c.args.handle c.args.offer r) (sym w.opened-is)
          (open_copy_own n v c.requires.sound c.args.handle c.args.offer w.see_news.new.actor.me.0 w.see_news.result
          (subst (λ b. (h : IsOpenedBy v c.args.handle c.args.offer b) × IsItsOwn v h.0.its) w.if-is_writable.true c.requires.opened) w.see_news.ensures.seen))
      | else-is_writable w ↦
          subst (λ x. IsAtOwnOpen x.me.0 c.args.handle c.args.offer c.if-is_writable.opened) (sym w.actor-is)
          (subst (λ r. IsAtOwnOpen w.see_olds.new.actor.me.0 c.args.handle c.args.offer r) (sym w.opened-is)
          (open_old_own n v c.requires.sound c.args.handle c.args.offer w.see_olds.new.actor.me.0 w.see_olds.result
          (subst (λ b. (h : IsOpenedBy v c.args.handle c.args.offer b) × IsItsOwn v h.0.its) w.if-is_writable.false c.requires.opened) w.see_olds.ensures.seen))
    ]

pub returns-clause-done : goal.returns-clause-done
returns-clause-done c =
    let n = c.args.words.now.table_id.words in
    let v = c.args.actor.now.me.0 in
    let done = ap (λ me. me.0) c.open_own.ensures.opened in
    elim c.if-is_writable.branch [
      | then-is_writable w ↦
          done_own n v c.open_own.new.actor.me.0 c.requires.sound w.see_news.new.actor.me.0 w.see_news.ensures.seen.0 once_unopening (done ∙ ap (λ x. unopening x.me.0) w.actor-is)
      | else-is_writable w ↦
          done_own n v c.open_own.new.actor.me.0 c.requires.sound w.see_olds.new.actor.me.0 w.see_olds.ensures.seen.0 once_unopening (done ∙ ap (λ x. unopening x.me.0) w.actor-is)
    ]
