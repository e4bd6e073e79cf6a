use Rattle.std.proofs.Common.{sym, ap, subst, ◌∙◌}
use Rattle.lock_free.specs.OwnOffers.{once_unnamed, unnamed, IsAtOwnClean, IsItsOwn}
use Rattle.lock_free.specs.Rooting.{IsSettledAt}
use Rattle.lock_free.proofs.MovedOn.{done_own}
use Rattle.lock_free.proofs.OwnLooks.{clean_new_own, clean_old_own}
use Rattle.lock_free.proofs.parting.clean_own_settled.Goals.{then-is_carried_out, else-is_carried_out}
use Rattle.lock_free.proofs.parting.clean_own_settled.Goals as goal

pub clean_own-requires-clause-cleaning : goal.clean_own-requires-clause-cleaning
clean_own-requires-clause-cleaning c =
    let n = c.args.words.now.table_id.words in
    let v = c.args.actor.now.me.0 in
    elim c.if-is_carried_out.branch [
      | then-is_carried_out w ↦
          subst (λ x. IsAtOwnClean x.me.0 c.args.handle c.args.offer c.if-is_carried_out.root) (sym w.actor-is)
          (subst (λ r. IsAtOwnClean w.see_news.new.actor.me.0 c.args.handle c.args.offer r) (sym w.root-is)
          (clean_new_own n v c.requires.sound c.args.handle c.args.offer w.see_news.new.actor.me.0 w.see_news.result
          (subst (λ b. (d : IsSettledAt v c.args.handle c.args.offer b) × IsItsOwn v d.0.its) w.if-is_carried_out.true c.requires.settled) w.see_news.ensures.seen))
      | else-is_carried_out w ↦
          subst (λ x. IsAtOwnClean x.me.0 c.args.handle c.args.offer c.if-is_carried_out.root) (sym w.actor-is)
          (subst (λ r. IsAtOwnClean w.see_olds.new.actor.me.0 c.args.handle c.args.offer r) (sym w.root-is)
          (clean_old_own n v c.requires.sound c.args.handle c.args.offer w.see_olds.new.actor.me.0 w.see_olds.result
          (subst (λ b. (d : IsSettledAt v c.args.handle c.args.offer b) × IsItsOwn v d.0.its) w.if-is_carried_out.false c.requires.settled) w.see_olds.ensures.seen))
    ]

pub returns-clause-done : goal.returns-clause-done
returns-clause-done c =
    let n = c.args.words.now.table_id.words in
    let v = c.args.actor.now.me.0 in
    let done = ap (λ me. me.0) c.clean_own.ensures.cleaned in
    elim c.if-is_carried_out.branch [
      | then-is_carried_out w ↦
          done_own n v c.clean_own.new.actor.me.0 c.requires.sound w.see_news.new.actor.me.0 w.see_news.ensures.seen.0 once_unnamed (done ∙ ap (λ x. unnamed x.me.0) w.actor-is)
      | else-is_carried_out w ↦
          done_own n v c.clean_own.new.actor.me.0 c.requires.sound w.see_olds.new.actor.me.0 w.see_olds.ensures.seen.0 once_unnamed (done ∙ ap (λ x. unnamed x.me.0) w.actor-is)
    ]
