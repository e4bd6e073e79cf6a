use Rattle.std.proofs.Common.{sym, subst}
use Rattle.lock_free.specs.Rooting.{IsSettledAt}
use Rattle.lock_free.specs.RootWords.{IsAtClean}
use Rattle.lock_free.proofs.Cleanings.{clean_new, clean_old}
use Rattle.lock_free.proofs.rooting.clean_settled.Goals.{then-is_carried_out, else-is_carried_out}
use Rattle.lock_free.proofs.rooting.clean_settled.Goals as goal

pub clean-requires-clause-cleaning : goal.clean-requires-clause-cleaning
clean-requires-clause-cleaning c =
    let n = c.args.words.now.table_id.words in
    let v = c.args.actor.now.me.0 in
    elim c.if-is_carried_out.branch [
      | then-is_carried_out w ↦
          subst (λ x. IsAtClean x.me.0 c.args.handle c.args.offer c.if-is_carried_out.root) (sym w.actor-is)
          (subst (λ r. IsAtClean w.see_news.new.actor.me.0 c.args.handle c.args.offer r) (sym w.root-is)
          (clean_new n v c.requires.sound c.args.handle c.args.offer w.see_news.new.actor.me.0 w.see_news.result
          (subst (λ b. IsSettledAt v c.args.handle c.args.offer b) w.if-is_carried_out.true c.requires.settled) w.see_news.ensures.seen))
      | else-is_carried_out w ↦
          subst (λ x. IsAtClean x.me.0 c.args.handle c.args.offer c.if-is_carried_out.root) (sym w.actor-is)
          (subst (λ r. IsAtClean w.see_olds.new.actor.me.0 c.args.handle c.args.offer r) (sym w.root-is)
          (clean_old n v c.requires.sound c.args.handle c.args.offer w.see_olds.new.actor.me.0 w.see_olds.result
          (subst (λ b. IsSettledAt v c.args.handle c.args.offer b) w.if-is_carried_out.false c.requires.settled) w.see_olds.ensures.seen))
    ]
