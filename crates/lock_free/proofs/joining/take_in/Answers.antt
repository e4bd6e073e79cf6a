use Rattle.std.proofs.Common.{◌≤◌, sym, ap, subst, ◌∙◌, arith}
use Rattle.lock_free.specs.declared.rules.View.{View}
use Rattle.lock_free.specs.Places.{words_of}
use Rattle.lock_free.specs.Loading.{IsSound}
use Rattle.lock_free.proofs.Joins.{has_joined}
use Rattle.lock_free.proofs.Watched.{watch_allowed}
use Rattle.lock_free.proofs.joining.take_in.Goals as goal

pub load-requires : goal.load-requires
load-requires c =
    let mid = c.hear.new.actor in
    let size = c.requires.sound.0.size in (
      c.hear.ensures.table ∙ c.requires.table.0,
      omega (arith, size),
      watch_allowed c.args.words.now.key c.args.words.now.table_id.slots mid.id mid.me 0
          (subst (λ z. 1 ≤ z.seats) (sym (ap (λ (x : View). x.sizes) c.hear.ensures.more.is)) c.requires.sound.0.bounds.1),
    )

pub returns-clause-sound : goal.returns-clause-sound
returns-clause-sound c =
    subst (λ n. IsSound n c.load.new.seat.me.0) (ap (λ (x : View). words_of x.sizes) c.hear.ensures.more.is ∙ sym c.requires.sound.0.size) c.load.ensures.2.1

pub returns-clause-joined : goal.returns-clause-joined
returns-clause-joined c =
    has_joined c.args.actor.now.me.0 c.args.other.me.0 c.hear.new.actor.me.0 c.hear.ensures.more c.hear.ensures.heard c.requires.sizes c.requires.rests 0 c.load.result
    c.load.new.seat.me.0 c.load.ensures.2.0
