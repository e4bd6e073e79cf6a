use Rattle.std.proofs.Common.{sym, ap, subst, arith}
use Rattle.lock_free.specs.Loading.{IsSound}
use Rattle.lock_free.proofs.SplitSeats.{splits, left_sound, right_sound}
use Rattle.lock_free.proofs.opening.split.Goals as goal

pub split_seat-requires : goal.split_seat-requires
split_seat-requires c =
    let size = c.requires.sound.size in
    (c.requires.table, omega (arith, size), splits c.args.words.now.key c.args.actor.now.id c.args.actor.now.me.0 c.requires.sound.bounds.1 c.requires.more)

pub returns-clause-sound : goal.returns-clause-sound
returns-clause-sound c =
    let words = c.args.words.now.table_id.words in
    let v = c.args.actor.now.me.0 in (
      subst (λ w. IsSound words w) (sym (ap (λ me. me.0) c.split_seat.ensures.2)) (left_sound words v c.requires.sound),
      subst (λ w. IsSound words w) (sym (ap (λ me. me.0) c.split_seat.ensures.4)) (right_sound words v c.requires.sound),
    )
