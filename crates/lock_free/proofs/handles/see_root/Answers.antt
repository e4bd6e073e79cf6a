use Rattle.std.proofs.Common.{◌<◌, sym, subst}
use Rattle.lock_free.specs.HandleWords.{HasSeenRoot}
use Rattle.lock_free.specs.Loading.{HasSeen, IsSound}
use Rattle.lock_free.proofs.Moments.{load_allowed}
use Rattle.lock_free.proofs.SeenRoots.{root_told, root_inside}
use Rattle.lock_free.proofs.handles.see_root.Goals as goal

pub load-found-requires : goal.load-found-requires
load-found-requires c = (
  c.requires.table,
  subst (λ n. n < c.args.words.now.table_id.words) (sym c.root_word_of.ensures) (root_inside c.args.words.now.table_id.words c.args.actor.now.me.0 c.requires.sound c.args.handle c.requires.low),
  load_allowed c.args.words.now.key c.args.words.now.table_id.slots c.args.actor.now.id c.args.actor.now.me c.root_word_of.result c.requires.sound.bounds.1,
)

pub returns-clause-seen : goal.returns-clause-seen
returns-clause-seen c =
    let v = c.args.actor.now.me.0 in
    let after = c.load-found.new.seat.me.0 in
    let seen = subst (λ n. HasSeen v n c.load-found.result after) c.root_word_of.ensures c.load-found.ensures.2.0 in
    subst (λ x. HasSeenRoot v c.args.handle x after) (sym c.of_word.ensures) (root_told v c.args.handle c.load-found.result after c.requires.low seen)

pub returns-clause-sound : goal.returns-clause-sound
returns-clause-sound c = subst (λ n. IsSound n c.load-found.new.seat.me.0) (sym c.requires.sound.size) c.load-found.ensures.2.1
