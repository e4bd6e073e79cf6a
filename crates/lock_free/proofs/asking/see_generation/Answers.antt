use Rattle.std.proofs.Common.{◌*◌, ◌<◌, ◌^◌, sym, subst, ap, arith}
use Rattle.trie_words.specs.declared.links.Link.{Link}
use Rattle.lock_free.specs.Loading.{IsSound}
use Rattle.lock_free.specs.RootWords.{HasSeenGeneration}
use Rattle.lock_free.proofs.FormerRoots.{root_word_inside, generation_told}
use Rattle.lock_free.proofs.Moments.{load_allowed}
use Rattle.lock_free.proofs.asking.see_generation.Goals as goal

pub load-requires : goal.load-requires
load-requires c = (
  c.requires.table,
  root_word_inside c.args.words.now.table_id.words c.args.actor.now.me.0 c.requires.sound c.requires.root.0 c.args.root c.requires.root.1,
  load_allowed c.args.words.now.key c.args.words.now.table_id.slots c.args.actor.now.id c.args.actor.now.me (2 * c.args.root) c.requires.sound.bounds.1,
)

pub returns-clause-seen : goal.returns-clause-seen
returns-clause-seen c =
    let v = c.args.actor.now.me.0 in
    let after = c.load.new.seat.me.0 in
    subst (λ n. HasSeenGeneration v c.args.root n after) (sym (ap (λ (l : Link). l.generation) c.of_word.ensures)) (generation_told v c.args.root c.load.result after c.load.ensures.2.0)

pub returns-clause-sound : goal.returns-clause-sound
returns-clause-sound c = subst (λ n. IsSound n c.load.new.seat.me.0) (sym c.requires.sound.size) c.load.ensures.2.1

pub returns-clause-small : goal.returns-clause-small
returns-clause-small c =
    let fits = c.load.type_inv in subst (λ k. k < 2 ^ 36) (sym (ap (λ (l : Link). l.generation) c.of_word.ensures)) (omega (arith, fits))
