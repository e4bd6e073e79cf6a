use Rattle.std.proofs.Common.{◌+◌, ◌*◌, ◌/◌, sym, ap, subst, ◌∙◌}
use Rattle.trie_words.specs.Codes.{entry_of}
use Rattle.lock_free.specs.Loading.{IsSound}
use Rattle.lock_free.specs.Nodes.{half_in}
use Rattle.lock_free.proofs.Moments.{load_allowed}
use Rattle.lock_free.proofs.SamePlaces.{compared}
use Rattle.lock_free.proofs.Within.{pair_inside}
use Rattle.lock_free.proofs.climbing.leads_to.Goals as goal

pub load-found-requires : goal.load-found-requires
load-found-requires c = (
  c.requires.table,
  pair_inside c.args.words.now.table_id.words c.args.actor.now.me.0 c.requires.sound c.args.main c.args.position c.requires.held,
  load_allowed c.args.words.now.key c.args.words.now.table_id.slots c.args.actor.now.id c.args.actor.now.me (2 * c.args.main + 1 + c.args.position / 2) c.requires.sound.bounds.1,
)

pub returns-clause-compared : goal.returns-clause-compared
returns-clause-compared c =
    compared c.args.words.now.table_id.words c.args.actor.now.me.0 c.requires.sound c.args.main c.args.position c.args.indirection c.load-found.result c.load-found.new.seat.me.0
    c.load-found.ensures.2.0 c.entry_in.result (c.entry_in.ensures ∙ ap (λ p. entry_of (half_in p c.args.position)) c.of_word.ensures)

pub returns-clause-sound : goal.returns-clause-sound
returns-clause-sound c = subst (λ n. IsSound n c.load-found.new.seat.me.0) (sym c.requires.sound.size) c.load-found.ensures.2.1
