use Rattle.std.proofs.Common.{◌+◌, ◌*◌, ◌/◌, ◌%◌, Bool, if◌then◌else◌, eq-eqb, ne_eqb, sym, ap, subst, ◌∙◌}
use Rattle.trie_words.specs.Codes.{entry_of}
use Rattle.trie_words.specs.declared.entries.Pair.{Pair}
use Rattle.lock_free.specs.Loading.{IsSound}
use Rattle.lock_free.specs.Nodes.{half_in}
use Rattle.lock_free.proofs.Watched.{entry_told, watch_allowed, watched_pair}
use Rattle.lock_free.proofs.watching.watch_entry.Goals as goal

pub load-requires : goal.load-requires
load-requires c = (
  c.requires.table,
  watched_pair c.args.words.now.table_id.words c.args.actor.now.me.0 c.requires.sound c.args.main c.args.position c.requires.led,
  watch_allowed c.args.words.now.key c.args.words.now.table_id.slots c.args.actor.now.id c.args.actor.now.me (2 * c.args.main + 1 + c.args.position / 2) c.requires.sound.bounds.1,
)

pub returns-then-position-eq0-clause-sound : goal.returns-then-position-eq0-clause-sound
returns-then-position-eq0-clause-sound c = subst (λ n. IsSound n c.load.new.seat.me.0) (sym c.requires.sound.size) c.load.ensures.2.1

pub returns-else-position-eq0-clause-sound : goal.returns-else-position-eq0-clause-sound
returns-else-position-eq0-clause-sound c = subst (λ n. IsSound n c.load.new.seat.me.0) (sym c.requires.sound.size) c.load.ensures.2.1

pub returns-then-position-eq0-clause-seen : goal.returns-then-position-eq0-clause-seen
returns-then-position-eq0-clause-seen c =
    let pair = c.of_word-pair.result in
    entry_told c.args.actor.now.me.0 c.args.main c.args.position c.load.result c.load.new.seat.me.0 c.requires.alone c.requires.idle c.load.ensures.2.0 c.of_half.result
    (c.of_half.ensures ∙ ap (λ (b : Bool). entry_of (if b then pair.low else pair.high)) (sym (eq-eqb (c.args.position % 2) 0 c.if-position-eq0.true))
    ∙ ap (λ (p : Pair). entry_of (half_in p c.args.position)) c.of_word-pair.ensures)

pub returns-else-position-eq0-clause-seen : goal.returns-else-position-eq0-clause-seen
returns-else-position-eq0-clause-seen c =
    let pair = c.of_word-pair.result in
    entry_told c.args.actor.now.me.0 c.args.main c.args.position c.load.result c.load.new.seat.me.0 c.requires.alone c.requires.idle c.load.ensures.2.0 c.of_half-else-position-eq0.result
    (c.of_half-else-position-eq0.ensures ∙ ap (λ (b : Bool). entry_of (if b then pair.low else pair.high)) (sym (ne_eqb (c.args.position % 2) 0 c.if-position-eq0.false))
    ∙ ap (λ (p : Pair). entry_of (half_in p c.args.position)) c.of_word-pair.ensures)
