use Rattle.std.proofs.Common.{◌*◌, true, [], ◌∷◌, Contains, sym, subst, arith}
use Rattle.std.proofs.lemmas.List.Elements.{Contains-get_or}
use Rattle.trie_words.specs.Codes.{link_code}
use Rattle.lock_free.specs.Loading.{IsSound}
use Rattle.lock_free.proofs.Asked.{links_of, mains_of, link_stands, main_stands}
use Rattle.lock_free.proofs.PublishStep.{publish_by, publish_allowed, publish_told}
use Rattle.lock_free.proofs.Within.{both_inside}
use Rattle.lock_free.proofs.exchanges.publish.Goals as goal

pub to_word-swapped-requires : goal.to_word-swapped-requires
to_word-swapped-requires c =
    let (i, replaced, made, p, place, is, fresh) = c.requires.publishing in
    let v = c.args.actor.now.me.0 in
    let named = subst (λ a. Contains (mains_of a) made) (sym p.acts) (Contains-get_or (replaced ∷ made ∷ []) 1 made (omega arith)) in
    let live = (main_stands v.sizes v.account c.requires.sound.bounds v.actor p.operation p.runs made named).0 in
    let inside = (both_inside c.args.words.now.table_id.words v c.requires.sound made c.args.fresh live fresh).1 in
    let size = c.requires.sound.size in
    let range = c.requires.sound.range in
    (c.requires.fits.0, omega (arith, inside, size, range))

pub compare_exchange-requires : goal.compare_exchange-requires
compare_exchange-requires c =
    let (i, replaced, made, p, place, is, fresh) = c.requires.publishing in
    let v = c.args.actor.now.me.0 in
    let named = subst (λ a. Contains (links_of a) i) (sym p.acts) (Contains-get_or (i ∷ []) 0 i (omega arith)) in
    let live = (link_stands v.sizes v.account c.requires.sound.bounds v.actor p.operation p.runs i named).0 in (
      c.requires.table,
      (both_inside c.args.words.now.table_id.words v c.requires.sound i c.args.indirection live place).0,
      publish_by c.args.words.now.key c.args.words.now.table_id.slots c.args.actor.now.id c.args.actor.now.me (2 * c.args.indirection) (link_code c.args.link)
          (link_code (record { generation = c.args.link.generation; main = record { slot = c.args.fresh; own = true } })) c.to_word-before.result c.to_word-swapped.result c.to_word-before.ensures
          c.to_word-swapped.ensures
          (publish_allowed c.args.words.now.key c.args.words.now.table_id.slots c.args.actor.now.id c.args.actor.now.me c.requires.sound.bounds.1
          c.args.indirection c.args.link c.requires.fits c.args.fresh
          c.requires.publishing),
    )

pub returns-clause-published : goal.returns-clause-published
returns-clause-published c =
    publish_told c.args.actor.now.me.0 (2 * c.args.indirection) c.compare_exchange.result c.to_word-before.result c.compare_exchange.new.seat.me.0 c.compare_exchange.ensures.2.0

pub returns-clause-sound : goal.returns-clause-sound
returns-clause-sound c = subst (λ n. IsSound n c.compare_exchange.new.seat.me.0) (sym c.requires.sound.size) c.compare_exchange.ensures.2.1
