use Rattle.std.proofs.Common.{◌*◌, ◌==◌, [], ◌∷◌, Contains, sym, subst, arith}
use Rattle.std.proofs.lemmas.List.Elements.{Contains-get_or}
use Rattle.trie_words.specs.Codes.{link_code}
use Rattle.lock_free.specs.Exchanging.{HasRestored}
use Rattle.lock_free.specs.Loading.{IsSound}
use Rattle.lock_free.proofs.Asked.{links_of, link_stands}
use Rattle.lock_free.proofs.Exchanged.{exchange_by}
use Rattle.lock_free.proofs.RestoreStep.{restore_allowed, restore_told}
use Rattle.lock_free.proofs.Within.{both_inside}
use Rattle.lock_free.proofs.exchanges.restore.Goals as goal

pub compare_exchange-requires : goal.compare_exchange-requires
compare_exchange-requires c =
    let (i, main, replaced, p, place, is, names) = c.requires.restoring in
    let v = c.args.actor.now.me.0 in
    let named = subst (λ a. Contains (links_of a) i) (sym p.acts) (Contains-get_or (i ∷ []) 0 i (omega arith)) in
    let live = (link_stands v.sizes v.account c.requires.sound.bounds v.actor p.operation p.runs i named).0 in (
      c.requires.table,
      (both_inside c.args.words.now.table_id.words v c.requires.sound i c.args.indirection live place).0,
      exchange_by c.args.words.now.key c.args.words.now.table_id.slots c.args.actor.now.id c.args.actor.now.me (2 * c.args.indirection) (link_code c.args.link)
          (link_code (record { generation = c.args.link.generation; main = c.args.former })) c.to_word-failed.result c.to_word-restored.result c.to_word-failed.ensures c.to_word-restored.ensures
          (restore_allowed c.args.words.now.key c.args.words.now.table_id.slots c.args.actor.now.id c.args.actor.now.me c.requires.sound.bounds.1
          c.args.indirection c.args.link c.requires.fits c.args.former
          c.requires.restoring),
    )

pub returns-clause-restored : goal.returns-clause-restored
returns-clause-restored c =
    subst (λ n. HasRestored c.args.actor.now.me.0 (c.compare_exchange.result == n) c.compare_exchange.new.seat.me.0) (sym c.to_word-failed.ensures)
    (restore_told c.args.actor.now.me.0 c.args.indirection c.args.link c.requires.fits c.args.former c.requires.restoring c.compare_exchange.result c.compare_exchange.new.seat.me.0
    c.compare_exchange.ensures.2.0)

pub returns-clause-sound : goal.returns-clause-sound
returns-clause-sound c = subst (λ n. IsSound n c.compare_exchange.new.seat.me.0) (sym c.requires.sound.size) c.compare_exchange.ensures.2.1
