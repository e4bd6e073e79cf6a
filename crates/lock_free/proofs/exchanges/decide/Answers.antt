use Rattle.std.proofs.Common.{◌*◌, ◌==◌, [], ◌∷◌, Contains, sym, subst, ap, arith, ◌∙◌}
use Rattle.std.proofs.lemmas.List.Elements.{Contains-get_or}
use Rattle.trie_words.specs.Codes.{header_code}
use Rattle.lock_free.specs.Exchanging.{decided_header, HasDecided}
use Rattle.lock_free.specs.Loading.{IsSound}
use Rattle.lock_free.proofs.Asked.{mains_of, main_stands}
use Rattle.lock_free.proofs.DecideStep.{decide_allowed, decide_told}
use Rattle.lock_free.proofs.Exchanged.{exchange_by}
use Rattle.lock_free.proofs.Within.{both_inside}
use Rattle.lock_free.proofs.exchanges.decide.Goals as goal

pub compare_exchange-requires : goal.compare_exchange-requires
compare_exchange-requires c =
    let (i, main, replaced, told, p, place, over, license) = c.requires.deciding in
    let v = c.args.actor.now.me.0 in
    let named = subst (λ a. Contains (mains_of a) main) (sym p.acts) (Contains-get_or (main ∷ replaced ∷ []) 0 main (omega arith)) in
    let live = (main_stands v.sizes v.account c.requires.sound.bounds v.actor p.operation p.runs main named).0 in (
      c.requires.table,
      (both_inside c.args.words.now.table_id.words v c.requires.sound main c.args.main live place).0,
      exchange_by c.args.words.now.key c.args.words.now.table_id.slots c.args.actor.now.id c.args.actor.now.me (2 * c.args.main) (header_code c.args.header)
          (header_code (decided_header c.args.is_licensed c.args.header))
          c.to_word-pending.result c.to_word-decided.result c.to_word-pending.ensures (c.to_word-decided.ensures ∙ ap header_code c.once_decided.ensures)
          (decide_allowed c.args.words.now.key c.args.words.now.table_id.slots c.args.actor.now.id c.args.actor.now.me c.requires.sound.bounds.1
          c.args.main c.args.header c.requires.fits c.args.is_licensed
          c.requires.deciding),
    )

pub returns-clause-decided : goal.returns-clause-decided
returns-clause-decided c =
    subst (λ n. HasDecided c.args.actor.now.me.0 (c.compare_exchange.result == n) c.compare_exchange.new.seat.me.0) (sym c.to_word-pending.ensures)
    (decide_told c.args.actor.now.me.0 c.args.main c.args.header c.requires.fits c.args.is_licensed c.requires.deciding c.compare_exchange.result c.compare_exchange.new.seat.me.0
    c.compare_exchange.ensures.2.0)

pub returns-clause-sound : goal.returns-clause-sound
returns-clause-sound c = subst (λ n. IsSound n c.compare_exchange.new.seat.me.0) (sym c.requires.sound.size) c.compare_exchange.ensures.2.1
