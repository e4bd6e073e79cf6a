use Rattle.std.proofs.Common.{sym, subst, arith}
use Rattle.lock_free.specs.Loading.{IsSound}
use Rattle.lock_free.proofs.RootMade.{root_allowed}
use Rattle.lock_free.proofs.stores.make_root.Goals as goal

pub compare_exchange-requires : goal.compare_exchange-requires
compare_exchange-requires c =
    let size = c.requires.sound.size in (
      c.requires.table,
      omega (arith, size),
      root_allowed c.args.words.now.key c.args.words.now.table_id.slots c.args.actor.now.id c.args.actor.now.me c.requires.sound.bounds.1 c.args.generation c.requires.making c.requires.raised,
    )

pub returns-clause-sound : goal.returns-clause-sound
returns-clause-sound c =
    let v = c.args.actor.now.me.0 in
    let before = subst (λ n. IsSound n v) c.requires.sound.size c.requires.sound in
    subst (λ n. IsSound n c.compare_exchange.new.seat.me.0) (sym c.requires.sound.size) (c.compare_exchange.ensures.2.1 before)
