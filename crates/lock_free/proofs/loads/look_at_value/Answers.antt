use Rattle.std.proofs.Common.{◌+◌, ◌*◌, refl, sym, subst}
use Rattle.lock_free.specs.Loading.{IsSound}
use Rattle.lock_free.proofs.Asked.{looked_at_lives}
use Rattle.lock_free.proofs.Definition.{IsReading}
use Rattle.lock_free.proofs.Looking.{went, looked_value}
use Rattle.lock_free.proofs.Moments.{go_allowed}
use Rattle.lock_free.proofs.Within.{both_inside}
use Rattle.lock_free.proofs.loads.look_at_value.Goals as goal

pub load-requires : goal.load-requires
load-requires c =
    let (r, p, place) = c.requires.looking in
    let v = c.args.actor.now.me.0 in
    let live = looked_at_lives v.sizes v.account c.requires.sound.bounds v.actor p.operation p.runs r p.acts in (
      c.requires.table,
      (both_inside c.args.words.now.table_id.words v c.requires.sound r c.args.single live place).1,
      go_allowed c.args.words.now.key c.args.words.now.table_id.slots c.args.actor.now.id c.args.actor.now.me (2 * c.args.single + 1) c.requires.sound.bounds.1
          p.operation p.runs (subst IsReading (sym p.acts) tt),
    )

pub returns-clause-read : goal.returns-clause-read
returns-clause-read c =
    let v = c.args.actor.now.me.0 in
    let after = c.load.new.seat.me.0 in
    let word = 2 * c.args.single + 1 in
    let gone = c.load.ensures.2.0 in
    (went v c.args.single word c.load.result after gone, looked_value v c.args.single word c.load.result after gone c.requires.looking refl)

pub returns-clause-sound : goal.returns-clause-sound
returns-clause-sound c = subst (λ n. IsSound n c.load.new.seat.me.0) (sym c.requires.sound.size) c.load.ensures.2.1
