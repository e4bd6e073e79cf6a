use Rattle.std.proofs.Common.{◌*◌, Contains, refl, sym, subst}
use Rattle.lock_free.specs.Loading.{IsSound}
use Rattle.lock_free.proofs.Asked.{mains_of, main_stands}
use Rattle.lock_free.proofs.Definition.{IsReading}
use Rattle.lock_free.proofs.Looking.{one_named, went, header_read}
use Rattle.lock_free.proofs.Moments.{go_allowed}
use Rattle.lock_free.proofs.Within.{both_inside}
use Rattle.lock_free.proofs.loads.read_header_word.Goals as goal

pub load-requires : goal.load-requires
load-requires c =
    let (r, p, place) = c.requires.reading in
    let v = c.args.actor.now.me.0 in
    let live = (main_stands v.sizes v.account c.requires.sound.bounds v.actor p.operation p.runs r (subst (λ a. Contains (mains_of a) r) (sym p.acts) (one_named r))).0 in (
      c.requires.table,
      (both_inside c.args.words.now.table_id.words v c.requires.sound r c.args.main live place).0,
      go_allowed c.args.words.now.key c.args.words.now.table_id.slots c.args.actor.now.id c.args.actor.now.me (2 * c.args.main) c.requires.sound.bounds.1
          p.operation p.runs (subst IsReading (sym p.acts) tt),
    )

pub returns-clause-read : goal.returns-clause-read
returns-clause-read c =
    let v = c.args.actor.now.me.0 in
    let after = c.load.new.seat.me.0 in
    let word = 2 * c.args.main in
    let gone = c.load.ensures.2.0 in
    (went v c.args.main word c.load.result after gone, header_read v c.args.main word c.load.result after gone c.requires.reading refl)

pub returns-clause-sound : goal.returns-clause-sound
returns-clause-sound c = subst (λ n. IsSound n c.load.new.seat.me.0) (sym c.requires.sound.size) c.load.ensures.2.1
