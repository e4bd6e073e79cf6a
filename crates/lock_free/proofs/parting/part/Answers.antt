use Rattle.std.proofs.Common.{sym, subst}
use Rattle.lock_free.specs.Loading.{IsSound}
use Rattle.lock_free.specs.Stocks.{IsStock}
use Rattle.lock_free.proofs.GiveUpStep.{epoch_inside}
use Rattle.lock_free.proofs.OwnParts.{part_allowed}
use Rattle.lock_free.proofs.PartedStock.{parting_sound, parting_stock}
use Rattle.lock_free.proofs.parting.part.Goals as goal

pub load-stamp-requires : goal.load-stamp-requires
load-stamp-requires c = (
  c.requires.table,
  epoch_inside c.args.words.now.table_id.words c.args.actor.now.me.0 c.requires.sound,
  part_allowed c.args.words.now.key c.args.words.now.table_id.slots c.args.actor.now.id c.args.actor.now.me c.requires.sound.bounds.1 c.args.offer c.requires.parting,
)

pub returns-then-has_room_to_part-clause-sound : goal.returns-then-has_room_to_part-clause-sound
returns-then-has_room_to_part-clause-sound c =
    subst (IsSound c.args.words.now.table_id.words) (sym (c.load-stamp.ensures.2.0 c.args.offer c.requires.parting))
    (parting_sound c.args.words.now.table_id.words c.args.actor.now.me.0 c.args.offer c.load-stamp.result c.requires.sound)

pub returns-then-has_room_to_part-clause-stock : goal.returns-then-has_room_to_part-clause-stock
returns-then-has_room_to_part-clause-stock c =
    subst (IsStock c.part.new.self) (sym (c.load-stamp.ensures.2.0 c.args.offer c.requires.parting))
    (parting_stock c.args.stock.now c.part.new.self c.args.actor.now.me.0 c.args.offer c.load-stamp.result c.part.ensures c.requires.stock)
