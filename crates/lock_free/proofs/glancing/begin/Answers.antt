use Rattle.std.proofs.Common.{refl, arith}
use Rattle.machine_model.specs.Calls.{handle_of}
use Rattle.trie_words.specs.declared.pins.Pin.{Pin}
use Rattle.lock_free.proofs.OneGlance.Clears.{glance_inside}
use Rattle.lock_free.proofs.OneGlance.Begins.{begin_glance_allowed}
use Rattle.lock_free.proofs.glancing.begin.Goals as goal

pub begin_as-requires-clause-begins : goal.begin_as-requires-clause-begins
begin_as-requires-clause-begins c =
    let call = c.args.call.now in
    let me = c.args.actor.now.me in
    let pin : Pin = record { epoch = 0; handle = handle_of call } in
    begin_glance_allowed c.args.words.now.key c.args.words.now.table_id.slots c.args.actor.now.id me c.requires.sound.bounds.1 c.requires.idle c.requires.free pin
    (let low = c.requires.low in (omega arith, omega (arith, low))) (omega arith) call refl

pub begin_as-requires-clause-inside : goal.begin_as-requires-clause-inside
begin_as-requires-clause-inside c = glance_inside c.args.words.now.table_id.words c.args.actor.now.me.0 c.requires.sound
