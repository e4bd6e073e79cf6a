use Rattle.std.proofs.Common.{◌∙◌, ap, refl, sym, subst}
use Rattle.lock_free.specs.declared.rules.View.{View}
use Rattle.lock_free.specs.Loading.{IsSound}
use Rattle.lock_free.specs.SeatWords.{IsIdle}
use Rattle.lock_free.proofs.numbers.reserve.Goals as goal

pub loop-number-init : goal.loop-number-init
loop-number-init c = (refl, refl)

pub try_reserve-requires-clause-table : goal.try_reserve-requires-clause-table
try_reserve-requires-clause-table c = c.loop-number.invariant.0 ∙ c.requires.table

pub try_reserve-requires-clause-sound : goal.try_reserve-requires-clause-sound
try_reserve-requires-clause-sound c = subst (λ v. IsSound c.args.words.now.table_id.words v) (sym c.loop-number.invariant.1) c.requires.sound

pub try_reserve-requires-clause-idle : goal.try_reserve-requires-clause-idle
try_reserve-requires-clause-idle c = subst IsIdle (sym c.loop-number.invariant.1) c.requires.idle

pub try_reserve-requires-clause-none : goal.try_reserve-requires-clause-none
try_reserve-requires-clause-none c = ap (λ (v : View). v.opens) c.loop-number.invariant.1 ∙ c.requires.none
