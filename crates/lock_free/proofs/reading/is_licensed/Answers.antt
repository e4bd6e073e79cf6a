use Rattle.std.proofs.Common.{None, Some, refl, subst}
use Rattle.machine_model.specs.declared.reading.ReadLine.TheVariants as read
use Rattle.lock_free.specs.Passing.{IsReading, pending_line}
use Rattle.lock_free.proofs.Comings.{stays_there}
use Rattle.lock_free.proofs.Laters.{link_later}
use Rattle.lock_free.proofs.Settles.{license_is}
use Rattle.lock_free.proofs.reading.is_licensed.Goals as goal

pub returns-in-Some-clause-licensed : goal.returns-in-Some-clause-licensed
returns-in-Some-clause-licensed c =
    let v = c.args.actor.now.me.0 in
    let w = c.ask_within.new.actor.me.0 in
    let told = Some c.in-Some.generation in
    λ i main replaced is knows.
    (let reading = subst (λ a. IsReading v i (pending_line a main replaced)) c.in-Writable.is is in
    let come = (c.in-Some.ensures {u = tt}).asked i main replaced reading in
    (told, come, license_is w i main c.args.link told (link_later v w come.later i main c.args.link knows)))

pub returns-in-None-clause-licensed : goal.returns-in-None-clause-licensed
returns-in-None-clause-licensed c = (c.in-Writable.is, (c.in-None.ensures {u = tt}).asked)

pub returns-in-ReadOnly-clause-licensed : goal.returns-in-ReadOnly-clause-licensed
returns-in-ReadOnly-clause-licensed c =
    let v = c.args.actor.now.me.0 in
    λ i main replaced is knows.
    (let reading = subst (λ a. IsReading v i (pending_line a main replaced)) c.in-ReadOnly.is is in (None, stays_there v i (read.Decide main replaced None) reading, refl))
