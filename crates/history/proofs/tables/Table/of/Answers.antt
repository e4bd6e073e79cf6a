use Rattle.std.proofs.Common.{◌≡◌, ◌<◌, Some, take, length, slice_get, length-take-le, refl, subst, arith}
use Rattle.std.proofs.lemmas.Option.{slice_get_read}
use Rattle.history.specs.Tables.{Notes}
use Rattle.history.proofs.tables.Table.of.Goals as goal

pub returns-then-not-branch-clause-found : goal.returns-then-not-branch-clause-found
returns-then-not-branch-clause-found c =
    let events = c.args.events.now in
    let place = c.loop-place.place in
    let event = c.index-events-place.result in
    let within : place < length events = omega arith in
    let at : slice_get events place ≡ Some event = slice_get_read events (length events) place event refl within c.index-events-place.is in
    let noted = c.in_ok-note.ensures.noted (take place events) c.loop-place.invariant (length-take-le place events (omega arith)) in
    let refused = subst (λ fits. Notes fits (take place events) event c.note.new.self) c.if-not-branch.true noted in
    (c.loop-place.invariant.well_formed, (event, at, refused))
