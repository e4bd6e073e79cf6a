-- Which of the three tests the operation fails first, if any.
use Rattle.std.proofs.Common.{refl, sym, ◌∙◌}
use Rattle.std.proofs.lemmas.Bool.{both_ways}
use Rattle.history.proofs.Standing.{recorded_of_ended, ended_of_recorded, not_among, ended_late, in_time}
use Rattle.history.proofs.orders.Replay.misplaced.Goals as goal

pub returns-then-is_refusal : goal.returns-then-is_refusal
returns-then-is_refusal c = λ ids well marks is below told hash world.
    let before = c.args.self.now in (
      refl,
      not_among c.args.events.now ids c.args.id before.taken.items before.latest marks below (λ marked. both_ways _ c.if-has_taken.false (c.has_taken.ensures.1 marked)),
      ended_of_recorded c.args.events.now c.args.id c.args.row.now _ is (sym told ∙ c.is_refusal.ensures.0 c.if-is_refusal.true),
    )

pub returns-in_err-other : goal.returns-in_err-other
returns-in_err-other c = λ ids well marks is below told.
    let before = c.args.self.now in
    rw c.from_residual.ensures (
    in_time c.args.events.now ids c.args.id c.args.row.now before.taken.items before.latest is marks below
    (λ marked. both_ways _ c.if-has_taken.false (c.has_taken.ensures.1 marked))
    (λ refused. both_ways _ c.if-is_refusal.false (c.is_refusal.ensures.1 (told ∙ refused)))
    (λ begins late. c.in_err-other.ensures begins late)
    )

pub returns : goal.returns
returns c = λ ids well marks is below told hash world.
    let before = c.args.self.now in
    let history = c.args.events.now in
    let late = ended_late history ids c.args.id c.args.row.now before.taken.items before.latest c.in_ok-other.other well is marks c.in_ok-other.ensures.0 c.in_ok-other.ensures.1 in (
      refl,
      not_among history ids c.args.id before.taken.items before.latest marks below (λ marked. both_ways _ c.if-has_taken.false (c.has_taken.ensures.1 marked)),
      (λ ended. both_ways _ c.if-is_refusal.false (c.is_refusal.ensures.1 (told ∙ recorded_of_ended history c.args.id c.args.row.now _ is ended))),
      late.0,
      late.1,
    )
