-- The operation may stand next exactly where every test passes; else the test that fails tells the fault.
use Rattle.std.proofs.Common.{◌≡◌, ◌≢◌, Option, Some, slice_get, refl, sym, ◌∙◌, subst, arith}
use Rattle.std.proofs.lemmas.Option.{slice_get_within}
use Rattle.ctrie_base.specs.Hashes.{hash_of}
use Rattle.history.specs.declared.faults.OrderFault.{OrderFault}
use Rattle.history.specs.declared.replies.Reply.{Reply}
use Rattle.history.specs.Worlds.{HandleMap}
use Rattle.history.specs.Effects.{effect}
use Rattle.history.specs.Histories.{HasEnded}
use Rattle.history.specs.Faults.{IsInTime, Hinders}
use Rattle.history.specs.Replays.{Places, Agrees}
use Rattle.history.proofs.Standing.{may_stand, not_begun, ended_of_recorded, effect_of_answer, no_effect_of_answer, same_of_no_answer, opens_rightly}
use Rattle.history.proofs.Marking.{marks_on}
use Rattle.history.proofs.orders.Replay.take.Goals as goal

pub returns-in_default-clause-takes : goal.returns-in_default-clause-takes
returns-in_default-clause-takes c = λ ids marks.
    let table = c.args.table.now in
    (refl, not_begun c.args.events.now c.args.id table.rows.items table.running c.requires (sym c.row.ensures ∙ c.in_default.is))

pub returns-in-Some-misplaced-clause-takes : goal.returns-in-Some-misplaced-clause-takes
returns-in-Some-misplaced-clause-takes c = λ ids marks.
    let history = c.args.events.now in
    let id = c.args.id in
    let rows = c.args.table.now.rows.items in
    let at : slice_get rows id ≡ Some c.in-Some.row = sym c.row.ensures ∙ c.in-Some.is in
    let below = slice_get_within rows id c.in-Some.row at in
    let size = c.requires.size in
    let placed = c.misplaced.ensures ids c.requires.well_formed marks (c.requires.row_of id c.in-Some.row at) (omega arith) c.reply_at-told.ensures in
    let P : Option OrderFault → Type 0 = λ o. Places o history ids id in
    let wrong = subst P c.in-Some-misplaced.is placed in
    wrong (hash_of c.args.hash) c.args.self.now.world

pub obstacle_to-obstacle-requires-clause-opens_rightly : goal.obstacle_to-obstacle-requires-clause-opens_rightly
obstacle_to-obstacle-requires-clause-opens_rightly c =
    let id = c.args.id in
    opens_rightly c.args.events.now id c.in-Some.row c.requires.well_formed (c.requires.row_of id c.in-Some.row (sym c.row.ensures ∙ c.in-Some.is))

pub returns-in_default-2-clause-takes : goal.returns-in_default-2-clause-takes
returns-in_default-2-clause-takes c = λ ids marks.
    let hash = hash_of c.args.hash in
    let history = c.args.events.now in
    let id = c.args.id in
    let world = c.args.self.now.world in
    let row = c.in-Some.row in
    let rows = c.args.table.now.rows.items in
    let at : slice_get rows id ≡ Some row = sym c.row.ensures ∙ c.in-Some.is in
    let below = slice_get_within rows id row at in
    let size = c.requires.size in
    let is = c.requires.row_of id row at in
    let placed = c.misplaced.ensures ids c.requires.well_formed marks is (omega arith) c.reply_at-told.ensures in
    let P : Option OrderFault → Type 0 = λ o. Places o history ids id in
    let timed : IsInTime history ids id = subst P c.in_default-misplaced.is placed in
    let answer = c.in_ok-given.ensures.answer in
    let none = no_effect_of_answer world c.reply_of.new.world (effect hash world row.call row.opens) c.in_ok-given.field-0 c.in_default-2.is answer in
    let same = same_of_no_answer world c.reply_of.new.world (effect hash world row.call row.opens) c.in_ok-given.field-0 c.in_default-2.is answer in
    let Q : HandleMap → Type 0 = λ w. Hinders w row.call row.opens c.obstacle_to-obstacle.result in
    (refl, timed, (row.call, row.opens, (row.begin, row.actor, is.begins), none, subst Q same c.obstacle_to-obstacle.ensures))

pub returns-in_ok-recorded-in-Some-differing-clause-takes : goal.returns-in_ok-recorded-in-Some-differing-clause-takes
returns-in_ok-recorded-in-Some-differing-clause-takes c = λ ids marks.
    let hash = hash_of c.args.hash in
    let history = c.args.events.now in
    let id = c.args.id in
    let world = c.args.self.now.world in
    let row = c.in-Some.row in
    let rows = c.args.table.now.rows.items in
    let at : slice_get rows id ≡ Some row = sym c.row.ensures ∙ c.in-Some.is in
    let below = slice_get_within rows id row at in
    let size = c.requires.size in
    let is = c.requires.row_of id row at in
    let placed = c.misplaced.ensures ids c.requires.well_formed marks is (omega arith) c.reply_at-told.ensures in
    let P : Option OrderFault → Type 0 = λ o. Places o history ids id in
    let timed : IsInTime history ids id = subst P c.in_default-misplaced.is placed in
    let given = c.in-Some-2.given in
    let leads = effect_of_answer world c.reply_of.new.world (effect hash world row.call row.opens) c.in_ok-given.field-0 given c.in-Some-2.is c.in_ok-given.ensures.answer in
    let told = c.in-Some-differing.ensures in
    let copied : c.in_ok-recorded-in-Some-differing.recorded ≡ c.in-Some-differing.recorded.now = c.in_ok-recorded-in-Some-differing.ensures in
    let P : Reply → Type 0 = λ r. HasEnded history id r × (given ≢ r) in
    let says = subst P (sym copied) (ended_of_recorded history id row c.in-Some-differing.recorded.now is (sym c.reply_at-told.ensures ∙ told.0), told.1) in
    (refl, timed, says.0, says.1, (row.opens, c.reply_of.new.world, (row.begin, row.actor, is.begins), leads))

pub returns-in-None-clause-takes : goal.returns-in-None-clause-takes
returns-in-None-clause-takes c = λ ids marks.
    let hash = hash_of c.args.hash in
    let history = c.args.events.now in
    let id = c.args.id in
    let before = c.args.self.now in
    let row = c.in-Some.row in
    let rows = c.args.table.now.rows.items in
    let at : slice_get rows id ≡ Some row = sym c.row.ensures ∙ c.in-Some.is in
    let below = slice_get_within rows id row at in
    let size = c.requires.size in
    let is = c.requires.row_of id row at in
    let placed = c.misplaced.ensures ids c.requires.well_formed marks is (omega arith) c.reply_at-told.ensures in
    let P : Option OrderFault → Type 0 = λ o. Places o history ids id in
    let timed : IsInTime history ids id = subst P c.in_default-misplaced.is placed in
    let given = c.in-Some-2.given in
    let leads = effect_of_answer before.world c.reply_of.new.world (effect hash before.world row.call row.opens) c.in_ok-given.field-0 given c.in-Some-2.is c.in_ok-given.ensures.answer in
    let Q : Option Reply → Type 0 = λ o. Agrees o given in
    rw (c.mark.ensures.world, c.mark.ensures.taken, c.mark.ensures.latest) (
      may_stand hash history ids id before.world c.reply_of.new.world row given is timed leads (subst Q c.reply_at-told.ensures c.in-None.ensures),
      marks_on history ids id row before.taken.items before.latest is marks,
    )
