use Rattle.std.proofs.lemmas.Result.{err_from_is_err_and}
use Rattle.ctrie_map.specs.Beneath.map_worlds.specs.Worlds.{world_of}
use Rattle.ctrie_map.specs.Batches.{changed_all}
use Rattle.ctrie_map.proofs.Batched.{back_named, beside, changes_all, draft_has, no_draft, refuses_all, stopped_there}
use Rattle.ctrie_map.proofs.batches.change_copy.Goals as goal

pub draft-requires-clause-writable : goal.draft-requires-clause-writable
draft-requires-clause-writable c = c.requires.whole.named.stands c.args.handle c.args.name c.requires.can_copy.0

pub returns-in_err-made-clause-refused : goal.returns-in_err-made-clause-refused
returns-in_err-made-clause-refused c =
    let p = err_from_is_err_and c.from_residual.result c.from_residual.ensures.1 in
    rw (p.1, p.2) (no_draft c.args.batch c.args.core.now.state c.args.names.now c.requires.whole c.args.handle c.args.pairs.now c.args.name c.requires.can_copy.0 c.requires.can_copy.1 c.requires.room
    c.requires.life c.draft.new.core.state c.in_err-made.field-0.0 c.in_err-made.ensures.refused)

pub change_each-requires-clause-writable : goal.change_each-requires-clause-writable
change_each-requires-clause-writable c =
    let d = c.in_ok-made.ensures.drafted in (
      d.m,
      draft_has c.args.batch c.args.core.now.state c.args.names.now c.requires.whole c.args.handle c.args.pairs.now c.args.name c.requires.can_copy.0 c.requires.can_copy.1
          c.requires.room c.in_ok-made.made c.draft.new.core.state c.in_ok-made.ensures.drafted c.draft.ensures.slots,
    )

pub adopt-requires-clause-beside : goal.adopt-requires-clause-beside
adopt-requires-clause-beside c =
    let d = c.in_ok-made.ensures.drafted in
    let has = draft_has c.args.batch c.args.core.now.state c.args.names.now c.requires.whole c.args.handle c.args.pairs.now c.args.name c.requires.can_copy.0 c.requires.can_copy.1
    c.requires.room c.in_ok-made.made c.draft.new.core.state c.in_ok-made.ensures.drafted c.draft.ensures.slots in (
      world_of c.args.core.now.state,
      changed_all c.args.batch d.m c.args.pairs.now,
      beside c.args.batch c.args.core.now.state c.args.names.now c.requires.whole c.args.handle c.args.pairs.now c.args.name c.requires.can_copy.0 c.requires.can_copy.1
          c.requires.room c.in_ok-made.made c.draft.new.core.state c.in_ok-made.ensures.drafted c.draft.ensures.slots c.change_each.new.core.state (c.in-Ok.ensures.changes d.m has),
    )

pub let_go-requires-clause-there : goal.let_go-requires-clause-there
let_go-requires-clause-there c =
    let d = c.in_ok-made.ensures.drafted in
    let has = draft_has c.args.batch c.args.core.now.state c.args.names.now c.requires.whole c.args.handle c.args.pairs.now c.args.name c.requires.can_copy.0 c.requires.can_copy.1
    c.requires.room c.in_ok-made.made c.draft.new.core.state c.in_ok-made.ensures.drafted c.draft.ensures.slots in
    stopped_there c.args.batch c.in_ok-made.made d.m c.args.pairs.now c.draft.new.core.state c.change_each.new.core.state c.in-Err.error (c.in-Err.ensures.stops d.m has)

pub returns-in-Ok-clause-done : goal.returns-in-Ok-clause-done
returns-in-Ok-clause-done c =
    let d = c.in_ok-made.ensures.drafted in
    let has = draft_has c.args.batch c.args.core.now.state c.args.names.now c.requires.whole c.args.handle c.args.pairs.now c.args.name c.requires.can_copy.0 c.requires.can_copy.1
    c.requires.room c.in_ok-made.made c.draft.new.core.state c.in_ok-made.ensures.drafted c.draft.ensures.slots in
    let changes = c.in-Ok.ensures.changes d.m has in
    changes_all c.args.batch c.args.core.now.state c.args.names.now c.requires.whole c.args.handle c.args.pairs.now c.args.name c.requires.can_copy.0 c.requires.can_copy.1
    c.requires.room c.in_ok-made.made c.draft.new.core.state c.in_ok-made.ensures.drafted c.draft.ensures.slots
    c.requires.life c.change_each.new.core.state changes c.adopt.new.core.state c.adopt.new.names c.adopt.ensures.limits c.adopt.ensures.last
    (c.adopt.ensures.adopted (world_of c.args.core.now.state) (changed_all c.args.batch d.m c.args.pairs.now)
    (beside c.args.batch c.args.core.now.state c.args.names.now c.requires.whole c.args.handle c.args.pairs.now c.args.name c.requires.can_copy.0 c.requires.can_copy.1
    c.requires.room c.in_ok-made.made c.draft.new.core.state c.in_ok-made.ensures.drafted c.draft.ensures.slots c.change_each.new.core.state changes))

pub returns-in-Err-clause-whole : goal.returns-in-Err-clause-whole
returns-in-Err-clause-whole c =
    let d = c.in_ok-made.ensures.drafted in
    let has = draft_has c.args.batch c.args.core.now.state c.args.names.now c.requires.whole c.args.handle c.args.pairs.now c.args.name c.requires.can_copy.0 c.requires.can_copy.1
    c.requires.room c.in_ok-made.made c.draft.new.core.state c.in_ok-made.ensures.drafted c.draft.ensures.slots in record {
      calm = c.let_go.ensures.calm;
      named = back_named c.args.batch c.args.core.now.state c.args.names.now c.requires.whole c.args.handle c.args.pairs.now c.args.name c.requires.can_copy.0 c.requires.can_copy.1
          c.requires.room c.in_ok-made.made c.draft.new.core.state c.in_ok-made.ensures.drafted c.draft.ensures.slots
          c.change_each.new.core.state c.let_go.new.core.state c.let_go.ensures.gone c.in-Err.error (c.in-Err.ensures.stops d.m has);
    }

pub returns-in-Err-clause-refused : goal.returns-in-Err-clause-refused
returns-in-Err-clause-refused c =
    let d = c.in_ok-made.ensures.drafted in
    let has = draft_has c.args.batch c.args.core.now.state c.args.names.now c.requires.whole c.args.handle c.args.pairs.now c.args.name c.requires.can_copy.0 c.requires.can_copy.1
    c.requires.room c.in_ok-made.made c.draft.new.core.state c.in_ok-made.ensures.drafted c.draft.ensures.slots in
    refuses_all c.args.batch c.args.core.now.state c.args.names.now c.requires.whole c.args.handle c.args.pairs.now c.args.name c.requires.can_copy.0 c.requires.can_copy.1
    c.requires.room c.in_ok-made.made c.draft.new.core.state c.in_ok-made.ensures.drafted c.draft.ensures.slots
    c.change_each.new.core.state c.let_go.new.core.state c.let_go.ensures.gone c.requires.life c.in-Err.error (c.in-Err.ensures.stops d.m has)
