use Rattle.std.proofs.Common.{refl}
use Rattle.machine_core.specs.Vocabulary.{node_at, key_of, changed, first_draft}
use Rattle.machine_model.specs.declared.building.Change.TheVariants as change
use Rattle.machine_core.proofs.Changes.{changed_is_main, changed_live, main_changed}
use Rattle.machine_core.proofs.changing.take_out.Goals as goal

pub swap_changed-requires-clause-live : goal.swap_changed-requires-clause-live
swap_changed-requires-clause-live c =
    let heap = c.args.heap.now.heap in
    changed_live heap c.args.place.flag c.requires.here.1.bitmap c.requires.here.1.entries (node_at heap c.args.place.main)
    (changed c.args.place.flag (node_at c.args.heap.now.heap c.args.place.main) (change.Remove c.args.place.position)) (change.Remove c.args.place.position)
    c.requires.here.1.branch refl tt c.requires.can.entries tt

pub swap_changed-requires-clause-kind : goal.swap_changed-requires-clause-kind
swap_changed-requires-clause-kind c =
    changed_is_main c.args.place.flag c.requires.here.1.bitmap c.requires.here.1.entries (node_at c.args.heap.now.heap c.args.place.main)
    (changed c.args.place.flag (node_at c.args.heap.now.heap c.args.place.main) (change.Remove c.args.place.position))
    (change.Remove c.args.place.position) c.requires.here.1.branch refl

pub returns-clause-drafts : goal.returns-clause-drafts
returns-clause-drafts c state call is flag =
    let place = c.args.place in
    main_changed state call place.depth place.indirection place.main place.flag (key_of call)
    (changed c.args.place.flag (node_at c.args.heap.now.heap c.args.place.main) (change.Remove c.args.place.position)) (first_draft state) (change.Remove place.position)
    (change.Remove place.position) c.args.heap.now.heap c.swap_changed.new.heap is.heap c.requires.can.over refl flag refl refl
    (c.swap_changed.ensures.drafts state (first_draft state) is refl)
