use Rattle.std.proofs.Common.{◌∷◌, [], ◌∙◌, ◌≡◌, ap, sym}
use Rattle.machine_core.specs.Vocabulary.{node_at, Single, changed, with_single, first_draft, next_made}
use Rattle.machine_core.specs.Changing.{putting}
use Rattle.machine_core.proofs.Changes.{changed_is_main, changed_live, main_changed, puts_live, puts_no_tomb, single_made}
use Rattle.proof_core.proofs.Drafts.{can_then, node_then}
use Rattle.machine_core.proofs.changing.put_single.Goals as goal

pub swap_changed-requires-clause-can : goal.swap_changed-requires-clause-can
swap_changed-requires-clause-can c =
    can_then c.args.heap.now.heap c.make-single.new.heap.heap (Single c.args.key c.args.value) c.args.place.indirection c.args.place.main 1 c.requires.can c.make-single.ensures.heap
    c.make-single.ensures.stay

pub swap_changed-requires-clause-live : goal.swap_changed-requires-clause-live
swap_changed-requires-clause-live c =
    let heap = c.args.heap.now.heap in
    let after = c.make-single.new.heap.heap in
    let place = c.args.place in
    let single = c.make-single.result in
    let still = node_then heap after (Single c.args.key c.args.value) place.indirection place.main 1 c.requires.can c.make-single.ensures.heap c.make-single.ensures.stay place.main
    c.requires.can.main_live in
    let can = can_then heap after (Single c.args.key c.args.value) place.indirection place.main 1 c.requires.can c.make-single.ensures.heap c.make-single.ensures.stay in
    changed_live after place.flag c.requires.here.bitmap c.requires.here.entries (node_at after place.main) (changed place.flag (node_at after place.main) c.putting-change.result)
    (putting place.entry place.position single)
    (still ∙ c.requires.here.branch) (ap (changed place.flag (node_at after place.main)) c.putting-change.ensures) (puts_no_tomb place.entry place.position single)
    can.entries (puts_live after place.entry place.position single c.make-single.ensures.lives)

pub swap_changed-requires-clause-kind : goal.swap_changed-requires-clause-kind
swap_changed-requires-clause-kind c =
    let after = c.make-single.new.heap.heap in
    let place = c.args.place in
    changed_is_main place.flag c.requires.here.bitmap c.requires.here.entries (node_at after place.main) (changed place.flag (node_at after place.main) c.putting-change.result)
    (putting place.entry place.position c.make-single.result)
    (node_then c.args.heap.now.heap after (Single c.args.key c.args.value) place.indirection place.main 1 c.requires.can c.make-single.ensures.heap c.make-single.ensures.stay place.main
    c.requires.can.main_live
    ∙ c.requires.here.branch)
    (ap (changed place.flag (node_at after place.main)) c.putting-change.ensures)

pub returns-clause-drafts : goal.returns-clause-drafts
returns-clause-drafts c state call is key value flag =
    let heap = c.args.heap.now.heap in
    let place = c.args.place in
    let own : c.make-single.result ≡ next_made state.heap = c.make-single.ensures.made ∙ ap next_made is.heap in
    main_changed state call place.depth place.indirection place.main place.flag c.args.key
    (changed place.flag (node_at c.make-single.new.heap.heap place.main) c.putting-change.result) (with_single state call)
    (putting place.entry place.position (next_made state.heap)) (putting place.entry place.position c.make-single.result) heap c.swap_changed.new.heap is.heap c.requires.can.over key flag
    (ap (putting place.entry place.position) own)
    (ap (changed place.flag (node_at c.make-single.new.heap.heap place.main)) c.putting-change.ensures
    ∙ ap (λ n. changed place.flag n (putting place.entry place.position c.make-single.result))
    (node_then heap c.make-single.new.heap.heap (Single c.args.key c.args.value) place.indirection place.main 1 c.requires.can c.make-single.ensures.heap c.make-single.ensures.stay place.main
    c.requires.can.main_live))
    (c.swap_changed.ensures.drafts state (with_single state call)
    (single_made state call c.args.key c.args.value c.make-single.new.heap key value (c.make-single.ensures.drafts state (first_draft state) is)) (ap (λ r. r ∷ []) (sym own)))
