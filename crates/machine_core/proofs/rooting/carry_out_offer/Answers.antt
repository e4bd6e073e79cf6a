use Rattle.std.proofs.Common.{arith, ◌≡◌, [], refl, ap, set, sym, subst, ◌∙◌}
use Rattle.machine_core.specs.Vocabulary.{AreLive, refs_of_option, times, refs_of_root, Plain, opened, with_root, redrafted, root_refs, Table, opened_in, with_root_in, IsDraft}
use Rattle.machine_core.specs.Rooting.{writable}
use Rattle.proof_core.proofs.Drafts.{settled_over}
use Rattle.machine_core.proofs.Rooted.{held_moved, opened_is, opened_roots, successor_lives}
use Rattle.machine_core.proofs.rooting.carry_out_offer.Goals as goal

pub put-requires-clause-live : goal.put-requires-clause-live
put-requires-clause-live c =
    let offer = c.args.offer.now in
    subst (λ o. AreLive c.args.heap.now.heap (refs_of_root o)) (sym c.writable.ensures)
    (successor_lives c.args.heap.now.heap offer.root offer.expected offer.successor (refs_of_option offer.second) c.requires.live)

pub returns-clause-drafts : goal.returns-clause-drafts
returns-clause-drafts c base draft is roots private =
    let offer = c.args.offer.now in
    let swapped = with_root base c.args.handle (writable (Plain offer.successor)) in
    let put : c.put.new.self ≡ with_root_in c.args.table.now c.args.handle (writable (Plain offer.successor)) =
    c.put.ensures.table ∙ ap (with_root_in c.args.table.now c.args.handle) c.writable.ensures in
    let there : (opened swapped offer offer.opens).roots ≡ c.open_handle.new.table.roots =
    opened_roots swapped (with_root_in c.args.table.now c.args.handle (writable (Plain offer.successor))) offer offer.opens
    (ap (λ rs. set rs c.args.handle (writable (Plain offer.successor))) roots)
    ∙ ap (λ (t : Table). (opened_in t offer offer.opens).roots) (sym put) ∙ ap (λ (t : Table). t.roots) (sym c.open_handle.ensures.table) in
    subst (λ s. IsDraft s (redrafted s draft draft.heap [] draft.newest) c.settle.new.self) (opened_is swapped offer offer.opens)
    (settled_over base (record swapped { roots = (opened swapped offer offer.opens).roots }) draft c.args.heap.now c.open_handle.new.heap c.settle.new.self draft.heap [] draft.newest refl is
    (c.open_handle.ensures.heap ∙ c.put.ensures.moves.keeps.heap ∙ is.heap) (c.open_handle.ensures.epochs.0 ∙ c.put.ensures.moves.keeps.epochs.0)
    (c.open_handle.ensures.epochs.1 ∙ c.put.ensures.moves.keeps.epochs.1) c.settle.ensures
    (λ r. held_moved base c.args.table.now.roots (opened swapped offer offer.opens).roots draft.private c.args.heap.now.outside c.open_handle.new.heap.outside r roots (is.held r)
    (omega (arith, c.open_handle.ensures.outside r, c.put.ensures.moves.outside r, ap (times r) private, ap (λ rs. times r (root_refs rs)) there))))
