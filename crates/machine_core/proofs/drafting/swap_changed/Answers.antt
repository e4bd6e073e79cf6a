use Rattle.std.proofs.Common.{[], ◌∷◌, ◌++◌, ap, sym, ◌∙◌, ◌≡◌, ◌≤◌, List, refl, subst}
use Rattle.machine_core.specs.Vocabulary.{is_main_node, node_at, changed, Ref, times, next_made, with_published}
use Rattle.machine_core.specs.Beneath.proof_straight.specs.Drafts.{with_made}
use Rattle.proof_core.proofs.Drafts.{can_then, held_more, made_then}
use Rattle.machine_core.proofs.drafting.swap_changed.Goals as goal

pub publish_made-requires-clause-kind : goal.publish_made-requires-clause-kind
publish_made-requires-clause-kind c =
    let node = changed c.args.flag (node_at c.args.heap.now.heap c.args.main) c.args.change in
    (can_then c.args.heap.now.heap c.make_changed-fresh.new.heap.heap node c.args.indirection c.args.main 0 c.requires.can c.make_changed-fresh.ensures.heap
    c.make_changed-fresh.ensures.stay).kind

pub publish_made-requires-clause-over : goal.publish_made-requires-clause-over
publish_made-requires-clause-over c =
    let node = changed c.args.flag (node_at c.args.heap.now.heap c.args.main) c.args.change in
    (can_then c.args.heap.now.heap c.make_changed-fresh.new.heap.heap node c.args.indirection c.args.main 0 c.requires.can c.make_changed-fresh.ensures.heap
    c.make_changed-fresh.ensures.stay).over

pub publish_made-requires-clause-fresh_kind : goal.publish_made-requires-clause-fresh_kind
publish_made-requires-clause-fresh_kind c =
    let node = changed c.args.flag (node_at c.args.heap.now.heap c.args.main) c.args.change in
    ap is_main_node (made_then c.args.heap.now.heap c.make_changed-fresh.new.heap.heap node c.args.indirection c.args.main 0 c.requires.can c.make_changed-fresh.ensures.heap
    c.make_changed-fresh.ensures.stay c.make_changed-fresh.result c.make_changed-fresh.ensures.made)
    ∙ c.requires.kind

pub publish_made-requires-clause-held : goal.publish_made-requires-clause-held
publish_made-requires-clause-held c r =
    subst (λ (held : List Ref). times r (c.args.made.now ++ c.make_changed-fresh.result ∷ []) ≤ times r held) (sym c.make_changed-fresh.ensures.outside)
    (held_more c.args.made.now c.args.heap.now.outside c.make_changed-fresh.result c.requires.held r)

pub returns-clause-drafts : goal.returns-clause-drafts
returns-clause-drafts c state draft is private =
    let node = changed c.args.flag (node_at c.args.heap.now.heap c.args.main) c.args.change in
    let own : c.make_changed-fresh.result ≡ next_made draft.heap = c.make_changed-fresh.ensures.made ∙ ap next_made is.heap in
    c.commit.ensures.drafts state (with_published state (with_made state draft node) c.args.indirection c.args.main)
    (c.publish_made.ensures.drafts state (with_made state draft node) (c.make_changed-fresh.ensures.drafts state draft is)
    (ap (λ (held : List Ref). held ++ next_made draft.heap ∷ []) private ∙ ap (λ (r : Ref). c.args.made.now ++ r ∷ []) (sym own)) (sym own))
    refl (sym own)
