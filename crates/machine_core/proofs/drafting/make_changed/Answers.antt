use Rattle.std.proofs.Common.{◌++◌, ◌∷◌, [], ap, ◌∙◌, ◌≡◌}
use Rattle.std.specs.Prelude.{unwrap_or}
use Rattle.machine_core.specs.Vocabulary.{no_ref, node_at, taken, changed, times, held_with, next_made}
use Rattle.proof_core.proofs.Drafts.{one_held, settled_draft}
use Rattle.machine_core.proofs.drafting.make_changed.Goals as goal

pub returns-clause-drafts : goal.returns-clause-drafts
returns-clause-drafts c state draft is =
    let own : c.in-Some.made ≡ next_made draft.heap = ap (λ made. unwrap_or made no_ref) c.in-Some.ensures.made ∙ ap next_made is.heap in
    settled_draft state draft c.args.heap.now c.make_changed.new.heap c.settle.new.self (taken draft.heap
    (changed c.args.flag (node_at c.args.heap.now.heap c.args.main) c.args.change)) (draft.private ++ next_made draft.heap ∷ []) (next_made draft.heap) is
    (c.in-Some.ensures.heap
    ∙ ap (λ h. taken h (changed c.args.flag (node_at c.args.heap.now.heap c.args.main) c.args.change)) is.heap) c.in-Some.ensures.epochs.0 c.in-Some.ensures.epochs.1 c.settle.ensures
    (λ r. ap (times r) c.in-Some.ensures.outside ∙ one_held state draft.private c.args.heap.now.outside c.in-Some.made is.held r
    ∙ ap (λ made. times r (held_with state (draft.private ++ made ∷ []))) own)
