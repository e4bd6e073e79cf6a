use Rattle.std.proofs.Common.{[], true, cond, ap, ◌∙◌, sym, ◌≡◌, List}
use Rattle.machine_core.specs.Vocabulary.{Ref, with_prev, times, held_with}
use Rattle.slot_arena.specs.declared.nodes.Prev.TheVariants as prev
use Rattle.proof_core.proofs.Drafts.{settled_draft}
use Rattle.machine_core.proofs.drafting.commit.Goals as goal

pub returns-clause-drafts : goal.returns-clause-drafts
returns-clause-drafts c state draft is private newest =
    let memory = c.args.heap.now in
    let swapped : c.swap_prev.result ≡ true = c.swap_prev.ensures.was.1 c.requires.pending in
    settled_draft state draft memory c.swap_prev.new.self c.settle.new.self (with_prev draft.heap draft.newest prev.None) [] draft.newest is
    (c.swap_prev.ensures.heap ∙ ap (λ b. cond b (with_prev memory.heap c.args.fresh prev.None) memory.heap) swapped
    ∙ ap (λ h. with_prev h c.args.fresh prev.None) is.heap ∙ ap (λ r. with_prev draft.heap r prev.None) (sym newest))
    c.swap_prev.ensures.epochs.0 c.swap_prev.ensures.epochs.1 c.settle.ensures
    (λ r. ap (times r) c.swap_prev.ensures.outside ∙ is.held r ∙ ap (λ (held : List Ref). times r (held_with state held)) private)
